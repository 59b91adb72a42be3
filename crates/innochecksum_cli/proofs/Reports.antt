-- The report on pages, as far as they were looked at.
use Rattle.std.proofs.Common.{◌≡◌, ◌≤◌, ◌+◌, ◌-◌, ℕ, Bool, true, false, ltb, List, [], ◌∷◌, ◌++◌, length, take, cond, refl, ap, ◌∙◌, append_assoc, inl, inr, arith}
use Rattle.std.specs.List.{flat_map}
use Rattle.std.proofs.Math.Seq.{take-append-add}
use Rattle.std.proofs.lemmas.Bool.{cases_lt, le-ltb, lt-ltb}
use Rattle.std.proofs.lemmas.List.{append-nil, length-append, take_at}
use Rattle.std.proofs.lemmas.List.Concat.{flat_map-append}
use Rattle.std.proofs.lemmas.List.Elements.{filter-append}
use Rattle.innochecksum_cli.specs.Pages.{FilePage, is_mismatch}
use Rattle.innochecksum_cli.specs.Lines.{line_of_mismatch, line_of_page, stopped_line}
use Rattle.innochecksum_cli.specs.Inspection.{Report, ending, is_cut, mismatches, report_of}
use Rattle.innochecksum_cli.specs.declared.options.Options.{Options}
use Rattle.innochecksum_cli.specs.declared.status.CheckStatus.TheVariants.{Done, Mismatch, Truncated}

-- the lines of the mismatches among pages
abbrev pub lines : List FilePage → List ℕ
lines pages = flat_map line_of_mismatch (mismatches pages)

pub lines-append : (a b : List FilePage) → lines (a ++ b) ≡ lines a ++ lines b
lines-append a b = ap (flat_map line_of_mismatch) (filter-append is_mismatch a b) ∙ flat_map-append line_of_mismatch (mismatches a) (mismatches b)

line_by : (b : Bool) (page : FilePage) → flat_map line_of_mismatch (cond b (page ∷ []) []) ≡ cond b (line_of_mismatch page) []
line_by true page = append-nil (line_of_mismatch page)
line_by false page = refl

pub lines_one : (page : FilePage) → lines (page ∷ []) ≡ line_of_page page
lines_one page = line_by (is_mismatch page) page

-- the lines with one page more
pub lines_push : (a : List FilePage) (page : FilePage) → lines (a ++ page ∷ []) ≡ lines a ++ line_of_page page
lines_push a page = lines-append a (page ∷ []) ∙ ap (λ (t : List ℕ). lines a ++ t) (lines_one page)

length_by : (b : Bool) (page : FilePage) → length (cond b (page ∷ []) []) ≤ 1
length_by true page = omega arith
length_by false page = omega arith

-- one page more is one mismatch more at most
pub few_push : (a : List FilePage) (page : FilePage) → length (mismatches (a ++ page ∷ [])) ≤ length (mismatches a) + 1
few_push a page =
    let joined = ap (λ (l : List FilePage). length l) (filter-append is_mismatch a (page ∷ [])) in
    let sum = length-append (mismatches a) (mismatches (page ∷ [])) in
    let small : length (mismatches (page ∷ [])) ≤ 1 = length_by (is_mismatch page) page in
    omega (arith, joined, sum, small)

abbrev stopped_report : Options → List FilePage → Report
stopped_report o bad = record { text = flat_map line_of_mismatch bad ++ stopped_line (o.allowed + 1) o.allowed; status = Mismatch }

abbrev ended_report : Options → List FilePage → ℕ → ℕ → Report
ended_report o looked count rest = record { text = lines looked ++ ending o looked count rest; status = cond (is_cut o count rest) Truncated Done }

-- where no more than the permitted number was met up to here, the text goes on after these lines
pub report_front : (o : Options) (a b : List FilePage) (count rest : ℕ) → length (mismatches a) ≤ o.allowed
    → (t : List ℕ) × ((report_of o (a ++ b) count rest).text ≡ lines a ++ t)
report_front o a b count rest few = go (ltb o.allowed (length (mismatches (a ++ b))))
  where
    split : o.allowed + 1 ≡ length (mismatches a) + (o.allowed + 1 - length (mismatches a))
    split = omega (arith, few)

    cut : take (o.allowed + 1) (mismatches (a ++ b)) ≡ mismatches a ++ take (o.allowed + 1 - length (mismatches a)) (mismatches b)
    cut = ap (take (o.allowed + 1)) (filter-append is_mismatch a b) ∙ ap (λ (k : ℕ). take k (mismatches a ++ mismatches b)) split
        ∙ take-append-add (mismatches a) (mismatches b) (o.allowed + 1 - length (mismatches a))

    go : (over : Bool) → (t : List ℕ) × ((cond {A = Report} over (stopped_report o (take (o.allowed + 1) (mismatches (a ++ b)))) (ended_report o (a ++ b) count rest)).text ≡ lines a ++ t)
    go true = (
      flat_map line_of_mismatch (take (o.allowed + 1 - length (mismatches a)) (mismatches b)) ++ stopped_line (o.allowed + 1) o.allowed,
      ap (λ (t : List ℕ). t ++ stopped_line (o.allowed + 1) o.allowed) (ap (flat_map line_of_mismatch) cut
          ∙ flat_map-append line_of_mismatch (mismatches a) (take (o.allowed + 1 - length (mismatches a)) (mismatches b)))
          ∙ append_assoc (lines a) (flat_map line_of_mismatch (take (o.allowed + 1 - length (mismatches a)) (mismatches b))) (stopped_line (o.allowed + 1) o.allowed),
    )
    go false = (
      lines b ++ ending o (a ++ b) count rest,
      ap (λ (t : List ℕ). t ++ ending o (a ++ b) count rest) (lines-append a b) ∙ append_assoc (lines a) (lines b) (ending o (a ++ b) count rest),
    )

-- at the first mismatch past the permitted number the report stops
pub report_stop : (o : Options) (a b : List FilePage) (count rest : ℕ) → length (mismatches a) ≡ o.allowed + 1
    → report_of o (a ++ b) count rest ≡ record { text = lines a ++ stopped_line (o.allowed + 1) o.allowed; status = Mismatch }
report_stop o a b count rest many =
    let joined = filter-append is_mismatch a b in
    let sum : length (mismatches (a ++ b)) ≡ length (mismatches a) + length (mismatches b) = ap (λ (l : List FilePage). length l) joined ∙ length-append (mismatches a) (mismatches b) in
    let over : ltb o.allowed (length (mismatches (a ++ b))) ≡ true = lt-ltb o.allowed (length (mismatches (a ++ b))) (omega (arith, sum, many)) in
    ap (λ (b' : Bool). cond {A = Report} b' (stopped_report o (take (o.allowed + 1) (mismatches (a ++ b)))) (ended_report o (a ++ b) count rest)) over
    ∙ ap (stopped_report o) (ap (take (o.allowed + 1)) joined ∙ take_at (mismatches a) (mismatches b) (o.allowed + 1) many)

-- where no more than the permitted number was met, the report ends with its ending
pub report_end : (o : Options) (looked : List FilePage) (count rest : ℕ) → length (mismatches looked) ≤ o.allowed
    → report_of o looked count rest ≡ record { text = lines looked ++ ending o looked count rest; status = cond (is_cut o count rest) Truncated Done }
report_end o looked count rest few =
    ap (λ (b : Bool). cond {A = Report} b (stopped_report o (take (o.allowed + 1) (mismatches looked))) (ended_report o looked count rest)) (le-ltb o.allowed (length (mismatches looked)) few)

-- where no more than the permitted number was met before a page, the text goes on with the page's line
pub report_after : (o : Options) (a : List FilePage) (page : FilePage) (b : List FilePage) (count rest : ℕ) → length (mismatches a) ≤ o.allowed
    → (t : List ℕ) × ((report_of o ((a ++ page ∷ []) ++ b) count rest).text ≡ lines a ++ (line_of_page page ++ t))
report_after o a page b count rest few =
    let most = few_push a page in
    let joined : (t : List ℕ) → lines (a ++ page ∷ []) ++ t ≡ lines a ++ (line_of_page page ++ t) =
    λ t. ap (λ (l : List ℕ). l ++ t) (lines_push a page) ∙ append_assoc (lines a) (line_of_page page) t in
    elim (cases_lt o.allowed (length (mismatches (a ++ page ∷ [])))) [
      | inl past ↦
          let many : length (mismatches (a ++ page ∷ [])) ≡ o.allowed + 1 = omega (arith, most, few, past) in
          (stopped_line (o.allowed + 1) o.allowed, ap (λ (r : Report). r.text) (report_stop o (a ++ page ∷ []) b count rest many) ∙ joined (stopped_line (o.allowed + 1) o.allowed))
      | inr within ↦
          let t = report_front o (a ++ page ∷ []) b count rest within in
          (t.0, t.1 ∙ joined t.0)
    ]
