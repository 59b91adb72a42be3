-- The pages that are asked for, one after another.
use Rattle.std.proofs.Common.{◌≡◌, ◌≤◌, ◌<◌, ◌+◌, ◌-◌, ◌*◌, ◌/◌, ◌%◌, ◌^◌, subst, ℕ, min, List, [], ◌∷◌, ◌++◌, length, take, drop, get_or, sym, ap, ◌∙◌, Option, arith}
use Rattle.std.proofs.lemmas.List.{append-nil, get_or-drop, get_or-take, length-drop, length-take, take-append-drop, take_all, take_more}
use Rattle.std.proofs.lemmas.List.Sums.{length-filter}
use Rattle.std.proofs.Math.Nat.{mul-le-mul_left}
use Rattle.std.proofs.lemmas.List.FromFn.{get_or-map-range_with_len, length-map-range_with_len}
use Rattle.io_core.specs.Stream.{IsPartlyGiven, extended}
use Rattle.io_core.proofs.Streams.{given_then, extended-nil, front_given, part_given}
use Rattle.innochecksum_cli.specs.Pages.{FilePage, is_mismatch, nth_page, whole_pages}
use Rattle.innochecksum_cli.specs.Lines.{line_of_page, stopped_line}
use Rattle.innochecksum_cli.specs.Looks.{IsPageScan}
use Rattle.innochecksum_cli.specs.Tallies.{IsTally}
use Rattle.innochecksum_cli.specs.Inspection.{Agrees, Report, mismatches, report_of, selected}
use Rattle.innochecksum_cli.specs.declared.options.Options.{Options}
use Rattle.innochecksum_cli.specs.declared.tally.Tally.{Tally}
use Rattle.innochecksum_cli.specs.declared.looks.PageScan.{PageScan}
use Rattle.innochecksum_cli.specs.declared.status.CheckStatus.TheVariants.{Mismatch}
use Rattle.innochecksum_cli.proofs.Reports.{few_push, lines, lines_push, report_after, report_front, report_stop}

pub length-whole_pages : (size : ℕ) (file : List ℕ) → length (whole_pages size file) ≡ length file / size
unfolding whole_pages
length-whole_pages size file = length-map-range_with_len (nth_page size file) 0 (length file / size)

pub length-selected : (o : Options) (size : ℕ) (file : List ℕ) → length (selected o (whole_pages size file)) ≡ min (o.last + 1) (length file / size) - o.first
length-selected o size file =
    let whole = length-whole_pages size file in
    let front = length-take (o.last + 1) (whole_pages size file) in
    let back = length-drop o.first (take (o.last + 1) (whole_pages size file)) in
    omega (arith, whole, front, back)

get_or-whole_pages : (size : ℕ) (file : List ℕ) (n : ℕ) (d : FilePage) → n < length file / size → get_or (whole_pages size file) n d ≡ nth_page size file n
unfolding whole_pages
get_or-whole_pages size file n d below = get_or-map-range_with_len (nth_page size file) 0 (length file / size) n n d below (omega arith)

-- the page after the first k of those that are asked for
pub get_or-selected : (o : Options) (size : ℕ) (file : List ℕ) (k n : ℕ) (d : FilePage) → o.first + k ≡ n → n < min (o.last + 1) (length file / size)
    → get_or (selected o (whole_pages size file)) k d ≡ nth_page size file n
get_or-selected o size file k n d is below =
    get_or-drop o.first (take (o.last + 1) (whole_pages size file)) k d
    ∙ ap (λ (i : ℕ). get_or (take (o.last + 1) (whole_pages size file)) i d) is
    ∙ get_or-take (o.last + 1) (whole_pages size file) n d (omega (arith, below))
    ∙ get_or-whole_pages size file n d (omega (arith, below))

-- the first k pages, this one, and those after it
pub selected_split : (o : Options) (size : ℕ) (file : List ℕ) (k n : ℕ) → o.first + k ≡ n → n < min (o.last + 1) (length file / size)
    → (rest : List FilePage) × (selected o (whole_pages size file) ≡ (take k (selected o (whole_pages size file)) ++ nth_page size file n ∷ []) ++ rest)
    × (take (k + 1) (selected o (whole_pages size file)) ≡ take k (selected o (whole_pages size file)) ++ nth_page size file n ∷ [])
selected_split o size file k n is below =
    let all = selected o (whole_pages size file) in
    let page = nth_page size file n in
    let long = length-selected o size file in
    let inside : k < length all = omega (arith, long, is, below) in
    let more : take (k + 1) all ≡ take k all ++ page ∷ [] =
    take_more all k page inside ∙ ap (λ (p : FilePage). take k all ++ p ∷ []) (get_or-selected o size file k n page is below) in
    (drop (k + 1) all, sym (take-append-drop (k + 1) all) ∙ ap (λ (l : List FilePage). l ++ drop (k + 1) all) more, more)

-- The first k of the pages that are asked for were looked at.
pub record Seen (o : Options) (size : ℕ) (file : List ℕ) (k : ℕ) (tally : Tally) (before now : Option (List ℕ)) : Type 0 where
  pub tally_is : IsTally (take k (selected o (whole_pages size file))) tally
  pub few : length (mismatches (take k (selected o (whole_pages size file)))) ≤ o.allowed
  pub given : now ≡ extended (lines (take k (selected o (whole_pages size file)))) before

-- One page more was looked at, and the number of mismatches may be past the permitted one.
pub record Looks (o : Options) (size : ℕ) (file : List ℕ) (k : ℕ) (tally : Tally) (before now : Option (List ℕ)) : Type 0 where
  pub tally_is : IsTally (take k (selected o (whole_pages size file))) tally
  pub most : length (mismatches (take k (selected o (whole_pages size file)))) ≤ o.allowed + 1
  pub given : now ≡ extended (lines (take k (selected o (whole_pages size file)))) before

-- nothing was looked at yet
pub seen_none : (o : Options) (size : ℕ) (file : List ℕ) (k : ℕ) (tally : Tally) (given : Option (List ℕ)) → k ≡ 0 → IsTally [] tally → Seen o size file k tally given given
seen_none o size file k tally given none tallies = subst (λ (j : ℕ). Seen o size file j tally given given) (sym none) (record { tally_is = tallies; few = omega arith; given = extended-nil given })

-- the page at a number is what was read
page_is : (size : ℕ) (file : List ℕ) (n : ℕ) (bytes : List ℕ) → bytes ≡ take size (drop (n * size) file) → ◌≡◌ {A = FilePage} (record { number = n; bytes = bytes }) (nth_page size file n)
page_is size file n bytes is = ap (λ (b : List ℕ). let page : FilePage = record { number = n; bytes = b } in page) is

-- a page within the file
pub page_room : (number size n : ℕ) → number < n / size → (number + 1) * size ≤ n
page_room number size n below = grind (arith, mul-le-mul_left size below)

-- a fault in front of a page
pub seen_partly : (o : Options) (size : ℕ) (file : List ℕ) (k : ℕ) (tally : Tally) (before now : Option (List ℕ)) (count rest : ℕ) → Seen o size file k tally before now
    → IsPartlyGiven (report_of o (selected o (whole_pages size file)) count rest).text before now
seen_partly o size file k tally before now count rest seen =
    let all = selected o (whole_pages size file) in
    let t = report_front o (take k all) (drop k all) count rest seen.few in
    front_given (lines (take k all)) t.0 (report_of o all count rest).text before now
    (ap (λ (l : List FilePage). (report_of o l count rest).text) (sym (take-append-drop k all)) ∙ t.1) seen.given

-- a fault while the line of a page is given
pub look_partly : (o : Options) (size : ℕ) (file : List ℕ) (k n : ℕ) (bytes : List ℕ) (tally : Tally) (before mid now : Option (List ℕ)) (count rest : ℕ)
    → Seen o size file k tally before mid → o.first + k ≡ n → n < min (o.last + 1) (length file / size) → bytes ≡ take size (drop (n * size) file)
    → IsPartlyGiven (line_of_page (record { number = n; bytes = bytes })) mid now
    → IsPartlyGiven (report_of o (selected o (whole_pages size file)) count rest).text before now
look_partly o size file k n bytes tally before mid now count rest seen place below is part =
    let all = selected o (whole_pages size file) in
    let page = nth_page size file n in
    let parts = selected_split o size file k n place below in
    let t = report_after o (take k all) page parts.0 count rest seen.few in
    part_given (lines (take k all)) (line_of_page page) t.0 (report_of o all count rest).text before mid now
    (ap (λ (l : List FilePage). (report_of o l count rest).text) parts.1 ∙ t.1) seen.given
    (subst (λ (p : FilePage). IsPartlyGiven (line_of_page p) mid now) (page_is size file n bytes is) part)

pub look_next : (o : Options) (size : ℕ) (file : List ℕ) (k n : ℕ) (bytes : List ℕ) (tally tally' : Tally) (before mid now : Option (List ℕ))
    → Seen o size file k tally before mid → o.first + k ≡ n → n < min (o.last + 1) (length file / size) → length file < 2 ^ 64 → bytes ≡ take size (drop (n * size) file)
    → ((pages : List FilePage) → length pages + 1 < 2 ^ 64 → IsTally pages tally → IsTally (pages ++ record { number = n; bytes = bytes } ∷ []) tally')
    → now ≡ extended (line_of_page (record { number = n; bytes = bytes })) mid → Looks o size file (k + 1) tally' before now
look_next o size file k n bytes tally tally' before mid now seen place below fits is counts line =
    let all = selected o (whole_pages size file) in
    let page = nth_page size file n in
    let parts = selected_split o size file k n place below in
    let same = page_is size file n bytes is in
    let long = length-take k all in
    let short : length (take k all) + 1 < 2 ^ 64 = omega (arith, long, place, below, fits) in
    let tallied = subst (λ (p : FilePage). IsTally (take k all ++ p ∷ []) tally') same (counts (take k all) short seen.tally_is) in
    let given = given_then before mid now (lines (take k all)) (line_of_page page) seen.given (subst (λ (p : FilePage). now ≡ extended (line_of_page p) mid) same line) in
    let most = few_push (take k all) page in
    record {
      tally_is = subst (λ (l : List FilePage). IsTally l tally') (sym parts.2) tallied;
      most = subst (λ (l : List FilePage). length (mismatches l) ≤ o.allowed + 1) (sym parts.2) (omega (arith, most, seen.few));
      given = given ∙ ap (λ (t : List ℕ). extended t before) (sym (ap lines parts.2 ∙ lines_push (take k all) page));
    }

-- the count of mismatches is within the permitted number, and the look goes on
pub looks_on : (o : Options) (size : ℕ) (file : List ℕ) (k j : ℕ) (tally : Tally) (before now : Option (List ℕ)) → Looks o size file k tally before now → tally.mismatches ≤ o.allowed → k ≡ j
    → Seen o size file j tally before now
looks_on o size file k j tally before now looks within same =
    let all = selected o (whole_pages size file) in
    let count = looks.tally_is.mismatches in
    let long = length-filter is_mismatch (take k all) in
    subst (λ (i : ℕ). Seen o size file i tally before now) same
    (record { tally_is = looks.tally_is; few = omega (arith, count, long, within); given = looks.given })

-- the count is past the permitted number, by one, and the report stops here
pub looks_stop : (o : Options) (size : ℕ) (file : List ℕ) (k : ℕ) (tally : Tally) (before now : Option (List ℕ)) (count rest : ℕ) → Looks o size file k tally before now → o.allowed < tally.mismatches
    → (tally.mismatches ≡ o.allowed + 1) × (report_of o (selected o (whole_pages size file)) count rest
    ≡ record { text = lines (take k (selected o (whole_pages size file))) ++ stopped_line (o.allowed + 1) o.allowed; status = Mismatch })
looks_stop o size file k tally before now count rest looks past =
    let all = selected o (whole_pages size file) in
    let is_count = looks.tally_is.mismatches in
    let long = length-filter is_mismatch (take k all) in
    let most = looks.most in
    let many : length (mismatches (take k all)) ≡ o.allowed + 1 = omega (arith, is_count, long, most, past) in (
      omega (arith, is_count, long, many),
      ap (λ (l : List FilePage). report_of o l count rest) (sym (take-append-drop k all)) ∙ report_stop o (take k all) (drop k all) count rest many,
    )

-- a fault while it is said that the look stops
pub stop_partly : (o : Options) (size : ℕ) (file : List ℕ) (k : ℕ) (tally : Tally) (before mid now : Option (List ℕ)) (count rest : ℕ) → Looks o size file k tally before mid → o.allowed < tally.mismatches
    → IsPartlyGiven (stopped_line tally.mismatches o.allowed) mid now → IsPartlyGiven (report_of o (selected o (whole_pages size file)) count rest).text before now
stop_partly o size file k tally before mid now count rest looks past part =
    let all = selected o (whole_pages size file) in
    let stop = looks_stop o size file k tally before mid count rest looks past in
    let line = stopped_line (o.allowed + 1) o.allowed in
    part_given (lines (take k all)) line [] (report_of o all count rest).text before mid now
    (ap (λ (r : Report). r.text) stop.1 ∙ ap (λ (t : List ℕ). lines (take k all) ++ t) (sym (append-nil line))) looks.given
    (subst (λ (m : ℕ). IsPartlyGiven (stopped_line m o.allowed) mid now) stop.0 part)

-- it was said that the look stops
pub stop_agrees : (o : Options) (size : ℕ) (file : List ℕ) (k : ℕ) (tally : Tally) (before mid now : Option (List ℕ)) (count rest : ℕ) → Looks o size file k tally before mid → o.allowed < tally.mismatches
    → now ≡ extended (stopped_line tally.mismatches o.allowed) mid → Agrees (report_of o (selected o (whole_pages size file)) count rest) before now Mismatch
stop_agrees o size file k tally before mid now count rest looks past line =
    let all = selected o (whole_pages size file) in
    let stop = looks_stop o size file k tally before mid count rest looks past in
    let said = given_then before mid now (lines (take k all)) (stopped_line tally.mismatches o.allowed) looks.given line in (
      sym (ap (λ (r : Report). r.status) stop.1),
      said ∙ ap (λ (t : List ℕ). extended t before) (ap (λ (m : ℕ). lines (take k all) ++ stopped_line m o.allowed) stop.0 ∙ sym (ap (λ (r : Report). r.text) stop.1)),
    )

-- all that is asked for was looked at
pub seen_all : (o : Options) (size : ℕ) (file : List ℕ) (k : ℕ) (looked : PageScan) (before now : Option (List ℕ)) → Seen o size file k looked.tally before now
    → min (o.last + 1) (length file / size) ≤ o.first + k → looked.whole ≡ length file / size → looked.rest ≡ length file % size
    → IsPageScan (selected o (whole_pages size file)) (length file / size) (length file % size) o.allowed before now looked
seen_all o size file k looked before now seen done whole rest =
    let all = selected o (whole_pages size file) in
    let long = length-selected o size file in
    let whole_list : take k all ≡ all = take_all k all (omega (arith, long, done)) in
    record {
      tally = subst (λ (l : List FilePage). IsTally l looked.tally) whole_list seen.tally_is;
      whole = whole;
      rest_is = rest;
      few = subst (λ (l : List FilePage). length (mismatches l) ≤ o.allowed) whole_list seen.few;
      given = subst (λ (l : List FilePage). now ≡ extended (lines l) before) whole_list seen.given;
    }
