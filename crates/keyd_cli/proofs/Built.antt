-- A text is not both a schedule and a text with a line that is refused.
use Rattle.std.proofs.Common.{◌≡◌, ℕ, ◌+◌, ◌<◌, ◌≤◌, ◌++◌, length, take, get_or, arith, sym, ◌∙◌, ap, subst, List, [], ◌∷◌, refl, codes, inl, inr, if◌then◌else◌}
use Rattle.std.specs.List.{onto_first}
use Rattle.std.proofs.lemmas.Bool.{cases_lt}
use Rattle.std.proofs.lemmas.List.{same_from_push, length-append, take-append-le, take_at, get_or_at, get_or_append_left}
use Rattle.keyd_cli.specs.declared.act.DrillAct.{DrillAct}
use Rattle.keyd_cli.specs.declared.act.DrillStatement.{DrillStatement}
use Rattle.keyd_cli.specs.Schedule.{statement_words, IsNoStatement, IsAct, IsSync, IsMtr}
use Rattle.keyd_cli.specs.Reads.{ReadsLines, ReadNone, ReadSkipped, ReadAct, is_mtr, mtr_count, HasRoom, IsSchedule, IsNotBuilt}
use Rattle.keyd_cli.proofs.ReadsLemmas.{count_more, one_act}

-- the first word of a text that begins with `#`
hash_first : (parts : List (List ℕ)) → get_or (get_or (onto_first 35 parts) 0 []) 0 0 ≡ 109 → ⊥
hash_first [] is = omega (arith, is)
hash_first (part ∷ parts) is = omega (arith, is)

hash_words : (rest : List ℕ) {words : List (List ℕ)} → statement_words (35 ∷ rest) ≡ codes "mtr" ∷ words → ⊥
hash_words rest {words} is = hash_first (statement_words rest) (ap (λ ws. get_or (get_or ws 0 []) 0 0) is)

no_words : {words : List (List ℕ)} → statement_words [] ≡ codes "mtr" ∷ words → ⊥
no_words {words} is = let n : 0 ≡ 3 = ap (λ ws. length (get_or ws 0 [])) is in omega (arith, n)

-- a line that is skipped is no act
skipped_or_act : (space pages : ℕ) (line : List ℕ) (act : DrillAct) → IsNoStatement line → IsAct space pages line act → ⊥
skipped_or_act space pages line act (inl empty) (IsSync is) = let n : 0 ≡ 4 = ap length (sym empty ∙ is) in omega (arith, n)
skipped_or_act space pages line act (inl empty) (IsMtr k p at bytes is) = no_words (sym (ap statement_words empty) ∙ is.numbers.words)
skipped_or_act space pages line act (inr comment) (IsSync is) = let byte : 35 ≡ 115 = ap (λ t. get_or t 0 0) (sym comment.1 ∙ is) in omega (arith, byte)
skipped_or_act space pages line act (inr comment) (IsMtr k p at bytes is) = hash_words comment.0 (sym (ap statement_words comment.1) ∙ is.numbers.words)

-- no line is behind the empty list
none_is_more : (lines : List (List ℕ)) (line : List ℕ) → [] ≡ lines ++ (line ∷ []) → ⊥
none_is_more lines line is = omega (arith, ap length is, length-append lines (line ∷ []))

-- the same line makes the counts grow by the same
act_counts : (space pages : ℕ) (line other : List ℕ) (n k : ℕ) (ss ts : List DrillStatement) (a b : DrillAct) → IsAct space pages line a → IsAct space pages other b → line ≡ other → mtr_count ss ≡ mtr_count ts
    → mtr_count (ss ++ (record { line = n; act = a } ∷ [])) ≡ mtr_count (ts ++ (record { line = k; act = b } ∷ []))
act_counts space pages line other n k ss ts a b x y same count =
    let kind : is_mtr a ≡ is_mtr b = one_act space pages other a b (subst (λ l. IsAct space pages l a) same x) y in
    count_more ss (ss ++ (record { line = n; act = a } ∷ [])) n a refl ∙ ap (λ c. c + (if is_mtr a then 1 else 0)) count ∙ ap (λ m. mtr_count ts + (if m then 1 else 0)) kind
    ∙ sym (count_more ts (ts ++ (record { line = k; act = b } ∷ [])) k b refl)

-- lines are read with one count of mini-transactions
same_counts : (space pages : ℕ) (lines others : List (List ℕ)) (ss ts : List DrillStatement) → ReadsLines space pages lines ss → ReadsLines space pages others ts → lines ≡ others → mtr_count ss ≡ mtr_count ts
same_counts space pages lines others ss ts ReadNone ReadNone is = refl
same_counts space pages lines others ss ts ReadNone (ReadSkipped more us line r skipped) is = absurd (none_is_more more line is)
same_counts space pages lines others ss ts ReadNone (ReadAct more us line act r x room) is = absurd (none_is_more more line is)
same_counts space pages lines others ss ts (ReadSkipped more us line r skipped) ReadNone is = absurd (none_is_more more line (sym is))
same_counts space pages lines others ss ts (ReadAct more us line act r x room) ReadNone is = absurd (none_is_more more line (sym is))
same_counts space pages lines others ss ts (ReadSkipped more us line r skipped) (ReadSkipped less vs last q passed) is =
    same_counts space pages more less us vs r q (same_from_push more less line last is).0
same_counts space pages lines others ss ts (ReadSkipped more us line r skipped) (ReadAct less vs last act q x room) is =
    absurd (skipped_or_act space pages last act (subst IsNoStatement (same_from_push more less line last is).1 skipped) x)
same_counts space pages lines others ss ts (ReadAct more us line act r x room) (ReadSkipped less vs last q passed) is =
    absurd (skipped_or_act space pages last act passed (subst (λ l. IsAct space pages l act) (same_from_push more less line last is).1 x))
same_counts space pages lines others ss ts (ReadAct more us line act r x room) (ReadAct less vs last other q y free) is =
    act_counts space pages line last (length more + 1) (length less + 1) us vs act other x y (same_from_push more less line last is).1
    (same_counts space pages more less us vs r q (same_from_push more less line last is).0)

-- these statements stand before the n-th line, which is refused
record IsRefused (space pages : ℕ) (lines : List (List ℕ)) (n : ℕ) (statements : List DrillStatement) : Type 0 where
  pub reads : ReadsLines space pages (take n lines) statements
  pub kept : IsNoStatement (get_or lines n []) → ⊥
  pub refused : (act : DrillAct) → IsAct space pages (get_or lines n []) act → HasRoom (mtr_count statements) act → ⊥

-- a refused line that isn't the last one is refused without the last one too
earlier : (space pages : ℕ) (lines : List (List ℕ)) (line : List ℕ) (n : ℕ) (ss : List DrillStatement) → n < length lines → IsRefused space pages (lines ++ (line ∷ [])) n ss → IsRefused space pages lines n ss
earlier space pages lines line n ss low at =
    let same : get_or (lines ++ (line ∷ [])) n [] ≡ get_or lines n [] = get_or_append_left lines (line ∷ []) [] n low in
    record {
      reads = subst (λ ls. ReadsLines space pages ls ss) (take-append-le n lines (line ∷ []) (omega (arith, low))) at.reads;
      kept = subst (λ l. IsNoStatement l → ⊥) same at.kept;
      refused = subst (λ l. (act : DrillAct) → IsAct space pages l act → HasRoom (mtr_count ss) act → ⊥) same at.refused;
    }

-- the refused line is the last one
record IsLast (space pages : ℕ) (lines : List (List ℕ)) (line : List ℕ) (ss : List DrillStatement) : Type 0 where
  pub reads : ReadsLines space pages lines ss
  pub kept : IsNoStatement line → ⊥
  pub refused : (act : DrillAct) → IsAct space pages line act → HasRoom (mtr_count ss) act → ⊥

last_one : (space pages : ℕ) (lines : List (List ℕ)) (line : List ℕ) (n : ℕ) (ss : List DrillStatement) → n < length (lines ++ (line ∷ [])) → length lines ≤ n → IsRefused space pages (lines ++ (line ∷ [])) n ss
    → IsLast space pages lines line ss
last_one space pages lines line n ss low high at =
    let size : length lines ≡ n = omega (arith, low, high, length-append lines (line ∷ [])) in
    let same : get_or (lines ++ (line ∷ [])) n [] ≡ line = get_or_at lines line [] [] n size in
    record {
      reads = subst (λ ls. ReadsLines space pages ls ss) (take_at lines (line ∷ []) n size) at.reads;
      kept = subst (λ l. IsNoStatement l → ⊥) same at.kept;
      refused = subst (λ l. (act : DrillAct) → IsAct space pages l act → HasRoom (mtr_count ss) act → ⊥) same at.refused;
    }

last_not_act : (space pages : ℕ) (lines : List (List ℕ)) (line : List ℕ) (ss us : List DrillStatement) (act : DrillAct) → ReadsLines space pages lines us → IsAct space pages line act → HasRoom (mtr_count us) act
    → IsLast space pages lines line ss → ⊥
last_not_act space pages lines line ss us act r x room at =
    at.refused act x (subst (λ c. HasRoom c act) (same_counts space pages lines lines us ss r at.reads refl) room)

-- no line of lines that are read is refused
none_refused : (space pages : ℕ) (lines : List (List ℕ)) (us : List DrillStatement) → ReadsLines space pages lines us → (n : ℕ) (ss : List DrillStatement) → n < length lines → IsRefused space pages lines n ss → ⊥
none_refused space pages lines us ReadNone n ss low at = omega (arith, low)
none_refused space pages lines us (ReadSkipped more vs line r skipped) n ss low at = elim (cases_lt n (length more)) [
  | inl before ↦ none_refused space pages more vs r n ss before (earlier space pages more line n ss before at)
  | inr here ↦ (last_one space pages more line n ss low here at).kept skipped
]
none_refused space pages lines us (ReadAct more vs line act r x room) n ss low at = elim (cases_lt n (length more)) [
  | inl before ↦ none_refused space pages more vs r n ss before (earlier space pages more line n ss before at)
  | inr here ↦ last_not_act space pages more line ss vs act r x room (last_one space pages more line n ss low here at)
]

-- a text that is a schedule has no line that is refused
pub built-not_refused : (space pages : ℕ) (text : List ℕ) (statements : List DrillStatement) (line : ℕ) → IsSchedule space pages text statements → IsNotBuilt space pages text line → ⊥
built-not_refused space pages text statements line is not =
    let n = length not.before in
    let whole = not.before ++ (not.line ∷ not.behind) in
    let low : n < length whole = omega (arith, length-append not.before (not.line ∷ not.behind)) in
    let same : not.line ≡ get_or whole n [] = sym (get_or_at not.before not.line not.behind [] n refl) in
    none_refused space pages whole statements (subst (λ ls. ReadsLines space pages ls statements) not.lines is) n not.statements low
    (record {
      reads = subst (λ ls. ReadsLines space pages ls not.statements) (sym (take_at not.before (not.line ∷ not.behind) n refl)) not.reads;
      kept = subst (λ l. IsNoStatement l → ⊥) same not.kept;
      refused = subst (λ l. (act : DrillAct) → IsAct space pages l act → HasRoom (mtr_count not.statements) act → ⊥) same not.refused;
    })
