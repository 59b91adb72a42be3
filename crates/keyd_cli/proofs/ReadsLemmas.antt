-- A schedule, one line further.
use Rattle.std.proofs.Common.{◌≡◌, ℕ, ◌+◌, ◌-◌, ◌<◌, ◌≤◌, ◌++◌, length, take, drop, get_or, arith, sym, ◌∙◌, ap, subst, List, [], ◌∷◌, suc, cond, refl, codes, ◌==◌, if◌then◌else◌}
use Rattle.std.proofs.lemmas.List.{take_more, take_all, drop_more, take-append-drop, length-take-le, length-drop}
use Rattle.std.proofs.lemmas.List.Sums.{sum_by_push, count_by-le-length}
use Rattle.std.proofs.lemmas.List.Splits.{length-slice_split}
use Rattle.keyd_cli.specs.declared.act.DrillAct.{DrillAct}
use Rattle.keyd_cli.specs.declared.act.DrillStatement.{DrillStatement}
use Rattle.keyd_cli.specs.Schedule.{schedule_lines, statement_words, IsNoStatement, IsAct, IsSync, IsMtr}
use Rattle.keyd_cli.specs.Reads.{ReadsLines, ReadSkipped, ReadAct, is_mtr, mtr_count, HasRoom, IsNotBuilt}

-- the n-th line, where so many are read
pub record AtLine (all : List (List ℕ)) (n : ℕ) (line : List ℕ) (rest : List (List ℕ)) : Type 0 where
  pub low : n < length all
  pub more : take (n + 1) all ≡ take n all ++ (line ∷ [])
  pub left : drop (n + 1) all ≡ rest
  pub whole : all ≡ take n all ++ (line ∷ rest)
  pub size : length (take n all) ≡ n

pub at_line : (all : List (List ℕ)) (n : ℕ) (line : List ℕ) (rest left : List (List ℕ)) → left ≡ drop n all → left ≡ line ∷ rest → n ≤ length all → AtLine all n line rest
at_line all n line rest left is cut most =
    let behind : drop n all ≡ line ∷ rest = sym is ∙ cut in
    let size : length all - n ≡ suc (length rest) = sym (length-drop n all) ∙ ap length behind in
    let low : n < length all = omega (arith, size) in
    let first : get_or all n [] ∷ drop (n + 1) all ≡ line ∷ rest = sym (drop_more all n [] low) ∙ behind in
    let here : get_or all n [] ≡ line = ap (λ ls. get_or ls 0 []) first in
    record {
      low = low;
      more = take_more all n [] low ∙ ap (λ l. take n all ++ (l ∷ [])) here;
      left = ap (λ ls. drop 1 ls) first;
      whole = sym (take-append-drop n all) ∙ ap (λ ls. take n all ++ ls) behind;
      size = length-take-le n all most;
    }

pub all_read : (all : List (List ℕ)) (n : ℕ) (left : List (List ℕ)) → left ≡ drop n all → left ≡ [] → n ≤ length all → take n all ≡ all
all_read all n left is none most =
    let size : length all - n ≡ 0 = sym (length-drop n all) ∙ ap length (sym is ∙ none) in
    take_all n all (omega (arith, size))

-- a text of so many bytes has at most one line more
pub few_lines : (text : List ℕ) → length (schedule_lines text) ≤ length text + 1
few_lines text = omega (arith, length-slice_split (λ b. b == 10) text, count_by-le-length (λ b. b == 10) text)

pub skipped_more : (space pages : ℕ) (all : List (List ℕ)) (n : ℕ) (line : List ℕ) (rest : List (List ℕ)) (statements : List DrillStatement) → AtLine all n line rest
    → ReadsLines space pages (take n all) statements → IsNoStatement line → ReadsLines space pages (take (n + 1) all) statements
skipped_more space pages all n line rest statements at reads skipped =
    subst (λ ls. ReadsLines space pages ls statements) (sym at.more) (ReadSkipped (take n all) statements line reads skipped)

pub act_more : (space pages : ℕ) (all : List (List ℕ)) (n : ℕ) (line : List ℕ) (rest : List (List ℕ)) (statements more : List DrillStatement) (act : DrillAct) → AtLine all n line rest
    → ReadsLines space pages (take n all) statements → IsAct space pages line act → HasRoom (mtr_count statements) act
    → more ≡ statements ++ (record { line = n + 1; act = act } ∷ []) → ReadsLines space pages (take (n + 1) all) more
act_more space pages all n line rest statements more act at reads is room grown =
    let read = ReadAct (take n all) statements line act reads is room in
    let number : length (take n all) + 1 ≡ n + 1 = ap (λ k. k + 1) at.size in
    let same : statements ++ (record { line = length (take n all) + 1; act = act } ∷ []) ≡ more =
    ap (λ k. statements ++ (record { line = k; act = act } ∷ [])) number ∙ sym grown in
    subst (λ ss. ReadsLines space pages (take (n + 1) all) ss) same (subst (λ ls. ReadsLines space pages ls (statements ++ (record { line = length (take n all) + 1; act = act } ∷ []))) (sym at.more) read)

pub count_more : (statements more : List DrillStatement) (n : ℕ) (act : DrillAct) → more ≡ statements ++ (record { line = n; act = act } ∷ []) → mtr_count more ≡ mtr_count statements + (if is_mtr act then 1 else 0)
count_more statements more n act grown = ap mtr_count grown ∙ sum_by_push (λ s. cond (is_mtr s.act) 1 0) statements (record { line = n; act = act })

pub refused_at : (space pages : ℕ) (text : List ℕ) (n : ℕ) (line : List ℕ) (rest : List (List ℕ)) (statements : List DrillStatement) → AtLine (schedule_lines text) n line rest
    → ReadsLines space pages (take n (schedule_lines text)) statements → (IsNoStatement line → ⊥) → ((act : DrillAct) → IsAct space pages line act → HasRoom (mtr_count statements) act → ⊥)
    → IsNotBuilt space pages text (n + 1)
refused_at space pages text n line rest statements at reads kept refused = record {
  before = take n (schedule_lines text);
  line = line;
  behind = rest;
  statements = statements;
  lines = at.whole;
  place = ap (λ k. k + 1) (sym at.size);
  reads = reads;
  kept = kept;
  refused = refused;
}

-- no line of a put is `sync`
no_both : (line : List ℕ) {rest : List (List ℕ)} → line ≡ codes "sync" → statement_words line ≡ codes "mtr" ∷ rest → ⊥
no_both line {rest} same words =
    let one : statement_words line ≡ codes "sync" ∷ [] = ap statement_words same in
    let byte : 115 ≡ 109 = ap (λ ws. get_or (get_or ws 0 []) 0 0) (sym one ∙ words) in
    omega (arith, byte)

-- a line is one act at most
pub one_act : (space pages : ℕ) (line : List ℕ) (a b : DrillAct) → IsAct space pages line a → IsAct space pages line b → is_mtr a ≡ is_mtr b
one_act space pages line a b (IsSync x) (IsSync y) = refl
one_act space pages line a b (IsMtr k p at bytes x) (IsMtr l q to more y) = refl
one_act space pages line a b (IsSync x) (IsMtr l q to more y) = absurd (no_both line x y.numbers.words)
one_act space pages line a b (IsMtr k p at bytes x) (IsSync y) = absurd (no_both line y x.numbers.words)
