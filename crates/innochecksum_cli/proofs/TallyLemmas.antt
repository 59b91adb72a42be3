-- One page more in the counts.
use Rattle.std.proofs.Common.{◌≡◌, ◌≢◌, ◌≤◌, ◌<◌, ◌+◌, ◌-◌, ◌^◌, ℕ, Bool, true, false, not, ◌&&◌, min, List, [], ◌∷◌, ◌++◌, length, get_or, cond, count_by, refl, sym, ap, ◌∙◌, inl, inr, arith}
use Rattle.std.proofs.Math.ListN.{set}
use Rattle.std.proofs.lemmas.Bool.{cases_eq, eq-eqb, ne_eqb}
use Rattle.std.proofs.lemmas.List.{get_or-set_other, get_or-set_same}
use Rattle.std.proofs.lemmas.List.Sums.{count_by-le-length, sum_by_push}
use Rattle.byte_list.specs.Fields.{be16_at}
use Rattle.innochecksum_cli.specs.Pages.{FilePage, is_of_kind, is_zero}

one_at_most : (b : Bool) → cond b 1 0 ≤ 1
one_at_most true = omega arith
one_at_most false = omega arith

-- a count with one page more, which never passes the end of a u64
pub counted_push : (p : FilePage → Bool) (pages : List FilePage) (x : FilePage) (count new : ℕ) (more : Bool) → length pages + 1 < 2 ^ 64
    → count ≡ count_by p pages → more ≡ p x → new ≡ min (count + cond more 1 0) (2 ^ 64 - 1) → new ≡ count_by p (pages ++ x ∷ [])
counted_push p pages x count new more short is same made =
    let step = sum_by_push (λ y. cond (p y) 1 0) pages x in
    let most = count_by-le-length p pages in
    let small = one_at_most (p x) in
    let bit : ◌≡◌ {A = ℕ} (cond more 1 0) (cond (p x) 1 0) = ap (λ (b : Bool). cond b 1 0) same in
    omega (arith, step, most, small, bit, made, is)

-- the same of each type, where the count of the page's own is written
pub kinds_push : (pages : List FilePage) (x : FilePage) (kinds : List ℕ) (k new : ℕ) (used : Bool) → length pages + 1 < 2 ^ 64
    → ((kind : ℕ) → kind < 2 ^ 16 → get_or kinds kind 0 ≡ count_by (is_of_kind kind) pages)
    → k < length kinds → k < 2 ^ 16 → used ≡ not (is_zero x) → k ≡ be16_at x.bytes 24 → new ≡ min (get_or kinds k 0 + cond used 1 0) (2 ^ 64 - 1)
    → (kind : ℕ) → kind < 2 ^ 16 → get_or (set kinds k new) kind 0 ≡ count_by (is_of_kind kind) (pages ++ x ∷ [])
unfolding is_of_kind
kinds_push pages x kinds k new used short counts inside below same own made kind fits =
    elim (cases_eq k kind) [
      | inl here ↦
          let is_own : used ≡ is_of_kind k x = same ∙ sym (rw (eq-eqb (be16_at x.bytes 24) k (sym own)) (when_true (not (is_zero x)))) in
          let count = counted_push (is_of_kind k) pages x _ new used short (counts k below) is_own made in
          rw (← here) (rw (get_or-set_same kinds k new 0 inside) count)
      | inr apart ↦
          let other : kind ≢ k = λ e. apart (sym e) in
          let none : false ≡ is_of_kind kind x = sym (rw (ne_eqb (be16_at x.bytes 24) kind (λ e. apart (own ∙ e))) (when_false (not (is_zero x)))) in
          let step = sum_by_push (λ y. cond (is_of_kind kind y) 1 0) pages x in
          let bit : ◌≡◌ {A = ℕ} 0 (cond (is_of_kind kind x) 1 0) = ap (λ (b : Bool). cond b 1 0) none in
          let same_count = counts kind fits in
          rw (get_or-set_other kinds k kind new 0 other) (omega (arith, step, bit, same_count))
    ]
  where
    when_true : (b : Bool) → (b && true) ≡ b
    when_true true = refl
    when_true false = refl

    when_false : (b : Bool) → (b && false) ≡ false
    when_false true = refl
    when_false false = refl
