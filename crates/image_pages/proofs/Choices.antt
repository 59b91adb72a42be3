-- The newest copy, slot by slot, and what the page is read from.
use Rattle.std.proofs.Common.{◌≡◌, ◌≢◌, ◌⊎◌, ℕ, ◌+◌, ◌<◌, ◌≤◌, Bool, true, false, true≢false, nat_le, if◌then◌else◌, List, Option, Some, None, refl, sym, ap, subst, ◌∙◌, arith, inl, inr, ⊎_elim}
use Rattle.std.proofs.lemmas.Bool.{cases_lt}
use Rattle.std.proofs.lemmas.Bool.Decides.{nat_tests}
use Rattle.std.proofs.lemmas.Option.{same_Some}
use Rattle.places.specs.Places.{place}
use Rattle.store_image.specs.Groups.{copy_of}
use Rattle.store_image.specs.View.{Text, Holds, Zero, Bad, Slot, Home, Copy, Unused}
use Rattle.page_places.specs.Texts.{held, is_page_text, text_in, are_zero}
use Rattle.page_places.proofs.Texts.{held-text, held_is}
use Rattle.image_pages.specs.Choosing.{slot_in, IsCopyIn, better, IsBest, Best, IsTextChoice}
use Rattle.image_pages.specs.declared.choosing.Chosen.TheVariants as answer
use Rattle.image_pages.specs.declared.copies.Newest.{Newest}

module _ (double : List ℕ) (s p : ℕ) where
  same_text : (t u : Text) → copy_of s p t ≡ copy_of s p u → t ≡ u
  same_text t u e = ap (λ (y : Slot). y.text) (same_Some _ _ e)

  up_to : (n j : ℕ) → j < n + 1 → (j < n) ⊎ (j ≡ n)
  up_to n j lt = ⊎_elim (λ (l : j < n). inl l) (λ (ge : n ≤ j). inr (omega (arith, lt, ge))) (cases_lt j n)

  -- the copy of this slot is the only one
  only : (n : ℕ) (t u : Text) → slot_in double n ≡ copy_of s p t → (j : ℕ) → j ≡ n → slot_in double j ≡ copy_of s p u → u ≡ t
  only n t u is j e here = sym (same_text t u (sym is ∙ ap (slot_in double) (sym e) ∙ here))

  skipped : (n : ℕ) → ((t : Text) → slot_in double n ≢ copy_of s p t) → (best : Option Newest) → Best double s p n best → Best double s p (n + 1) best
  skipped n other None best = λ j u lt is. ⊎_elim (λ (l : j < n). best j u l is) (λ (e : j ≡ n). other u (subst (λ (k : ℕ). slot_in double k ≡ copy_of s p u) e is)) (up_to n j lt)
  skipped n other (Some c) best = record {
    text = best.text;
    below = let b = best.below in omega (arith, b);
    is = best.is;
    lsn = best.lsn;
    most = λ j u lt is. ⊎_elim (λ (l : j < n). best.most j u l is) (λ (e : j ≡ n). absurd (other u (subst (λ (k : ℕ). slot_in double k ≡ copy_of s p u) e is))) (up_to n j lt);
    first = λ j u lt is lsn. ⊎_elim (λ (l : j < n). best.first j u l is lsn) (λ (e : j ≡ n). absurd (other u (subst (λ (k : ℕ). slot_in double k ≡ copy_of s p u) e is))) (up_to n j lt);
  }

  -- no copy before, and this one
  first_one : (n lsn : ℕ) (t : Text) → slot_in double n ≡ copy_of s p t → t.lsn ≡ lsn → Best double s p n None → IsBest double s p (n + 1) (record { index = n; lsn = lsn })
  first_one n lsn t is l best = record {
    text = t;
    below = omega arith;
    is = is;
    lsn = l;
    most = λ j u lt here. ⊎_elim (λ (b : j < n). absurd (best j u b here)) (λ (e : j ≡ n). let same : u.lsn ≡ lsn = ap (λ (x : Text). x.lsn) (only n t u is j e here) ∙ l in omega (arith, same)) (up_to n j lt);
    first = λ j u lt here same. ⊎_elim (λ (b : j < n). absurd (best j u b here)) (λ (e : j ≡ n). omega (arith, e)) (up_to n j lt);
  }

  -- a newer one
  newer_one : (n lsn : ℕ) (t : Text) (c : Newest) → slot_in double n ≡ copy_of s p t → t.lsn ≡ lsn → c.lsn < lsn → IsBest double s p n c → IsBest double s p (n + 1) (record { index = n; lsn = lsn })
  newer_one n lsn t c is l lt best = record {
    text = t;
    below = omega arith;
    is = is;
    lsn = l;
    most = λ j u below here. ⊎_elim (λ (b : j < n). let m = best.most j u b here in omega (arith, m, lt)) (λ (e : j ≡ n). let same : u.lsn ≡ lsn = ap (λ (x : Text). x.lsn) (only n t u is j e here) ∙ l in omega (arith, same)) (up_to n j below);
    first = λ j u below here same. ⊎_elim (λ (b : j < n). let m = best.most j u b here in absurd (omega (arith, m, lt, same))) (λ (e : j ≡ n). omega (arith, e)) (up_to n j below);
  }

  -- one that isn't newer
  older_one : (n lsn : ℕ) (t : Text) (c : Newest) → slot_in double n ≡ copy_of s p t → t.lsn ≡ lsn → lsn ≤ c.lsn → IsBest double s p n c → IsBest double s p (n + 1) c
  older_one n lsn t c is l le best = record {
    text = best.text;
    below = let b = best.below in omega (arith, b);
    is = best.is;
    lsn = best.lsn;
    most = λ j u below here. ⊎_elim (λ (b : j < n). best.most j u b here) (λ (e : j ≡ n). let same : u.lsn ≡ lsn = ap (λ (x : Text). x.lsn) (only n t u is j e here) ∙ l in omega (arith, same, le)) (up_to n j below);
    first = λ j u below here same. ⊎_elim (λ (b : j < n). best.first j u b here same) (λ (e : j ≡ n). let b = best.below in omega (arith, e, b)) (up_to n j below);
  }

  pub best_none : Best double s p 0 None
  best_none j u lt is = omega (arith, lt)

  pub best_more : (n : ℕ) (best : Option Newest) (copy : Option ℕ) → IsCopyIn (place 16896 n double) s p copy → Best double s p n best → Best double s p (n + 1) (better best copy n)
  best_more n best None none so_far = skipped n none best so_far
  best_more n None (Some lsn) (t, is, l) so_far = first_one n lsn t is l so_far
  best_more n (Some c) (Some lsn) (t, is, l) so_far = by (nat_le lsn c.lsn) refl
    where
      by : (b : Bool) → nat_le lsn c.lsn ≡ b → Best double s p (n + 1) (if b then Some c else Some (record { index = n; lsn = lsn }))
      by true test = let le : lsn ≤ c.lsn = grind (arith, nat_tests) in older_one n lsn t c is l le so_far
      by false test = let lt : c.lsn < lsn = grind (arith, nat_tests) in newer_one n lsn t c is l lt so_far

-- ---- the choice

pub held-else : (p : ℕ) (x : List ℕ) (z : Bool) → is_page_text p x ≡ false → are_zero x ≡ z → held p x ≡ (if z then Zero else Bad)
unfolding held
held-else p x z none zeros = (λ i. if none i then Holds (text_in x) else (if zeros i then Zero else Bad))

module _ (home double : List ℕ) (s p : ℕ) where
  no_home : is_page_text p home ≡ false → (t : Text) → held p home ≢ Holds t
  no_home none t e = true≢false (sym (held_is p home t e).0 ∙ none)

  pub home_choice : is_page_text p home ≡ true → IsTextChoice home double s p answer.Home
  home_choice is = (held-text p home is, Home (text_in home) (held-text p home is) refl)

  pub copy_choice : (c : Newest) → is_page_text p home ≡ false → Best double s p 64 (Some c) → IsTextChoice home double s p (answer.Copy c.index)
  copy_choice c none best = (
    best.text,
    best.is,
    best.below,
    Copy c.index best.text (no_home none) (record { within = best.below; is = best.is })
        (λ j u copy. let m = best.most j u copy.within copy.is in let l = best.lsn in omega (arith, m, l))
        (λ j u copy same. best.first j u copy.within copy.is (same ∙ best.lsn)) refl,
    λ j u copy same. best.first j u copy.within copy.is (same ∙ best.lsn),
  )

  pub unused_choice : is_page_text p home ≡ false → are_zero home ≡ true → Best double s p 64 None → IsTextChoice home double s p answer.Unused
  unused_choice none zeros best = Unused (held-else p home true none zeros) (λ i t copy. best i t copy.within copy.is) refl

  pub nothing_choice : is_page_text p home ≡ false → are_zero home ≡ false → Best double s p 64 None → IsTextChoice home double s p answer.Nothing
  nothing_choice none zeros best chosen (Home t is e) = no_home none t is
  nothing_choice none zeros best chosen (Copy i t torn copy most first e) = best i t copy.within copy.is
  nothing_choice none zeros best chosen (Unused is empty e) = bad (sym (held-else p home false none zeros) ∙ is)
    where
      bad : Bad ≡ Zero → ⊥
      bad e = cc
