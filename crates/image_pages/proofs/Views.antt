-- What a page is read from hangs on its home and the doublewrite file alone.
use Rattle.std.proofs.Common.{◌≡◌, ℕ, Option, sym, ◌∙◌}
use Rattle.store_image.specs.View.{Text, View, IsCopy, IsChosen, Home, Copy, Unused, IsLive}

module _ {M N : Type 0} (v : View M) (w : View N) (s p : ℕ) (home : v.home s p ≡ w.home s p) (slots : (i : ℕ) → v.slot i ≡ w.slot i) where
  copy_over : (i : ℕ) (t : Text) → IsCopy v s p i t → IsCopy w s p i t
  copy_over i t c = record { within = c.within; is = sym (slots i) ∙ c.is }

  copy_back : (i : ℕ) (t : Text) → IsCopy w s p i t → IsCopy v s p i t
  copy_back i t c = record { within = c.within; is = slots i ∙ c.is }

  pub chosen_over : (chosen : Option Text) → IsChosen v s p chosen → IsChosen w s p chosen
  chosen_over chosen (Home t is e) = Home t (sym home ∙ is) e
  chosen_over chosen (Copy i t none copy newest first e) = Copy i t (λ u is. none u (home ∙ is)) (copy_over i t copy) (λ j u c. newest j u (copy_back j u c)) (λ j u c same. first j u (copy_back j u c) same) e
  chosen_over chosen (Unused is none e) = Unused (sym home ∙ is) (λ i t c. none i t (copy_back i t c)) e

  pub live_over : (i : ℕ) (t : Text) → IsLive v s p i t → IsLive w s p i t
  live_over i t live = record {
    copy = copy_over i t live.copy;
    above = λ u is. live.above u (home ∙ is);
    newest = λ none j u c. live.newest (λ t is. none t (sym home ∙ is)) j u (copy_back j u c);
  }
