-- A home with the text of another page.
use Rattle.std.proofs.Common.{◌≡◌, ℕ, true, false, true≢false, List, sym, ◌∙◌}
use Rattle.store_image.specs.View.{Held, Zero, Bad}
use Rattle.page_places.specs.Placed.{IsPlaced, OwnText, ZeroBytes, Unmatched}
use Rattle.page_places.specs.Texts.{is_page_text, text_in, are_zero, ends_in_sum}
use Rattle.page_places.proofs.Texts.{held-text, held_is}
use Rattle.image_pages.proofs.Choices.{held-else}

bad_zero : ◌≡◌ {A = Held} Bad Zero → ⊥
bad_zero e = cc

pub own_placed : (p : ℕ) (x : List ℕ) → is_page_text p x ≡ true → IsPlaced p x
own_placed p x is = OwnText (text_in x) (held-text p x is)

pub zero_placed : (p : ℕ) (x : List ℕ) → is_page_text p x ≡ false → are_zero x ≡ true → IsPlaced p x
zero_placed p x none zeros = ZeroBytes (held-else p x true none zeros)

pub not_placed : (p : ℕ) (x : List ℕ) → is_page_text p x ≡ false → are_zero x ≡ false → ends_in_sum x ≡ true → IsPlaced p x → ⊥
not_placed p x none some ends (OwnText t is) = true≢false (sym (held_is p x t is).0 ∙ none)
not_placed p x none some ends (ZeroBytes is) = bad_zero (sym (held-else p x false none some) ∙ is)
not_placed p x none some ends (Unmatched isnt) = true≢false (sym ends ∙ isnt)
