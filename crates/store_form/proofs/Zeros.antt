-- Bytes that are all zero.
use Rattle.std.proofs.Common.{◌≡◌, ℕ, Bool, true, false, true≢false, List, refl, sym, ◌∙◌}
use Rattle.std.specs.Prelude.{All}
use Rattle.page_places.specs.Texts.{are_zero}
use Rattle.page_places.proofs.Texts.{zero_bytes, bytes_zero}

-- a test that tells whether all are zero
pub zero_test : (xs : List ℕ) (b : Bool) → (b ≡ true → All (λ x. x ≡ 0) xs) → (All (λ x. x ≡ 0) xs → b ≡ true) → are_zero xs ≡ b
zero_test xs b to from = by b (are_zero xs) refl refl
  where
    by : (c z : Bool) → b ≡ c → are_zero xs ≡ z → are_zero xs ≡ b
    by true z is at = zero_bytes xs (to is) ∙ sym is
    by false false is at = at ∙ sym is
    by false true is at = absurd (true≢false (sym (from (bytes_zero xs at)) ∙ is))
