-- The example of FIPS 197, appendix B, by the definition alone.
use Rattle.std.proofs.Common.{◌≡◌, [], ◌∷◌, refl}
use Rattle.aes_core.specs.Field.{inverse_from, power, product_of, sub_byte}
use Rattle.aes_core.specs.Cipher.{after_rounds, encrypted, expanded}

pub appendix_b : encrypted (43 ∷ 126 ∷ 21 ∷ 22 ∷ 40 ∷ 174 ∷ 210 ∷ 166 ∷ 171 ∷ 247 ∷ 21 ∷ 136 ∷ 9 ∷ 207 ∷ 79 ∷ 60 ∷ []) (50 ∷ 67 ∷ 246 ∷ 168 ∷ 136 ∷ 90 ∷ 48 ∷ 141 ∷ 49 ∷ 49 ∷ 152 ∷ 162 ∷ 224 ∷ 55 ∷ 7 ∷ 52 ∷ [])
    ≡ 57 ∷ 37 ∷ 132 ∷ 29 ∷ 2 ∷ 220 ∷ 9 ∷ 251 ∷ 220 ∷ 17 ∷ 133 ∷ 151 ∷ 25 ∷ 106 ∷ 11 ∷ 50 ∷ []
unfolding inverse_from power product_of sub_byte after_rounds expanded
appendix_b = refl
