-- Words in hex digits.
use Rattle.std.proofs.Common.{◌≡◌, ℕ, List, [], ◌∷◌, length, ◌∙◌, subst, arith, Result, Ok, Err, MatchResult}
use Rattle.hex.specs.Hex.{decode_sized}
use Rattle.hex.specs.declared.error.FromHexError.{FromHexError}
use Rattle.hex.proofs.HexLemmas.{decode_of-ok, decode_sized-twice}
use Rattle.script_core.specs.Words.{Word, IsHex}

-- the empty word writes no byte
pub empty_no_hex : (word : Word) (bytes : List ℕ) → length word ≡ 0 → IsHex word bytes → ⊥
empty_no_hex word bytes none is = let ok = decode_of-ok word bytes is.digits in omega (arith, ok.2, is.some, none)

-- a word that isn't decoded into one byte writes none
pub no_byte : {T : Type 0} (word : Word) (byte : ℕ) (r : Result T FromHexError) (e : FromHexError) (P : List ℕ → Type 0) → ((bytes : List ℕ) → P bytes → r ≡ Err e → ⊥)
    → MatchResult (decode_sized word 1) P (λ f. r ≡ Err f) → r ≡ Err e → IsHex word (byte ∷ []) → ⊥
no_byte word byte r e P refuses says failed is =
    let ok = decode_of-ok word (byte ∷ []) is.digits in
    let same : decode_sized word 1 ≡ Ok (byte ∷ []) = decode_sized-twice word 1 (omega (arith, ok.2)) ∙ is.digits in
    refuses (byte ∷ []) (subst (λ d. MatchResult d P (λ f. r ≡ Err f)) same says) failed
