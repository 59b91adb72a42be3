-- What the length of a file says of it, and a file that is read whole by its length.
use Rattle.std.proofs.Common.{◌≡◌, ◌≤◌, ℕ, List, [], length, take, drop, Option, Some, None, unwrap_or, refl, sym, ◌∙◌, ap, arith}
use Rattle.std.specs.Option.{option_map}
use Rattle.std.proofs.Math.Seq.{take_all}
use Rattle.io_core.specs.Files.{IsFilled}
use Rattle.io_core.proofs.Fills.{take-filled}

-- a buffer of the file's length is filled with the file
pub take-whole : (found : Option (List ℕ)) (before after : List ℕ) (count : ℕ) → Some (length before) ≡ option_map length found
    → IsFilled (drop 0 (unwrap_or found [])) before count after → found ≡ Some (take count after)
take-whole None before after count is filled = absurd (cc)
take-whole (Some bytes) before after count is filled =
    let same : length before ≡ length bytes = cc in
    let most : length bytes ≤ count = omega (arith, same, filled.count) in
    ap Some (sym (take-filled bytes before after count filled ∙ take_all count bytes most))

-- a name that has no length has no file
pub absent_file : (found : Option (List ℕ)) → None ≡ option_map length found → found ≡ None
absent_file None is = refl
absent_file (Some bytes) is = absurd (cc)

-- a name that has a length has a file of that length
pub present_file : (n : ℕ) (found : Option (List ℕ)) → Some n ≡ option_map length found → (bytes : List ℕ) × (found ≡ Some bytes) × (n ≡ length bytes)
present_file n None is = absurd (cc)
present_file n (Some bytes) is = let same : n ≡ length bytes = cc in (bytes, refl, same)
