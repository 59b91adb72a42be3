-- Words joined by a byte that none of them has, and cut there again.
use Rattle.std.proofs.Common.{◌≡◌, ◌≢◌, ℕ, ◌<◌, ◌^◌, List, [], ◌∷◌, ◌==◌, All, true, ap, ◌∙◌, subst, refl, arith, get_or}
use Rattle.std.specs.Fmt.{decimal}
use Rattle.std.specs.List.{join_with_byte}
use Rattle.std.proofs.lemmas.List.Splits.{slice_split_none, slice_split_at}
use Rattle.std.proofs.lemmas.List.Elements.{All-cons, All-append}
use Rattle.std.proofs.lemmas.Bool.Decides.{Decides-eqb}
use Rattle.hex.specs.Hex.{encode_lower, is_hex_digit}
use Rattle.hex.proofs.HexLemmas.{decode_of-ok, decode_of-encode_lower}
use Rattle.script_core.specs.Parts.{parts_of}
use Rattle.script_core.specs.Words.{Word, IsHex}
use Rattle.script_core.proofs.NumberLemmas.{decimal_digits}
use Rattle.script_core.proofs.PartsLemmas.{all_unlike}

-- neither a space nor a line feed
abbrev pub IsPlain : ℕ → Type 0
IsPlain c = (c ≢ 32) × (c ≢ 10)

abbrev pub IsPlainWord : Word → Type 0
IsPlainWord word = All IsPlain word

abbrev pub ArePlain : List Word → Type 0
ArePlain [] = Unit {0}
ArePlain (word ∷ words) = IsPlainWord word × ArePlain words

is_same : (separator : ℕ) → (separator == separator) ≡ true
is_same separator = (Decides-eqb separator separator).1 refl

abbrev pub IsFree : ℕ → List ℕ → Type 0
IsFree separator text = All (λ c. c ≢ separator) text

abbrev pub AreFree : ℕ → List (List ℕ) → Type 0
AreFree separator [] = Unit {0}
AreFree separator (part ∷ parts) = IsFree separator part × AreFree separator parts

-- parts that have no separator are what the text is cut into
pub parts_joined : (separator : ℕ) (part : List ℕ) (parts : List (List ℕ)) → AreFree separator (part ∷ parts) → parts_of separator (join_with_byte separator (part ∷ parts)) ≡ part ∷ parts
parts_joined separator part [] free = slice_split_none (λ c. c == separator) part (all_unlike separator part free.0)
parts_joined separator part (next ∷ parts) free =
    slice_split_at (λ c. c == separator) part separator (join_with_byte separator (next ∷ parts)) (all_unlike separator part free.0) (is_same separator)
    ∙ ap (λ ps. part ∷ ps) (parts_joined separator next parts free.1)

pub no_spaces : (words : List Word) → ArePlain words → AreFree 32 words
no_spaces [] plain = tt
no_spaces (word ∷ words) plain = (λ k d low. (plain.0 k d low).0, no_spaces words plain.1)

-- a line of such words has no line feed
pub no_feed : (words : List Word) → ArePlain words → IsFree 10 (join_with_byte 32 words)
no_feed [] plain = λ k d low. absurd (omega (arith, low))
no_feed (word ∷ []) plain = λ k d low. (plain.0 k d low).1
no_feed (word ∷ next ∷ words) plain =
    All-append (λ c. c ≢ 10) word (32 ∷ join_with_byte 32 (next ∷ words)) (λ k d low. (plain.0 k d low).1)
    (All-cons (λ c. c ≢ 10) 32 (join_with_byte 32 (next ∷ words)) (λ e. omega (arith, e)) (no_feed (next ∷ words) plain.1))

-- the words of numbers and of bytes
pub plain_decimal : (n : ℕ) → n < 2 ^ 64 → IsPlainWord (decimal n)
plain_decimal n small k d low =
    let digit = decimal_digits n small k d low in
    (λ e. omega (arith, digit, e), λ e. omega (arith, digit, e))

hex_plain : (c : ℕ) → is_hex_digit c ≡ true → IsPlain c
hex_plain c is = (λ e. let t : is_hex_digit 32 ≡ true = subst (λ x. is_hex_digit x ≡ true) e is in cc t, λ e. let t : is_hex_digit 10 ≡ true = subst (λ x. is_hex_digit x ≡ true) e is in cc t)

pub hex_again : (word : Word) (bytes : List ℕ) → IsHex word bytes → IsHex (encode_lower bytes) bytes
hex_again word bytes is = record { digits = decode_of-encode_lower bytes (decode_of-ok word bytes is.digits).3; some = is.some }

pub plain_hex : (word : Word) (bytes : List ℕ) → IsHex word bytes → IsPlainWord (encode_lower bytes)
plain_hex word bytes is k d low =
    let again = hex_again word bytes is in
    let digits = (decode_of-ok (encode_lower bytes) bytes again.digits).1 in
    hex_plain (get_or (encode_lower bytes) k d) (digits k d low)
