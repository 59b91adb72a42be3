-- Numbers in decimal digits.
use Rattle.std.proofs.Common.{◌≡◌, ℕ, ◌<◌, ◌≤◌, ◌^◌, length, get_or, arith, sym, ◌∙◌, ap, subst, inl, inr, [], ◌∷◌, refl, zero, suc, Result, Ok, Err, All}
use Rattle.std.specs.Fmt.{decimal}
use Rattle.std.specs.Result.{OkIff}
use Rattle.std.specs.Str.{IsUtf8}
use Rattle.std.specs.Str.Parse.{AllDigits, digits_value, ParsesUnsigned}
use Rattle.std.proofs.lemmas.Fmt.{decimal_digit, first_decimal, decimal_nonempty, decimal-digits_value, digits_value-decimal, digits_decimal, IsAscii-from_digits}
use Rattle.std.proofs.lemmas.Bool.{cases_lt}
use Rattle.std.proofs.lemmas.Str.{IsUtf8-from_ascii}
use Rattle.std.proofs.lemmas.Str.Parse.{IsNumeralModel, numerals_by_value, tells_by_index, tells_digits, digit_at, parse_digits}
use Rattle.script_core.specs.Words.{Word, IsDigit, IsNumeral, IsNumber}

pub own : IsNumeralModel (AllDigits 10) (digits_value 10)
own = numerals_by_value (AllDigits 10) tells_digits

by_index : IsNumeralModel (λ ds. (i : ℕ) → i < length ds → (48 ≤ get_or ds i 0) × (get_or ds i 0 ≤ 57)) (digits_value 10)
by_index = numerals_by_value (λ ds. (i : ℕ) → i < length ds → (48 ≤ get_or ds i 0) × (get_or ds i 0 ≤ 57)) tells_by_index

pub all_digits : (word : Word) → All IsDigit word → AllDigits 10 word
all_digits word digits = by_index.to word (λ i low. digits i 0 low)

-- the text of a number is a numeral of its value
pub decimal_value : (n : ℕ) → n < 2 ^ 64 → digits_value 10 (decimal n) ≡ n
decimal_value n small = digits_value-decimal own n small

same_default : (xs : Word) (k c d : ℕ) → k < length xs → get_or xs k c ≡ get_or xs k d
same_default [] k c d low = absurd (omega (arith, low))
same_default (x ∷ xs) zero c d low = refl
same_default (x ∷ xs) (suc k) c d low = same_default xs k c d (omega (arith, low))

pub decimal_digits : (n : ℕ) → n < 2 ^ 64 → All IsDigit (decimal n)
decimal_digits n small k d low =
    let digit = digit_at (decimal n) k (digits_decimal own n small) low in
    let same = same_default (decimal n) k 0 d low in
    (omega (arith, digit.0, same), omega (arith, digit.1, same))

lone_zero : (n : ℕ) → n < 2 ^ 64 → get_or (decimal n) 0 0 ≡ 48 → length (decimal n) ≡ 1
lone_zero zero small first = ap length (decimal_digit 0 (omega arith))
lone_zero (suc n) small first = absurd (omega (arith, first_decimal (suc n) (omega arith) small, first))

pub decimal_numeral : (n : ℕ) → n < 2 ^ 64 → IsNumeral (decimal n)
decimal_numeral n small = record { some = decimal_nonempty n small; lone = lone_zero n small; digits = decimal_digits n small }

-- a number's word is a numeral of its value
pub number_numeral : (word : Word) (low high n : ℕ) → high < 2 ^ 32 → IsNumber word low high n → IsNumeral word × (digits_value 10 word ≡ n)
number_numeral word low high n top is =
    let small : n < 2 ^ 64 = omega (arith, top, is.to) in
    (subst IsNumeral (sym is.spelled) (decimal_numeral n small), ap (digits_value 10) is.spelled ∙ decimal_value n small)

-- a numeral of a value in range is the text of that number
pub numeral_number : (word : Word) (low high n : ℕ) → high < 2 ^ 32 → IsNumeral word → digits_value 10 word ≡ n → low ≤ n → n ≤ high → IsNumber word low high n
numeral_number word low high n top is value from to = record {
  spelled = sym (decimal-digits_value own word (all_digits word is.digits) is.some is.lone (omega (arith, value, to, top))) ∙ ap decimal value;
  from = from;
  to = to;
}

pub numeral_utf8 : (word : Word) → IsNumeral word → IsUtf8 word
numeral_utf8 word is = IsUtf8-from_ascii word (IsAscii-from_digits word (all_digits word is.digits))

-- what `parse` gives for a numeral
pub parse_numeral : {E : Type 0} (word text : Word) (r : Result ℕ E) → text ≡ word → IsNumeral word → ParsesUnsigned 32 10 text r → OkIff r ((0 < length word) × (digits_value 10 word < 2 ^ 32)) (digits_value 10 word)
parse_numeral {E} word text r same is gives = parse_digits own {E = E} 32 word r (subst (λ t. ParsesUnsigned 32 10 t r) same gives) (all_digits word is.digits)

-- where it gives no number, the value is past a u32
pub past_u32 : {E : Type 0} (word : Word) (r : Result ℕ E) (e : E) → OkIff r ((0 < length word) × (digits_value 10 word < 2 ^ 32)) (digits_value 10 word) → r ≡ Err e → IsNumeral word → 2 ^ 32 ≤ digits_value 10 word
past_u32 word (Ok x) e gives is numeral = cc is
past_u32 word (Err e) f gives is numeral = elim (cases_lt (digits_value 10 word) (2 ^ 32)) [ inl low ↦ absurd (gives (numeral.some, low)) | inr high ↦ high ]

-- where it gives one, that is the value
pub parsed_value : {E : Type 0} (word : Word) (r : Result ℕ E) (n : ℕ) → OkIff r ((0 < length word) × (digits_value 10 word < 2 ^ 32)) (digits_value 10 word) → r ≡ Ok n → digits_value 10 word ≡ n
parsed_value word (Ok x) n gives is = let same : x ≡ n = cc is in sym gives.1 ∙ same
parsed_value word (Err e) n gives is = cc is
