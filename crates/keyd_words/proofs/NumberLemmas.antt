-- What the decimal text of a number begins with, and what `parse` says of it.
use Rattle.std.proofs.Common.{◌≡◌, ℕ, ◌<◌, ◌^◌, ◌⊎◌, length, get_or, arith, sym, ◌∙◌, ap, subst, inl, inr, List, zero, suc, ◌≢◌, Result, Ok, Err, MatchOption}
use Rattle.std.specs.Fmt.{decimal}
use Rattle.std.specs.Result.{result_ok}
use Rattle.std.specs.Str.Parse.{AllDigits, digits_value, ParsesUnsigned}
use Rattle.std.proofs.lemmas.Fmt.{decimal_digit, first_decimal, decimal_nonempty, parse-decimal, decimal-digits_value}
use Rattle.std.proofs.lemmas.Str.Parse.{IsNumeralModel, numerals_by_value, tells_digits, parse_plain}

-- a digit from 1 on, or the lone digit 0
pub decimal_begins : (n : ℕ) → n < 2 ^ 64 → (48 < get_or (decimal n) 0 0) ⊎ ((get_or (decimal n) 0 0 ≡ 48) × (length (decimal n) ≡ 1))
decimal_begins zero small = inr (ap (λ t. get_or t 0 0) (decimal_digit 0 (omega arith)), ap length (decimal_digit 0 (omega arith)))
decimal_begins (suc n) small = inl (first_decimal (suc n) (omega arith) small)

pub no_empty : (text : List ℕ) (n : ℕ) → n < 2 ^ 64 → text ≡ decimal n → 0 < length text
no_empty text n small is = subst (λ t. 0 < length t) (sym is) (decimal_nonempty n small)

-- it begins with no sign
pub no_sign : (text : List ℕ) (n : ℕ) → n < 2 ^ 64 → text ≡ decimal n → get_or text 0 0 ≡ 43 → ⊥
no_sign text n small is sign =
    let first : get_or (decimal n) 0 0 ≡ 43 = ap (λ t. get_or t 0 0) (sym is) ∙ sign in
    elim (decimal_begins n small) [ inl more ↦ omega (arith, more, first) | inr lone ↦ omega (arith, lone.0, first) ]

pub no_leading_zero : (text : List ℕ) (n : ℕ) → n < 2 ^ 64 → text ≡ decimal n → get_or text 0 0 ≡ 48 → 1 < length text → ⊥
no_leading_zero text n small is zeroed long =
    let first : get_or (decimal n) 0 0 ≡ 48 = ap (λ t. get_or t 0 0) (sym is) ∙ zeroed in
    let size : length text ≡ length (decimal n) = ap length is in
    elim (decimal_begins n small) [ inl more ↦ omega (arith, more, first) | inr lone ↦ omega (arith, lone.1, long, size) ]

pub own : IsNumeralModel (AllDigits 10) (digits_value 10)
own = numerals_by_value (AllDigits 10) tells_digits

-- `parse` answers the number that the text writes, where it begins with no sign and no leading zero
pub parsed : {E : Type 0} (text : List ℕ) (r : Result ℕ E) → ParsesUnsigned 64 10 text r → get_or text 0 0 ≢ 43
    → (get_or text 0 0 ≡ 48 → length text ≡ 1)
    → MatchOption (result_ok r) ((n : ℕ) → n < 2 ^ 64 → text ≡ decimal n → ⊥) (λ n. (text ≡ decimal n) × (n < 2 ^ 64))
parsed {E} text (Ok x) gives plain lone =
    let is = parse_plain own {E = E} 64 text (Ok x) gives plain in
    let written : decimal (digits_value 10 text) ≡ text = decimal-digits_value own text is.0.0 is.0.1 lone is.0.2 in
    (sym written ∙ ap decimal (sym is.1), subst (λ n. n < 2 ^ 64) (sym is.1) is.0.2)
parsed {E} text (Err e) gives plain lone =
    λ n small is. let found : Err e ≡ Ok n = parse-decimal {E = E} 64 n text (Err e) small small is gives in cc found
