-- A text that `parse` reads as a number, and one that it doesn't.
use Rattle.std.proofs.Common.{◌≡◌, ◌<◌, ◌^◌, ℕ, Bool, true, false, List, cond, Some, sym, ap, ◌∙◌, inl, inr, arith}
use Rattle.std.specs.Str.Parse.{IsNumeral, digits_value, without_leading_plus}
use Rattle.std.proofs.lemmas.Bool.{cases_Bool}
use Rattle.clap.specs.ValueTests.{is_unsigned_in}
use Rattle.clap.specs.declared.builder.value_parser.ValueParser.TheVariants as parser
use Rattle.clap.proofs.ValueTestLemmas.{Accepts-accepts, accepts-Accepts}
use Rattle.innochecksum_cli.specs.Words.{number_or}

abbrev IsRead : List ℕ → Type 0
IsRead text = IsNumeral 10 (without_leading_plus text) × (digits_value 10 (without_leading_plus text) < 2 ^ 64)

pub read_ok : (text : List ℕ) (n other : ℕ) → IsRead text × (n ≡ digits_value 10 (without_leading_plus text)) → n ≡ number_or (Some text) other
read_ok text n other h =
    let value = digits_value 10 (without_leading_plus text) in
    let yes : is_unsigned_in 0 18446744073709551615 text ≡ true =
    Accepts-accepts false (parser.Unsigned 0 18446744073709551615) text (h.0.0, h.0.1, omega arith, omega (arith, h.0.1)) in
    h.1 ∙ sym (ap (λ (b : Bool). cond b value other) yes)

pub read_err : (text : List ℕ) (other : ℕ) → (IsRead text → ⊥) → other ≡ number_or (Some text) other
read_err text other h =
    let value = digits_value 10 (without_leading_plus text) in
    elim (cases_Bool (is_unsigned_in 0 18446744073709551615 text)) [
      | inl is_yes ↦
          let fits = accepts-Accepts false (parser.Unsigned 0 18446744073709551615) text is_yes in
          absurd (h (fits.0, fits.1))
      | inr is_no ↦ sym (ap (λ (b : Bool). cond b value other) is_no)
    ]
