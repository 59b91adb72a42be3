-- The parts of a line, as the code finds them.
use Rattle.std.proofs.Common.{◌≡◌, ℕ, ◌+◌, ◌-◌, ◌*◌, ◌/◌, ◌%◌, ◌<◌, ◌≤◌, true, List, length, take, get_or, Result, Ok, Err, sym, ap, ◌∙◌, arith}
use Rattle.std.specs.Prelude.{min, MatchResult, IsOk}
use Rattle.std.specs.Char.{digit_value, is_ascii_digit}
use Rattle.std.specs.List.{AllPass}
use Rattle.std.specs.Str.Parse.{digits_value}
use Rattle.std.proofs.lemmas.Int.Digits.{digits_value_more}
use Rattle.std.proofs.lemmas.List.{length-take}
use Rattle.hex.specs.Hex.{decode_sized, is_hex_digit}
use Rattle.hex.specs.declared.error.FromHexError.{FromHexError}
use Rattle.hex.proofs.HexLemmas.{IsOk-decode_sized, IsOk-written}

digit_of : (c : ℕ) → is_ascii_digit c ≡ true → digit_value c ≡ c - 48
digit_of c h = grind arith

bounded : (d v l x y : ℕ) → v ≡ min d l → y ≡ d * 10 + x → min (v * 10 + x) l ≡ min y l
bounded d v l x y e f = rw e (rw f (omega arith))

-- one digit more
pub digit_more : (digits : List ℕ) (i v x : ℕ) → i < length digits → AllPass is_ascii_digit digits
    → v ≡ min (digits_value 10 (take i digits)) 4294967296 → x ≡ get_or digits i 0 - 48
    → min (v * 10 + x) 4294967296 ≡ min (digits_value 10 (take (i + 1) digits)) 4294967296
digit_more digits i v x h all e f =
    bounded (digits_value 10 (take i digits)) v 4294967296 x (digits_value 10 (take (i + 1) digits)) e
    (digits_value_more 10 digits i h ∙ ap (λ (y : ℕ). digits_value 10 (take i digits) * 10 + y) (digit_of (get_or digits i 0) (all i 0 h) ∙ sym f))

-- hex digits that fill the room decode
pub decodes : (s : List ℕ) (n : ℕ) (r : Result (Unit {0}) FromHexError) (out : List ℕ) → length s ≡ 2 * n → AllPass is_hex_digit s
    → MatchResult (decode_sized s n) (λ bytes. (r ≡ Ok tt) × (out ≡ bytes)) (λ e. r ≡ Err e) → IsOk r
decodes s n r out long all h = (IsOk-written (decode_sized s n) r out h).1 ((IsOk-decode_sized s n).1 (long, all))

pub not_refused : (r : Result (Unit {0}) FromHexError) (e : FromHexError) → IsOk r → r ≡ Err e → ⊥
not_refused (Ok x) e ok h = cc
not_refused (Err x) e ok h = cc

-- half as many bytes as digits fit where the key goes
pub room : (n : ℕ) (zeros : List ℕ) → length zeros ≡ 32 → n ≤ 64 → n % 2 ≡ 0 → n ≡ 2 * length (take (n / 2) zeros)
room n zeros long small even = omega (arith, length-take (n / 2) zeros)
