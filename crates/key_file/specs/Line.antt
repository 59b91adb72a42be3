-- A line of a plain key file: blanks, an id in decimal digits, a semicolon, a key in hex digits. What
-- follows is ignored.
use Rattle.std.specs.Prelude.{◌≡◌, ℕ, ◌≤◌, ◌==◌, nat_le, ◌&&◌, ◌||◌, if◌then◌else◌, Bool, false, not, ◌⊎◌, List, [], ◌∷◌, length, drop, Option, Some, None, Result, Ok, Err}
use Rattle.std.specs.Char.{is_ascii_digit}
use Rattle.std.specs.List.{prefix_len, take_while}
use Rattle.std.specs.Result.{result_unwrap_or}
use Rattle.std.specs.Str.Parse.{digits_value}
use Rattle.hex.specs.Hex.{decode_of, is_hex_digit}
use Rattle.key_file.specs.declared.fault.KeyFault.{KeyFault}
use Rattle.key_file.specs.declared.fault.KeyFault.TheVariants.{NoDigits, IdRange, NoSemicolon, KeyLength}
use Rattle.key_file.specs.declared.keys.KeyItem.{KeyItem}

-- a space, a tab or a carriage return
abbrev pub is_blank : ℕ → Bool
is_blank b = b == 32 || b == 9 || b == 13

-- the list without its longest front that passes
abbrev pub drop_while : (ℕ → Bool) → List ℕ → List ℕ
drop_while p s = drop (prefix_len p s) s

-- ---- the parts of a line

-- the line past its leading blanks
abbrev pub line_text : List ℕ → List ℕ
line_text line = drop_while is_blank line

-- whether the list begins with the byte
abbrev pub begins_with : ℕ → List ℕ → Bool
begins_with b [] = false
begins_with b (c ∷ cs) = c == b

-- an empty line, or a comment
abbrev pub is_skipped : List ℕ → Bool
is_skipped line = length (line_text line) == 0 || begins_with 35 (line_text line)

-- the digits of the id
abbrev pub digits_of : List ℕ → List ℕ
digits_of line = take_while is_ascii_digit (line_text line)

-- the number that they spell
abbrev pub id_of : List ℕ → ℕ
id_of line = digits_value 10 (digits_of line)

-- what follows the digits of the id
abbrev pub after_id : List ℕ → List ℕ
after_id line = drop_while is_ascii_digit (line_text line)

-- the longest run of hex digits after the semicolon
abbrev pub hex_of : List ℕ → List ℕ
hex_of line = take_while is_hex_digit (drop 1 (after_id line))

-- the bytes that they spell
abbrev pub line_key : List ℕ → List ℕ
line_key line = result_unwrap_or (decode_of (hex_of line)) []

-- ---- what a line says

abbrev pub is_id : ℕ → Bool
is_id id = nat_le 1 id && nat_le id 4294967295

-- the numbers of digits that keys of 16, 24 and 32 bytes have
abbrev pub is_key_digits : ℕ → Bool
is_key_digits n = n == 32 || n == 48 || n == 64

-- the line of number n says nothing, is refused for the first of four reasons, or names a key
abbrev pub line_says : ℕ → List ℕ → Result (Option KeyItem) KeyFault
line_says n line =
    if is_skipped line then Ok None
    else if length (digits_of line) == 0 then Err (NoDigits n)
    else if not (is_id (id_of line)) then Err (IdRange n)
    else if not (begins_with 59 (after_id line)) then Err (NoSemicolon n)
    else if not (is_key_digits (length (hex_of line))) then Err (KeyLength n (length (hex_of line)))
    else Ok (Some (record { id = id_of line; key = line_key line }))

-- ---- the same as facts

abbrev pub IsId : ℕ → Type 0
IsId id = (1 ≤ id) × (id ≤ 4294967295)

abbrev pub IsKeyDigits : ℕ → Type 0
IsKeyDigits n = (n ≡ 32) ⊎ (n ≡ 48) ⊎ (n ≡ 64)
