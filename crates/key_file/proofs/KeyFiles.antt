-- What the definition of a plain key file rules out: a map without id 1, an id out of range, a key of
-- another length.
use Rattle.std.proofs.Common.{◌≡◌, ℕ, ◌+◌, ◌*◌, ◌%◌, ◌<◌, Bool, true, false, not, cond, ◌==◌, eqb, List, [], ◌∷◌, length, drop, Option, Some, None, IsSome, Result, Ok, Err, refl, sym, ap, ◌∙◌, subst, arith, inl, inr, ◌⊎◌}
use Rattle.std.specs.Option.{is_some}
use Rattle.std.specs.Ordering.{nat_cmp}
use Rattle.std.specs.Result.{result_unwrap_or}
use Rattle.std.specs.List.{AllPass, prefix_len, take_while}
use Rattle.std.specs.BTreeMap.{BTreeMap, IsOrdered, get}
use Rattle.std.proofs.lemmas.List.{get_or-take, length-take}
use Rattle.std.proofs.lemmas.List.Sums.{prefix_len_passes}
use Rattle.hex.specs.Hex.{is_hex_digit}
use Rattle.hex.proofs.HexLemmas.{decode_of-digits, decode_of-ok}
use Rattle.aes_core.specs.Cipher.{IsKeyLength}
use Rattle.key_file.specs.declared.fault.KeyFault.{KeyFault}
use Rattle.key_file.specs.declared.fault.KeyFault.TheVariants.{NoDigits, IdRange, NoSemicolon, KeyLength}
use Rattle.key_file.specs.declared.keys.KeyItem.{KeyItem}
use Rattle.key_file.specs.Line.{IsId, after_id, begins_with, digits_of, hex_of, id_of, is_skipped, is_id, is_key_digits, line_key, line_says}
use Rattle.key_file.specs.Plain.{ReadsPlain, first_some, key_for, key_in, last_key, lines_of}
use Rattle.key_file.specs.Gathered.{IsGathered, items_of}
use Rattle.key_file.proofs.Gathering.{ascending_items, key_in-items_of}

-- ---- one line

take_while-AllPass : (p : ℕ → Bool) (xs : List ℕ) → AllPass p (take_while p xs)
take_while-AllPass p xs k d h =
    let within : k < prefix_len p xs = omega (arith, length-take (prefix_len p xs) xs, h) in
    rw get_or-take (prefix_len_passes p xs k d within)

id_in_range : (id : ℕ) → is_id id ≡ true → IsId id
id_in_range id h = grind arith

digits_cases : (n : ℕ) → is_key_digits n ≡ true → (n ≡ 32) ⊎ (n ≡ 48) ⊎ (n ≡ 64)
digits_cases n h = grind arith

even_of : (n : ℕ) → (n ≡ 32) ⊎ (n ≡ 48) ⊎ (n ≡ 64) → n % 2 ≡ 0
even_of n h = omega arith

half_of : (n m : ℕ) → (n ≡ 32) ⊎ (n ≡ 48) ⊎ (n ≡ 64) → n ≡ 2 * m → IsKeyLength m
half_of n m (inl e) h = inl (omega arith)
half_of n m (inr (inl e)) h = inr (inl (omega arith))
half_of n m (inr (inr e)) h = inr (inr (omega arith))

-- the bytes of 32, 48 or 64 hex digits are a key
key_length : (line : List ℕ) → is_key_digits (length (hex_of line)) ≡ true → IsKeyLength (length (line_key line))
key_length line h =
    let long = digits_cases (length (hex_of line)) h in
    let bytes = decode_of-digits (hex_of line) (even_of (length (hex_of line)) long) (take_while-AllPass is_hex_digit (drop 1 (after_id line))) in
    let sized = decode_of-ok (hex_of line) bytes.0 bytes.1 in
    let same : line_key line ≡ bytes.0 = ap (λ r. result_unwrap_or r []) bytes.1 in
    subst (λ (key : List ℕ). IsKeyLength (length key)) (sym same) (half_of (length (hex_of line)) (length bytes.0) long sized.2)

-- where five tests lead to a key
key_reached : (b1 b2 b3 b4 b5 : Bool) (e2 e3 e4 e5 : KeyFault) (found item : KeyItem)
    → cond b1 (Ok None) (cond b2 (Err e2) (cond (not b3) (Err e3) (cond (not b4) (Err e4) (cond (not b5) (Err e5) (Ok (Some found)))))) ≡ Ok (Some item)
    → (b3 ≡ true) × (b5 ≡ true) × (found ≡ item)
key_reached true b2 b3 b4 b5 e2 e3 e4 e5 found item h = cc
key_reached false true b3 b4 b5 e2 e3 e4 e5 found item h = cc
key_reached false false false b4 b5 e2 e3 e4 e5 found item h = cc
key_reached false false true false b5 e2 e3 e4 e5 found item h = cc
key_reached false false true true false e2 e3 e4 e5 found item h = cc
key_reached false false true true true e2 e3 e4 e5 found item h = (refl, refl, cc)

-- an id and its key
abbrev IsKeyOf : ℕ → List ℕ → Type 0
IsKeyOf id key = IsId id × IsKeyLength (length key)

says_key : (n : ℕ) (line : List ℕ) (item : KeyItem) → line_says n line ≡ Ok (Some item) → IsKeyOf item.id item.key
says_key n line item h =
    let reached = key_reached (is_skipped line) (length (digits_of line) == 0) (is_id (id_of line)) (begins_with 59 (after_id line)) (is_key_digits (length (hex_of line)))
    (NoDigits n) (IdRange n) (NoSemicolon n) (KeyLength n (length (hex_of line))) (record { id = id_of line; key = line_key line }) item h in
    subst (λ (i : KeyItem). IsKeyOf i.id i.key) reached.2 (id_in_range (id_of line) reached.0, key_length line reached.1)

-- ---- all lines

named : (id : ℕ) (key : List ℕ) (item : KeyItem) (b : Bool) → b ≡ eqb item.id id → cond b (Some item.key) None ≡ Some key → (item.id ≡ id) × (item.key ≡ key)
named id key item true t h = (grind arith, cc)
named id key item false t h = cc

key_for_is : (n id : ℕ) (key line : List ℕ) (r : Result (Option KeyItem) KeyFault) → line_says n line ≡ r → key_for id r ≡ Some key → IsKeyOf id key
key_for_is n id key line (Err e) s h = cc
key_for_is n id key line (Ok None) s h = cc
key_for_is n id key line (Ok (Some item)) s h =
    let same = named id key item (eqb item.id id) refl h in
    subst (λ (i : ℕ). IsKeyOf i key) same.0 (subst (λ (k : List ℕ). IsKeyOf item.id k) same.1 (says_key n line item s))

last_of : (n id : ℕ) (key line : List ℕ) (later : Option (List ℕ)) → ((k : List ℕ) → later ≡ Some k → IsKeyOf id k)
    → first_some later (key_for id (line_says n line)) ≡ Some key → IsKeyOf id key
last_of n id key line (Some x) below h = below key h
last_of n id key line None below h = key_for_is n id key line (line_says n line) refl h

last_key_is : (n : ℕ) (lines : List (List ℕ)) (id : ℕ) (key : List ℕ) → last_key n lines id ≡ Some key → IsKeyOf id key
last_key_is n [] id key h = cc
last_key_is n (line ∷ lines) id key h = last_of n id key line (last_key (n + 1) lines id) (λ k e. last_key_is (n + 1) lines id k e) h

-- ---- the definition

pub reads_key_one : (bytes : List ℕ) (keys : List KeyItem) → ReadsPlain bytes (Ok keys) → IsSome (key_in keys 1)
reads_key_one bytes keys r = subst IsSome (sym (r.2.keys_are 1)) r.1

pub reads_keys : (bytes : List ℕ) (keys : List KeyItem) → ReadsPlain bytes (Ok keys) → (id : ℕ) (key : List ℕ) → key_in keys id ≡ Some key → IsKeyOf id key
reads_keys bytes keys r id key h = last_key_is 1 (lines_of bytes) id key (sym (r.2.keys_are id) ∙ h)

-- the keys that are gathered are what the definition relates
pub gathered_reads : (bytes : List ℕ) (m : BTreeMap ℕ (List ℕ)) → IsGathered (lines_of bytes) m → IsOrdered nat_cmp m → true ≡ is_some (get nat_cmp m 1)
    → (items : List KeyItem) → items ≡ items_of m.entries → ReadsPlain bytes (Ok items)
gathered_reads bytes m gathered ordered one items e = subst (λ (keys : List KeyItem). ReadsPlain bytes (Ok keys)) (sym e) (
  gathered.no_fault,
  subst IsSome (gathered.keys_are 1) (sym one),
  record {
    ascending = ascending_items m ordered;
    keys_are = λ id. key_in-items_of m.entries id ∙ gathered.keys_are id;
  },
)
