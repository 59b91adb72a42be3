-- No text of a change begins another change's text: what a text begins with is read off it.
use Rattle.std.proofs.Common.{◌≡◌, ℕ, ◌+◌, ◌<◌, ◌≤◌, ◌^◌, ◌==◌, List, [], ◌∷◌, ◌++◌, length, take, drop, get_or, refl, sym, ap, ◌∙◌, arith}
use Rattle.std.specs.Prelude.{if◌then◌else◌}
use Rattle.std.specs.Int.{from_be_bytes, to_be_bytes, w32}
use Rattle.std.proofs.lemmas.List.{drop_at, take_at}
use Rattle.std.proofs.lemmas.Nat.{from_be_bytes-to_be_bytes_2, from_be_bytes-to_be_bytes_4}
use Rattle.byte_list.specs.Fields.{be16_at, be32_at}
use Rattle.redo_text.specs.declared.change.Change.{Change}
use Rattle.redo_text.specs.declared.change.Change.TheVariants.{Put, Kind, Touch, Floor, Encrypt}
use Rattle.redo_text.specs.Text.{change_text, text_of, IsAllowed, AreAllowed}
use Rattle.redo_text.specs.Changes.{Begins}

-- the change that a text begins with, if it begins with one
unfoldable pub first_change : List ℕ → Change
first_change xs =
    if get_or xs 0 0 == 1 then Put (be32_at xs 1) (be32_at xs 5) (be32_at xs 9) (take (be32_at xs 13) (drop 17 xs))
    else if get_or xs 0 0 == 2 then Kind (be32_at xs 1) (be32_at xs 5) (be16_at xs 9)
    else if get_or xs 0 0 == 3 then Touch (be32_at xs 1) (be32_at xs 5)
    else if get_or xs 0 0 == 4 then Floor (be32_at xs 1) (be32_at xs 5)
    else Encrypt (be32_at xs 1)

-- and the rest of the text behind it
unfoldable pub first_rest : List ℕ → List ℕ
first_rest xs =
    if get_or xs 0 0 == 1 then drop (be32_at xs 13) (drop 17 xs)
    else if get_or xs 0 0 == 2 then drop 11 xs
    else if get_or xs 0 0 == 3 then drop 9 xs
    else if get_or xs 0 0 == 4 then drop 9 xs
    else drop 5 xs

read_4 : (n : ℕ) → n < 2 ^ 32 → from_be_bytes w32 (to_be_bytes w32 n) ≡ n
read_4 n h = from_be_bytes-to_be_bytes_4 n h

size_fits : (at size : ℕ) → at + size ≤ 16376 → size < 2 ^ 32
size_fits at size h = omega arith

pub first-change : (c : Change) (rest : List ℕ) → IsAllowed c → first_change (change_text c ++ rest) ≡ c
unfolding be16_at be32_at first_change
first-change (Put space page at bytes) rest (s, some, p, range) =
    let n : ℕ = length bytes in
    let size = read_4 n (size_fits at n range.to) in
    (λ i. Put (read_4 space s i) (read_4 page p i) (read_4 at (omega (arith, range.to)) i) (take (size i) (bytes ++ rest))) ∙ ap (Put space page at) (take_at bytes rest n refl)
first-change (Kind space page kind) rest (s, some, p, k, not_8, not_9) = λ i. Kind (read_4 space s i) (read_4 page p i) (from_be_bytes-to_be_bytes_2 kind k i)
first-change (Touch space page) rest (s, p) = λ i. Touch (read_4 space s i) (read_4 page p i)
first-change (Floor space version) rest (s, v) = λ i. Floor (read_4 space s i) (read_4 version v i)
first-change (Encrypt space) rest s = ap Encrypt (read_4 space s)

pub first-rest : (c : Change) (rest : List ℕ) → IsAllowed c → first_rest (change_text c ++ rest) ≡ rest
unfolding be16_at be32_at first_rest
first-rest (Put space page at bytes) rest (s, some, p, range) =
    let n : ℕ = length bytes in
    ap (λ (m : ℕ). drop m (bytes ++ rest)) (read_4 n (size_fits at n range.to)) ∙ drop_at bytes rest n refl
first-rest (Kind space page kind) rest a = refl
first-rest (Touch space page) rest a = refl
first-rest (Floor space version) rest a = refl
first-rest (Encrypt space) rest a = refl

-- what a text begins with
pub begins-change : (text : List ℕ) (c : Change) (rest : List ℕ) → Begins text c rest → c ≡ first_change text
begins-change text c rest b = sym (first-change c rest b.allowed) ∙ ap first_change (sym b.is)

pub begins-rest : (text : List ℕ) (c : Change) (rest : List ℕ) → Begins text c rest → rest ≡ first_rest text
begins-rest text c rest b = sym (first-rest c rest b.allowed) ∙ ap first_rest (sym b.is)

-- No text of a change begins another change's text.
pub one_change : (text : List ℕ) (c d : Change) (r s : List ℕ) → Begins text c r → Begins text d s → c ≡ d
one_change text c d r s b e = begins-change text c r b ∙ sym (begins-change text d s e)

pub one_rest : (text : List ℕ) (c d : Change) (r s : List ℕ) → Begins text c r → Begins text d s → r ≡ s
one_rest text c d r s b e = begins-rest text c r b ∙ sym (begins-rest text d s e)

pub change_some : (c : Change) (rest : List ℕ) → change_text c ++ rest ≡ [] → ⊥
change_some (Put space page at bytes) rest e = absurd (omega (arith, ap length e))
change_some (Kind space page kind) rest e = absurd (omega (arith, ap length e))
change_some (Touch space page) rest e = absurd (omega (arith, ap length e))
change_some (Floor space version) rest e = absurd (omega (arith, ap length e))
change_some (Encrypt space) rest e = absurd (omega (arith, ap length e))

-- A text determines its list of changes.
pub one_list : (cs ds : List Change) → AreAllowed cs → AreAllowed ds → text_of cs ≡ text_of ds → cs ≡ ds
one_list [] [] a b e = refl
one_list [] (d ∷ ds) a b e = absurd (change_some d (text_of ds) (sym e))
one_list (c ∷ cs) [] a b e = absurd (change_some c (text_of cs) e)
one_list (c ∷ cs) (d ∷ ds) (ac, acs) (ad, ads) e =
    let text : List ℕ = text_of (d ∷ ds) in
    let left : Begins text c (text_of cs) = record { allowed = ac; is = sym e } in
    let right : Begins text d (text_of ds) = record { allowed = ad; is = refl } in
    λ i. one_change text c d (text_of cs) (text_of ds) left right i ∷ one_list cs ds acs ads (one_rest text c d (text_of cs) (text_of ds) left right) i
