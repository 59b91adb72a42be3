-- The limits of a checkpoint that is read.
use Rattle.std.proofs.Common.{◌≡◌, ℕ, ◌+◌, ◌^◌, ◌≤◌, Bool, true, false, nat_eq, nat_le, if◌then◌else◌, List, Some, None, refl, subst, arith}
use Rattle.std.specs.Prelude.{codes}
use Rattle.std.specs.Str.{bytes_eq}
use Rattle.std.proofs.lemmas.Bool.Decides.{nat_tests}
use Rattle.std.proofs.lemmas.Option.{same_Some}
use Rattle.byte_list.specs.Bytes.{range}
use Rattle.byte_list.specs.Fields.{be64_at}
use Rattle.page_places.specs.Texts.{ends_in_sum}
use Rattle.page_places.proofs.Sums.{and_left, and_right}
use Rattle.store_image.specs.Checkpoint.{HeldCheckpoint, side_of}
use Rattle.store_files.specs.Checkpoint.{checkpoint_in, is_checkpoint}

from_tested : (i : ℕ) (b : List ℕ) → is_checkpoint i b ≡ true → (2 ≤ be64_at b 16) × (be64_at b 16 ≤ 2 ^ 50)
unfolding is_checkpoint
from_tested i b is =
    let rest = and_right (nat_eq i (side_of (be64_at b 8))) _ (and_right (bytes_eq (range 0 8 b) (codes "KEYCHK01")) _ (and_right (ends_in_sum b) _ is)) in
    let some : nat_le 1 (be64_at b 8) ≡ true = and_left _ _ rest in
    let last = and_right (nat_le 1 (be64_at b 8)) _ rest in
    let below : nat_le (be64_at b 8 + 1) (be64_at b 16) ≡ true = and_left _ _ last in
    let within : nat_le (be64_at b 16) (2 ^ 50) ≡ true = and_right (nat_le (be64_at b 8 + 1) (be64_at b 16)) _ last in
    let a : 1 ≤ be64_at b 8 = grind (arith, nat_tests) in
    let c : be64_at b 8 + 1 ≤ be64_at b 16 = grind (arith, nat_tests) in
    (omega (arith, a, c), grind (arith, nat_tests))

-- a run begins with a block from 2 up to 2 ^ 50
pub from_bounds : (i : ℕ) (b : List ℕ) (c : HeldCheckpoint) → checkpoint_in i b ≡ Some c → (2 ≤ c.from) × (c.from ≤ 2 ^ 50)
unfolding checkpoint_in
from_bounds i b c is = by (is_checkpoint i b) refl is
  where
    by : (t : Bool) → is_checkpoint i b ≡ t → (if t then Some (record { sequence = be64_at b 8; from = be64_at b 16 }) else None) ≡ Some c → (2 ≤ c.from) × (c.from ≤ 2 ^ 50)
    by true valid e = subst (λ (d : HeldCheckpoint). (2 ≤ d.from) × (d.from ≤ 2 ^ 50)) (same_Some (record { sequence = be64_at b 8; from = be64_at b 16 }) c e) (from_tested i b valid)
    by false valid e = absurd cc
