-- A checkpoint that is written is read back, and refused once its last byte is inverted.
use Rattle.std.proofs.Common.{◌≡◌, ℕ, ◌+◌, ◌^◌, Bool, true, false, true≢false, nat_eq, nat_le, if◌then◌else◌, List, Some, None, refl, sym, ap, ◌∙◌, arith}
use Rattle.std.proofs.lemmas.Bool.Decides.{nat_tests}
use Rattle.std.proofs.lemmas.Slice.Eq.{bytes_eq-Decides}
use Rattle.std.specs.Prelude.{codes}
use Rattle.bytes_core.proofs.LastByte.{ends-append}
use Rattle.disk_model.specs.Crash.{torn_bytes}
use Rattle.byte_list.specs.Fields.{be64_at}
use Rattle.byte_list.specs.Bytes.{range}
use Rattle.byte_list.proofs.FieldLaws.{be64_at-written}
use Rattle.page_places.specs.Texts.{ends_in_sum}
use Rattle.page_places.proofs.Sums.{and_left, and_both, not_true, ends-ends_in_sum, torn_page}
use Rattle.store_image.specs.Checkpoint.{HeldCheckpoint, side_of}
use Rattle.store_files.specs.Checkpoint.{is_checkpoint, checkpoint_in, checkpoint_front, checkpoint_bytes, IsWritableCheckpoint}

checkpoint_ends : (i : ℕ) (b : List ℕ) → is_checkpoint i b ≡ true → ends_in_sum b ≡ true
unfolding is_checkpoint
checkpoint_ends i b valid = and_left _ _ valid

-- what doesn't end in its checksum is no checkpoint
pub no_checkpoint : (i : ℕ) (b : List ℕ) → ends_in_sum b ≡ false → checkpoint_in i b ≡ None
unfolding checkpoint_in
no_checkpoint i b isnt =
    ap (λ (v : Bool). if v then Some (record { sequence = be64_at b 8; from = be64_at b 16 }) else None) (not_true (is_checkpoint i b) (λ valid. true≢false (sym (checkpoint_ends i b valid) ∙ isnt)))

module _ (c : HeldCheckpoint) (is : IsWritableCheckpoint c) where
  abbrev b : List ℕ
  b = checkpoint_bytes c

  magic_is : range 0 8 b ≡ codes "KEYCHK01"
  unfolding checkpoint_bytes checkpoint_front
  magic_is = refl

  sequence_is : be64_at b 8 ≡ c.sequence
  unfolding checkpoint_bytes checkpoint_front
  sequence_is = be64_at-written _ 8 c.sequence refl (omega (arith, is.below, is.within))

  from_is : be64_at b 16 ≡ c.from
  unfolding checkpoint_bytes checkpoint_front
  from_is = be64_at-written _ 16 c.from refl (omega (arith, is.within))

  pub checkpoint_sum : ends_in_sum b ≡ true
  unfolding checkpoint_bytes
  checkpoint_sum = ends-ends_in_sum _ (ends-append (checkpoint_front c))

  is_valid : is_checkpoint (side_of c.sequence) b ≡ true
  unfolding is_checkpoint
  is_valid =
      let same : nat_eq (side_of c.sequence) (side_of c.sequence) ≡ true = grind (arith, nat_tests) in
      let some : nat_le 1 c.sequence ≡ true = let f = is.some in grind (arith, nat_tests) in
      let below : nat_le (c.sequence + 1) c.from ≡ true = let f = is.below in grind (arith, nat_tests) in
      let within : nat_le c.from (2 ^ 50) ≡ true = let f = is.within in grind (arith, nat_tests) in
      and_both _ _ checkpoint_sum (and_both _ _ ((bytes_eq-Decides _ _).1 magic_is) (and_both _ _ (ap (λ (n : ℕ). nat_eq (side_of c.sequence) (side_of n)) sequence_is ∙ same)
      (and_both _ _ (ap (λ (n : ℕ). nat_le 1 n) sequence_is ∙ some) (and_both _ _ ((λ i. nat_le (sequence_is i + 1) (from_is i)) ∙ below) (ap (λ (n : ℕ). nat_le n (2 ^ 50)) from_is ∙ within)))))

  -- a checkpoint that is written is read back where those of its sequence stand
  pub checkpoint_back : checkpoint_in (side_of c.sequence) b ≡ Some c
  unfolding checkpoint_in
  checkpoint_back = ap (λ (v : Bool). if v then Some (record { sequence = be64_at b 8; from = be64_at b 16 }) else None) is_valid ∙ (λ i. Some (record { sequence = sequence_is i; from = from_is i }))

  -- and is no checkpoint once its last byte is inverted
  pub checkpoint_torn : (i : ℕ) → checkpoint_in i (torn_bytes b) ≡ None
  checkpoint_torn i = no_checkpoint i (torn_bytes b) (torn_page b checkpoint_sum)
