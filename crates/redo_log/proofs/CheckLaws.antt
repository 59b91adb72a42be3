-- What a valid checkpoint says, and what is read of one that was made.
use Rattle.std.proofs.Common.{◌≡◌, ℕ, ◌+◌, ◌^◌, ◌<◌, ◌≤◌, Bool, true, false, nat_eq, nat_le, List, length, codes, Some, None, refl, sym, ap, ◌∙◌, arith, length-append}
use Rattle.std.proofs.lemmas.Slice.Eq.{bytes_eq-Decides}
use Rattle.std.specs.Str.{bytes_eq}
use Rattle.std.specs.Int.{to_be_bytes, w32}
use Rattle.std.proofs.lemmas.Option.{none-some, same_Some}
use Rattle.std.proofs.lemmas.Bool.{cond-true, cond-false, eq-eqb}
use Rattle.bytes_core.specs.Crc.{crc32c}
use Rattle.byte_list.specs.Bytes.{range}
use Rattle.byte_list.specs.Fields.{be64_at}
use Rattle.disk_model.specs.Crash.{torn_bytes}
use Rattle.page_places.specs.Texts.{ends_in_sum}
use Rattle.page_places.proofs.Sums.{and_left, and_right, and_both, torn_page}
use Rattle.store_image.specs.Checkpoint.{HeldCheckpoint, side_of}
use Rattle.store_files.specs.Checkpoint.{is_checkpoint, checkpoint_in, IsWritableCheckpoint}
use Rattle.store_files.proofs.CheckpointsWritten.{checkpoint_back, checkpoint_sum}
use Rattle.redo_log.specs.Check.{check_bytes}
use Rattle.redo_log.proofs.CheckParts.{check_front, check_sealed, length-check_front}
use Rattle.redo_log.proofs.SumLaws.{eq_of, le_of, of_le}

pub record IsCheck (i : ℕ) (b : List ℕ) : Type 0 where
  pub sums : ends_in_sum b ≡ true
  pub magic : range 0 8 b ≡ codes "KEYCHK01"
  pub at : i ≡ side_of (be64_at b 8)
  pub some : 1 ≤ be64_at b 8
  pub order : be64_at b 8 + 1 ≤ be64_at b 16
  pub most : be64_at b 16 ≤ 2 ^ 50

pub check_is : (i : ℕ) (b : List ℕ) → is_checkpoint i b ≡ true → IsCheck i b
unfolding is_checkpoint
check_is i b is =
    let a = and_right (ends_in_sum b) _ is in
    let c = and_right (bytes_eq (range 0 8 b) (codes "KEYCHK01")) _ a in
    let d = and_right (nat_eq i (side_of (be64_at b 8))) _ c in
    let e = and_right (nat_le 1 (be64_at b 8)) _ d in
    record {
      sums = and_left _ _ is;
      magic = (bytes_eq-Decides _ _).0 (and_left _ _ a);
      at = eq_of _ _ (and_left _ _ c);
      some = le_of _ _ (and_left _ _ d);
      order = le_of _ _ (and_left _ _ e);
      most = le_of _ _ (and_right (nat_le (be64_at b 8 + 1) (be64_at b 16)) _ e);
    }

pub is_check_of : (i : ℕ) (b : List ℕ) → IsCheck i b → is_checkpoint i b ≡ true
unfolding is_checkpoint
is_check_of i b is =
    and_both _ _ is.sums (and_both _ _ ((bytes_eq-Decides _ _).1 is.magic) (and_both _ _ (eq-eqb _ _ is.at) (and_both _ _ (of_le _ _ is.some) (and_both _ _ (of_le _ _ is.order) (of_le _ _ is.most)))))

pub checkpoint_some : (i : ℕ) (b : List ℕ) → is_checkpoint i b ≡ true → checkpoint_in i b ≡ Some (record { sequence = be64_at b 8; from = be64_at b 16 })
unfolding checkpoint_in
checkpoint_some i b is = cond-true (is_checkpoint i b) _ _ is

pub checkpoint_none : (i : ℕ) (b : List ℕ) → is_checkpoint i b ≡ false → checkpoint_in i b ≡ None
unfolding checkpoint_in
checkpoint_none i b is = cond-false (is_checkpoint i b) _ _ is

pub checkpoint_is : (i : ℕ) (b : List ℕ) (c : HeldCheckpoint) → checkpoint_in i b ≡ Some c → (is_checkpoint i b ≡ true) × (c.sequence ≡ be64_at b 8) × (c.from ≡ be64_at b 16)
checkpoint_is i b c is = by (is_checkpoint i b) refl
  where
    by : (t : Bool) → is_checkpoint i b ≡ t → (is_checkpoint i b ≡ true) × (c.sequence ≡ be64_at b 8) × (c.from ≡ be64_at b 16)
    by true e =
        let same : c ≡ record { sequence = be64_at b 8; from = be64_at b 16 } = same_Some _ _ (sym is ∙ checkpoint_some i b e) in
        (e, ap (λ (d : HeldCheckpoint). d.sequence) same, ap (λ (d : HeldCheckpoint). d.from) same)
    by false e = absurd (none-some c (sym (checkpoint_none i b e) ∙ is))

module _ (sequence from : ℕ) (some : 1 ≤ sequence) (order : sequence < from) (most : from ≤ 2 ^ 50) where
  abbrev c : HeldCheckpoint
  c = record { sequence = sequence; from = from }

  is : IsWritableCheckpoint c
  is = record { some = some; below = omega (arith, order); within = most }

  pub length-check : length (check_bytes sequence from) ≡ 4096
  length-check = ap length (check_sealed sequence from) ∙ length-append (check_front sequence from) (to_be_bytes w32 (crc32c (check_front sequence from))) ∙ omega (arith, length-check_front sequence from)

  pub made_check : checkpoint_in (side_of sequence) (check_bytes sequence from) ≡ Some (record { sequence = sequence; from = from })
  made_check = checkpoint_back c is

  -- and it is refused once its last byte is inverted
  pub torn_check : ends_in_sum (torn_bytes (check_bytes sequence from)) ≡ false
  torn_check = torn_page (check_bytes sequence from) (checkpoint_sum c is)
