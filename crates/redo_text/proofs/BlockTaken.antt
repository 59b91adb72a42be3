-- Which blocks are taken: those of a mini-transaction, and none whose last byte was inverted.
use Rattle.std.proofs.Common.{◌≡◌, ◌≢◌, ℕ, ◌-◌, ◌<◌, ◌≤◌, ◌^◌, Bool, true, false, List, length, take, drop, refl, sym, ap, subst, ◌∙◌, arith, length-drop, ⊎_elim}
use Rattle.std.specs.Prelude.{eqb, leb, Result, Ok, Err, IsErrAnd}
use Rattle.std.specs.Int.{from_be_bytes, w32}
use Rattle.std.proofs.lemmas.Bool.{eq-eqb, le-leb, ne_eqb}
use Rattle.std.proofs.lemmas.Bool.Decides.{eqb_tells}
use Rattle.std.proofs.lemmas.List.{length-set, take_all}
use Rattle.byte_list.specs.Bytes.{AreBytes}
use Rattle.byte_list.specs.Fields.{be32_at}
use Rattle.bytes_core.specs.Crc.{crc32c}
use Rattle.bytes_core.specs.LastByte.{EndsInCrc32c, last_inverted}
use Rattle.bytes_core.proofs.LastByte.{inverted-not_ends, stored-ends}
use Rattle.redo_text.specs.declared.fault.BlockFault.{BlockFault}
use Rattle.redo_text.specs.declared.fault.BlockFault.TheVariants.{BadBlock, BadHead}
use Rattle.redo_text.specs.declared.key.RedoKey.{RedoKey}
use Rattle.redo_text.specs.Block.{flags, ring_block}
use Rattle.redo_text.specs.Reading.{computed_block_sum, fits_used, block_flags, is_first, is_last, number_of, reading, stored_block_sum, used_of, block_version}
use Rattle.redo_text.proofs.BlockFields.{first-flags, flags_is, last-flags, number_is, sum_is, used_is, version_is}

-- a block in which nothing is wrong
reading_ok : (number : ℕ) (o : List ℕ) → stored_block_sum o ≡ computed_block_sum o → number_of o ≡ number → 1 ≤ block_version o
    → fits_used (used_of o) (block_flags o) ≡ true → leb (block_flags o) 3 ≡ true → reading number o ≡ Ok tt
unfolding reading
reading_ok number o sum is version used bits =
    rw (eq-eqb (stored_block_sum o) (computed_block_sum o) sum, eq-eqb (number_of o) number is, ne_eqb (block_version o) 0 (λ e. absurd (omega (arith, e, version))), used, bits) refl

fits : (used : ℕ) (first last : Bool) → 1 ≤ used → used ≤ 4076 → (last ≡ false → used ≡ 4076) → fits_used used (flags first last) ≡ true
unfolding fits_used
fits used false true some most whole = rw (le-leb 1 used some, le-leb used 4076 most) refl
fits used true true some most whole = rw (le-leb 1 used some, le-leb used 4076 most) refl
fits used false false some most whole = rw (le-leb 1 used some, le-leb used 4076 most, eq-eqb used 4076 (whole refl)) refl
fits used true false some most whole = rw (le-leb 1 used some, le-leb used 4076 most, eq-eqb used 4076 (whole refl)) refl

two_bits : (first last : Bool) → leb (flags first last) 3 ≡ true
two_bits false false = refl
two_bits false true = refl
two_bits true false = refl
two_bits true true = refl

module _ (key : RedoKey) (number : ℕ) (first last : Bool) (text o : List ℕ) (long : length o ≡ 4096) (is : o ≡ ring_block key number first last text) (small : number < 2 ^ 64) (some : 1 ≤ key.version) (version : key.version < 2 ^ 32) (least : 1 ≤ length text) (most : length text ≤ 4076) (whole : last ≡ false → length text ≡ 4076) where
  -- a block of a mini-transaction
  pub taken : (reading number o ≡ Ok tt) × (block_version o ≡ key.version) × (used_of o ≡ length text) × (is_first (block_flags o) ≡ first) × (is_last (block_flags o) ≡ last)
  taken =
      let v = version_is key number first last text o long is version in
      let u = used_is key number first last text o long is most in
      let f = flags_is key number first last text o long is in (
        reading_ok number o (sum_is key number first last text o long is) (number_is key number first last text o long is small) (omega (arith, v, some))
            ((λ i. fits_used (u i) (f i)) ∙ fits (length text) first last least most whole) (ap (λ (n : ℕ). leb n 3) f ∙ two_bits first last),
        v,
        u,
        ap is_first f ∙ first-flags first last,
        ap is_last f ∙ last-flags first last,
      )

-- what is wrong first where the checksum is
pub reading_bad : (number : ℕ) (o : List ℕ) → stored_block_sum o ≢ computed_block_sum o → reading number o ≡ Err (BadBlock (stored_block_sum o) (computed_block_sum o))
unfolding reading
reading_bad number o differ = rw (ne_eqb (stored_block_sum o) (computed_block_sum o) differ) refl

-- a block that is taken sum_ends in its checksum
pub reading_sum : (number : ℕ) (o : List ℕ) → reading number o ≡ Ok tt → stored_block_sum o ≡ computed_block_sum o
reading_sum number o ok =
    ⊎_elim (λ (yes : (eqb (stored_block_sum o) (computed_block_sum o) ≡ true) × (stored_block_sum o ≡ computed_block_sum o)). yes.1)
    (λ (no : (eqb (stored_block_sum o) (computed_block_sum o) ≡ false) × (stored_block_sum o ≢ computed_block_sum o)). let bad : Ok tt ≡ Err (BadBlock (stored_block_sum o) (computed_block_sum o)) = sym ok ∙ reading_bad number o no.1 in absurd cc) (eqb_tells (stored_block_sum o) (computed_block_sum o))

pub sum_ends : (o : List ℕ) → length o ≡ 4096 → AreBytes o → stored_block_sum o ≡ computed_block_sum o → EndsInCrc32c o
unfolding be32_at
sum_ends o long are sum =
    let end : length o - 4 ≡ 4092 = omega (arith, long) in
    let four : take 4 (drop 4092 o) ≡ drop 4092 o = take_all 4 (drop 4092 o) (omega (arith, length-drop 4092 o, long)) in
    stored-ends o (omega (arith, long)) are
    (ap (λ (n : ℕ). from_be_bytes w32 (drop n o)) end ∙ ap (from_be_bytes w32) (sym four) ∙ sum ∙ ap (λ (n : ℕ). crc32c (take n o)) (sym end))

-- A block whose last byte was inverted isn't taken.
pub torn : (whole o : List ℕ) → length o ≡ 4096 → AreBytes o → AreBytes whole → o ≡ last_inverted whole → stored_block_sum whole ≡ computed_block_sum whole → stored_block_sum o ≢ computed_block_sum o
torn whole o long are bytes is sum same =
    let size : length whole ≡ 4096 = sym (length-set whole (length whole - 1) _) ∙ sym (ap length is) ∙ long in
    inverted-not_ends whole (sum_ends whole size bytes sum) (subst EndsInCrc32c is (sum_ends o long are same))

abbrev fault_of : Result (Unit {0}) BlockFault → BlockFault
fault_of (Ok u) = BadHead 0
fault_of (Err e) = e

-- a fault that is handed on
pub handed : {A : Type 0} (r : Result A BlockFault) (e f : BlockFault) → IsErrAnd r (λ x. x ≡ e) → ◌≡◌ {A = Result (Unit {0}) BlockFault} (Err e) (Err f) → IsErrAnd r (λ x. x ≡ f)
handed (Ok x) e f is same = is
handed (Err x) e f is same = is ∙ ap fault_of same
