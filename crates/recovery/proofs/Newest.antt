-- The newer of the two checkpoints of a log.
use Rattle.std.proofs.Common.{◌≡◌, ℕ, ◌<◌, ◌≤◌, Bool, true, false, nat_lt, if◌then◌else◌, List, Option, Some, None, refl, sym, ap, subst, ◌∙◌, ◌+◌, arith}
use Rattle.std.specs.Prelude.{IfSome, IfNone, ◌^◌}
use Rattle.redo_log.proofs.CheckLaws.{check_is}
use Rattle.std.proofs.lemmas.Bool.Decides.{nat_tests}
use Rattle.std.proofs.lemmas.Option.{same_Some, none-some}
use Rattle.byte_list.specs.Fields.{be64_at}
use Rattle.places.specs.Places.{place}
use Rattle.redo_log.specs.declared.reading.Checkpoint.{Checkpoint}
use Rattle.store_image.specs.Checkpoint.{HeldCheckpoint}
use Rattle.store_files.specs.Checkpoint.{checkpoint_in, is_checkpoint, IsNewestCheckpoint, IsWritableCheckpoint}
use Rattle.image_log.proofs.Checkpoints.{newest_first, newest_second, none_newest}
use Rattle.recovery.specs.Stages.{checkpoint_said, newer_of}

-- what a valid checkpoint says can be written
pub writable_read : (i : ℕ) (b : List ℕ) (c : HeldCheckpoint) → checkpoint_in i b ≡ Some c → IsWritableCheckpoint c
unfolding checkpoint_in
writable_read i b c is = by (is_checkpoint i b) refl is
  where
    by : (t : Bool) → is_checkpoint i b ≡ t → (if t then Some (record { sequence = be64_at b 8; from = be64_at b 16 }) else None) ≡ Some c → IsWritableCheckpoint c
    by true valid e =
        let k = check_is i b valid in
        subst IsWritableCheckpoint (same_Some (record { sequence = be64_at b 8; from = be64_at b 16 }) c e) (record { some = k.some; below = let o = k.order in omega (arith, o); within = k.most })
    by false valid e = absurd cc

-- what is so of both is so of the newer
pub newer_keeps : (P : Checkpoint → Type 0) (a b : Option Checkpoint) → IfSome a P → IfSome b P → IfSome (newer_of a b) P
newer_keeps P None b first second = second
newer_keeps P (Some a) None first second = first
newer_keeps P (Some a) (Some b) first second = by (nat_lt a.sequence b.sequence)
  where
    by : (t : Bool) → IfSome (if t then Some b else Some a) P
    by true = second
    by false = first

pub some_writable : (i : ℕ) (b : List ℕ) (o : Option Checkpoint) → IfSome o (λ c. checkpoint_in i b ≡ Some (checkpoint_said c)) → IfSome o (λ c. IsWritableCheckpoint (checkpoint_said c))
some_writable i b None is = tt
some_writable i b (Some c) is = writable_read i b (checkpoint_said c) is

module _ (file : List ℕ) where
  abbrev at : ℕ → Option HeldCheckpoint
  at i = checkpoint_in i (place 4096 i file)

  -- what a block was read as
  abbrev pub IsReadAt : ℕ → Option Checkpoint → Type 0
  IsReadAt i None = at i ≡ None
  IsReadAt i (Some c) = at i ≡ Some (checkpoint_said c)

  pub read_at : (i : ℕ) (block : List ℕ) (o : Option Checkpoint) → block ≡ place 4096 i file → IfSome o (λ c. checkpoint_in i block ≡ Some (checkpoint_said c)) → IfNone o (checkpoint_in i block ≡ None) → IsReadAt i o
  read_at i block None is some none = ap (checkpoint_in i) (sym is) ∙ none
  read_at i block (Some c) is some none = ap (checkpoint_in i) (sym is) ∙ some

  -- the newest checkpoint, or that there is none
  abbrev pub IsNewestOr : Option Checkpoint → Type 0
  IsNewestOr None = (c : HeldCheckpoint) → IsNewestCheckpoint file c → ⊥
  IsNewestOr (Some c) = IsNewestCheckpoint file (checkpoint_said c)

  one : (i : ℕ) (c d : HeldCheckpoint) → at i ≡ Some c → at i ≡ Some d → d.sequence ≡ c.sequence
  one i c d a b = ap (λ (x : HeldCheckpoint). x.sequence) (same_Some d c (sym b ∙ a))

  pub newest_of : (a b : Option Checkpoint) → IsReadAt 1 a → IsReadAt 2 b → IsNewestOr (newer_of a b)
  newest_of None None first second = none_newest file first second
  newest_of None (Some b) first second = newest_second file (checkpoint_said b) second (λ d there. absurd (none-some d (sym first ∙ there)))
  newest_of (Some a) None first second = newest_first file (checkpoint_said a) first (λ d there. absurd (none-some d (sym second ∙ there)))
  newest_of (Some a) (Some b) first second = by (nat_lt a.sequence b.sequence) refl
    where
      by : (t : Bool) → nat_lt a.sequence b.sequence ≡ t → IsNewestOr (if t then Some b else Some a)
      by true lt = let less : a.sequence < b.sequence = grind (arith, nat_tests) in
          newest_second file (checkpoint_said b) second (λ d there. let s = one 1 (checkpoint_said a) d first there in omega (arith, s, less))
      by false lt = let more : b.sequence ≤ a.sequence = grind (arith, nat_tests) in
          newest_first file (checkpoint_said a) first (λ d there. let s = one 2 (checkpoint_said b) d second there in omega (arith, s, more))
