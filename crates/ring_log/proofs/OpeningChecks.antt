-- The checkpoint of an opening: while it is written each lucky image has the log that was found, or the one behind it; once it is synced, the one behind it.
use Rattle.std.proofs.Common.{◌≡◌, ◌≢◌, ℕ, ◌+◌, ◌%◌, ◌<◌, ◌≤◌, ◌⊎◌, inl, inr, ⊎_elim, Bool, true, false, true≢false, List, Option, Some, None, refl, sym, ap, subst, ◌∙◌, arith}
use Rattle.std.proofs.lemmas.Bool.{cases_eq}
use Rattle.std.proofs.lemmas.Option.{none-some, same_Some}
use Rattle.disk_model.specs.Event.{Event, reads}
use Rattle.disk_model.specs.Image.{Image, IsImage, IsLucky}
use Rattle.disk_model.specs.declared.names.FileName.{FileName}
use Rattle.disk_model.specs.declared.names.FileName.TheVariants.{Log}
use Rattle.places.specs.Places.{place, shown, May, IsWritten}
use Rattle.places.specs.Batches.{Writing, BatchSettled, Could, IsOneOf}
use Rattle.store_image.specs.Checkpoint.{HeldCheckpoint, front_blocks, side_of}
use Rattle.store_image.specs.Places.{LogView}
use Rattle.store_image.specs.View.{block_bytes}
use Rattle.ring_log.specs.Opening.{IsFound, log_behind, opening_batch}
use Rattle.ring_log.specs.Blocks.{ring_layout, place_in_ring, block_at}
use Rattle.ring_log.specs.Ring.{Form, IsForm, ring_at_start, IsRingLog, IsRingClear, RingReady}
use Rattle.ring_log.proofs.Entries.{whole_agree, entries_agree}
use Rattle.ring_log.proofs.Numbers.{two_sides, no_side, two_on}
use Rattle.ring_log.proofs.Rests.{ready_start, clear_start}
use Rattle.ring_log.proofs.Standing.{place_or_torn}

module _ {M : Type 0} (N : ℕ) (F : Form M) (L : IsForm F) (some : 0 < N) (sequence : ℕ) (l : LogView M) where
  open F use {is_block, checkpoint, passes}

  abbrev side : ℕ
  side = side_of (sequence + 1)

  abbrev next_check : HeldCheckpoint
  next_check = record { sequence = sequence + 1; from = l.end + N }

  -- Two files that differ at most in the place of the next checkpoint.
  module _ (old new : List ℕ) (log : IsRingLog N F old l) (newest : log.sequence ≡ sequence) (clear : IsRingClear N F old l.end) (same : (i : ℕ) → i ≢ side → place block_bytes i new ≡ place block_bytes i old) where
    ring_same : (n : ℕ) → block_at N new n ≡ block_at N old n
    ring_same n = same (place_in_ring N n) (λ e. no_side (sequence + 1) n N (sym e))

    -- the place of the next checkpoint has none, or an older one
    stays : ((c : HeldCheckpoint) → checkpoint side (place block_bytes side new) ≡ Some c → c.sequence ≤ sequence) → IsRingLog N F new l
    stays older = record {
      sequence = log.sequence;
      check = ap (checkpoint (side_of log.sequence)) (same (side_of log.sequence) (λ e. two_sides sequence (ap (λ (k : ℕ). side_of k) (sym newest) ∙ e))) ∙ log.check;
      newest = most;
      run = entries_agree N F (block_at N old) (block_at N new) l.from l.end l.run (λ m le lt. sym (ring_same m)) log.run;
      few = log.few;
      longest = λ end w le. log.longest end (whole_agree N F (block_at N new) (block_at N old) l.end end (λ m a b. ring_same m) w) le;
    }
      where
        most : (i : ℕ) (c : HeldCheckpoint) → checkpoint i (place block_bytes i new) ≡ Some c → c.sequence ≤ log.sequence
        most i c is = ⊎_elim
            (λ (e : i ≡ side). let le = older c (subst (λ (k : ℕ). checkpoint k (place block_bytes k new) ≡ Some c) e is) in omega (arith, le, newest))
            (λ (ne : i ≢ side). log.newest i c (ap (checkpoint i) (sym (same i ne)) ∙ is))
            (cases_eq i side)

    -- it has the next one
    moves : checkpoint side (place block_bytes side new) ≡ Some next_check → IsRingLog N F new (log_behind N F l)
    moves here = record {
      sequence = sequence + 1;
      check = here;
      newest = most;
      run = refl;
      few = omega arith;
      longest = λ end w le. clear ((l.end + N) % N) (l.end + N) (omega (arith, some)) (omega arith) (ap (is_block (l.end + N)) (sym (ring_same (l.end + N))) ∙ w.valid (l.end + N) (omega arith) w.some);
    }
      where
        most : (i : ℕ) (c : HeldCheckpoint) → checkpoint i (place block_bytes i new) ≡ Some c → c.sequence ≤ sequence + 1
        most i c is = ⊎_elim
            (λ (e : i ≡ side). let at : c.sequence ≡ sequence + 1 = ap (λ (k : HeldCheckpoint). k.sequence) (same_Some c next_check (sym (subst (λ (k : ℕ). checkpoint k (place block_bytes k new) ≡ Some c) e is) ∙ here)) in omega (arith, at))
            (λ (ne : i ≢ side). let le = log.newest i c (ap (checkpoint i) (sym (same i ne)) ∙ is) in omega (arith, le, newest))
            (cases_eq i side)

    clear_too : IsRingClear N F new l.end
    clear_too i m lt le is = clear i m lt le (ap (is_block m) (sym (same (front_blocks + i) (λ e. omega (arith, e)))) ∙ is)

  module _ (bytes : List ℕ) (check : checkpoint side bytes ≡ Some next_check) (s m : List Event) (found : IsFound N F sequence l s) where
    could_shown : (i : ℕ) (x : Option (List ℕ)) → Could Log block_bytes i s x → x ≡ Some (shown Log block_bytes i s)
    could_shown i x could = ⊎_elim (λ (may : May Log block_bytes i s x). found.settled i x may) (λ (e : x ≡ Some (shown Log block_bytes i s)). e) could

    -- While it is written each other place is, in each lucky image, what it was.
    pub opening_others : Writing Log (ring_layout N F.passes) (opening_batch sequence bytes) 1 s m → (test : FileName → List ℕ → Bool) → ((b : List ℕ) → passes b ≡ true → test Log b ≡ true) → (image : Image) → IsImage m image → IsLucky test image
        → (i : ℕ) → i ≢ side → place block_bytes i (image.bytes Log) ≡ shown Log block_bytes i s
    opening_others writing test same image is lucky i ne = ⊎_elim
        (λ (may : May Log block_bytes i m (Some (place block_bytes i (image.bytes Log)))). same_Some _ _ (elsewhere _ may))
        (λ (t : May Log block_bytes i m None × (passes (place block_bytes i (image.bytes Log)) ≡ false)). absurd (none-some _ (elsewhere None t.0)))
        (place_or_torn N F L m writing.places test same image is lucky i)
      where
        elsewhere : (x : Option (List ℕ)) → May Log block_bytes i m x → x ≡ Some (shown Log block_bytes i s)
        elsewhere x may = ⊎_elim (could_shown i x) (λ (one : IsOneOf (opening_batch sequence bytes) 1 i x). absurd (ne (sym one.here))) (writing.may i x may)

    -- In each of them the log is the one that was found, or the one behind it.
    pub opening_writing : Writing Log (ring_layout N F.passes) (opening_batch sequence bytes) 1 s m → (test : FileName → List ℕ → Bool) → ((b : List ℕ) → passes b ≡ true → test Log b ≡ true) → (image : Image) → IsImage m image → IsLucky test image
        → (IsRingLog N F (image.bytes Log) l ⊎ IsRingLog N F (image.bytes Log) (log_behind N F l)) × IsRingClear N F (image.bytes Log) l.end
    opening_writing writing test same image is lucky = (at_side (at side), clear_too (reads Log s) file found.log found.is_newest found.clear others)
      where
        file : List ℕ
        file = image.bytes Log

        at : (i : ℕ) → May Log block_bytes i m (Some (place block_bytes i file)) ⊎ (May Log block_bytes i m None × (passes (place block_bytes i file) ≡ false))
        at = place_or_torn N F L m writing.places test same image is lucky

        others : (i : ℕ) → i ≢ side → place block_bytes i file ≡ place block_bytes i (reads Log s)
        others = opening_others writing test same image is lucky

        stay : ((c : HeldCheckpoint) → checkpoint side (place block_bytes side file) ≡ Some c → c.sequence ≤ sequence) → IsRingLog N F file l
        stay = stays (reads Log s) file found.log found.is_newest found.clear others

        at_side : May Log block_bytes side m (Some (place block_bytes side file)) ⊎ (May Log block_bytes side m None × (passes (place block_bytes side file) ≡ false)) → IsRingLog N F file l ⊎ IsRingLog N F file (log_behind N F l)
        at_side (inr torn) = inl (stay (λ c is. absurd (true≢false (sym (L.check_passes side _ c is) ∙ torn.1))))
        at_side (inl may) = ⊎_elim
            (λ (could : Could Log block_bytes side s (Some (place block_bytes side file))).
            let old : place block_bytes side file ≡ place block_bytes side (reads Log s) = same_Some _ _ (could_shown side _ could) in
            inl (stay (λ c is. let le = found.log.newest side c (ap (checkpoint side) (sym old) ∙ is) in omega (arith, le, found.is_newest))))
            (λ (one : IsOneOf (opening_batch sequence bytes) 1 side (Some (place block_bytes side file))). written one.left)
            (writing.may side _ may)
          where
            written : IsWritten bytes (Some (place block_bytes side file)) → IsRingLog N F file l ⊎ IsRingLog N F file (log_behind N F l)
            written (inl is) = inr (moves (reads Log s) file found.log found.is_newest found.clear others (ap (checkpoint side) (same_Some _ _ is) ∙ check))
            written (inr none) = absurd (none-some _ (sym none))

    module _ (settled : BatchSettled Log (ring_layout N F.passes) (opening_batch sequence bytes) 1 s m) where
      pub shown_others : (i : ℕ) → i ≢ side → shown Log block_bytes i m ≡ shown Log block_bytes i s
      shown_others i ne = settled.wrote.old i (λ j lt e. ne (sym e))

      shown_side : shown Log block_bytes side m ≡ bytes
      shown_side = settled.wrote.new 0 (omega arith)

      -- Once it is synced the log says what is behind the run.
      pub opening_moved : IsRingLog N F (reads Log m) (log_behind N F l)
      opening_moved = moves (reads Log s) (reads Log m) found.log found.is_newest found.clear shown_others (ap (checkpoint side) shown_side ∙ check)

      -- And a session may begin there.
      pub opening_ready : (block : ℕ → List ℕ) → RingReady N F (ring_at_start (shown Log block_bytes 0 m) (sequence + 1) (l.end + N) block) m
      opening_ready block = ready_start N F (shown Log block_bytes 0 m) (sequence + 1) (l.end + N) block m some settled.wrote.writing.places settled.settled refl
          (ap (checkpoint side) shown_side ∙ check)
          (λ c is. let le = found.log.newest (side_of sequence) c (ap (checkpoint (side_of sequence)) (sym (shown_others (side_of sequence) (two_sides sequence))) ∙ subst (λ (k : ℕ). checkpoint k (shown Log block_bytes k m) ≡ Some c) (two_on sequence) is) in omega (arith, le, found.is_newest))
          (λ n low high. clear_start N F (reads Log m) l.end (l.end + N) some (clear_too (reads Log s) (reads Log m) found.log found.is_newest found.clear shown_others) (omega arith) n low)
