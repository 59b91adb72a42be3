-- What the calls of a session keep.
use Rattle.std.proofs.Common.{◌≡◌, ◌⊎◌, inl, inr, ℕ, ◌+◌, Bool, true, false, nat_eq, if◌then◌else◌, List, [], ◌∷◌, ◌++◌, Some, refl, sym, ap, subst, ◌∙◌, arith, length-append, Result, Ok, Err, OnOk}
use Rattle.std.proofs.lemmas.Option.{same_Some}
use Rattle.crash_image.specs.Writes.{written_items}
use Rattle.disk_model.specs.Crash.{IsCrash}
use Rattle.disk_model.specs.Event.{Event, Open, Make}
use Rattle.disk_model.specs.Past.{Past, At, grow}
use Rattle.disk_model.specs.declared.calls.Choice.{Choice}
use Rattle.disk_model.specs.declared.names.FileName.TheVariants.{Log as LogFile}
use Rattle.places.specs.Batches.{From}
use Rattle.ring_log.specs.Batches.{settle}
use Rattle.ring_log.specs.Ring.{RingState, RingReady, IsBound, IsRingJournal}
use Rattle.redo_text.specs.declared.change.Change.{Change}
use Rattle.redo_text.specs.declared.key.RedoKey.{RedoKey}
use Rattle.store_image.specs.Record.{Item, IsAmongBlocks}
use Rattle.store_image.specs.View.{Logged}
use Rattle.redo_log.specs.State.{LogState}
use Rattle.redo_log.specs.Append.{JournalGrows, logged_entry, with_pending}
use Rattle.redo_log.specs.Blocks.{Keys, IsStoreKey, redo_form}
use Rattle.redo_log.specs.Fresh.{fresh_ring}
use Rattle.redo_log.specs.Log.{IsOpen, durable, pending_count, checked, empty_log, handed_over, written_out, with_checkpoint, FitsRing}
use Rattle.redo_log.specs.Recorded.{IsBlockWritten, BlocksOnce, KeepsItems}
use Rattle.redo_log.proofs.FitSteps.{empty_open, empty_fits, empty_journal, handed_open}
use Rattle.redo_log.proofs.RecordSteps.{once_empty, once_handed, once_items}
use Rattle.log_drill.specs.Kept.{KeepsJournal, MayBegin, IsBetween}
use Rattle.log_drill.proofs.LogFiles.{ready_crashed}

at_now : {P : List Event → Type 0} (es : List Event) → P es → At P (Some es)
at_now {P} es is = record { here = λ m e. subst P (same_Some es m e) is }

pub on_ok : {T X P : Type 0} (result : Result T X) → P → OnOk result P
on_ok (Ok v) p = p
on_ok (Err x) p = tt

pub same_ok : {X : Type 0} (result : Result LogState X) (a b : LogState) → result ≡ Ok a → result ≡ Ok b → a ≡ b
same_ok result a b is that = cc

-- what holds of the record once the file was made holds from before that
pub items_made : (old mid new : Past) (n : ℕ) → mid ≡ grow (Make LogFile n) old → At (From KeepsItems mid) new → At (From KeepsItems old) new
items_made old mid new n made at = record { here = λ m is. record { here = λ s there. (at.here m is).here (Make LogFile n ∷ s) (made ∙ ap (grow (Make LogFile n)) there) } }

-- a log whose blocks were handed to a disk that is given up
module _ (old : LogState) where
  pub same_durable : (log : LogState) → (log ≡ old) ⊎ (log ≡ handed_over old) → durable log ≡ durable old
  same_durable log (inl is) = ap durable is
  same_durable log (inr is) = ap durable is

  pub handed_twice : (log new : LogState) → (log ≡ old) ⊎ (log ≡ handed_over old) → new ≡ handed_over log → new ≡ handed_over old
  handed_twice log new (inl is) more = more ∙ ap handed_over is
  handed_twice log new (inr is) more = more ∙ ap handed_over is

module _ (keys : Keys) where
  -- a session on a disk that was empty begins
  pub begins : (es : List Event) → RingReady 32 (redo_form keys) (fresh_ring 32) es → KeepsItems (Open [] [] [] ∷ []) es → IsBetween keys 0 (empty_log 32 2 1) es
  begins es ready same = record {
    keeps = record {
      is_open = empty_open 32 2 1 (omega arith) (omega arith) (omega arith) (omega arith) (omega arith) (omega arith);
      ring = fresh_ring 32;
      fits = empty_fits 32 2 1 (fresh_ring 32) refl refl refl;
      ready = ready;
      journal = [];
      is = empty_journal 32 2 keys (fresh_ring 32) refl refl refl refl;
      long = refl;
      once = once_empty 32 2 1 es (λ n v w b d x y. absurd (none n v b x)) (λ n v b x. absurd (none n v b x));
    };
    none = refl;
  }
    where
      none : (n v : ℕ) (b : List ℕ) → IsBlockWritten es n v b → ⊥
      none n v b x = subst (λ (l : List Item). IsAmongBlocks l n v b) same x

  module _ (count : ℕ) (es : List Event) (old : LogState) (k : KeepsJournal keys count old es) where
    pub append_keeps : (new : LogState) (mtr : List Change) (key : RedoKey) → IsStoreKey keys key → old.blocks ≡ new.blocks → IsOpen new → ((r : RingState) → FitsRing r old → FitsRing (with_pending r new) new)
        → ((keys : Keys) (r : RingState) (past : Past) → At (RingReady old.blocks (redo_form keys) r) past → At (RingReady old.blocks (redo_form keys) (with_pending r new)) past)
        → JournalGrows old new mtr key → ((es : List Event) → BlocksOnce old es → BlocksOnce new es) → KeepsJournal keys (count + 1) new es × (durable new ≡ durable old)
    append_keeps new mtr key has same opened fits ready grows once =
        let r : RingState = k.ring in
        let fits_new : FitsRing (with_pending r new) new = fits r k.fits in (
          record {
            is_open = opened;
            ring = with_pending r new;
            fits = fits_new;
            ready = subst (λ (n : ℕ). RingReady n (redo_form keys) (with_pending r new) es) same ((ready keys r (Some es) (at_now es k.ready)).here es refl);
            journal = k.journal ++ logged_entry old mtr ∷ [];
            is = subst (λ (n : ℕ). IsRingJournal n (redo_form keys) (with_pending r new) 2 (k.journal ++ logged_entry old mtr ∷ []) new.next) same (grows keys has r 2 k.journal k.fits k.ready.ringed.at.is k.is);
            long = length-append k.journal (logged_entry old mtr ∷ []) ∙ ap (λ (n : ℕ). n + 1) k.long;
            once = once es k.once;
          },
          sym fits_new.written ∙ k.fits.written,
        )

    -- the blocks were handed to another disk, which is given up
    pub handed_keeps : KeepsJournal keys count (handed_over old) es
    handed_keeps = record {
      is_open = handed_open old k.is_open;
      ring = k.ring;
      fits = record { sequence = k.fits.sequence; from = k.fits.from; written = k.fits.written; blocks = k.fits.blocks };
      ready = k.ready;
      journal = k.journal;
      is = k.is;
      long = k.long;
      once = once_handed old k.is_open es k.once;
    }

    pub kept_or_handed : (log : LogState) → (log ≡ old) ⊎ (log ≡ handed_over old) → KeepsJournal keys count log es
    kept_or_handed log (inl is) = subst (λ (w : LogState). KeepsJournal keys count w es) (sym is) k
    kept_or_handed log (inr is) = subst (λ (w : LogState). KeepsJournal keys count w es) (sym is) handed_keeps

    -- Written out, the run may begin behind what was durable.
    pub write_keeps : (new : LogState) (after : List Event) → new ≡ written_out old → IsOpen new → ((r : RingState) → FitsRing r old → FitsRing (settle r (pending_count old)) new)
        → ((r : RingState) → FitsRing r old → At (RingReady old.blocks (redo_form keys) r) (Some es) → At (RingReady old.blocks (redo_form keys) (settle r (pending_count old))) (Some after))
        → ((r : RingState) (start : ℕ) (journal : List (Logged (List Change))) → FitsRing r old → r.written ≡ r.settled → IsRingJournal old.blocks (redo_form keys) r start journal old.next → IsRingJournal old.blocks (redo_form keys) (settle r (pending_count old)) start journal new.next)
        → (At (BlocksOnce old) (Some es) → At (BlocksOnce new) (Some after)) → MayBegin keys count (durable old) new after × (durable new ≡ new.next)
    write_keeps new after is opened fits ready journal once =
        let r : RingState = k.ring in
        let ring : RingState = settle r (pending_count old) in
        let same : old.blocks ≡ new.blocks = ap (λ (w : LogState). w.blocks) (sym is) in
        let ends : r.settled ≡ durable old = sym k.ready.all ∙ k.fits.written in (
          record {
            keeps = record {
              is_open = opened;
              ring = ring;
              fits = fits r k.fits;
              ready = subst (λ (n : ℕ). RingReady n (redo_form keys) ring after) same ((ready r k.fits (at_now es k.ready)).here after refl);
              journal = k.journal;
              is = subst (λ (n : ℕ). IsRingJournal n (redo_form keys) ring 2 k.journal new.next) same (journal r 2 k.journal k.fits k.ready.all k.is);
              long = k.long;
              once = (once (at_now es k.once)).here after refl;
            };
            bound = subst (λ (n : ℕ). IsBound n (redo_form keys) r.block 2 k.journal (durable old)) same (subst (λ (f : ℕ). IsBound old.blocks (redo_form keys) r.block 2 k.journal f) ends k.is.settled);
          },
          subst (λ (w : LogState). durable w ≡ w.next) (sym is) (omega arith),
        )

  -- A checkpoint is written.
  module _ (count f : ℕ) (es : List Event) (old : LogState) (m : MayBegin keys count f old es) (none : durable old ≡ old.next) where
    checked_parts : ((with_checkpoint old f).blocks ≡ old.blocks) × (durable (with_checkpoint old f) ≡ (with_checkpoint old f).next)
    checked_parts = by (nat_eq f old.from)
      where
        by : (b : Bool) → ((if b then old else record old { from = f; sequence = old.sequence + 1 }).blocks ≡ old.blocks) × (durable (if b then old else record old { from = f; sequence = old.sequence + 1 }) ≡ (if b then old else record old { from = f; sequence = old.sequence + 1 }).next)
        by true = (refl, none)
        by false = (refl, none)

    pub check_keeps : (new : LogState) (after : List Event) → new ≡ with_checkpoint old f → IsOpen new → ((r : RingState) → FitsRing r old → FitsRing (checked r f) new)
        → ((r : RingState) → FitsRing r old → At (RingReady old.blocks (redo_form keys) r) (Some es) → At (RingReady old.blocks (redo_form keys) (checked r f)) (Some after))
        → ((r : RingState) (start : ℕ) (journal : List (Logged (List Change))) → IsBound old.blocks (redo_form keys) r.block start journal f → IsRingJournal old.blocks (redo_form keys) r start journal old.next → IsRingJournal old.blocks (redo_form keys) (checked r f) start journal new.next)
        → (At (BlocksOnce old) (Some es) → At (BlocksOnce new) (Some after)) → IsBetween keys count new after
    check_keeps new after is opened fits ready journal once =
        let k : KeepsJournal keys count old es = m.keeps in
        let same : old.blocks ≡ new.blocks = sym (ap (λ (w : LogState). w.blocks) is ∙ checked_parts.0) in
        record {
          keeps = record {
            is_open = opened;
            ring = checked k.ring f;
            fits = fits k.ring k.fits;
            ready = subst (λ (n : ℕ). RingReady n (redo_form keys) (checked k.ring f) after) same ((ready k.ring k.fits (at_now es k.ready)).here after refl);
            journal = k.journal;
            is = subst (λ (n : ℕ). IsRingJournal n (redo_form keys) (checked k.ring f) 2 k.journal new.next) same (journal k.ring 2 k.journal m.bound k.is);
            long = k.long;
            once = (once (at_now es k.once)).here after refl;
          };
          none = subst (λ (w : LogState). durable w ≡ w.next) (sym is) checked_parts.1;
        }

  -- The disk crashes between two rounds.
  pub crash_keeps : (count : ℕ) (choices : List Choice) (es after : List Event) (log : LogState) → IsCrash choices es after → IsBetween keys count log es → IsBetween keys count log after
  crash_keeps count choices es after log crash b =
      let k : KeepsJournal keys count log es = b.keeps in
      record {
        keeps = record {
          is_open = k.is_open;
          ring = k.ring;
          fits = k.fits;
          ready = ready_crashed log.blocks keys k.ring choices es after crash k.ready;
          journal = k.journal;
          is = k.is;
          long = k.long;
          once = once_items log es after (ap written_items crash.record_same) k.once;
        };
        none = b.none;
      }
