-- What each device call of a checkpoint does to its place.
use Rattle.std.proofs.Common.{◌≡◌, ◌≢◌, ℕ, ◌+◌, ◌*◌, ◌%◌, ◌^◌, ◌<◌, ◌≤◌, inl, inr, nat_eq, List, ◌∷◌, Option, Some, None, refl, sym, ap, subst, ◌∙◌, arith}
use Rattle.disk_model.specs.Event.{Event, Sync}
use Rattle.disk_model.specs.Past.{Past, At, IsWrite}
use Rattle.disk_model.specs.Does.{Does}
use Rattle.disk_model.specs.declared.names.FileName.TheVariants.{Log as LogFile}
use Rattle.disk_model.proofs.Moments.{at_each}
use Rattle.std.specs.Prelude.{Result}
use Rattle.std.proofs.lemmas.Option.{none-some, same_Some}
use Rattle.std.proofs.lemmas.Bool.{eq-eqb, ne_eqb, cond-true, cond-false}
use Rattle.places.specs.Places.{HasPlaces, May}
use Rattle.places.specs.Batches.{From, IsNext}
use Rattle.places.proofs.Batches.{wrote_none, writing_more, next_each, next_wrote, last_sync, fact_of_settled, at_start, lift_from}
use Rattle.ring_log.specs.Ring.{Form, RingState, IsBehind, IsSynced, IsOther, RingAt, Ringed, RingReady}
use Rattle.store_image.specs.Checkpoint.{side_of}
use Rattle.ring_log.specs.Batches.{check_batch, checking, checkpointed}
use Rattle.ring_log.proofs.Events.{ready_checking, ready_checked}
use Rattle.redo_text.specs.declared.change.Change.{Change}
use Rattle.redo_log.specs.State.{LogState}
use Rattle.redo_log.specs.Blocks.{Keys, redo_form}
use Rattle.store_files.specs.Checkpoint.{checkpoint_in}
use Rattle.redo_log.specs.Check.{check_bytes}
use Rattle.redo_log.specs.Log.{IsOpen, durable, checked, FitsRing}
use Rattle.redo_log.specs.Events.{side_batch, CheckWriting, CheckWrote, CheckSettled, IsCheckEvent, check_event}
use Rattle.redo_log.proofs.CheckLaws.{length-check, made_check, torn_check}
use Rattle.redo_log.proofs.FormLaws.{form_laws}
use Rattle.redo_log.proofs.BlockSteps.{writing_same, settled_same}
use Rattle.crash_image.specs.LogForm.{log_places}

module _ (blocks sequence from : ℕ) where
  pub check_next : 1 ≤ sequence → sequence < from → from ≤ 2 ^ 50 → IsNext (log_places blocks) (side_batch sequence from) 0
  check_next some order most = record {
    within = omega arith;
    long = length-check sequence from some order most;
    refused = torn_check sequence from some order most;
    differ = λ j lt. absurd (omega (arith, lt));
  }

  pub check_begin : (first : Past) → At (HasPlaces LogFile (log_places blocks)) first → At (From (CheckWrote blocks sequence from 0) first) first
  check_begin first has = at_start (λ s h. wrote_none LogFile (log_places blocks) (side_batch sequence from) s h) has

  pub check_now : (k : ℕ) → k ≤ 1 → (first : Past) (es : List Event) → From (CheckWrote blocks sequence from k) first es → From (CheckWriting blocks sequence from) first es
  check_now k le first es r = at_each (λ s w. writing_more LogFile (log_places blocks) (side_batch sequence from) s k 1 le es w.writing) r

  module _ (next : IsNext (log_places blocks) (side_batch sequence from) 0) (first : Past) where
    pub check_each : (d : Event) → IsWrite LogFile ((1 + sequence % 2) * 4096) (check_bytes sequence from) d → (es : List Event) → From (CheckWrote blocks sequence from 0) first es → From (CheckWriting blocks sequence from) first (d ∷ es)
    check_each d is es r = at_each (λ s w. next_each LogFile (log_places blocks) (side_batch sequence from) s 0 next es 1 (omega arith) d is w) r

    pub check_wrote : (es : List Event) → From (CheckWrote blocks sequence from 0) first es → From (CheckWrote blocks sequence from 1) first (check_event sequence from ∷ es)
    check_wrote es r = at_each (λ s w. next_wrote LogFile (log_places blocks) (side_batch sequence from) s 0 next es w) r

  pub check_sync : (first : Past) (es : List Event) → From (CheckWrote blocks sequence from 1) first es → From (CheckSettled blocks sequence from) first (Sync LogFile ∷ es)
  check_sync first es r = at_each (λ s w. last_sync LogFile (log_places blocks) (side_batch sequence from) s 1 es w) r

  pub check_then : (first : Past) (es : List Event) → From (CheckSettled blocks sequence from) first es → From (CheckWriting blocks sequence from) first es
  check_then first es r = at_each (λ s w. fact_of_settled LogFile (log_places blocks) (side_batch sequence from) s 1 es w) r

-- ---- the ring

pub checked_same : (r : RingState) (f : ℕ) → f ≡ r.from → r ≡ checked r f
checked_same r f is = sym (cond-true (nat_eq f r.from) r (checkpointed r f) (eq-eqb f r.from is))

pub checked_other : (r : RingState) (f : ℕ) → f ≢ r.from → checkpointed r f ≡ checked r f
checked_other r f is = sym (cond-false (nat_eq f r.from) r (checkpointed r f) (ne_eqb f r.from is))

module _ (keys : Keys) (log : LogState) (r : RingState) (is : IsOpen log) (fits : FitsRing r log) (f : ℕ) where
  abbrev N : ℕ
  N = log.blocks

  abbrev F : Form (List Change)
  F = redo_form keys

  -- a checkpoint where the run begins at another block
  module _ (gt : log.from < f) (high : f ≤ durable log) where
    low_is : r.from ≤ f
    low_is = let from = fits.from in omega arith

    high_is : (s : List Event) → RingReady N F r s → f ≤ r.settled
    high_is s ready = let all = ready.all in let written = fits.written in omega arith

    place_same : (j : ℕ) → j < 1 → (side_batch (log.sequence + 1) f).place j ≡ (check_batch r (check_bytes (log.sequence + 1) f)).place j
    place_same j lt = ap (λ (s : ℕ). 1 + (s + 1) % 2) (sym fits.sequence)

    check_is : checkpoint_in (side_of (r.sequence + 1)) (check_bytes (log.sequence + 1) f) ≡ Some (record { sequence = r.sequence + 1; from = f })
    check_is =
        let below = is.below in
        let next = is.high in
        ap (λ (s : ℕ). checkpoint_in (side_of (r.sequence + 1)) (check_bytes (s + 1) f)) (sym fits.sequence)
        ∙ made_check (r.sequence + 1) f (omega arith) (let sequence = fits.sequence in omega arith) (omega arith)

    pub to_checking : (s m : List Event) → RingReady N F r s → CheckWriting N (log.sequence + 1) f s m → Ringed N F (checking r f) m
    to_checking s m ready w =
        ready_checking N F (form_laws keys) r s m ready f (check_bytes (log.sequence + 1) f) low_is (high_is s ready) check_is
        (writing_same LogFile (log_places N) (side_batch (log.sequence + 1) f) (check_batch r (check_bytes (log.sequence + 1) f)) 1 place_same (λ j lt. refl) s m w)

    pub to_checked : (s m : List Event) → RingReady N F r s → CheckSettled N (log.sequence + 1) f s m → RingReady N F (checked r f) m
    to_checked s m ready t =
        subst (λ (q : RingState). RingReady N F q m) (checked_other r f (λ e. let from = fits.from in omega (arith, e, from, gt)))
        (ready_checked N F (form_laws keys) r s m ready f (check_bytes (log.sequence + 1) f) low_is (high_is s ready) check_is
        (settled_same LogFile (log_places N) (side_batch (log.sequence + 1) f) (check_batch r (check_bytes (log.sequence + 1) f)) 1 place_same (λ j lt. refl) s m t))

    pub ring_check : {T X : Type 0} {old new : Past} {result : Result T X} → At (RingReady N F r) old
        → Does (From (CheckWriting N (log.sequence + 1) f) old) (IsCheckEvent (log.sequence + 1) f) (From (CheckSettled N (log.sequence + 1) f) old) old new result
        → Does (Ringed N F (checking r f)) (IsCheckEvent (log.sequence + 1) f) (RingReady N F (checked r f)) old new result
    ring_check at does = lift_from at (λ s m u since w. to_checking s m u w) (λ s m u since w. to_checked s m u w) (λ e k. k) does

  -- and where it begins at the old one
  module _ (same : f ≡ log.from) where
    pub checked_none : (s : List Event) → RingReady N F r s → RingReady N F (checked r f) s
    checked_none s ready = subst (λ (q : RingState). RingReady N F q s) (checked_same r f (same ∙ sym fits.from)) ready

    pub checking_none : (s : List Event) → RingReady N F r s → Ringed N F (checking r f) s
    checking_none s ready = record {
      places = ready.ringed.places;
      at = record {
        is = record {
          some = a.is.some;
          began = a.is.began;
          order = a.is.order;
          room = a.is.room;
          later = λ g e.
              let began = a.is.began in
              let from = fits.from in
              let one = same_Some f g e in
              (omega (arith, one, same, from), omega (arith, one, same, from, began));
          valid = a.is.valid;
        };
        header = a.header;
        check = λ x may. synced x (a.check x may);
        other = λ x may. aside x (a.other x may);
        front = a.front;
        rest = λ n x after below may. behind n x (a.rest n x after below may);
      };
    }
      where
        a : RingAt N F r (λ i x. May LogFile 4096 i s x)
        a = ready.ringed.at

        synced : (x : Option (List ℕ)) → IsSynced N F r x → IsSynced N F (checking r f) x
        synced None c = c
        synced (Some b) c = c

        aside : (x : Option (List ℕ)) → IsOther N F r x → IsOther N F (checking r f) x
        aside None o = tt
        aside (Some b) (inl older) = inl older
        aside (Some b) (inr (g, e, c)) = absurd (none-some g (sym ready.none ∙ e))

        behind : (n : ℕ) (x : Option (List ℕ)) → IsBehind N F r n x → IsBehind N F (checking r f) n x
        behind n None b = tt
        behind n (Some b) w = w
