-- What each device call does to the places of the pending blocks.
use Rattle.std.proofs.Common.{◌≡◌, ℕ, ◌+◌, ◌-◌, ◌*◌, ◌%◌, ◌<◌, ◌≤◌, inl, inr, ⊎_elim, true, List, ◌∷◌, length, Option, Some, None, sym, ap, subst, ◌∙◌, arith}
use Rattle.std.proofs.lemmas.Bool.{cases_lt}
use Rattle.disk_model.specs.Event.{Event, Write, Sync}
use Rattle.disk_model.specs.Past.{Past, At, MayGrow, IsWrite, grow}
use Rattle.disk_model.specs.Does.{Does}
use Rattle.disk_model.specs.declared.names.FileName.{FileName}
use Rattle.disk_model.specs.declared.names.FileName.TheVariants.{Log as LogFile}
use Rattle.disk_model.proofs.Moments.{at_each, at_last}
use Rattle.std.specs.Prelude.{Result, Ok, Err, OnOk, OnErr}
use Rattle.places.specs.Places.{Layout, HasFile, HasPlaces, place, shown}
use Rattle.redo_text.specs.declared.change.Change.{Change}
use Rattle.places.specs.Batches.{From, Could, IsOneOf, Batch, IsNext, Writing, BatchSettled}
use Rattle.places.proofs.FileSteps.{file_written, file_may_write, file_synced}
use Rattle.places.proofs.Steps.{place_ends}
use Rattle.places.proofs.Batches.{wrote_none, writing_more, next_each, next_wrote, last_sync, fact_of_settled, at_start, at_end, lift_from}
use Rattle.ring_log.specs.Ring.{Form, RingState, IsRingState, Ringed, RingReady}
use Rattle.ring_log.specs.Batches.{ring_batch, more, settle}
use Rattle.ring_log.proofs.Numbers.{one_remainder}
use Rattle.ring_log.proofs.Events.{ready_writing, ready_settled}
use Rattle.byte_list.proofs.RangeLaws.{length-range}
use Rattle.redo_log.specs.State.{LogState}
use Rattle.store_files.specs.RingBlock.{is_ring_block}
use Rattle.redo_log.specs.Blocks.{Keys, redo_form}
use Rattle.redo_log.specs.Log.{IsOpen, durable, pending_at, pending_count, FitsRing}
use Rattle.redo_log.specs.Events.{block_batch, BlocksWriting, BlocksWrote, BlocksSettled, IsBlockEvent}
use Rattle.redo_log.proofs.FormLaws.{form_laws, torn_block}
use Rattle.crash_image.specs.LogForm.{log_places}

-- batches that agree
module _ (f : FileName) (lay : Layout) (b c : Batch) (k : ℕ) (places : (j : ℕ) → j < k → b.place j ≡ c.place j) (texts : (j : ℕ) → j < k → b.bytes j ≡ c.bytes j) (s m : List Event) where
  pub writing_same : Writing f lay b k s m → Writing f lay c k s m
  writing_same w = record { places = w.places; may = λ i x may. ⊎_elim (λ (d : Could f lay.size i s x). inl d) (λ (o : IsOneOf b k i x). inr (one i x o)) (w.may i x may) }
    where
      one : (i : ℕ) (x : Option (List ℕ)) → IsOneOf b k i x → IsOneOf c k i x
      one i x o = record {
        index = o.index;
        below = o.below;
        here = sym (places o.index o.below) ∙ o.here;
        left = ⊎_elim (λ (e : x ≡ Some (b.bytes o.index)). inl (e ∙ ap (λ (l : List ℕ). Some l) (texts o.index o.below))) (λ (e : x ≡ None). inr e) o.left;
      }

  pub settled_same : BatchSettled f lay b k s m → BatchSettled f lay c k s m
  settled_same t = record {
    wrote = record {
      writing = writing_same t.wrote.writing;
      new = λ j lt. ap (λ (i : ℕ). shown f lay.size i m) (sym (places j lt)) ∙ t.wrote.new j lt ∙ texts j lt;
      old = λ i none. t.wrote.old i (λ j lt e. none j lt (sym (places j lt) ∙ e));
    };
    settled = t.settled;
  }

module _ (log : LogState) where
  abbrev pub total : ℕ
  total = pending_count log

  abbrev pub lay : Layout
  lay = log_places log.blocks

  pub long_at : IsOpen log → (i : ℕ) → i < total → length (pending_at log i) ≡ 4096
  unfolding place
  long_at is i more = let whole = is.whole in length-range (i * 4096) 4096 log.pending (omega (arith, whole, more))

  pub block_next : (i : ℕ) → i < total → IsOpen log → IsNext lay (block_batch log) i
  block_next i more is = record {
    within = let least = is.least in omega arith;
    long = long_at is i more;
    refused = torn_block (durable log + i) (pending_at log i) (is.valid i more);
    differ = λ j lt same. apart j lt same;
  }
    where
      apart : (j : ℕ) → j < i → (block_batch log).place j ≡ (block_batch log).place i → ⊥
      apart j lt same =
          let least = is.least in
          let order = is.order in
          let room = is.room in
          let e : durable log + j ≡ durable log + i =
          one_remainder log.blocks (omega arith) (durable log) (durable log + j) (durable log + i) (omega arith) (omega arith) (omega arith) (omega arith) (omega (arith, same)) in
          omega (arith, e, lt)

  pub blocks_begin : (first : Past) → At (HasPlaces LogFile lay) first → At (From (BlocksWrote log 0) first) first
  blocks_begin first has = at_start (λ s h. wrote_none LogFile lay (block_batch log) s h) has

  pub blocks_now : (i : ℕ) → i ≤ total → (first : Past) (es : List Event) → From (BlocksWrote log i) first es → From (BlocksWriting log) first es
  blocks_now i le first es r = at_each (λ s w. writing_more LogFile lay (block_batch log) s i total le es w.writing) r

  module _ (i : ℕ) (more : i < total) (next : IsNext lay (block_batch log) i) (first : Past) where
    pub block_each : (d : Event) → IsWrite LogFile ((block_batch log).place i * 4096) (pending_at log i) d → (es : List Event) → From (BlocksWrote log i) first es → From (BlocksWriting log) first (d ∷ es)
    block_each d is es r = at_each (λ s w. next_each LogFile lay (block_batch log) s i next es total more d is w) r

    pub block_wrote : (es : List Event) → From (BlocksWrote log i) first es → From (BlocksWrote log (i + 1)) first (Write LogFile ((block_batch log).place i * 4096) (pending_at log i) (pending_at log i) ∷ es)
    block_wrote es r = at_each (λ s w. next_wrote LogFile lay (block_batch log) s i next es w) r

  pub blocks_sync : (first : Past) (es : List Event) → From (BlocksWrote log total) first es → From (BlocksSettled log) first (Sync LogFile ∷ es)
  blocks_sync first es r = at_each (λ s w. last_sync LogFile lay (block_batch log) s total es w) r

  pub blocks_then : (first : Past) (es : List Event) → From (BlocksSettled log) first es → From (BlocksWriting log) first es
  blocks_then first es r = at_each (λ s w. fact_of_settled LogFile lay (block_batch log) s total es w) r

  -- ---- the ring

  module _ (keys : Keys) (r : RingState) (is : IsOpen log) (fits : FitsRing r log) where
    abbrev F : Form (List Change)
    F = redo_form keys

    place_same : (j : ℕ) → j < total → (block_batch log).place j ≡ (ring_batch log.blocks r).place j
    place_same j lt = ap (λ (n : ℕ). 3 + (n + j) % log.blocks) (sym fits.written)

    text_same : (j : ℕ) → j < total → (block_batch log).bytes j ≡ (ring_batch log.blocks r).bytes j
    text_same j lt = sym (fits.blocks j lt)

    pub ring_more : IsRingState log.blocks F r → IsRingState log.blocks F (more r total)
    ring_more a = record {
      some = a.some;
      began = a.began;
      order = let order = a.order in omega arith;
      room = let room = is.room in let order = is.order in let written = fits.written in let from = fits.from in omega arith;
      later = a.later;
      valid = λ n fn lt. ⊎_elim (λ (b : n < r.written). a.valid n fn b) (λ (ge : r.written ≤ n). here n (n - r.written) (omega (arith, ge)) (omega (arith, ge, lt))) (cases_lt n r.written);
    }
      where
        here : (n j : ℕ) → n ≡ r.written + j → j < total → is_ring_block n (r.block n) ≡ true
        here n j e lt = subst (λ (i : ℕ). is_ring_block i (r.block i) ≡ true) (sym e) (ap (is_ring_block (r.written + j)) (fits.blocks j lt) ∙ ap (λ (d : ℕ). is_ring_block (d + j) (pending_at log j)) fits.written ∙ is.valid j lt)

    pub ring_settle : r.written ≡ r.settled → IsRingState log.blocks F r → IsRingState log.blocks F (settle r total)
    ring_settle all a =
        let b = ring_more a in
        record {
          some = b.some;
          began = let began = b.began in omega arith;
          order = omega (arith, all);
          room = b.room;
          later = λ f e. let l = b.later f e in (l.0, omega (arith, l.1));
          valid = b.valid;
        }

    pub to_ringed : (s m : List Event) → RingReady log.blocks F r s → BlocksWriting log s m → Ringed log.blocks F (more r total) m
    to_ringed s m ready w =
        ready_writing log.blocks F (form_laws keys) r s m ready total (ring_more ready.ringed.at.is) (writing_same LogFile lay (block_batch log) (ring_batch log.blocks r) total place_same text_same s m w)

    pub to_ready : (s m : List Event) → RingReady log.blocks F r s → BlocksSettled log s m → RingReady log.blocks F (settle r total) m
    to_ready s m ready t =
        ready_settled log.blocks F (form_laws keys) r s m ready total (ring_settle ready.all ready.ringed.at.is) (settled_same LogFile lay (block_batch log) (ring_batch log.blocks r) total place_same text_same s m t)

    -- a write out, for the ring
    pub ring_out : {T X : Type 0} {old new : Past} {result : Result T X} → At (RingReady log.blocks F r) old → Does (From (BlocksWriting log) old) (IsBlockEvent log) (From (BlocksSettled log) old) old new result
        → Does (Ringed log.blocks F (more r total)) (IsBlockEvent log) (RingReady log.blocks F (settle r total)) old new result
    ring_out at does = lift_from at (λ s m u since w. to_ringed s m u w) (λ s m u since w. to_ready s m u w) (λ e k. k) does

    -- where nothing is pending
    none_more : total ≡ 0 → r ≡ more r total
    none_more none = let e : r.written ≡ r.written + total = omega (arith, none) in λ i. record r { written = e i }

    none_settle : total ≡ 0 → r ≡ settle r total
    none_settle none =
        let e : r.written ≡ r.written + total = omega (arith, none) in
        let d : r.settled ≡ r.settled + total = omega (arith, none) in
        λ i. record r { settled = d i; written = e i }

    pub ready_none : total ≡ 0 → (s : List Event) → RingReady log.blocks F r s → RingReady log.blocks F (settle r total) s
    ready_none none s ready = subst (λ (q : RingState). RingReady log.blocks F q s) (none_settle none) ready

    pub ringed_none : total ≡ 0 → (s : List Event) → RingReady log.blocks F r s → Ringed log.blocks F (more r total) s
    ringed_none none s ready = subst (λ (q : RingState). Ringed log.blocks F q s) (none_more none) ready.ringed

-- The file keeps its places over a call.
pub places_after : {T X : Type 0} {b : Batch} {k : ℕ} {E : Event → Type 0} {Q : List Event → Type 0} {old new : Past} {result : Result T X} (blocks : ℕ) → At (HasPlaces LogFile (log_places blocks)) old
    → Does (From (λ s m. Writing LogFile (log_places blocks) b k s m) old) E Q old new result → At (HasPlaces LogFile (log_places blocks)) new
places_after {b = b} {k = k} {old = old} {new = new} blocks has does =
    at_end (λ s m u w. w.places) does.moments.later has (at_last (From (λ s m. Writing LogFile (log_places blocks) b k s m) old) old new does.moments)

-- ---- the file is there with its length, whatever is pending

-- behind the write of one place
pub file_after_write : {T X : Type 0} (result : Result T X) {old new : Past} (blocks i : ℕ) → i < 3 + blocks → (bytes : List ℕ) → length bytes ≡ 4096 → At (HasFile LogFile (log_places blocks)) old
    → OnOk result (new ≡ grow (Write LogFile (i * 4096) bytes bytes) old) → OnErr result (MayGrow (IsWrite LogFile (i * 4096) bytes) old new) → At (HasFile LogFile (log_places blocks)) new
file_after_write (Ok v) {old = old} {new = new} blocks i lt bytes long has ok err = file_written LogFile (log_places blocks) LogFile (i * 4096) bytes old new (omega (arith, long, place_ends (log_places blocks) i lt)) has ok
file_after_write (Err x) {old = old} {new = new} blocks i lt bytes long has ok err = file_may_write LogFile (log_places blocks) LogFile (i * 4096) bytes old new (omega (arith, long, place_ends (log_places blocks) i lt)) has err

-- and behind a sync
pub file_after_sync : {T X : Type 0} (result : Result T X) {old new : Past} (blocks : ℕ) → At (HasFile LogFile (log_places blocks)) old
    → OnOk result (new ≡ grow (Sync LogFile) old) → OnErr result (new ≡ old) → At (HasFile LogFile (log_places blocks)) new
file_after_sync (Ok v) {old = old} {new = new} blocks has ok err = file_synced LogFile (log_places blocks) LogFile old new has ok
file_after_sync (Err x) {old = old} {new = new} blocks has ok err = subst (At (HasFile LogFile (log_places blocks))) (sym err) has
