-- What the calls of the log add to the record of writes.
use Rattle.std.proofs.Common.{◌≡◌, ℕ, ◌+◌, ◌-◌, ◌*◌, ◌/◌, ◌<◌, ◌⊎◌, inl, inr, ⊎_elim, Bool, true, false, true≢false, nat_eq, nat_le, ◌&&◌, if◌then◌else◌, List, [], ◌∷◌, ◌++◌, Option, Some, None, refl, sym, ap, subst, ◌∙◌, arith}
use Rattle.std.proofs.lemmas.Bool.Decides.{nat_tests}
use Rattle.std.proofs.lemmas.Option.{same_Some}
use Rattle.crash_image.specs.StoreTheory.{store_theory}
use Rattle.crash_image.specs.Writes.{slot_item, written_item, written_items}
use Rattle.crash_image.proofs.WrittenItems.{block_item}
use Rattle.disk_model.specs.Event.{Event, Open, Make, Write, Sync, Tell, same_file, record_of}
use Rattle.disk_model.specs.Past.{Past, At, Later, Throughout}
use Rattle.disk_model.specs.Does.{AllAre, Since, Adds, IsOn}
use Rattle.disk_model.specs.declared.names.FileName.{FileName}
use Rattle.disk_model.specs.declared.names.FileName.TheVariants.{Log as LogFile, Double, Space}
use Rattle.disk_model.specs.declared.names.Mark.{Mark}
use Rattle.disk_model.proofs.Layers.{since_between}
use Rattle.disk_model.proofs.Moments.{at_each, at_both, begins, weaker}
use Rattle.key_ring.specs.Ring.{RingEntry}
use Rattle.page_places.specs.Texts.{is_page_text, text_in, slot_held}
use Rattle.places.specs.Batches.{From, Writes, Syncs}
use Rattle.redo_text.specs.Reading.{number_of, block_version}
use Rattle.redo_text.specs.declared.change.Change.{Change}
use Rattle.ring_log.specs.Ring.{RingState}
use Rattle.store_files.specs.Header.{HeldHeader}
use Rattle.store_files.specs.RingBlock.{is_ring_block}
use Rattle.store_files.proofs.RingBlocks.{block_number}
use Rattle.store_image.specs.Record.{Item, PageText, RingBlock, IsAmongTexts, IsAmongBlocks, ItemsOnce}
use Rattle.store_image.specs.View.{Text, Slot, Logged}
use Rattle.redo_log.specs.State.{LogState}
use Rattle.redo_log.specs.Blocks.{Keys}
use Rattle.redo_log.specs.Events.{block_batch, IsBlockEvent, IsCheckEvent, side_batch}
use Rattle.redo_log.specs.Log.{IsOpen, durable, pending_at, pending_count, empty_log, handed_over, written_out, with_checkpoint, FitsRing}
use Rattle.redo_log.specs.Recorded.{IsBlockWritten, AreBlocksOnce, AreBlocksBelow, BlocksOnce, KeepsItems, IsRecordOnce, AreBlocksSettled}

-- A fact that each event of a kind keeps holds at each moment of a stretch of them.
module _ (P : List Event → Type 0) (E : Event → Type 0) (step : (e : Event) (m : List Event) → E e → P m → P (e ∷ m)) where
  kept_over : (news s : List Event) → AllAre E news → P s → P (news ++ s)
  kept_over [] s all here = here
  kept_over (e ∷ news) s all here = step e (news ++ s) all.0 (kept_over news s all.1 here)

  kept_since : (s m : List Event) → Since E s m → P s → P m
  kept_since s m since here = subst P (sym since.is) (kept_over since.news s since.all here)

  kept_at : (old new : Past) (m : List Event) → Adds E old new → At P old → Later old (Some m) → Later (Some m) new → P m
  kept_at None new m adds at from to = absurd from
  kept_at (Some a) None m adds at from to = absurd to
  kept_at (Some a) (Some b) m adds at from to = kept_since a m (since_between E a m b (adds.since a b refl refl) from to) (at.here a refl)

  pub kept_throughout : (old new : Past) → Later old new → Adds E old new → At P old → Throughout P old new
  kept_throughout old new later adds at = record { later = later; each = λ m from to. kept_at old new m adds at from to }

-- ---- a record with the same texts and blocks

pub once_items : (log : LogState) (s m : List Event) → KeepsItems s m → BlocksOnce log s → BlocksOnce log m
once_items log s m same o = record {
  once = λ n v w b d x y. o.once n v w b d (back n v b x) (back n w d y);
  below = λ n v b x. o.below n v b (back n v b x);
  pending = λ n v b x low. o.pending n v b (back n v b x) low;
}
  where
    back : (n v : ℕ) (b : List ℕ) → IsBlockWritten m n v b → IsBlockWritten s n v b
    back n v b x = subst (λ (l : List Item). IsAmongBlocks l n v b) same x

pub record_items : (header : HeldHeader) (keys : List RingEntry) (salts : ℕ → List ℕ) (s m : List Event) → KeepsItems s m → IsRecordOnce header keys salts s → IsRecordOnce header keys salts m
record_items header keys salts s m same o = subst (λ (l : List Item). ItemsOnce (store_theory header keys salts) l) (sym same) o

-- ---- the writes of a checkpoint

before_ring : (at : ℕ) (bytes : List ℕ) → at < 12288 → written_item LogFile at bytes ≡ []
before_ring at bytes before =
    let near : nat_le 12288 at ≡ false = grind (arith, nat_tests, before) in
    ap (λ (b : Bool). if b && is_ring_block (number_of bytes) bytes then RingBlock (number_of bytes) (block_version bytes) bytes ∷ [] else []) near

check_kept : (sequence from : ℕ) (first : Past) (e : Event) (m : List Event) → IsCheckEvent sequence from e → From KeepsItems first m → From KeepsItems first (e ∷ m)
check_kept sequence from first e m kind at = at_each (λ s same. kept kind s same) at
  where
    kept : IsCheckEvent sequence from e → (s : List Event) → KeepsItems s m → KeepsItems s (e ∷ m)
    kept (Syncs is) s same = subst (λ (d : Event). KeepsItems s (d ∷ m)) (sym is) same
    kept (Writes j shows lt is) s same = subst (λ (d : Event). KeepsItems s (d ∷ m)) (sym is)
        (ap (λ (l : List Item). l ++ written_items (record_of m)) (before_ring ((side_batch sequence from).place j * 4096) ((side_batch sequence from).bytes j) (omega arith)) ∙ same)

items_now : (first : Past) → At (From KeepsItems first) first
items_now first = record { here = λ m here. record { here = λ s there. ap (λ (l : List Event). written_items (record_of l)) (same_Some m s (sym here ∙ there)) } }

-- where nothing was written
pub items_same : (past : Past) → Throughout (From KeepsItems past) past past
items_same past = begins (From KeepsItems past) past (items_now past)

pub check_items : (sequence from : ℕ) {old new : Past} → Later old new → Adds (IsCheckEvent sequence from) old new → Throughout (From KeepsItems old) old new
check_items sequence from {old} {new} later adds = kept_throughout (From KeepsItems old) (IsCheckEvent sequence from) (check_kept sequence from old) old new later adds (items_now old)

-- what holds of the record at first holds of it at each moment
from_first : (P : List Event → Type 0) → ((s m : List Event) → KeepsItems s m → P s → P m) → (old new : Past) → Throughout (From KeepsItems old) old new → At P old → Throughout P old new
from_first P moves None new items at = record { later = items.later; each = λ m from to. absurd from }
from_first P moves (Some s) new items at = weaker (λ m from. moves s m (from.here s refl) (at.here s refl)) items

pub check_once : (log : LogState) (old new : Past) → Throughout (From KeepsItems old) old new → At (BlocksOnce log) old → Throughout (BlocksOnce log) old new
check_once log old new items at = from_first (BlocksOnce log) (λ s m same o. once_items log s m same o) old new items at

pub check_record : (header : HeldHeader) (keys : List RingEntry) (salts : ℕ → List ℕ) (old new : Past) → Throughout (From KeepsItems old) old new → At (IsRecordOnce header keys salts) old → Throughout (IsRecordOnce header keys salts) old new
check_record header keys salts old new items at = from_first (IsRecordOnce header keys salts) (λ s m same o. record_items header keys salts s m same o) old new items at

-- ---- the writes of the pending blocks

module _ (log : LogState) (is : IsOpen log) where
  abbrev Once : List Event → Type 0
  Once es = BlocksOnce (handed_over log) es

  -- the record with a pending block more
  module _ (j : ℕ) (lt : j < pending_count log) (s m : List Event) (more : written_items (record_of m) ≡ RingBlock (durable log + j) (block_version (pending_at log j)) (pending_at log j) ∷ written_items (record_of s)) where
    abbrev IsNew : ℕ → ℕ → List ℕ → Type 0
    IsNew n v b = (n ≡ durable log + j) × (v ≡ block_version (pending_at log j)) × (b ≡ pending_at log j)

    old_or : (n v : ℕ) (b : List ℕ) → IsBlockWritten m n v b → IsNew n v b ⊎ IsBlockWritten s n v b
    old_or n v b x = subst (λ (l : List Item). IsAmongBlocks l n v b) more x

    -- an older block of its number is the pending one
    at_new : Once s → (n v : ℕ) (b : List ℕ) → IsBlockWritten s n v b → n ≡ durable log + j → (v ≡ block_version (pending_at log j)) × (b ≡ pending_at log j)
    at_new o n v b x e =
        let p = o.pending n v b x (omega (arith, e)) in
        let i : n - durable log ≡ j = omega (arith, e) in
        (p.0 ∙ ap (λ (k : ℕ). block_version (pending_at log k)) i, p.1 ∙ ap (λ (k : ℕ). pending_at log k) i)

    agree : Once s → (n v w : ℕ) (b d : List ℕ) → IsNew n v b ⊎ IsBlockWritten s n v b → IsNew n w d ⊎ IsBlockWritten s n w d → (v ≡ w) × (b ≡ d)
    agree o n v w b d (inl x) (inl y) = (x.1 ∙ sym y.1, x.2 ∙ sym y.2)
    agree o n v w b d (inl x) (inr y) = let p = at_new o n w d y x.0 in (x.1 ∙ sym p.0, x.2 ∙ sym p.1)
    agree o n v w b d (inr x) (inl y) = let p = at_new o n v b x y.0 in (p.0 ∙ sym y.1, p.1 ∙ sym y.2)
    agree o n v w b d (inr x) (inr y) = o.once n v w b d x y

    pub once_more : Once s → Once m
    once_more o = record {
      once = λ n v w b d x y. agree o n v w b d (old_or n v b x) (old_or n w d y);
      below = λ n v b x. ⊎_elim (λ (new : IsNew n v b). let order = is.order in omega (arith, new.0, lt, order)) (λ (old : IsBlockWritten s n v b). o.below n v b old) (old_or n v b x);
      pending = λ n v b x low. ⊎_elim
          (λ (new : IsNew n v b).
          let i : j ≡ n - durable log = omega (arith, new.0) in
          (new.1 ∙ ap (λ (k : ℕ). block_version (pending_at log k)) i, new.2 ∙ ap (λ (k : ℕ). pending_at log k) i))
          (λ (old : IsBlockWritten s n v b). o.pending n v b old low)
          (old_or n v b x);
    }

    pub record_more : (header : HeldHeader) (keys : List RingEntry) (salts : ℕ → List ℕ) → Once m → IsRecordOnce header keys salts s → IsRecordOnce header keys salts m
    record_more header keys salts now o = record {
      texts = λ sp p t u it iu. o.texts sp p t u (text_back sp p t it) (text_back sp p u iu);
      same_texts = λ sp p t u it iu. o.same_texts sp p t u (text_back sp p t it) (text_back sp p u iu);
      blocks = now.once;
    }
      where
        text_back : (sp p : ℕ) (t : Text) → IsAmongTexts (written_items (record_of m)) sp p t → IsAmongTexts (written_items (record_of s)) sp p t
        text_back sp p t it = subst (λ (l : List Item). IsAmongTexts l sp p t) more it

  block_more : (j : ℕ) → j < pending_count log → (shows : List ℕ) (m : List Event)
      → written_items (record_of (Write LogFile ((block_batch log).place j * 4096) (pending_at log j) shows ∷ m)) ≡ RingBlock (durable log + j) (block_version (pending_at log j)) (pending_at log j) ∷ written_items (record_of m)
  block_more j lt shows m =
      let valid = is.valid j lt in
      ap (λ (l : List Item). l ++ written_items (record_of m)) (block_item ((block_batch log).place j * 4096) (durable log + j) (pending_at log j) (omega arith) (block_number (durable log + j) (pending_at log j) valid) valid)

  block_kept : (e : Event) (m : List Event) → IsBlockEvent log e → Once m → Once (e ∷ m)
  block_kept e m (Syncs sync) o = subst (λ (d : Event). Once (d ∷ m)) (sym sync) (once_items (handed_over log) m (Sync LogFile ∷ m) refl o)
  block_kept e m (Writes j shows lt write) o = subst (λ (d : Event). Once (d ∷ m)) (sym write) (once_more j lt m (Write LogFile ((block_batch log).place j * 4096) (pending_at log j) shows ∷ m) (block_more j lt shows m) o)

  -- each moment of a write out has one block a number
  pub out_once : {old new : Past} → Later old new → Adds (IsBlockEvent log) old new → At Once old → Throughout Once old new
  out_once {old} {new} later adds at = kept_throughout Once (IsBlockEvent log) block_kept old new later adds at

  module _ (header : HeldHeader) (keys : List RingEntry) (salts : ℕ → List ℕ) where
    abbrev Both : List Event → Type 0
    Both m = Once m × IsRecordOnce header keys salts m

    both_kept : (e : Event) (m : List Event) → IsBlockEvent log e → Both m → Both (e ∷ m)
    both_kept e m kind both = (block_kept e m kind both.0, record_kept kind)
      where
        record_kept : IsBlockEvent log e → IsRecordOnce header keys salts (e ∷ m)
        record_kept (Syncs sync) = subst (λ (d : Event). IsRecordOnce header keys salts (d ∷ m)) (sym sync) both.1
        record_kept (Writes j shows lt write) =
            let next : List Event = Write LogFile ((block_batch log).place j * 4096) (pending_at log j) shows ∷ m in
            let more = block_more j lt shows m in
            subst (λ (d : Event). IsRecordOnce header keys salts (d ∷ m)) (sym write) (record_more j lt m next more header keys salts (once_more j lt m next more both.0) both.1)

    pub out_record : {old new : Past} → Later old new → Adds (IsBlockEvent log) old new → At Once old → At (IsRecordOnce header keys salts) old → Throughout (IsRecordOnce header keys salts) old new
    out_record {old} {new} later adds once at = weaker (λ m both. both.1) (kept_throughout Both (IsBlockEvent log) both_kept old new later adds (at_both (λ es o r. (o, r)) once at))

  -- ---- the log before and after its calls

  pub once_handed : (es : List Event) → BlocksOnce log es → Once es
  once_handed es o = record { once = o.once; below = λ n v b x. let lt = o.below n v b x in let few = is.handed_few in omega (arith, lt, few); pending = o.pending }

  pub once_written : (es : List Event) → Once es → BlocksOnce (written_out log) es
  once_written es o = record { once = o.once; below = o.below; pending = λ n v b x low. absurd (let lt = o.below n v b x in omega (arith, lt, low)) }

  pub once_checked : (f : ℕ) (es : List Event) → BlocksOnce log es → BlocksOnce (with_checkpoint log f) es
  once_checked f es o = by (nat_eq f log.from)
    where
      by : (b : Bool) → BlocksOnce (if b then log else record log { from = f; sequence = log.sequence + 1 }) es
      by true = o
      by false = record { once = o.once; below = o.below; pending = o.pending }

  -- no block was written that the blocks a ring's length behind an image's run could meet
  pub settles : (keys : Keys) (r q : RingState) (start next : ℕ) (journal : List (Logged (List Change))) → FitsRing r log → r.written ≡ r.settled → q.settled ≡ r.settled → (m : List Event) → AreBlocksBelow log.next m → AreBlocksSettled log.blocks keys q start journal next m
  settles keys r q start next journal fits all same m below l run n v b x =
      let lt = below n v b x in
      let end = run.settles in
      let room = is.room in
      let order = is.order in
      let written = fits.written in
      omega (arith, lt, end, room, order, written, all, same)

-- a log with nothing pending, none of whose numbers was written
pub once_empty : (blocks from sequence : ℕ) (es : List Event) → AreBlocksOnce es → AreBlocksBelow from es → BlocksOnce (empty_log blocks from sequence) es
once_empty blocks from sequence es once below = record { once = once; below = below; pending = λ n v b x low. absurd (let lt = below n v b x in omega (arith, lt, low)) }

-- ---- calls on other files

-- a record with no block more
pub once_less : (log : LogState) (s m : List Event) → ((n v : ℕ) (b : List ℕ) → IsBlockWritten m n v b → IsBlockWritten s n v b) → BlocksOnce log s → BlocksOnce log m
once_less log s m back o = record {
  once = λ n v w b d x y. o.once n v w b d (back n v b x) (back n w d y);
  below = λ n v b x. o.below n v b (back n v b x);
  pending = λ n v b x low. o.pending n v b (back n v b x) low;
}

-- what a write to another file wrote is no ring block
no_block : (f : FileName) → same_file f LogFile ≡ false → (at : ℕ) (bytes : List ℕ) (items : List Item) (n v : ℕ) (b : List ℕ) → IsAmongBlocks (written_item f at bytes ++ items) n v b → IsAmongBlocks items n v b
no_block LogFile other at bytes items n v b x = absurd (true≢false other)
no_block Double other at bytes items n v b x = by (slot_held bytes) x
  where
    by : (slot : Option Slot) → IsAmongBlocks (slot_item slot ++ items) n v b → IsAmongBlocks items n v b
    by None x = x
    by (Some y) x = x
no_block (Space s) other at bytes items n v b x = by (is_page_text (at / 16384) bytes) x
  where
    by : (is : Bool) → IsAmongBlocks ((if is then PageText s (at / 16384) (text_in bytes) ∷ [] else []) ++ items) n v b → IsAmongBlocks items n v b
    by true x = x
    by false x = x

-- A log agrees with the record over calls on another file, and over marks that are told.
other_kept : (log : LogState) (f : FileName) → same_file f LogFile ≡ false → (e : Event) (m : List Event) → IsOn f e → BlocksOnce log m → BlocksOnce log (e ∷ m)
other_kept log f other (Write g at bytes shows) m on o =
    once_less log m (Write g at bytes shows ∷ m) (λ n v b x. no_block g (not_log g f on other) at bytes (written_items (record_of m)) n v b x) o
  where
    not_log : (g f : FileName) → same_file g f ≡ true → same_file f LogFile ≡ false → same_file g LogFile ≡ false
    not_log LogFile LogFile is other = other
    not_log LogFile Double is other = absurd (true≢false (sym is))
    not_log LogFile (Space s) is other = absurd (true≢false (sym is))
    not_log Double f is other = refl
    not_log (Space s) f is other = refl
other_kept log f other (Sync g) m on o = once_less log m (Sync g ∷ m) (λ n v b x. x) o
other_kept log f other (Open files ms ws) m on o = absurd on
other_kept log f other (Make g n) m on o = absurd on
other_kept log f other (Tell k) m on o = absurd on

pub once_elsewhere : (log : LogState) (f : FileName) → same_file f LogFile ≡ false → (s m : List Event) → Since (IsOn f) s m → BlocksOnce log s → BlocksOnce log m
once_elsewhere log f other s m since o = kept_since (BlocksOnce log) (IsOn f) (other_kept log f other) s m since o

pub once_told : (log : LogState) (mark : Mark) (m : List Event) → BlocksOnce log m → BlocksOnce log (Tell mark ∷ m)
once_told log mark m o = once_less log m (Tell mark ∷ m) (λ n v b x. x) o
