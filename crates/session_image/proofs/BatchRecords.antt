-- The record over a batch of page texts that is stored and written home, at any stage of a store's life at which these texts may be written.
use Rattle.std.proofs.Common.{◌≡◌, ℕ, zero, suc, ◌*◌, ◌^◌, ◌<◌, ◌≤◌, inl, inr, true, List, [], ◌∷◌, ◌++◌, length, take, Option, Some, None, refl, sym, ap, subst, ◌∙◌, arith}
use Rattle.std.proofs.lemmas.List.{take_all}
use Rattle.disk_model.specs.Event.{Event, Write, Sync, record_of}
use Rattle.disk_model.specs.Does.{Since}
use Rattle.disk_model.specs.Past.{Past, At, Throughout, grow}
use Rattle.disk_model.specs.declared.names.FileName.{FileName}
use Rattle.disk_model.specs.declared.names.FileName.TheVariants.{Double, Space}
use Rattle.disk_model.proofs.FilesLemmas.{same_file-≡}
use Rattle.disk_model.proofs.Moments.{at_grow, at_last, begins, throughout_grows}
use Rattle.places.specs.Batches.{Batch}
use Rattle.places.specs.Places.{MayRead, Whole, IsTorn}
use Rattle.places.specs.Writes.{writes_of, grows, IsPart, Done, Failed as FailedAt}
use Rattle.places.proofs.WriteLemmas.{grows_none}
use Rattle.page_places.specs.Texts.{page_bytes, slot_size, held, slot_held, text_in}
use Rattle.page_places.specs.Views.{places_by, IsNoSlot}
use Rattle.page_places.proofs.Texts.{held_is, slot-holds}
use Rattle.store_image.specs.Groups.{IsNoText, item_of, slot_of}
use Rattle.store_image.specs.LifeStages.{Failed, IsUp, LifeStage, MayWrite}
use Rattle.store_image.specs.Places.{LogView}
use Rattle.store_image.specs.Record.{Item, PageText, RingBlock, IsAmongTexts}
use Rattle.store_image.specs.RecordKept.{IsLifeMoment, IsStageRecord, MayHoldWritten}
use Rattle.store_image.specs.Recovers.{Theory}
use Rattle.store_image.specs.View.{Text, Holds, Slot}
use Rattle.store_image.proofs.LifeGroups.{AreWritable, with_group, moment_stores, moment_homes}
use Rattle.store_image.proofs.LifeMoments.{stage_writes}
use Rattle.crash_image.specs.Writes.{written_item, written_items}
use Rattle.crash_image.proofs.WrittenItems.{home_item, slot_text_item}
use Rattle.doublewrite.specs.Batch.{text_at, slot_batch, slot_events, home_batch, home_events}
use Rattle.doublewrite.specs.Group.{group_of}
use Rattle.doublewrite.specs.Layer.{SlotsSettled, IsSlotEvent, IsInside, ArePagesDistinct, HomesSettled, IsHomeEvent}
use Rattle.doublewrite.specs.Text.{ArePageTexts, page_number_of}
use Rattle.doublewrite.specs.declared.texts.Texts.{Texts}
use Rattle.doublewrite.proofs.GroupLifts.{page_item, pages_length, store_group, home_group}
use Rattle.doublewrite.proofs.Lifts.{text_is}

-- ---- what an image may hold after a write was written

among_behind : (new items : List Item) (s p : ℕ) (t : Text) → IsAmongTexts items s p t → IsAmongTexts (new ++ items) s p t
among_behind [] items s p t among = among
among_behind (PageText y q u ∷ new) items s p t among = inr (among_behind new items s p t among)
among_behind (RingBlock n v b ∷ new) items s p t among = among_behind new items s p t among

among_new : (new items : List Item) (s p : ℕ) (t : Text) → new ≡ PageText s p t ∷ [] → IsAmongTexts (new ++ items) s p t
among_new new items s p t is = subst (λ (l : List Item). IsAmongTexts (l ++ items) s p t) (sym is) (inl (refl, refl, refl))

module _ (T : Theory) (may_log : LogView T.M → Type 0) (f : FileName) (at : ℕ) (bytes shows : List ℕ) (es : List Event) (items : List Item) (old : MayHoldWritten T items (places_by may_log es)) where
  home_written_for : (s p : ℕ) (t : Text) → T.has s p ≡ true → MayRead (held p) IsNoText (Space s) page_bytes p (Write f at bytes shows ∷ es) (Holds t) → IsAmongTexts (written_item f at bytes ++ items) s p t
  home_written_for s p t there (Whole x (inl may) is) = among_behind (written_item f at bytes) items s p t (old.homes s p t there (Whole x may is))
  home_written_for s p t there (Whole x (inr (same, place, inl e)) is) =
      let bytes_are : x ≡ bytes = cc in
      let file : Space s ≡ f = same_file-≡ (Space s) f same in
      let text = held_is p bytes t (ap (held p) (sym bytes_are) ∙ sym is) in
      among_new (written_item f at bytes) items s p t
      (ap (λ (g : FileName). written_item g at bytes) (sym file) ∙ ap (λ (n : ℕ). written_item (Space s) n bytes) place ∙ home_item s p bytes text.0 ∙ ap (λ (u : Text). PageText s p u ∷ []) text.1)
  home_written_for s p t there (Whole x (inr (same, place, inr e)) is) = absurd (cc)
  home_written_for s p t there (IsTorn may torn) = absurd (torn t refl)

  slot_written_for : (i : ℕ) (x : Slot) → MayRead slot_held IsNoSlot Double slot_size i (Write f at bytes shows ∷ es) (Some x) → ((y : Slot) → MayRead slot_held IsNoSlot Double slot_size i es (Some y) → IsAmongTexts items y.space y.page y.text)
      → IsAmongTexts (written_item f at bytes ++ items) x.space x.page x.text
  slot_written_for i x (Whole b (inl may) is) before = among_behind (written_item f at bytes) items x.space x.page x.text (before x (Whole b may is))
  slot_written_for i x (Whole b (inr (same, place, inl e)) is) before =
      let bytes_are : b ≡ bytes = cc in
      let file : Double ≡ f = same_file-≡ Double f same in
      among_new (written_item f at bytes) items x.space x.page x.text
      (ap (λ (g : FileName). written_item g at bytes) (sym file) ∙ slot_text_item at bytes x (ap slot_held (sym bytes_are) ∙ sym is))
  slot_written_for i x (Whole b (inr (same, place, inr e)) is) before = absurd (cc)
  slot_written_for i x (IsTorn may torn) before = absurd (cc)

  pub may_written : MayHoldWritten T (written_item f at bytes ++ items) (places_by may_log (Write f at bytes shows ∷ es))
  may_written = record {
    homes = λ s p t there may. home_written_for s p t there may;
    slots = λ i x below may. slot_written_for i x may (λ y earlier. old.slots i y below earlier);
  }

-- ---- the texts of a group, one after another

push : (z : ℕ) (group : List (ℕ × Text)) (k : ℕ) → k < length group → (items : List Item) → with_group z (take (suc k) group) items ≡ PageText z (item_of z group k).page (item_of z group k).text ∷ with_group z (take k group) items
push z [] k below items = absurd (omega (arith, below))
push z (x ∷ group) zero below items = refl
push z (x ∷ group) (suc k) below items = push z group k (omega (arith, below)) (PageText z x.0 x.1 ∷ items)

-- the items of the first writes of a batch
pub group_items : (f : FileName) (n : ℕ) (b : Batch) (z : ℕ) (group : List (ℕ × Text)) (s : List Event)
    → ((j : ℕ) → j < length group → written_item f (b.place j * n) (b.bytes j) ≡ PageText z (item_of z group j).page (item_of z group j).text ∷ [])
    → (k : ℕ) → k ≤ length group → written_items (record_of (writes_of f n b k ++ s)) ≡ with_group z (take k group) (written_items (record_of s))
group_items f n b z group s each zero below = refl
group_items f n b z group s each (suc k) below =
    ap (λ (l : List Item). l ++ written_items (record_of (writes_of f n b k ++ s))) (each k (omega (arith, below)))
    ∙ ap (λ (l : List Item). PageText z (item_of z group k).page (item_of z group k).text ∷ l) (group_items f n b z group s each k (omega (arith, below)))
    ∙ sym (push z group k (omega (arith, below)) (written_items (record_of s)))

all_items : (f : FileName) (n : ℕ) (b : Batch) (z : ℕ) (group : List (ℕ × Text)) (s : List Event) (total : ℕ) → length group ≡ total
    → ((j : ℕ) → j < length group → written_item f (b.place j * n) (b.bytes j) ≡ PageText z (item_of z group j).page (item_of z group j).text ∷ [])
    → written_items (record_of (writes_of f n b total ++ s)) ≡ with_group z group (written_items (record_of s))
all_items f n b z group s total many each = group_items f n b z group s each total (omega (arith, many)) ∙ ap (λ (l : List (ℕ × Text)). with_group z l (written_items (record_of s))) (take_all total group (omega (arith, many)))

module _ (batch : Texts) (texts : ArePageTexts batch.pages) where
  abbrev z : ℕ
  z = batch.space

  abbrev group : List (ℕ × Text)
  group = group_of batch

  -- what the write of a slot and that of a home write
  slot_item_of : z < 2 ^ 32 → (j : ℕ) → j < length group → written_item Double ((slot_batch batch).place j * slot_size) ((slot_batch batch).bytes j) ≡ PageText z (item_of z group j).page (item_of z group j).text ∷ []
  slot_item_of small j below =
      let same = pages_length batch.pages in
      let within : j < length batch.pages = omega (arith, below, same) in
      let is = texts j within in
      let text : Slot = slot_of z (page_number_of (text_at batch j)) (text_in (text_at batch j)) in
      slot_text_item ((slot_batch batch).place j * slot_size) ((slot_batch batch).bytes j) text (slot-holds z (page_number_of (text_at batch j)) batch.batch (text_at batch j) small is.number (text_is (text_at batch j) is))
      ∙ ap (λ (x : Slot). PageText z x.page x.text ∷ []) (page_item z batch.pages j within)

  home_item_of : (j : ℕ) → j < length group → written_item (Space z) ((home_batch batch).place j * page_bytes) ((home_batch batch).bytes j) ≡ PageText z (item_of z group j).page (item_of z group j).text ∷ []
  home_item_of j below =
      let same = pages_length batch.pages in
      let within : j < length batch.pages = omega (arith, below, same) in
      home_item z (page_number_of (text_at batch j)) (text_at batch j) (text_is (text_at batch j) (texts j within))
      ∙ ap (λ (x : Slot). PageText z x.page x.text ∷ []) (page_item z batch.pages j within)

module _ (T : Theory) (N : ℕ) (may_log : LogView T.M → Type 0) (stage : LifeStage T) where
  -- the record at a moment of the stage, also after a call that failed
  abbrev pub Keeps : List Event → Type 0
  Keeps es = IsLifeMoment T N (Failed stage) (written_items (record_of es)) (places_by may_log es)

  -- and between two calls that were answered Ok
  abbrev pub KeepsReady : List Event → Type 0
  KeepsReady es = IsLifeMoment T N stage (written_items (record_of es)) (places_by may_log es)

  -- ---- one write

  module _ (f : FileName) (at : ℕ) (bytes shows : List ℕ) (z p : ℕ) (t : Text) (es : List Event) (is : written_item f at bytes ≡ PageText z p t ∷ []) (there : T.has z p ≡ true) (may : MayWrite T stage (written_items (record_of es)) z p t) (m : Keeps es) where
    abbrev items : List Item
    items = written_items (record_of es)

    more : written_item f at bytes ++ items ≡ PageText z p t ∷ items
    more = ap (λ (l : List Item). l ++ items) is

    there_more : (s q : ℕ) (u : Text) → IsAmongTexts (PageText z p t ∷ items) s q u → T.has s q ≡ true
    there_more s q u (inl (space, page, text)) = subst (λ (i : ℕ). T.has i q ≡ true) (sym space) (subst (λ (i : ℕ). T.has z i ≡ true) (sym page) there)
    there_more s q u (inr among) = m.there s q u among

    pub write_kept : Keeps (Write f at bytes shows ∷ es)
    write_kept = record {
      there = λ s q u among. there_more s q u (subst (λ (l : List Item). IsAmongTexts l s q u) more among);
      kept = subst (λ (l : List Item). IsStageRecord T N l stage) (sym more) (stage_writes T N stage items z p t may m.kept);
      may = may_written T may_log f at bytes shows es items m.may;
      reads = λ up. absurd up;
    }

  -- ---- writes in a row

  module _ (f : FileName) (n : ℕ) (b : Batch) (z : ℕ) (pages : List (ℕ × Text)) (each : (j : ℕ) → j < length pages → written_item f (b.place j * n) (b.bytes j) ≡ PageText z (item_of z pages j).page (item_of z pages j).text ∷ [])
      (there : (j : ℕ) → j < length pages → T.has z (item_of z pages j).page ≡ true) (may : AreWritable T N stage z pages) where
    may_at : (xs : List (ℕ × Text)) → AreWritable T N stage z xs → (j : ℕ) → j < length xs → (items : List Item) → MayWrite T stage items z (item_of z xs j).page (item_of z xs j).text
    may_at [] writable j below items = absurd (omega (arith, below))
    may_at (x ∷ xs) writable zero below items = writable.0 items
    may_at (x ∷ xs) writable (suc j) below items = may_at xs writable.1 j (omega (arith, below)) items

    write_at : (j : ℕ) → j < length pages → (shows : List ℕ) (es : List Event) → Keeps es → Keeps (Write f (b.place j * n) (b.bytes j) shows ∷ es)
    write_at j below shows es m =
        write_kept f (b.place j * n) (b.bytes j) shows z (item_of z pages j).page (item_of z pages j).text es (each j below) (there j below) (may_at pages may j below (written_items (record_of es))) m

    grow_grows : (e : Event) (news : List Event) (h : Past) → grow e (grows news h) ≡ grows (e ∷ news) h
    grow_grows e news None = refl
    grow_grows e news (Some es) = refl

    -- each moment of the first writes
    writes_kept : (old : Past) → At Keeps old → (j : ℕ) → j ≤ length pages → Throughout Keeps old (grows (writes_of f n b j) old)
    writes_kept old here zero below = subst (Throughout Keeps old) (sym (grows_none old)) (begins Keeps old here)
    writes_kept old here (suc j) below =
        let before = writes_kept old here j (omega (arith, below)) in
        let e : Event = Write f (b.place j * n) (b.bytes j) (b.bytes j) in
        subst (Throughout Keeps old) (grow_grows e (writes_of f n b j) old)
        (throughout_grows Keeps old (grows (writes_of f n b j) old) e before (at_grow e (λ es m. write_at j (omega (arith, below)) (b.bytes j) es m) (at_last Keeps old (grows (writes_of f n b j) old) before)))

    -- each moment of a batch that was written in part, also of the write that failed
    part_kept : (old new : Past) (total : ℕ) → total ≡ length pages → At Keeps old → IsPart f n b total old new → Throughout Keeps old new
    part_kept old new total many here (Done j below is) = subst (Throughout Keeps old) (sym is) (writes_kept old here j (omega (arith, below, many)))
    part_kept old new total many here (FailedAt j e below (shows, long, write) is) =
        let within : j < length pages = omega (arith, below, many) in
        let before = writes_kept old here j (omega (arith, within)) in
        let now : Past = grows (writes_of f n b j) old in
        subst (Throughout Keeps old) (sym (is ∙ sym (grow_grows e (writes_of f n b j) old)))
        (throughout_grows Keeps old now e before (at_grow e (λ es m. subst (λ (d : Event). Keeps (d ∷ es)) (sym write) (write_at j within shows es m)) (at_last Keeps old now before)))

    -- and of one that was written in whole and synced, whose last moment is known
    whole_kept : (g : FileName) (old new : Past) (total : ℕ) → total ≡ length pages → At Keeps old → new ≡ grows (Sync g ∷ writes_of f n b total) old → At Keeps new → Throughout Keeps old new
    whole_kept g old new total many here is last =
        let now : Past = grows (writes_of f n b total) old in
        let end : new ≡ grow (Sync g) now = is ∙ sym (grow_grows (Sync g) (writes_of f n b total) old) in
        subst (Throughout Keeps old) (sym end)
        (throughout_grows Keeps old now (Sync g) (writes_kept old here total (omega (arith, many))) (subst (At Keeps) end last))

  -- ---- a batch

  module _ (batch : Texts) (texts : ArePageTexts batch.pages) (there : (j : ℕ) → j < length (group_of batch) → T.has batch.space (item_of batch.space (group_of batch) j).page ≡ true) (may : AreWritable T N stage batch.space (group_of batch)) where
    many : length batch.pages ≡ length (group_of batch)
    many = sym (pages_length batch.pages)

    -- Each moment of a `store` that was refused.
    pub storing_kept : batch.space < 2 ^ 32 → (old new : Past) → At Keeps old → IsPart Double slot_size (slot_batch batch) (length batch.pages) old new → Throughout Keeps old new
    storing_kept small old new here part = part_kept Double slot_size (slot_batch batch) batch.space (group_of batch) (slot_item_of batch texts small) there may old new (length batch.pages) many here part

    -- Each moment of one that was answered Ok, and its end.
    pub stores_kept : batch.space < 2 ^ 32 → (old new : Past) → At Keeps old → new ≡ grows (slot_events batch) old → At Keeps new → Throughout Keeps old new
    stores_kept small old new here exact last = whole_kept Double slot_size (slot_batch batch) batch.space (group_of batch) (slot_item_of batch texts small) there may Double old new (length batch.pages) many here exact last

    pub stored_ready : batch.space < 2 ^ 32 → IsUp T stage → (s m : List Event) → KeepsReady s → m ≡ slot_events batch ++ s → Since (IsSlotEvent batch) s m → SlotsSettled batch s m → KeepsReady m
    stored_ready small up s m kept exact since settled =
        let items : written_items (record_of m) ≡ with_group batch.space (group_of batch) (written_items (record_of s)) =
        ap (λ (es : List Event). written_items (record_of es)) exact
        ∙ all_items Double slot_size (slot_batch batch) batch.space (group_of batch) s (length batch.pages) (pages_length batch.pages) (slot_item_of batch texts small) in
        subst (λ (l : List Item). IsLifeMoment T N stage l (places_by may_log m)) (sym items)
        (moment_stores T N stage batch.space (group_of batch) (written_items (record_of s)) (places_by may_log s) may kept up (places_by may_log m) (store_group may_log batch texts s m small since settled))

    -- The same of `home`.
    pub homing_kept : (old new : Past) → At Keeps old → IsPart (Space batch.space) page_bytes (home_batch batch) (length batch.pages) old new → Throughout Keeps old new
    homing_kept old new here part = part_kept (Space batch.space) page_bytes (home_batch batch) batch.space (group_of batch) (home_item_of batch texts) there may old new (length batch.pages) many here part

    pub homes_kept : (old new : Past) → At Keeps old → new ≡ grows (home_events batch) old → At Keeps new → Throughout Keeps old new
    homes_kept old new here exact last = whole_kept (Space batch.space) page_bytes (home_batch batch) batch.space (group_of batch) (home_item_of batch texts) there may (Space batch.space) old new (length batch.pages) many here exact last

    pub homed_ready : IsUp T stage → (s m : List Event) → KeepsReady s → m ≡ home_events batch ++ s → (count : ℕ) → IsInside batch count s → ArePagesDistinct batch → Since (IsHomeEvent batch) s m → HomesSettled batch s m → KeepsReady m
    homed_ready up s m kept exact count inside distinct since settled =
        let items : written_items (record_of m) ≡ with_group batch.space (group_of batch) (written_items (record_of s)) =
        ap (λ (es : List Event). written_items (record_of es)) exact
        ∙ all_items (Space batch.space) page_bytes (home_batch batch) batch.space (group_of batch) s (length batch.pages) (pages_length batch.pages) (home_item_of batch texts) in
        subst (λ (l : List Item). IsLifeMoment T N stage l (places_by may_log m)) (sym items)
        (moment_homes T N stage batch.space (group_of batch) (written_items (record_of s)) (places_by may_log s) may kept up (places_by may_log m) (home_group may_log batch texts s m count inside distinct since settled))
