-- What each event does to the facts of the log.
use Rattle.std.proofs.Common.{◌≡◌, ◌≢◌, ℕ, zero, suc, ◌+◌, ◌-◌, ◌*◌, ◌<◌, ◌≤◌, true≢false, List, ◌∷◌, length, refl, sym, ◌∙◌, ap, subst, inl, inr, ◌⊎◌, ⊎_elim, arith, Result, Ok, Err, OnErr}
use Rattle.std.proofs.lemmas.Bool.{cases_eq, cases_lt}
use Rattle.disk_model.specs.Event.{Event, Write, Sync, Tell, put, reads}
use Rattle.disk_model.specs.Past.{IsWrite, Past, Step}
use Rattle.disk_model.specs.Image.{InFile, Leaves, Outcome, Lost, Kept, Torn, Image, IsImage, IsLucky, IsListed, uncovered}
use Rattle.disk_model.specs.declared.names.FileName.TheVariants.{Log}
use Rattle.disk_model.specs.declared.names.Mark.TheVariants.{Acked, Started}
use Rattle.disk_model.proofs.Blocks.{length-put, range-put_same, range-put_before, range-put_after, listed-uncovered}
use Rattle.disk_model.proofs.Moments.{weaker}
use Rattle.plain_engine.specs.Block.{log_bytes, IsLogBlock, IsHeader, IsCheckpoint}
use Rattle.plain_engine.specs.Log.{log_block, ring_place, IsFramed}
use Rattle.disk_model.specs.Marks.{acked as acked_of}
use Rattle.disk_model.specs.Crash.{unsynced_writes}
use Rattle.plain_engine.specs.Stands.{passes, IsBlockWrite}
use Rattle.plain_engine.specs.Layer.{entry, entry_at, HasNone, PlainPlace, Written, NoBlock, IsTorn, Spaced, IsLogFile, HoldsBlocks, LogReady, PlainMoment, Runs, AllRun, IsCrashSafe, AreNumbered}
use Rattle.plain_engine.proofs.Refusable.{block_write, others_are, all_refusable}
use Rattle.plain_engine.proofs.Places.{place_low, place_high, place_again, ranges_apart}
use Rattle.plain_engine.proofs.Sums.{IsLogBlock-length, IsLogBlock-sums_up, IsLogBlock-number}

-- where the ring is full the next number has the place of the first block
pub full_ring : (blocks : List (List ℕ)) (file : List ℕ) (i : ℕ) → AreNumbered blocks → length blocks ≡ 256 → entry_at 0 file ≡ entry blocks 0 → i ≡ 256 → HasNone i file
full_ring blocks file i numbered full front end text block =
    let first = numbered 0 (omega arith) in
    let same : i + 2 ≡ 2 + 256 = omega arith in
    let place : ring_place (i + 2) ≡ ring_place 2 = ap ring_place same ∙ place_again 2 in
    let here : log_block (ring_place (i + 2)) file ≡ entry blocks 0 = ap (λ (k : ℕ). log_block k file) place ∙ front in
    let number : i + 2 ≡ 2 = IsLogBlock-number (subst (IsLogBlock (i + 2) text) here block) first.1 in
    omega (arith, number)

-- The run of each image of such a moment.
module _ (blocks : List (List ℕ)) (settled written : ℕ) (es : List Event) (h : HoldsBlocks blocks settled written es) (image : Image) (is : IsImage es image) (lucky : IsLucky passes image) where
  abbrev file : List ℕ
  file = image.bytes Log

  spaced : Spaced blocks settled written file (image.torn Log)
  spaced = h.images file (image.torn Log) (is.left Log)

  no_torn_block : (i : ℕ) → IsListed (image.torn Log) (ring_place (i + 2) * 4096) 4096 → HasNone i file
  no_torn_block i listed text block = true≢false (sym (IsLogBlock-sums_up block) ∙ lucky Log (ring_place (i + 2) * 4096) 4096 listed)

  told : acked_of image.told ≤ settled
  told = subst (λ ms. acked_of ms ≤ settled) (sym is.told) h.acked

  runs_to : (i : ℕ) → ((j : ℕ) → j < i → entry_at j file ≡ entry blocks j) → settled ≤ i → i ≤ written → HasNone i file → Runs blocks image
  runs_to i front after within none = record {
    count = i;
    within = omega (arith, h.within);
    size = spaced.size;
    framed = spaced.framed;
    whole = front;
    ends = none;
    acked = omega (arith, told);
  }

  at_place : (i : ℕ) → ((j : ℕ) → j < i → entry_at j file ≡ entry blocks j) → settled ≤ i → PlainPlace blocks written i file (image.torn Log) → (i < written → ((j : ℕ) → j < i + 1 → entry_at j file ≡ entry blocks j) → Runs blocks image) → i ≤ written → Runs blocks image
  at_place i front after (Written below same) more within = more below (λ j le. ⊎_elim (λ lt. front j lt) (λ (e : j ≡ i). subst (λ (k : ℕ). entry_at k file ≡ entry blocks k) (sym e) same) (below_or j i le))
    where
      below_or : (j i : ℕ) → j < i + 1 → (j < i) ⊎ (j ≡ i)
      below_or j i le = ⊎_elim (λ lt. inl lt) (λ (ge : i ≤ j). inr (omega arith)) (cases_lt j i)
  at_place i front after (NoBlock none) more within = runs_to i front after within none
  at_place i front after (IsTorn listed) more within = runs_to i front after within (no_torn_block i listed)

  find : (fuel i : ℕ) → i + fuel ≡ written → settled ≤ i → ((j : ℕ) → j < i → entry_at j file ≡ entry blocks j) → Runs blocks image
  find zero i here after front = ⊎_elim
      (λ (lt : i < 256). at_place i front after (spaced.rest i after lt) (λ below more. absurd (omega arith)) (omega arith))
      (λ (ge : 256 ≤ i). runs_to i front after (omega arith) (full_ring blocks file i h.numbered (omega (arith, h.within, h.room)) (front 0 (omega arith)) (omega (arith, h.within, h.room))))
      (cases_lt i 256)
  find (suc fuel) i here after front =
      at_place i front after (spaced.rest i after (omega (arith, h.within, h.room))) (λ below more. find fuel (i + 1) (omega arith) (omega arith) more) (omega arith)

  pub runs : Runs blocks image
  runs = find (written - settled) settled (omega (arith, h.order)) (omega arith) spaced.front

  -- where nothing is written behind the settled blocks, exactly these stand
  pub filled : written ≤ settled → IsLogFile blocks settled file
  filled le = record { size = spaced.size; framed = spaced.framed; whole = spaced.front; fresh = λ i after lt. fresh i (spaced.rest i after lt) (omega (arith, le, after)) }
    where
      fresh : (i : ℕ) → PlainPlace blocks written i file (image.torn Log) → written ≤ i → HasNone i file
      fresh i (Written below same) behind = absurd (omega (arith, below, behind))
      fresh i (NoBlock none) behind = none
      fresh i (IsTorn listed) behind = no_torn_block i listed

pub all_run : (blocks : List (List ℕ)) (settled written : ℕ) (es : List Event) → HoldsBlocks blocks settled written es → AllRun blocks es
all_run blocks settled written es h image is lucky = runs blocks settled written es h image is lucky

-- A write behind the first three blocks leaves them alone.
pub framed_put : (at : ℕ) (bytes file : List ℕ) → at + length bytes ≤ length file → 12288 ≤ at → IsFramed file → IsFramed (put at bytes file)
framed_put at bytes file fits behind f = record {
  spaces = f.spaces;
  header = subst (IsHeader f.spaces) (sym (range-put_before at bytes file fits 0 4096 (omega arith))) f.header;
  checkpoint = subst (IsCheckpoint 1 2) (sym (range-put_before at bytes file fits 8192 4096 (omega arith))) f.checkpoint;
  newest = λ sequence from c. f.newest sequence from (subst (IsCheckpoint sequence from) (range-put_before at bytes file fits 4096 4096 (omega arith)) c);
}

-- A write of 4096 bytes at the place of a block.
module _ (file : List ℕ) (size : length file ≡ log_bytes) (i : ℕ) (room : i < 256) (bytes : List ℕ) (whole : length bytes ≡ 4096) where
  abbrev at : ℕ
  at = ring_place (i + 2) * 4096

  pub fits : at + length bytes ≤ length file
  fits = omega (arith, size, whole, place_high (i + 2))

  pub size_put : length (put at bytes file) ≡ log_bytes
  size_put = length-put at bytes file fits ∙ size

  pub other_put : (j : ℕ) → j < 256 → j ≢ i → entry_at j (put at bytes file) ≡ entry_at j file
  other_put j small other = ⊎_elim
      (λ (before : ring_place (j + 2) * 4096 + 4096 ≤ at). range-put_before at bytes file fits (ring_place (j + 2) * 4096) 4096 before)
      (λ (after : at + 4096 ≤ ring_place (j + 2) * 4096). range-put_after at bytes file fits (ring_place (j + 2) * 4096) 4096 (omega (arith, whole)))
      (ranges_apart j i small room other)

  pub same_put : entry_at i (put at bytes file) ≡ bytes
  same_put = range-put_same at bytes file fits 4096 (sym whole)

  pub frame_put : IsFramed file → IsFramed (put at bytes file)
  frame_put f = framed_put at bytes file fits (omega (arith, place_low (i + 2))) f

-- A write of the next block, in an image.
module _ (blocks : List (List ℕ)) (settled written : ℕ) (old : List ℕ) (rest : List (ℕ × ℕ)) (s : Spaced blocks settled written old rest)
    (order : settled ≤ written) (room : written < 256) (bytes : List ℕ) (size : length bytes ≡ 4096) where
  abbrev place : ℕ
  place = ring_place (written + 2) * 4096

  other_block : (j : ℕ) → j < 256 → j ≢ written → entry_at j (put place bytes old) ≡ entry_at j old
  other_block j small other = other_put old s.size written room bytes size j small other

  other_place : (torn : List (ℕ × ℕ)) → ((i : ℕ) → i < 256 → i ≢ written → IsListed rest (ring_place (i + 2) * 4096) 4096 → IsListed torn (ring_place (i + 2) * 4096) 4096)
      → (i : ℕ) → i < 256 → i ≢ written → PlainPlace blocks written i old rest → PlainPlace blocks (written + 1) i (put place bytes old) torn
  other_place torn keeps i small other (Written below same) = Written (omega arith) (other_block i small other ∙ same)
  other_place torn keeps i small other (NoBlock none) = NoBlock (λ text block. none text (subst (IsLogBlock (i + 2) text) (other_block i small other) block))
  other_place torn keeps i small other (IsTorn listed) = IsTorn (keeps i small other listed)

  spaced_after : (torn : List (ℕ × ℕ)) → ((i : ℕ) → i < 256 → i ≢ written → IsListed rest (ring_place (i + 2) * 4096) 4096 → IsListed torn (ring_place (i + 2) * 4096) 4096)
      → PlainPlace blocks (written + 1) written (put place bytes old) torn → Spaced blocks settled (written + 1) (put place bytes old) torn
  spaced_after torn keeps here = record {
    size = size_put old s.size written room bytes size;
    framed = frame_put old s.size written room bytes size s.framed;
    front = λ i below. other_block i (omega arith) (omega arith) ∙ s.front i below;
    rest = λ i after lt. ⊎_elim
        (λ (e : i ≡ written). subst (λ (k : ℕ). PlainPlace blocks (written + 1) k (put place bytes old) torn) (sym e) here)
        (λ (ne : i ≡ written → ⊥). other_place torn keeps i lt ne (s.rest i after lt))
        (cases_eq i written);
  }

  pub spaced_kept : bytes ≡ entry blocks written → Spaced blocks settled (written + 1) (put place bytes old) (uncovered place (length bytes) rest)
  spaced_kept is = spaced_after (uncovered place (length bytes) rest)
      (λ i small other listed. listed-uncovered place (length bytes) rest (ring_place (i + 2) * 4096) 4096 (apart i small other) (omega arith) listed)
      (Written (omega arith) (same_put old s.size written room bytes size ∙ is))
    where
      apart : (i : ℕ) → i < 256 → i ≢ written → (ring_place (i + 2) * 4096 + 4096 ≤ place) ⊎ (place + length bytes ≤ ring_place (i + 2) * 4096)
      apart i small other = ⊎_elim (λ before. inl before) (λ (after : place + 4096 ≤ ring_place (i + 2) * 4096). inr (omega (arith, size))) (ranges_apart i written small room other)

  pub spaced_torn : Spaced blocks settled (written + 1) (put place bytes old) ((place, 4096) ∷ rest)
  spaced_torn = spaced_after ((place, 4096) ∷ rest) (λ i small other listed. inr listed) (IsTorn (inl (refl, refl)))

pub spaced_lost : (blocks : List (List ℕ)) (settled written : ℕ) (file : List ℕ) (torn : List (ℕ × ℕ)) → Spaced blocks settled written file torn → Spaced blocks settled (written + 1) file torn
spaced_lost blocks settled written file torn s = record { size = s.size; framed = s.framed; front = s.front; rest = λ i after lt. one_more i (s.rest i after lt) }
  where
    one_more : (i : ℕ) → PlainPlace blocks written i file torn → PlainPlace blocks (written + 1) i file torn
    one_more i (Written below same) = Written (omega arith) same
    one_more i (NoBlock none) = NoBlock none
    one_more i (IsTorn listed) = IsTorn listed

module _ (blocks : List (List ℕ)) (settled written : ℕ) (es : List Event) (h : HoldsBlocks blocks settled written es) (more : written < length blocks) where
  pub size_of : length (entry blocks written) ≡ 4096
  size_of = IsLogBlock-length (h.numbered written more).1

  after_write : (file : List ℕ) (torn : List (ℕ × ℕ)) → Outcome (ring_place (written + 2) * 4096) (entry blocks written) (Leaves Log es) file torn → Spaced blocks settled (written + 1) file torn
  after_write file torn (Lost before) = spaced_lost blocks settled written file torn (h.images file torn before)
  after_write file torn (Kept old rest before is at) =
      subst (λ (f : List ℕ). Spaced blocks settled (written + 1) f torn) (sym is)
      (subst (λ (t : List (ℕ × ℕ)). Spaced blocks settled (written + 1) (put (ring_place (written + 2) * 4096) (entry blocks written) old) t) (sym at)
      (spaced_kept blocks settled written old rest (h.images old rest before) h.order (omega (arith, h.room)) (entry blocks written) size_of refl))
  after_write file torn (Torn any old rest size before is at) =
      let range : torn ≡ (ring_place (written + 2) * 4096, 4096) ∷ rest = at ∙ ap (λ (n : ℕ). (ring_place (written + 2) * 4096, n) ∷ rest) size_of in
      subst (λ (f : List ℕ). Spaced blocks settled (written + 1) f torn) (sym is)
      (subst (λ (t : List (ℕ × ℕ)). Spaced blocks settled (written + 1) (put (ring_place (written + 2) * 4096) any old) t) (sym range)
      (spaced_torn blocks settled written old rest (h.images old rest before) h.order (omega (arith, h.room)) any (size ∙ size_of)))

  pub here_is : IsBlockWrite (record { file = Log; at = ring_place (written + 2) * 4096; bytes = entry blocks written })
  here_is = let b = h.numbered written more in block_write (written + 2) b.0 (entry blocks written) b.1

  -- whatever the range reads as then
  pub holds_write : (shows : List ℕ) → HoldsBlocks blocks settled (written + 1) (Write Log (ring_place (written + 2) * 4096) (entry blocks written) shows ∷ es)
  holds_write shows = record {
    images = after_write;
    synced = h.synced;
    pending = (here_is, h.pending);
    acked = h.acked;
    order = omega (arith, h.order);
    within = omega arith;
    room = h.room;
    numbered = h.numbered;
  }

-- the file as it reads, after the write that was asked for
pub filled_write : (blocks : List (List ℕ)) (written : ℕ) (file : List ℕ) → IsLogFile blocks written file → written < 256 → length (entry blocks written) ≡ 4096
    → IsLogFile blocks (written + 1) (put (ring_place (written + 2) * 4096) (entry blocks written) file)
filled_write blocks written file s room size = record {
  size = size_put file s.size written room (entry blocks written) size;
  framed = frame_put file s.size written room (entry blocks written) size s.framed;
  whole = λ i below. ⊎_elim
      (λ (e : i ≡ written). subst (λ (k : ℕ). entry_at k (put (ring_place (written + 2) * 4096) (entry blocks written) file) ≡ entry blocks k) (sym e) (same_put file s.size written room (entry blocks written) size))
      (λ (ne : i ≡ written → ⊥). other_put file s.size written room (entry blocks written) size i (omega (arith, ne)) ne ∙ s.whole i (omega (arith, ne)))
      (cases_eq i written);
  fresh = λ i after lt text block. s.fresh i (omega arith) lt text (subst (IsLogBlock (i + 2) text) (other_put file s.size written room (entry blocks written) size i lt (omega arith)) block);
}

pub ready_write : (blocks : List (List ℕ)) (settled written acked : ℕ) → written < length blocks → (es : List Event) → LogReady blocks settled written acked es
    → LogReady blocks settled (written + 1) acked (Write Log (ring_place (written + 2) * 4096) (entry blocks written) (entry blocks written) ∷ es)
ready_write blocks settled written acked more es r = record {
  least = r.least;
  holds = holds_write blocks settled written es r.holds more (entry blocks written);
  there = r.there;
  shows = filled_write blocks written (reads Log es) r.shows (omega (arith, r.holds.room)) (size_of blocks settled written es r.holds more);
}

-- a sync settles what was written
pub ready_sync : (blocks : List (List ℕ)) (settled written acked : ℕ) (es : List Event) → LogReady blocks settled written acked es → LogReady blocks written written acked (Sync Log ∷ es)
ready_sync blocks settled written acked es r = record {
  least = r.least;
  holds = record {
    images = λ file torn left. subst (λ (f : List ℕ). Spaced blocks written written f torn) (sym left.0) (record {
      size = r.shows.size;
      framed = r.shows.framed;
      front = r.shows.whole;
      rest = λ i after lt. NoBlock (r.shows.fresh i after lt);
    });
    synced = r.shows;
    pending = others_are Log (unsynced_writes es) r.holds.pending;
    acked = omega (arith, r.holds.acked, r.holds.order);
    order = omega arith;
    within = r.holds.within;
    room = r.holds.room;
    numbered = r.holds.numbered;
  };
  there = r.there;
  shows = r.shows;
}

-- what is settled may be acknowledged
pub ready_tell : (blocks : List (List ℕ)) (settled written acked n : ℕ) → n ≤ settled → (es : List Event) → LogReady blocks settled written acked es → LogReady blocks settled written n (Tell (Acked n) ∷ es)
ready_tell blocks settled written acked n le es r = record {
  least = omega arith;
  holds = record {
    images = r.holds.images;
    synced = r.holds.synced;
    pending = r.holds.pending;
    acked = omega (arith, r.holds.acked);
    order = r.holds.order;
    within = r.holds.within;
    room = r.holds.room;
    numbered = r.holds.numbered;
  };
  there = r.there;
  shows = r.shows;
}

pub ready_start : (blocks : List (List ℕ)) (settled written : ℕ) (es : List Event) → LogReady blocks settled written 0 es → LogReady blocks settled written 0 (Tell Started ∷ es)
ready_start blocks settled written es r = record {
  least = omega arith;
  holds = record {
    images = r.holds.images;
    synced = r.holds.synced;
    pending = r.holds.pending;
    acked = omega arith;
    order = r.holds.order;
    within = r.holds.within;
    room = r.holds.room;
    numbered = r.holds.numbered;
  };
  there = r.there;
  shows = r.shows;
}

ready_runs : (blocks : List (List ℕ)) (settled written acked : ℕ) (es : List Event) → LogReady blocks settled written acked es → AllRun blocks es
ready_runs blocks settled written acked es r = all_run blocks settled written es r.holds

pub ready_moment : (blocks : List (List ℕ)) (settled written acked : ℕ) (es : List Event) → LogReady blocks settled written acked es → PlainMoment blocks settled acked es
ready_moment blocks settled written acked es r = record { runs = ready_runs blocks settled written acked es r; synced = r.holds.synced; pending = r.holds.pending; least = r.least; most = r.holds.acked }

pub moment_safe : (blocks : List (List ℕ)) (settled acked : ℕ) (es : List Event) → PlainMoment blocks settled acked es → IsCrashSafe blocks es
moment_safe blocks settled acked es m = record { runs = m.runs; refusable = all_refusable blocks settled acked es m }

pub ready_safe : (blocks : List (List ℕ)) (settled written acked : ℕ) (es : List Event) → LogReady blocks settled written acked es → IsCrashSafe blocks es
ready_safe blocks settled written acked es r = moment_safe blocks settled acked es (ready_moment blocks settled written acked es r)

-- at least the old length is acknowledged after a new mark
pub less_told : (blocks : List (List ℕ)) (settled acked n : ℕ) → acked ≤ n → (es : List Event) → PlainMoment blocks settled n es → PlainMoment blocks settled acked es
less_told blocks settled acked n le es m = record { runs = m.runs; synced = m.synced; pending = m.pending; least = omega (arith, m.least); most = m.most }

pub entry_fits : (blocks : List (List ℕ)) (settled number acked : ℕ) → number < length blocks → (bytes : List ℕ) → bytes ≡ entry blocks number → (es : List Event) → LogReady blocks settled number acked es
    → InFile Log (ring_place (number + 2) * 4096) (length bytes) es
entry_fits blocks settled number acked more bytes is es r = record {
  there = r.there;
  within = fits (reads Log es) r.shows.size number (omega (arith, r.holds.room)) bytes (ap length is ∙ size_of blocks settled number es r.holds more);
}

-- a write of the next block, by the bytes that were given to the disk
module _ (blocks : List (List ℕ)) (settled number acked : ℕ) (more : number < length blocks) (bytes : List ℕ) (is : bytes ≡ entry blocks number) where
  abbrev here : ℕ
  here = ring_place (number + 2) * 4096

  pub write_next : (es : List Event) → LogReady blocks settled number acked es → LogReady blocks settled (number + 1) acked (Write Log here bytes bytes ∷ es)
  write_next es r = subst (λ (b : List ℕ). LogReady blocks settled (number + 1) acked (Write Log here b b ∷ es)) (sym is) (ready_write blocks settled number acked more es r)

  pub write_each : (d : Event) → IsWrite Log here bytes d → (es : List Event) → LogReady blocks settled number acked es → PlainMoment blocks settled acked (d ∷ es)
  write_each d (shows, size, same) es r =
      subst (λ (e : Event). PlainMoment blocks settled acked (e ∷ es)) (sym same)
      (subst (λ (b : List ℕ). PlainMoment blocks settled acked (Write Log here b shows ∷ es)) (sym is)
      (record {
        runs = all_run blocks settled (number + 1) (Write Log here (entry blocks number) shows ∷ es) (holds_write blocks settled number es r.holds more shows);
        synced = r.holds.synced;
        pending = (here_is blocks settled number es r.holds more, r.holds.pending);
        least = r.least;
        most = r.holds.acked;
      }))

-- what is known of each moment, whatever is settled
pub safe_alone : {T X : Type 0} {Q : List Event → Type 0} {old new : Past} {result : Result T X} (blocks : List (List ℕ)) (settled acked : ℕ)
    → Step (PlainMoment blocks settled acked) Q old new result → Step (IsCrashSafe blocks) Q old new result
safe_alone blocks settled acked step = record { moments = weaker (moment_safe blocks settled acked) step.moments; next = step.next }

pub on_err_always : {T X P : Type 0} (result : Result T X) → P → OnErr result P
on_err_always (Ok v) p = tt
on_err_always (Err e) p = p
