-- The blocks of a mini-transaction behind the pending ones.
use Rattle.std.proofs.Common.{◌≡◌, ℕ, zero, suc, ◌+◌, ◌-◌, ◌*◌, ◌<◌, ◌≤◌, ⊎_elim, true, nat_eq, List, [], ◌∷◌, ◌++◌, length, take, drop, refl, sym, ap, subst, ◌∙◌, arith, length-append, length-drop}
use Rattle.std.proofs.lemmas.Bool.{cases_lt, eq-eqb, ne_eqb}
use Rattle.std.proofs.lemmas.List.{drop_all, drop-append-le, take-append-le}
use Rattle.std.proofs.Math.Seq.{drop-append-add, take-append_seam}
use Rattle.aes_core.specs.declared.algorithm.Algorithm.{Algorithm}
use Rattle.byte_list.specs.Bytes.{AreBytes, range}
use Rattle.byte_list.proofs.RangeLaws.{split_off}
use Rattle.places.specs.Places.{place}
use Rattle.ring_log.specs.Ring.{RingState, IsWholeMtr, listed_blocks}
use Rattle.ring_log.proofs.Journals.{journal_more}
use Rattle.redo_text.specs.declared.change.Change.{Change}
use Rattle.redo_text.specs.declared.change.Change.TheVariants.{Put, Kind, Touch, Floor, Encrypt}
use Rattle.redo_text.specs.declared.key.RedoKey.{RedoKey}
use Rattle.redo_text.specs.Block.{AreOf, block_count, blocks, nth_block}
use Rattle.redo_text.proofs.BlockLoop.{length-joined, range-joined}
use Rattle.redo_text.specs.Reading.{block_version, block_flags, is_first, is_last}
use Rattle.redo_text.specs.Text.{text_of, AreAllowed}
use Rattle.redo_log.specs.State.{LogState}
use Rattle.crash_image.specs.LogForm.{AreTexts}
use Rattle.key_ring.specs.Local.{local_key}
use Rattle.store_files.specs.RingBlock.{is_ring_block, block_text}
use Rattle.redo_log.specs.Blocks.{Keys, IsStoreKey, redo_form}
use Rattle.redo_log.specs.Log.{IsOpen, durable, free_of, pending_at, pending_count, FitsRing}
use Rattle.redo_log.specs.Append.{appended, taken_back, IsEntry, HasLast, with_pending, JournalGrows, HasPending, logged_entry}
use Rattle.redo_log.specs.Append.{IsRedoKey}
use Rattle.redo_log.specs.Recorded.{BlocksOnce}
use Rattle.disk_model.specs.Event.{Event}
use Rattle.redo_log.proofs.PendingSteps.{pending_front, pending_back}
use Rattle.redo_log.proofs.TextFacts.{IsNth, nth_is}

-- places of a list, with other bytes before or behind them
pub place_front : (j : ℕ) (a b : List ℕ) → j * 4096 + 4096 ≤ length a → place 4096 j (a ++ b) ≡ place 4096 j a
unfolding place
place_front j a b fits = front 4096 (j * 4096) a b fits
  where
    front : (n at : ℕ) (a b : List ℕ) → at + n ≤ length a → take n (drop at (a ++ b)) ≡ take n (drop at a)
    front n at a b fits = ap (λ (l : List ℕ). take n l) (drop-append-le at a b (omega (arith, fits))) ∙ take-append-le n (drop at a) b (omega (arith, fits, length-drop at a))

-- A reading in which the blocks of a text stand from a number on.
module _ (key : RedoKey) (number : ℕ) (text : List ℕ) (some : 0 < length text) (few : block_count text ≤ 16) (at : ℕ → List ℕ) (nth : (j : ℕ) → j < block_count text → IsNth key number text j (at j)) where
  abbrev count : ℕ
  count = block_count text

  module _ (N : ℕ) (keys : Keys) (has : IsStoreKey keys key) (block : ℕ → List ℕ) (reads : (j : ℕ) → j < count → block (number + j) ≡ at j) where
    read_back : (m : ℕ) → number ≤ m → m < number + count → (j : ℕ) × (j < count) × (number + j ≡ m) × (block m ≡ at j)
    read_back m low high =
        let e : number + (m - number) ≡ m = omega (arith, low) in
        let lt : m - number < count = omega (arith, low, high) in
        (m - number, lt, e, ap block (sym e) ∙ reads (m - number) lt)

    first_at : (j : ℕ) → j < count → is_first (block_flags (at j)) ≡ nat_eq j 0
    first_at j lt = let n = nth j lt in n.first_is

    last_at : (j : ℕ) → j < count → is_last (block_flags (at j)) ≡ nat_eq (j + 1) count
    last_at j lt = let n = nth j lt in n.last_is

    pub whole : IsWholeMtr N (redo_form keys) block number (number + count)
    whole = record {
      some = omega (arith, some);
      most = omega (arith, few);
      valid = λ m low high. let r = read_back m low high in subst (λ (n : ℕ). is_ring_block n (block m) ≡ true) r.2 (ap (is_ring_block (number + r.0)) r.3 ∙ (nth r.0 r.1).valid);
      first = let r = read_back number (omega arith) (omega (arith, some)) in ap (λ (b : List ℕ). is_first (block_flags b)) r.3 ∙ first_at r.0 r.1 ∙ eq-eqb r.0 0 (omega (arith, r.2));
      others = λ m gt high. let r = read_back m (omega (arith, gt)) high in ap (λ (b : List ℕ). is_first (block_flags b)) r.3 ∙ first_at r.0 r.1 ∙ ne_eqb r.0 0 (λ e. omega (arith, e, r.2, gt));
      before = λ m low high. let r = read_back m low (omega (arith, high)) in ap (λ (b : List ℕ). is_last (block_flags b)) r.3 ∙ last_at r.0 r.1 ∙ ne_eqb (r.0 + 1) count (λ e. omega (arith, e, r.2, high));
      last = λ m is.
          let r = read_back m (omega (arith, is, some)) (omega (arith, is)) in
          ap (λ (b : List ℕ). is_last (block_flags b)) r.3 ∙ last_at r.0 r.1 ∙ eq-eqb (r.0 + 1) count (omega (arith, r.2, is));
    }

    texts_from : (r j : ℕ) → j + r ≡ count → AreTexts keys.header keys.ring (listed_blocks N (redo_form keys) block (number + j) r) (drop (4076 * j) text)
    texts_from zero j is = drop_all (4076 * j) text (omega (arith, is))
    texts_from (suc r) j is =
        let lt : j < count = omega (arith, is) in
        let n = nth j lt in
        let here = reads j lt in
        let on : number + j + 1 ≡ number + (j + 1) = omega arith in
        let e : 4076 * j + 4076 ≡ 4076 * (j + 1) = omega arith in (
          key.local,
          drop (4076 * (j + 1)) text,
          ap (λ (b : List ℕ). local_key keys.ring 1 (block_version b) keys.header.salt) here ∙ ap (λ (v : ℕ). local_key keys.ring 1 v keys.header.salt) n.version ∙ has.local,
          subst (λ (i : ℕ). AreTexts keys.header keys.ring (listed_blocks N (redo_form keys) block i r) (drop (4076 * (j + 1)) text)) (sym on) (texts_from r (j + 1) (omega (arith, is))),
          split_off (4076 * j) 4076 text
              ∙ ap (λ (l : List ℕ). l ++ drop (4076 * j + 4076) text) (sym n.text_is ∙ ap (λ (a : Algorithm). block_text a key.local (at j)) has.algorithm ∙ ap (λ (b : List ℕ). block_text keys.header.algorithm key.local b) (sym here))
              ∙ ap (λ (k : ℕ). block_text keys.header.algorithm key.local (block (number + j)) ++ drop k text) e,
        )

    pub texts : AreTexts keys.header keys.ring (listed_blocks N (redo_form keys) block number count) text
    texts =
        let e : number + 0 ≡ number = omega arith in
        subst (λ (i : ℕ). AreTexts keys.header keys.ring (listed_blocks N (redo_form keys) block i count) text) e (texts_from count 0 (omega arith))

-- A log to which a mini-transaction was appended.
module _ (old : LogState) (mtr : List Change) (key : RedoKey) (is : IsOpen old) (some : 0 < length (text_of mtr)) (few : block_count (text_of mtr) ≤ 16) (bytes : AreBytes (text_of mtr)) (keyed : IsRedoKey key) (each : AreOf 4096 (nth_block key old.next (text_of mtr)) (block_count (text_of mtr)))
    (spent : old.next + block_count (text_of mtr) ≤ 34359738368) (free : block_count (text_of mtr) ≤ free_of old) where
  abbrev new : LogState
  new = appended old mtr key

  abbrev needed : ℕ
  needed = block_count (text_of mtr)

  abbrev more : List ℕ
  more = blocks key old.next (text_of mtr)

  long : length more ≡ needed * 4096
  long = let l = length-joined 4096 (nth_block key old.next (text_of mtr)) needed each in omega (arith, l)

  total : pending_count new ≡ pending_count old + needed
  total = let w = is.whole in let l = length-append old.pending more in omega (arith, long, w, l)

  same_durable : durable new ≡ durable old
  same_durable = let order = is.order in omega (arith, total)

  abbrev at : ℕ → List ℕ
  at j = place 4096 j more

  at_is : (j : ℕ) → j < needed → at j ≡ nth_block key old.next (text_of mtr) j
  unfolding place
  at_is j lt = let e : j * 4096 ≡ 4096 * j = omega arith in ap (λ (k : ℕ). range k 4096 more) e ∙ range-joined 4096 (nth_block key old.next (text_of mtr)) needed j each lt

  nth : (j : ℕ) → j < needed → IsNth key old.next (text_of mtr) j (at j)
  nth j lt = subst (λ (b : List ℕ). IsNth key old.next (text_of mtr) j b) (sym (at_is j lt)) (nth_is key keyed old.next (text_of mtr) bytes (omega (arith, spent)) j lt (each.long j lt))

  front_at : (j : ℕ) → j < pending_count old → pending_at new j ≡ pending_at old j
  front_at j lt = let w = is.whole in place_front j old.pending more (omega (arith, w, lt))

  back_at : (j : ℕ) → pending_at new (pending_count old + j) ≡ at j
  unfolding place
  back_at j =
      let w = is.whole in
      let e : (pending_count old + j) * 4096 ≡ length old.pending + j * 4096 = omega (arith, w) in
      ap (λ (k : ℕ). take 4096 (drop k (old.pending ++ more))) e ∙ ap (λ (l : List ℕ). take 4096 l) (drop-append-add old.pending more (j * 4096))

  pub appended_open : IsOpen new
  appended_open = record {
    least = is.least;
    most = is.most;
    low = is.low;
    high = omega (arith, spent);
    some = is.some;
    below = is.below;
    order = let a = is.order in omega (arith, total);
    room = let a = is.order in let b = is.room in omega (arith, free);
    handed_all = let a = is.handed_all in omega (arith, a, same_durable);
    handed_few = let a = is.handed_few in omega (arith, a);
    whole = let w = is.whole in let l = length-append old.pending more in omega (arith, long, w, l, total);
    valid = λ j lt. ⊎_elim (λ (b : j < pending_count old). ap (is_ring_block (durable new + j)) (front_at j b) ∙ ap (λ (d : ℕ). is_ring_block (d + j) (pending_at old j)) same_durable ∙ is.valid j b)
        (λ (ge : pending_count old ≤ j). behind j (j - pending_count old) (omega (arith, ge)) (omega (arith, ge, lt, total))) (cases_lt j (pending_count old));
  }
    where
      behind : (j i : ℕ) → j ≡ pending_count old + i → i < needed → is_ring_block (durable new + j) (pending_at new j) ≡ true
      behind j i e lt =
          let a = is.order in
          let number : durable new + (pending_count old + i) ≡ old.next + i = omega (arith, same_durable) in
          subst (λ (k : ℕ). is_ring_block (durable new + k) (pending_at new k) ≡ true) (sym e)
          (ap (is_ring_block (durable new + (pending_count old + i))) (back_at i) ∙ ap (λ (n : ℕ). is_ring_block n (at i)) number ∙ (nth i lt).valid)

  pub appended_entry : AreAllowed mtr → IsEntry old new mtr key
  appended_entry allowed keys has block pending = (
    needed,
    whole key old.next (text_of mtr) some few at nth old.blocks keys has block reads,
    (text_of mtr, texts key old.next (text_of mtr) some few at nth old.blocks keys has block reads, record { is = refl; allowed = allowed }),
    refl,
    refl,
    refl,
  )
    where
      reads : (j : ℕ) → j < needed → block (old.next + j) ≡ at j
      reads j lt =
          let a = is.order in
          let e : old.next + j ≡ durable new + (pending_count old + j) = omega (arith, same_durable) in
          ap block e ∙ pending (pending_count old + j) (omega (arith, lt, total)) ∙ back_at j

  pub appended_last : HasLast new needed
  appended_last = record {
    some = omega (arith, some);
    within = omega (arith, total);
    kept = let a = is.handed_few in omega (arith, a);
    first = let e : pending_count new - needed ≡ pending_count old + 0 = omega (arith, total) in
        ap (λ (i : ℕ). is_first (block_flags (pending_at new i))) e ∙ ap (λ (b : List ℕ). is_first (block_flags b)) (back_at 0) ∙ (nth 0 (omega (arith, some))).first_is ∙ eq-eqb 0 0 refl;
    others = λ j gt lt.
        let e : j ≡ pending_count old + (j - pending_count old) = omega (arith, gt, total) in
        ap (λ (i : ℕ). is_first (block_flags (pending_at new i))) e ∙ ap (λ (b : List ℕ). is_first (block_flags b)) (back_at (j - pending_count old)) ∙ (nth (j - pending_count old) (omega (arith, lt, gt, total))).first_is
        ∙ ne_eqb (j - pending_count old) 0 (λ n. omega (arith, n, gt, total));
  }

  pub appended_fits : (r : RingState) → FitsRing r old → FitsRing (with_pending r new) new
  appended_fits r fits = record {
    sequence = fits.sequence;
    from = fits.from;
    written = fits.written ∙ sym same_durable;
    blocks = λ j lt. pending_back r new j;
  }

  pub appended_undone : taken_back new needed ≡ old
  appended_undone = λ i. record { blocks = old.blocks; from = old.from; sequence = old.sequence; next = back i; handed = old.handed; pending = front i }
    where
      back : old.next + needed - needed ≡ old.next
      back = omega arith

      front : take ((pending_count new - needed) * 4096) (old.pending ++ more) ≡ old.pending
      front =
          let w = is.whole in
          let e : (pending_count new - needed) * 4096 ≡ length old.pending = omega (arith, w, total) in
          ap (λ (n : ℕ). take n (old.pending ++ more)) e ∙ take-append_seam old.pending more

  pub appended_once : (es : List Event) → BlocksOnce old es → BlocksOnce new es
  appended_once es o = record {
    once = o.once;
    below = o.below;
    pending = λ n v b x low.
        let few = is.handed_few in
        let order = is.order in
        let lt = o.below n v b x in
        let p = o.pending n v b x (omega (arith, low, same_durable)) in
        let i : n - durable old ≡ n - durable new = omega (arith, same_durable) in
        let e : pending_at old (n - durable old) ≡ pending_at new (n - durable new) = sym (front_at (n - durable old) (omega (arith, lt, few, order, low, same_durable))) ∙ ap (λ (k : ℕ). pending_at new k) i in
        (p.0 ∙ ap block_version e, p.1 ∙ e);
  }

  pub appended_journal : AreAllowed mtr → JournalGrows old new mtr key
  appended_journal allowed keys has r start journal fits state j =
      let fits_new = appended_fits r fits in
      let pending : HasPending (with_pending r new).block new = λ i lt. ap (λ (d : ℕ). (with_pending r new).block (d + i)) (sym fits_new.written) ∙ fits_new.blocks i lt in
      journal_more old.blocks (redo_form keys) r (with_pending r new).block start old.next new.next journal (logged_entry old mtr) state.began state.order (λ f newer. (state.later f newer).1) same
      (appended_entry allowed keys has (with_pending r new).block pending) j
    where
      behind : (i : ℕ) → i < pending_count old → r.block (r.written + i) ≡ (with_pending r new).block (r.written + i)
      behind i lt = fits.blocks i lt ∙ sym (front_at i lt) ∙ sym (pending_back r new i)

      same : (m : ℕ) → start ≤ m → m < old.next → r.block m ≡ (with_pending r new).block m
      same m low high = ⊎_elim (λ (lt : m < r.written). sym (pending_front r new m lt))
          (λ (ge : r.written ≤ m).
          let a = is.order in
          let w = fits.written in
          let e : r.written + (m - r.written) ≡ m = omega (arith, ge) in
          subst (λ (n : ℕ). r.block n ≡ (with_pending r new).block n) e (behind (m - r.written) (omega (arith, ge, high, w, a))))
          (cases_lt m r.written)

-- a mini-transaction has a text
pub text_some : (mtr : List Change) → 0 < length mtr → 0 < length (text_of mtr)
text_some [] lt = absurd (omega (arith, lt))
text_some (Put space page at bytes ∷ cs) lt = omega arith
text_some (Kind space page kind ∷ cs) lt = omega arith
text_some (Touch space page ∷ cs) lt = omega arith
text_some (Floor space version ∷ cs) lt = omega arith
text_some (Encrypt space ∷ cs) lt = omega arith
