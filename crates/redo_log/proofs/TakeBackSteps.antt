-- The last pending blocks are taken back.
use Rattle.std.proofs.Common.{◌≡◌, ◌≢◌, ℕ, ◌+◌, ◌-◌, ◌*◌, ◌<◌, ◌≤◌, ⊎_elim, true, true≢false, List, [], ◌∷◌, ◌++◌, length, take, drop, refl, sym, ap, subst, ◌∙◌, arith}
use Rattle.std.proofs.lemmas.Bool.{cases_lt, cases_eq}
use Rattle.std.proofs.lemmas.List.{take-append-drop, length-take-le}
use Rattle.places.specs.Places.{place}
use Rattle.ring_log.specs.Ring.{RingState, IsWholeMtr, AreWholeEntries}
use Rattle.ring_log.proofs.Journals.{journal_less}
use Rattle.store_image.specs.View.{Logged}
use Rattle.store_files.specs.RingBlock.{is_ring_block}
use Rattle.redo_text.specs.declared.change.Change.{Change}
use Rattle.redo_text.specs.Reading.{block_version, block_flags, is_first}
use Rattle.redo_log.specs.State.{LogState}
use Rattle.redo_log.specs.Blocks.{Keys, redo_form}
use Rattle.redo_log.specs.Log.{IsOpen, durable, pending_at, pending_count, FitsRing}
use Rattle.redo_log.specs.Append.{taken_back, HasLast, JournalShrinks}
use Rattle.redo_log.specs.Recorded.{BlocksOnce}
use Rattle.disk_model.specs.Event.{Event}
use Rattle.redo_log.proofs.AppendSteps.{place_front}

-- A log whose last k blocks are dropped.
module _ (old : LogState) (k : ℕ) (is : IsOpen old) (few : k ≤ pending_count old) (free : old.handed + k ≤ old.next) where
  abbrev left : ℕ
  left = pending_count old - k

  kept_long : length (take (left * 4096) old.pending) ≡ left * 4096
  kept_long = let w = is.whole in length-take-le (left * 4096) old.pending (omega (arith, w))

  kept_count : pending_count (taken_back old k) ≡ left
  kept_count = omega (arith, kept_long)

  kept_at : (j : ℕ) → j < left → pending_at (taken_back old k) j ≡ pending_at old j
  kept_at j lt =
      sym (place_front j (take (left * 4096) old.pending) (drop (left * 4096) old.pending) (omega (arith, kept_long, lt))) ∙ ap (λ (l : List ℕ). place 4096 j l) (take-append-drop (left * 4096) old.pending)

  kept_durable : durable (taken_back old k) ≡ durable old
  kept_durable = let order = is.order in omega (arith, kept_count, few)

  pub taken_open : IsOpen (taken_back old k)
  taken_open = record {
    least = is.least;
    most = is.most;
    low = is.low;
    high = let a = is.high in omega arith;
    some = is.some;
    below = is.below;
    order = let a = is.order in omega (arith, kept_count, few);
    room = let a = is.room in omega arith;
    handed_all = let a = is.handed_all in omega (arith, a, kept_durable);
    handed_few = omega (arith, free);
    whole = omega (arith, kept_long);
    valid = λ j lt. let b : j < left = omega (arith, lt, kept_count) in
        ap (is_ring_block (durable (taken_back old k) + j)) (kept_at j b) ∙ ap (λ (d : ℕ). is_ring_block (d + j) (pending_at old j)) kept_durable ∙ is.valid j (omega (arith, b));
  }

  pub taken_fits : (r : RingState) → FitsRing r old → FitsRing r (taken_back old k)
  taken_fits r fits = record {
    sequence = fits.sequence;
    from = fits.from;
    written = fits.written ∙ sym kept_durable;
    blocks = λ j lt. let b : j < left = omega (arith, lt, kept_count) in fits.blocks j (omega (arith, b)) ∙ sym (kept_at j b);
  }

  pub taken_once : (es : List Event) → BlocksOnce old es → BlocksOnce (taken_back old k) es
  taken_once es o = record {
    once = o.once;
    below = o.below;
    pending = λ n v b x low.
        let order = is.order in
        let lt = o.below n v b x in
        let p = o.pending n v b x (omega (arith, low, kept_durable)) in
        let i : n - durable old ≡ n - durable (taken_back old k) = omega (arith, kept_durable) in
        let e : pending_at old (n - durable old) ≡ pending_at (taken_back old k) (n - durable (taken_back old k)) = sym (kept_at (n - durable old) (omega (arith, lt, free, order, low, kept_durable))) ∙ ap (λ (j : ℕ). pending_at (taken_back old k) j) i in
        (p.0 ∙ ap block_version e, p.1 ∙ e);
  }

-- A journal of two parts has a number between them.
parts_meet : (N : ℕ) (keys : Keys) (a : ℕ → List ℕ) (n end : ℕ) (es ds : List (Logged (List Change))) → AreWholeEntries N (redo_form keys) a n (es ++ ds) end
    → (m : ℕ) × AreWholeEntries N (redo_form keys) a n es m × AreWholeEntries N (redo_form keys) a m ds end
parts_meet N keys a n end [] ds is = (n, refl, is)
parts_meet N keys a n end (e ∷ es) ds (k, w, mtr, first, lsn, rest) =
    let meet = parts_meet N keys a (n + k) end es ds rest in
    (meet.0, (k, w, mtr, first, lsn, meet.1), meet.2)

-- The last mini-transaction of the journal has the blocks that are the last ones by their flags.
module _ (old : LogState) (k : ℕ) (is : IsOpen old) (has : HasLast old k) (r : RingState) (fits : FitsRing r old) where
  starts_at : (j : ℕ) → j < pending_count old → is_first (block_flags (r.block (r.written + j))) ≡ is_first (block_flags (pending_at old j))
  starts_at j lt = ap (λ (b : List ℕ). is_first (block_flags b)) (fits.blocks j lt)

  -- a mini-transaction that ends the log begins at its last first block
  begins_there : (N : ℕ) (keys : Keys) (m : ℕ) → IsWholeMtr N (redo_form keys) r.block m old.next → m ≡ old.next - k
  begins_there N keys m w =
      let order = is.order in
      let written = fits.written in
      let within = has.within in
      let some = has.some in
      let here = w.some in
      let c = pending_count old in
      let number : r.written + (c - k) ≡ old.next - k = omega (arith, order, written, within) in
      let flagged = starts_at (c - k) (omega (arith, some, within)) ∙ has.first in
      let starts : is_first (block_flags (r.block (old.next - k))) ≡ true = ap (λ (n : ℕ). is_first (block_flags (r.block n))) (sym number) ∙ flagged in
      ⊎_elim (λ (lt : m < old.next - k). absurd (true≢false (sym starts ∙ w.others (old.next - k) lt (omega (arith, some, order, within)))))
      (λ (ge : old.next - k ≤ m). ⊎_elim (λ (e : m ≡ old.next - k). e)
      (λ (ne : m ≢ old.next - k).
      let at : r.written + (m - r.written) ≡ m = omega (arith, order, written, within, ge) in
      let none = starts_at (m - r.written) (omega (arith, order, written, within, ge, here)) ∙ has.others (m - r.written) (omega (arith, order, written, within, ge, ne)) (omega (arith, order, written, within, ge, here)) in
      absurd (true≢false (sym w.first ∙ ap (λ (n : ℕ). is_first (block_flags (r.block n))) (sym at) ∙ none)))
      (cases_eq m (old.next - k)))
      (cases_lt m (old.next - k))

pub taken_journal : (old : LogState) (k : ℕ) → IsOpen old → HasLast old k → JournalShrinks old (taken_back old k)
taken_journal old k is has keys r start journal last fits state j =
    let meet = parts_meet old.blocks keys r.block start old.next journal (last ∷ []) j.entries in
    let w = meet.2 in
    let one : IsWholeMtr old.blocks (redo_form keys) r.block meet.0 old.next = subst (λ (n : ℕ). IsWholeMtr old.blocks (redo_form keys) r.block meet.0 n) w.5 w.1 in
    let ends : meet.0 ≡ old.next - k = begins_there old k is has r fits old.blocks keys meet.0 one in
    let order = is.order in
    let within = has.within in
    let written = fits.written in
    journal_less old.blocks (redo_form keys) r start (old.next - k) old.next journal (last ∷ []) state.began state.order (λ f newer. (state.later f newer).1) (omega (arith, order, within, written))
    (subst (λ (n : ℕ). AreWholeEntries old.blocks (redo_form keys) r.block start journal n) ends meet.1) j
