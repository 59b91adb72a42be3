use Rattle.std.proofs.Common.{◌≡◌, ℕ, ◌+◌, ◌-◌, ◌*◌, ◌≤◌, List, take, sym, ap, subst, ◌∙◌, arith}
use Rattle.ring_log.specs.Ring.{RingState}
use Rattle.redo_log.specs.State.{LogState}
use Rattle.redo_log.specs.Log.{IsOpen, pending_count, FitsRing}
use Rattle.redo_log.specs.Append.{taken_back, HasLast, JournalShrinks}
use Rattle.redo_log.proofs.TakeBackSteps.{taken_open, taken_fits, taken_once, taken_journal}
use Rattle.redo_log.specs.Recorded.{BlocksOnce}
use Rattle.disk_model.specs.Event.{Event}
use Rattle.redo_log.proofs.log.Log.take_back.Goals as goal

-- what stands behind the call
record TakenBack (c : goal.After-self-1) (k : ℕ) : Type 0 where
  few : k ≤ pending_count c.args.self.now
  free : c.args.self.now.handed + k ≤ c.args.self.now.next
  is : IsOpen c.args.self.now
  new_is : taken_back c.args.self.now k ≡ record { blocks = c.self.inside.blocks; from = c.self.inside.from; sequence = c.self.inside.sequence; next = c.self.inside.next - (c.pending_count.result - c.last_first-kept.result); handed = c.self.inside.handed; pending = c.truncate.new.self.items }

behind : (c : goal.After-self-1) → TakenBack c c.requires.last.0
behind c =
    let now : LogState = c.args.self.now in
    let view = c.self.view_is in
    let k : ℕ = c.requires.last.0 in
    let last : HasLast now k = c.requires.last.1 in
    let kept = c.last_first-kept.ensures.last k last in
    let count = c.pending_count.ensures.count in
    let next : now.next - k ≡ c.self.inside.next - (c.pending_count.result - c.last_first-kept.result) = let e : now.next ≡ c.self.inside.next = ap (λ (w : LogState). w.next) (sym view) in omega (arith, e, kept, count) in
    let left : pending_count now - k ≡ c.last_first-kept.result = omega (arith, kept) in
    let items : take ((pending_count now - k) * 4096) now.pending ≡ c.truncate.new.self.items =
    ap (λ (n : ℕ). take (n * 4096) now.pending) left ∙ ap (λ (w : LogState). take (c.last_first-kept.result * 4096) w.pending) (sym view) ∙ sym c.truncate.ensures.items in
    record {
      few = last.within;
      free = last.kept;
      is = subst IsOpen view c.self.invariant;
      new_is = λ i. record { blocks = ((sym view) i).blocks; from = ((sym view) i).from; sequence = ((sym view) i).sequence; next = next i; handed = ((sym view) i).handed; pending = items i };
    }

pub invariant_of-self : goal.invariant_of-self
invariant_of-self c =
    let b = behind c in
    subst IsOpen b.new_is (taken_open c.args.self.now c.requires.last.0 b.is b.few b.free)

pub returns-clause-open : goal.returns-clause-open
returns-clause-open c = invariant_of-self c

pub returns-clause-fits : goal.returns-clause-fits
returns-clause-fits c =
    let b = behind c in
    subst (λ (w : LogState). (r : RingState) → FitsRing r c.args.self.now → FitsRing r w) b.new_is (taken_fits c.args.self.now c.requires.last.0 b.is b.few b.free)

pub returns-clause-journal : goal.returns-clause-journal
returns-clause-journal c =
    let b = behind c in
    subst (λ (w : LogState). JournalShrinks c.args.self.now w) b.new_is (taken_journal c.args.self.now c.requires.last.0 b.is c.requires.last.1)

pub returns-clause-recorded : goal.returns-clause-recorded
returns-clause-recorded c =
    let b = behind c in
    subst (λ (w : LogState). (es : List Event) → BlocksOnce c.args.self.now es → BlocksOnce w es) b.new_is (taken_once c.args.self.now c.requires.last.0 b.is b.few b.free)
