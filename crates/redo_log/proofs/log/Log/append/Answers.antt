use Rattle.std.proofs.Common.{◌≡◌, ℕ, List, ◌++◌, ◌+◌, ◌≤◌, sym, ap, subst, ◌∙◌, arith}
use Rattle.redo_text.specs.declared.change.Change.{Change}
use Rattle.redo_text.specs.declared.key.RedoKey.{RedoKey}
use Rattle.redo_text.specs.Block.{AreOf, block_count, blocks, nth_block}
use Rattle.redo_text.specs.Text.{text_of}
use Rattle.redo_log.specs.State.{LogState}
use Rattle.redo_log.specs.Log.{IsOpen, free_of, FitsRing}
use Rattle.redo_log.proofs.PendingSteps.{pending_ready}
use Rattle.disk_model.specs.Past.{Past, At}
use Rattle.ring_log.specs.Ring.{RingState, RingReady}
use Rattle.redo_log.specs.Blocks.{Keys, redo_form}
use Rattle.redo_log.specs.Append.{appended, taken_back, with_pending, IsEntry, HasLast, JournalGrows}
use Rattle.redo_log.proofs.AppendSteps.{appended_open, appended_entry, appended_last, appended_fits, appended_undone, appended_journal, appended_once, text_some}
use Rattle.redo_log.specs.Recorded.{BlocksOnce}
use Rattle.disk_model.specs.Event.{Event}
use Rattle.redo_log.proofs.log.Log.append.Goals as goal

-- what stands behind the call
record Appended (c : goal.After-drop-blocks-2) : Type 0 where
  new_is : appended c.args.self.now c.args.mtr.now c.args.key.now ≡ record { blocks = c.self.inside.blocks; from = c.self.inside.from; sequence = c.self.inside.sequence; next = c.self.inside.next + c.mtr_blocks-needed.result; handed = c.self.inside.handed; pending = c.extend_from_slice.new.self.items }
  is : IsOpen c.args.self.now
  spent : c.args.self.now.next + block_count (text_of c.args.mtr.now) ≤ 34359738368
  free : block_count (text_of c.args.mtr.now) ≤ free_of c.args.self.now
  each : AreOf 4096 (nth_block c.args.key.now c.args.self.now.next (text_of c.args.mtr.now)) (block_count (text_of c.args.mtr.now))

behind : (c : goal.After-drop-blocks-2) → Appended c
behind c =
    let now : LogState = c.args.self.now in
    let mtr : List Change = c.args.mtr.now in
    let key : RedoKey = c.args.key.now in
    let view = c.self.view_is in
    let count : c.mtr_blocks-needed.result ≡ block_count (text_of mtr) = c.mtr_blocks-needed.ensures in
    let next : now.next ≡ c.self.inside.next = ap (λ (w : LogState). w.next) (sym view) in
    let from : now.from ≡ c.self.inside.from = ap (λ (w : LogState). w.from) (sym view) in
    let size : now.blocks ≡ c.self.inside.blocks = ap (λ (w : LogState). w.blocks) (sym view) in
    let items : now.pending ++ blocks key now.next (text_of mtr) ≡ c.extend_from_slice.new.self.items =
    ap (λ (w : LogState). w.pending ++ blocks key w.next (text_of mtr)) (sym view) ∙ sym (c.in-Ok-extend_from_slice.ensures.items ∙ ap (λ (l : List ℕ). c.self.inside.pending.items ++ l) (c.deref.ensures.value ∙ c.in-Ok.ensures.blocks)) in
    record {
      new_is = λ i. record { blocks = size i; from = from i; sequence = ((sym view) i).sequence; next = next i + (sym count) i; handed = ((sym view) i).handed; pending = items i };
      is = subst IsOpen view c.self.invariant;
      spent = omega (arith, c.if-self-needed-gt-LAST_BLOCK.false, count, next);
      free = omega (arith, c.if-needed-free.false, c.free-free.ensures.free, count, next, from, size);
      each = subst (λ (n : ℕ). AreOf 4096 (nth_block key n (text_of mtr)) (block_count (text_of mtr))) (sym next) c.in-Ok.ensures.each;
    }

pub invariant_of-self-2 : goal.invariant_of-self-2
invariant_of-self-2 c =
    let b = behind c in
    subst IsOpen b.new_is (appended_open c.args.self.now c.args.mtr.now c.args.key.now b.is (text_some c.args.mtr.now c.requires.some) c.requires.most c.in-Ok.ensures.bytes (c.known_key.ensures) b.each b.spent b.free)

pub returns-clause-room : goal.returns-clause-room
returns-clause-room c =
    let b = behind c in
    (b.spent, b.free)

pub returns-clause-open : goal.returns-clause-open
returns-clause-open c = invariant_of-self-2 c

pub returns-clause-entry : goal.returns-clause-entry
returns-clause-entry c =
    let b = behind c in
    subst (λ (w : LogState). IsEntry c.args.self.now w c.args.mtr.now c.args.key.now) b.new_is
    (appended_entry c.args.self.now c.args.mtr.now c.args.key.now b.is (text_some c.args.mtr.now c.requires.some) c.requires.most c.in-Ok.ensures.bytes (c.known_key.ensures) b.each b.spent b.free c.requires.allowed)

pub returns-clause-last : goal.returns-clause-last
returns-clause-last c =
    let b = behind c in
    subst (λ (w : LogState). HasLast w (block_count (text_of c.args.mtr.now))) b.new_is
    (appended_last c.args.self.now c.args.mtr.now c.args.key.now b.is (text_some c.args.mtr.now c.requires.some) c.requires.most c.in-Ok.ensures.bytes (c.known_key.ensures) b.each b.spent b.free)

pub returns-clause-undone : goal.returns-clause-undone
returns-clause-undone c =
    let b = behind c in
    subst (λ (w : LogState). taken_back w (block_count (text_of c.args.mtr.now)) ≡ c.args.self.now) b.new_is
    (appended_undone c.args.self.now c.args.mtr.now c.args.key.now b.is (text_some c.args.mtr.now c.requires.some) c.requires.most c.in-Ok.ensures.bytes (c.known_key.ensures) b.each b.spent b.free)

pub returns-clause-fits : goal.returns-clause-fits
returns-clause-fits c =
    let b = behind c in
    subst (λ (w : LogState). (r : RingState) → FitsRing r c.args.self.now → FitsRing (with_pending r w) w) b.new_is
    (appended_fits c.args.self.now c.args.mtr.now c.args.key.now b.is (text_some c.args.mtr.now c.requires.some) c.requires.most c.in-Ok.ensures.bytes (c.known_key.ensures) b.each b.spent b.free)

pub returns-clause-ready : goal.returns-clause-ready
returns-clause-ready c =
    let now : LogState = c.args.self.now in
    subst (λ (w : LogState). (keys : Keys) (r : RingState) (past : Past) → At (RingReady now.blocks (redo_form keys) r) past → At (RingReady now.blocks (redo_form keys) (with_pending r w)) past) (behind c).new_is
    (pending_ready now.blocks (appended now c.args.mtr.now c.args.key.now))

pub returns-clause-journal : goal.returns-clause-journal
returns-clause-journal c =
    let b = behind c in
    subst (λ (w : LogState). JournalGrows c.args.self.now w c.args.mtr.now c.args.key.now) b.new_is
    (appended_journal c.args.self.now c.args.mtr.now c.args.key.now b.is (text_some c.args.mtr.now c.requires.some) c.requires.most c.in-Ok.ensures.bytes (c.known_key.ensures) b.each b.spent b.free c.requires.allowed)

pub returns-clause-recorded : goal.returns-clause-recorded
returns-clause-recorded c =
    let b = behind c in
    subst (λ (w : LogState). (es : List Event) → BlocksOnce c.args.self.now es → BlocksOnce w es) b.new_is
    (appended_once c.args.self.now c.args.mtr.now c.args.key.now b.is (text_some c.args.mtr.now c.requires.some) c.requires.most c.in-Ok.ensures.bytes (c.known_key.ensures) b.each b.spent b.free)
