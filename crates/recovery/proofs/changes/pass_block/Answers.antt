use Rattle.std.proofs.Common.{rules, ◌≡◌, ◌+◌, ◌*◌, ◌≤◌, ◌∙◌, ℕ, List, [], false, true, take, map, sym, ap, subst, arith, IsErrAnd}
use Rattle.cause_core.proofs.Causes.{handed}
use Rattle.crash_image.specs.Recovers.{AreOfStore}
use Rattle.disk_model.specs.Event.{Event}
use Rattle.doublewrite.specs.declared.refuse.OpenRefuse.{OpenRefuse}
use Rattle.redo_text.specs.declared.change.Change.{Change}
use Rattle.space_head.specs.declared.space.SpaceInfo.{SpaceInfo}
use Rattle.store_files.specs.RingBlock.{IsMtrText}
use Rattle.store_files.proofs.HeaderBounds.{limits}
use Rattle.store_form.specs.Said.{header_said}
use Rattle.recovery.specs.Changes.{IsTextRefusal, NotesMtr}
use Rattle.recovery.specs.Passed.{IsAtBlock, IsPassRefusal, Passed}
use Rattle.recovery.proofs.RunsPassed.{block_refused, block_within, mtr_passed, text_refused}
use Rattle.recovery.proofs.changes.pass_block.Goals as goal

pub add_text-requires-clause-some : goal.add_text-requires-clause-some
add_text-requires-clause-some c = let least = (limits (header_said c.args.header.now) c.requires.allowed).least in omega (arith, least)

pub add_text-requires-clause-most : goal.add_text-requires-clause-most
add_text-requires-clause-most c = (limits (header_said c.args.header.now) c.requires.allowed).most

pub returns-in_err-add_text-clause-refused : goal.returns-in_err-add_text-clause-refused
returns-in_err-add_text-clause-refused c =
    let h = header_said c.args.header.now in
    let k = c.args.ring.now in
    let why = c.in_err-add_text.field-0.0 in
    let is : IsErrAnd c.from_residual.result (λ e. e ≡ why) = search rules in
    handed (λ (w : OpenRefuse). (from end : ℕ) (infos : List SpaceInfo) (es : List Event) → IsAtBlock h k from end c.args.notes.now infos c.args.first c.args.number c.args.block.now c.args.text.now.items c.args.changes.now es → IsPassRefusal h k from end w es) c.from_residual.result why is
    (λ from end infos es at. block_refused h k c.args.notes.now c.args.first c.args.number c.args.block.now c.args.text.now.items c.args.changes.now from end infos es at why c.in_err-add_text.ensures.refused)

pub returns-then-not-branch-clause-passes : goal.returns-then-not-branch-clause-passes
returns-then-not-branch-clause-passes c = λ from end infos es at.
    block_within (header_said c.args.header.now) c.args.ring.now c.args.notes.now c.args.first c.args.number c.args.block.now c.args.text.now.items c.args.changes.now from end infos es at c.add_text.new.text.items c.in_ok-add_text.ensures.text
    (sym c.in_ok-add_text.ensures.last ∙ c.if-not-branch.true)

pub take_text-requires-clause-order : goal.take_text-requires-clause-order
take_text-requires-clause-order c = (limits (header_said c.args.header.now) c.requires.allowed).order

pub returns-in_err-take_text-clause-refused : goal.returns-in_err-take_text-clause-refused
returns-in_err-take_text-clause-refused c =
    let h = header_said c.args.header.now in
    let k = c.args.ring.now in
    let why = c.in_err-take_text.field-0.0 in
    let is : IsErrAnd c.from_residual-in_err-take_text.result (λ e. e ≡ why) = search rules in
    handed (λ (w : OpenRefuse). (from end : ℕ) (infos : List SpaceInfo) (es : List Event) → IsAtBlock h k from end c.args.notes.now infos c.args.first c.args.number c.args.block.now c.args.text.now.items c.args.changes.now es → IsPassRefusal h k from end w es) c.from_residual-in_err-take_text.result why is
    (λ from end infos es at. text_refused h k c.args.notes.now c.args.first c.args.number c.args.block.now c.args.text.now.items c.args.changes.now from end infos es at c.add_text.new.text.items c.in_ok-add_text.ensures.text
    (sym c.in_ok-add_text.ensures.last ∙ c.if-not-branch.false) why (subst (λ (t : List ℕ). IsTextRefusal h.spaces t c.args.first why) c.deref.ensures.value c.in_err-take_text.ensures.refused))

pub returns-clause-passes : goal.returns-clause-passes
returns-clause-passes c = λ from end infos es at.
    let h = header_said c.args.header.now in
    let k = c.args.ring.now in
    subst (λ (t : List ℕ). Passed h k from end c.args.notes.now infos (c.args.number + 1) (c.args.number + 1) t c.take_text.new.changes es) (sym c.clear.ensures.items)
    (mtr_passed h k c.args.notes.now c.args.first c.args.number c.args.block.now c.args.text.now.items c.args.changes.now from end infos es at c.add_text.new.text.items c.in_ok-add_text.ensures.text
    (sym c.in_ok-add_text.ensures.last ∙ c.if-not-branch.false) c.lsn_of.result c.lsn_of.ensures c.take_text.new.changes
    (subst (λ (t : List ℕ). (cs : List Change) × IsMtrText t cs × AreOfStore h.spaces cs × NotesMtr h.spaces c.args.notes.now c.lsn_of.result cs c.args.changes.now c.take_text.new.changes) c.deref.ensures.value c.in_ok-take_text.ensures.takes))
