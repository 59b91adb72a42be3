use Rattle.std.proofs.Common.{rules, ◌≡◌, ◌+◌, ◌*◌, ◌≤◌, ◌∙◌, ℕ, List, [], false, true, sym, ap, subst, arith, IsErrAnd}
use Rattle.cause_core.proofs.Causes.{handed}
use Rattle.disk_model.specs.Event.{Event}
use Rattle.doublewrite.specs.declared.refuse.OpenRefuse.{OpenRefuse}
use Rattle.image_log.specs.Logs.{HasNoChangeAt}
use Rattle.page_pool.specs.Pages.{PoolState}
use Rattle.store_files.proofs.HeaderBounds.{limits}
use Rattle.store_form.specs.Said.{header_said}
use Rattle.recovery.specs.Applying.{AppliesUpTo, IsAtApplied, IsWant}
use Rattle.recovery.specs.Changing.{ChangesByText}
use Rattle.recovery.proofs.RunsApplied.{applied_more, applied_within, block_wanted, text_said}
use Rattle.recovery.proofs.applying.apply_block.Goals as goal

pub add_text-requires-clause-some : goal.add_text-requires-clause-some
add_text-requires-clause-some c = let least = (limits (header_said c.args.header.now) c.requires.allowed).least in omega (arith, least)

pub add_text-requires-clause-most : goal.add_text-requires-clause-most
add_text-requires-clause-most c = (limits (header_said c.args.header.now) c.requires.allowed).most

pub returns-in_err-add_text-clause-refused : goal.returns-in_err-add_text-clause-refused
returns-in_err-add_text-clause-refused c =
    let h = header_said c.args.header.now in
    let k = c.args.ring.now in
    let r = c.args.round.now in
    let why = c.in_err-add_text.field-0.0 in
    let is : IsErrAnd c.from_residual.result (λ e. e ≡ why) = search rules in
    handed (λ (w : OpenRefuse). (from end : ℕ) (old : PoolState) (es : List Event) → IsAtApplied h k from end c.args.notes.now c.args.last.now r.info.space r.from r.end c.args.first c.args.number c.args.block.now c.args.text.now.items old c.args.pool.now es → IsWant w) c.from_residual.result why is
    (λ from end old es at. block_wanted h k from end c.args.notes.now c.args.last.now r.info.space r.from r.end c.args.first c.args.number c.args.block.now c.args.text.now.items old c.args.pool.now es at why c.in_err-add_text.ensures.refused)

pub returns-then-not-branch-clause-passes : goal.returns-then-not-branch-clause-passes
returns-then-not-branch-clause-passes c = λ from end old es at.
    let r = c.args.round.now in
    applied_within (header_said c.args.header.now) c.args.ring.now from end c.args.notes.now c.args.last.now r.info.space r.from r.end c.args.first c.args.number c.args.block.now c.args.text.now.items old c.args.pool.now es at c.add_text.new.text.items c.in_ok-add_text.ensures.text
    (sym c.in_ok-add_text.ensures.last ∙ c.if-not-branch.true)

pub returns-in-Ok-clause-passes : goal.returns-in-Ok-clause-passes
returns-in-Ok-clause-passes c = λ from end old es at.
    let h = header_said c.args.header.now in
    let k = c.args.ring.now in
    let r = c.args.round.now in
    let notes = c.args.notes.now in
    let last = c.args.last.now in
    subst (λ (t : List ℕ). AppliesUpTo h k from end notes last r.info.space r.from r.end (c.args.number + 1) (c.args.number + 1) t old c.apply_text.new.pool es) (sym c.clear.ensures.items)
    (applied_more h k from end notes last r.info.space r.from r.end c.args.first c.args.number c.args.block.now c.args.text.now.items old c.args.pool.now es at c.add_text.new.text.items c.in_ok-add_text.ensures.text
    (sym c.in_ok-add_text.ensures.last ∙ c.if-not-branch.false) c.lsn_of.result c.lsn_of.ensures c.apply_text.new.pool
    (subst (λ (t : List ℕ). ChangesByText notes last r.info.space r.from r.end c.lsn_of.result t c.args.pool.now c.apply_text.new.pool) c.deref.ensures.value c.in-Ok.ensures.made))

pub returns-in-Err-clause-refused : goal.returns-in-Err-clause-refused
returns-in-Err-clause-refused c = λ from end old es at.
    let r = c.args.round.now in
    absurd (text_said (header_said c.args.header.now) c.args.ring.now from end c.args.notes.now c.args.last.now r.info.space r.from r.end c.args.first c.args.number c.args.block.now c.args.text.now.items old c.args.pool.now es at c.add_text.new.text.items c.in_ok-add_text.ensures.text
    (sym c.in_ok-add_text.ensures.last ∙ c.if-not-branch.false) c.in-Err.bad.at (subst (λ (t : List ℕ). HasNoChangeAt t c.in-Err.bad.at) c.deref.ensures.value c.in-Err.ensures.refused))
