use Rattle.std.proofs.Common.{◌≡◌, ◌∙◌, true, false, sym, subst}
use Rattle.redo_text.specs.Changes.{change_of}
use Rattle.page_pool.specs.Changes.{page_of_change}
use Rattle.page_pool.specs.declared.names.PageName.{PageName}
use Rattle.recovery.specs.Changing.{is_wanted}
use Rattle.recovery.proofs.ChangeSteps.{holds_still, made_unwanted, made_wanted}
use Rattle.recovery.proofs.changing.apply_change.Goals as goal

pub returns-then-not-is_wanted-clause-made : goal.returns-then-not-is_wanted-clause-made
returns-then-not-is_wanted-clause-made c =
    let r = c.args.round.now in
    let change = change_of c.args.change.now in
    made_unwanted c.args.notes.now c.args.last.now r.info.space r.from r.end c.args.lsn change c.args.pool.now
    (subst (λ (n : PageName). is_wanted c.args.notes.now c.args.last.now r.info.space r.from r.end n c.args.lsn ≡ false) c.name_of.ensures (sym c.is_wanted.ensures ∙ c.if-not-is_wanted.true))

pub returns-clause-holds : goal.returns-clause-holds
returns-clause-holds c =
    let r = c.args.round.now in
    let change = change_of c.args.change.now in
    let wanted = subst (λ (n : PageName). is_wanted c.args.notes.now c.args.last.now r.info.space r.from r.end n c.args.lsn ≡ true) c.name_of.ensures (sym c.is_wanted.ensures ∙ c.if-not-is_wanted.false) in
    holds_still c.args.notes.now c.args.last.now r.info.space r.from r.end c.args.lsn change c.args.pool.now c.requires.allowed wanted c.requires.holds c.apply.new.self c.in-Ok.ensures.changed c.in-Ok.ensures.holds

pub returns-clause-made : goal.returns-clause-made
returns-clause-made c =
    let r = c.args.round.now in
    let change = change_of c.args.change.now in
    let wanted = subst (λ (n : PageName). is_wanted c.args.notes.now c.args.last.now r.info.space r.from r.end n c.args.lsn ≡ true) c.name_of.ensures (sym c.is_wanted.ensures ∙ c.if-not-is_wanted.false) in
    made_wanted c.args.notes.now c.args.last.now r.info.space r.from r.end c.args.lsn change c.args.pool.now c.requires.allowed wanted c.requires.holds c.apply.new.self c.in-Ok.ensures.changed c.in-Ok.ensures.holds
