use Rattle.std.proofs.Common.{rules, ◌≡◌, ◌<◌, length, codes}
use Rattle.keyd_cli.specs.Schedule.{IsSync}
use Rattle.keyd_cli.proofs.Schedules.{not_skipped, no_act}
use Rattle.keyd_cli.proofs.schedule.read_line.Goals as goal

pub returns-then-eq : goal.returns-then-eq
returns-then-eq c =
    let some : 0 < length c.args.line.now = search (rules, c.is_empty.ensures, c.if-is_empty.false) in
    let same : c.args.line.now ≡ codes "sync" = search (rules, c.eq.ensures, c.if-eq.true) in
    (IsSync same, not_skipped c.args.line.now some c.if-line-eq35.false)

pub returns-in-None : goal.returns-in-None
returns-in-None c =
    let line = c.args.line.now in
    let some : 0 < length line = search (rules, c.is_empty.ensures, c.if-is_empty.false) in
    let other : line ≡ codes "sync" → ⊥ = λ same. search (rules, c.eq.ensures, c.if-eq.false, same) in
    let none = rw c.in-None.is at c.in_ok-act.ensures in
    (not_skipped line some c.if-line-eq35.false, no_act c.args.plan.now.space c.args.plan.now.pages line other none)
