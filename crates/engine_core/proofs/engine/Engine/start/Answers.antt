use Rattle.std.proofs.Common.{sym, subst}
use Rattle.disk_model.specs.Past.{At}
use Rattle.session_core.specs.Session.{Running}
use Rattle.engine_core.specs.Engine.{IsEngine}
use Rattle.engine_core.specs.Kept.{BeginsAt, BeginsRecordAt}
use Rattle.engine_core.proofs.Begins.{begins_behind, begins_still, first_is, recorded_behind, recorded_still}
use Rattle.engine_core.proofs.engine.Engine.start.Goals as goal

pub invariant_of-result : goal.invariant_of-result
invariant_of-result g c =
    subst (λ (r : Running _). IsEngine g.D.Disk.past g.D.Disk.faults g.D.Disk.memory_refusals g.D.Disk.is_later (record { first = r; now = c.in-Ok.core })) (sym c.of-first.ensures)
    (first_is g.D.Disk.past g.D.Disk.faults g.D.Disk.memory_refusals g.D.Disk.is_later c.args.rest c.args.ring c.args.options c.in-Ok.core c.in-Ok.ensures.begun c.in-Ok.ensures.disk c.spaces-kept.ensures.kept (g.met.D.Disk.is_later_reflexive c.in-Ok.core.disk.disk))

pub returns-in-Ok-clause-begins : goal.returns-in-Ok-clause-begins
returns-in-Ok-clause-begins g c store at =
    subst (λ (r : Running _). At (BeginsAt store r) (g.D.Disk.past r.disk.disk)) (sym c.of-first.ensures)
    (subst (λ (r : Running _). At (BeginsAt store r) (g.D.Disk.past c.in-Ok.core.disk.disk)) (sym c.in-Ok.ensures.begun)
    (begins_behind store c.args.ring c.args.options.active c.args.rest.next c.args.rest.sequence (g.D.Disk.past c.args.rest.disk) (g.D.Disk.past c.in-Ok.core.disk.disk) c.in-Ok.ensures.disk.told at))

pub returns-in-Ok-clause-recorded : goal.returns-in-Ok-clause-recorded
returns-in-Ok-clause-recorded g c store at =
    subst (λ (r : Running _). At (BeginsRecordAt store r) (g.D.Disk.past r.disk.disk)) (sym c.of-first.ensures)
    (subst (λ (r : Running _). At (BeginsRecordAt store r) (g.D.Disk.past c.in-Ok.core.disk.disk)) (sym c.in-Ok.ensures.begun)
    (recorded_behind store c.args.ring c.args.options.active c.args.rest.next c.args.rest.sequence (g.D.Disk.past c.args.rest.disk) (g.D.Disk.past c.in-Ok.core.disk.disk) c.in-Ok.ensures.disk.told at))

pub returns-in-Err-clause-begins_still : goal.returns-in-Err-clause-begins_still
returns-in-Err-clause-begins_still g c store at =
    begins_still g.D.Disk.past g.D.Disk.faults g.D.Disk.memory_refusals c.args.ring c.args.options.active c.args.rest c.in-Err.refusal.rest c.in-Err.refusal.why c.in-Err.ensures.refused store at

pub returns-in-Err-clause-recorded_still : goal.returns-in-Err-clause-recorded_still
returns-in-Err-clause-recorded_still g c store at =
    recorded_still g.D.Disk.past g.D.Disk.faults g.D.Disk.memory_refusals c.args.ring c.args.options.active c.args.rest c.in-Err.refusal.rest c.in-Err.refusal.why c.in-Err.ensures.refused store at
