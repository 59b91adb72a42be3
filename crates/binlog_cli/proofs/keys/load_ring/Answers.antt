use Rattle.std.proofs.Common.{◌≡◌, ◌⊎◌, sym, subst, ◌∙◌}
use Rattle.binlog_cli.specs.Stops.{IsListStop, IsStatusOfPresent}
use Rattle.binlog_cli.specs.declared.status.ListStatus.{ListStatus}
use Rattle.binlog_cli.proofs.Counted.{key_present, key_refusal}
use Rattle.binlog_cli.proofs.FirstStops.{key_still}
use Rattle.binlog_cli.proofs.keys.load_ring.Goals as goal

pub returns-in-Err-clause-no_fault_at_refusal : goal.returns-in-Err-clause-no_fault_at_refusal
returns-in-Err-clause-no_fault_at_refusal g c = λ other. key_still c.in-Err.fault c.in-Err.ensures.no_fault_at_refusal (λ e. other (c.key_stop.ensures ∙ e))

pub returns-in-Err-clause-present_at_refusal : goal.returns-in-Err-clause-present_at_refusal
returns-in-Err-clause-present_at_refusal g c = λ there. c.in-Err.ensures.present_at_refusal (key_present c.in-Err.fault (subst IsStatusOfPresent c.key_stop.ensures there))

pub returns-in-Err-clause-no_refusal_at_fault : goal.returns-in-Err-clause-no_refusal_at_fault
returns-in-Err-clause-no_refusal_at_fault g c =
    subst (λ (s : ListStatus). IsListStop s ⊎ (g.L.Library.memory_refusals c.load.new.files ≡ g.L.Library.memory_refusals c.args.files.now)) (sym c.key_stop.ensures)
    (key_refusal c.in-Err.fault c.in-Err.ensures.no_refusal_at_fault)
