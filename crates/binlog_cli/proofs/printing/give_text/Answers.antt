use Rattle.std.proofs.Common.{◌∙◌}
use Rattle.binlog_cli.proofs.FirstStops.{print_still}
use Rattle.binlog_cli.proofs.printing.give_text.Goals as goal

pub returns-in-Err-clause-no_out_fault : goal.returns-in-Err-clause-no_out_fault
returns-in-Err-clause-no_out_fault g c = λ other. print_still c.in-Err.e c.in-Err.ensures.no_fault_at_want (λ e. other (c.print_stop.ensures ∙ e))
