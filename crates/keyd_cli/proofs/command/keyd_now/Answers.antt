use Rattle.std.proofs.Common.{◌∙◌, map, string_bytes, inr}
use Rattle.keyd_cli.specs.Ends.{OutsideCounts}
use Rattle.keyd_cli.proofs.Completes.{completes}
use Rattle.keyd_cli.proofs.command.keyd_now.Goals as goal

pub returns-in-Err-clause-complete : goal.returns-in-Err-clause-complete
returns-in-Err-clause-complete g c = λ all none.
    let before : OutsideCounts = record { library = g.L.Library.faults c.args.files.now; absences = g.L.Library.absences c.args.files.now; input = g.S.Source.faults c.args.input.now; output = g.K.Sink.faults c.args.out.now } in
    let now : OutsideCounts = record { library = g.L.Library.faults c.run_command.new.files; absences = g.L.Library.absences c.run_command.new.files; input = g.S.Source.faults c.run_command.new.input; output = g.K.Sink.faults c.run_command.new.out } in
    inr (c.ended.ensures.status
    ∙ completes (map string_bytes c.args.words.now) (g.L.Library.files c.args.files.now) (g.S.Source.left c.args.input.now) (g.K.Sink.given c.args.out.now) (g.K.Sink.given c.run_command.new.out) before now all none c.in-Err.status c.in-Err.ensures.err)
