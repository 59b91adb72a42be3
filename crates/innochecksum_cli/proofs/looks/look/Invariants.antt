use Rattle.std.proofs.Common.{◌≡◌, ◌≤◌, ◌-◌, length}
use Rattle.innochecksum_cli.specs.Stops.{OfFile}
use Rattle.innochecksum_cli.proofs.SelectedPages.{Seen}
use Rattle.innochecksum_cli.proofs.looks.look.Given as goal

abbrev pub invariant-loop-number : goal.invariant-loop-number
invariant-loop-number g l = record {
  seen : OfFile (λ file. l.fn.bytes ≡ length file → Seen l.options (length l.fn.page) file (l.number - l.options.first) l.tally (g.K.Sink.given l.fn.out) (g.K.Sink.given l.out)) l.name (g.L.Library.files l.fn.files);
  same : g.L.Library.files l.files ≡ g.L.Library.files l.fn.files;
  faults : g.L.Library.faults l.fn.files ≤ g.L.Library.faults l.files;
  absences : g.L.Library.absences l.fn.files ≤ g.L.Library.absences l.files;
  outs : g.K.Sink.faults l.fn.out ≤ g.K.Sink.faults l.out;
}
