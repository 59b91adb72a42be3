use Rattle.std.proofs.Common.{◌≡◌, ◌≤◌, [], string_bytes}
use Rattle.io_core.specs.Told.{Told}
use Rattle.binlog_text.specs.Reading.{Keeps, StandsAt, left_at}
use Rattle.binlog_text.specs.declared.stage.Stage.TheVariants.{Start}
use Rattle.binlog_cli.proofs.SoFar.{SoFar}
use Rattle.binlog_cli.proofs.listing.list_log.Given as goal

abbrev pub invariant-events : goal.invariant-events
invariant-events g l = record {
  so_far : Told (λ fs. SoFar l.is_hex l.ring (fs l.name) l.reader.stage l.reached (g.K.Sink.given l.fn.out) (g.K.Sink.given l.out) (string_bytes l.text)) (g.L.Library.files l.fn.files);
  keeps : Told (λ fs. Keeps (fs l.name) l.reader.stage l.reader.buffer.rest) (g.L.Library.files l.fn.files);
  stands : StandsAt l.reader.stage l.reached;
  same : g.L.Library.files l.files ≡ g.L.Library.files l.fn.files;
  faults : g.L.Library.faults l.fn.files ≤ g.L.Library.faults l.files;
  absences : g.L.Library.absences l.fn.files ≤ g.L.Library.absences l.files;
  outs : g.K.Sink.faults l.fn.out ≤ g.K.Sink.faults l.out;
  no_file_fault : g.L.Library.faults l.files ≡ g.L.Library.faults l.fn.files;
  no_out_fault : g.K.Sink.faults l.out ≡ g.K.Sink.faults l.fn.out;
  present : g.L.Library.absences l.files ≡ g.L.Library.absences l.fn.files;
  no_refusal : g.L.Library.memory_refusals l.files ≡ g.L.Library.memory_refusals l.fn.files;
  no_out_refusal : g.K.Sink.memory_refusals l.out ≡ g.K.Sink.memory_refusals l.fn.out;
  silent : l.reader.stage ≡ Start → string_bytes l.text ≡ [];
}

abbrev pub decreases-events : goal.decreases-events
decreases-events g l = left_at l.reader.stage
