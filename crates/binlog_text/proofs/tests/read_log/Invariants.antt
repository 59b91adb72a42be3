use Rattle.std.proofs.Common.{Some, codes}
use Rattle.io_core.specs.Memory.{files_of}
use Rattle.io_core.specs.Told.{Told}
use Rattle.binlog_text.specs.Reading.{Keeps}
use Rattle.binlog_text.proofs.tests.read_log.Given as goal

abbrev pub invariant-events : goal.invariant-events
invariant-events l = Told (λ fs. Keeps (fs (codes "log")) l.reader.stage l.reader.buffer.rest) (Some (files_of l.shelf.files))
