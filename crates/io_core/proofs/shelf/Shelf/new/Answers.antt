use Rattle.io_core.specs.Memory.{listed}
use Rattle.io_core.proofs.Lookups.{files_of-listed}
use Rattle.io_core.proofs.shelf.Shelf.new.Goals as goal

pub returns-clause-each : goal.returns-clause-each
returns-clause-each c = files_of-listed (listed c.args.files.items) c.requires
