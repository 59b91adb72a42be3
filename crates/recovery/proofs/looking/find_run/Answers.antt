use Rattle.store_form.specs.Said.{header_said}
use Rattle.store_files.proofs.HeaderBounds.{limits}
use Rattle.recovery.proofs.looking.find_run.Goals as goal

pub scan-requires-clause-least : goal.scan-requires-clause-least
scan-requires-clause-least g c = (limits (header_said c.args.header.now) c.requires.allowed).least

pub scan-requires-clause-most : goal.scan-requires-clause-most
scan-requires-clause-most g c = (limits (header_said c.args.header.now) c.requires.allowed).most
