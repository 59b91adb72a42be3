use Rattle.std.proofs.Common.{take}
use Rattle.store_files.proofs.HeaderBounds.{limits}
use Rattle.store_form.specs.Said.{header_said}
use Rattle.recovery.proofs.Misfits.{some_pages}
use Rattle.recovery.proofs.heads.find_heads.Goals as goal

pub find_each-requires-clause-some : goal.find_each-requires-clause-some
find_each-requires-clause-some g c = some_pages 0 (take c.args.header.now.count c.args.header.now.spaces) (limits (header_said c.args.header.now) c.requires.allowed).order
