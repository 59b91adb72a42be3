use Rattle.std.proofs.Common.{arith}
use Rattle.page_pool.proofs.Lists.{found_here, found_nowhere}
use Rattle.page_pool.specs.Pages.{is_named}
use Rattle.page_pool.proofs.names.entry_of.Goals as goal

pub returns-then-place-dirty : goal.returns-then-place-dirty
returns-then-place-dirty c = (c.place_of-place.ensures, omega arith, found_here (is_named c.args.name) c.args.dirty.now c.place_of-place.result c.place_of-place.ensures (omega arith))

pub returns-else-place-dirty : goal.returns-else-place-dirty
returns-else-place-dirty c = found_nowhere (is_named c.args.name) c.args.dirty.now c.place_of-place.result c.place_of-place.ensures (omega arith)
