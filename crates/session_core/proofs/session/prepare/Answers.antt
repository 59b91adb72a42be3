use Rattle.std.proofs.Common.{◌≤◌, arith}
use Rattle.store_files.proofs.HeaderBounds.{limits}
use Rattle.session_core.proofs.session.prepare.Goals as goal

pub new-requires-3-clause-least : goal.new-requires-3-clause-least
new-requires-3-clause-least g c = let least = (limits c.args.rest.header c.requires.form.allowed).least in omega (arith, least, c.blocks-2.ensures)

pub new-requires-3-clause-most : goal.new-requires-3-clause-most
new-requires-3-clause-most g c = let most = (limits c.args.rest.header c.requires.form.allowed).most in omega (arith, most, c.blocks-2.ensures)
