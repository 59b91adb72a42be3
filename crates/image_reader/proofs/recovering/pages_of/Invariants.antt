use Rattle.std.proofs.Common.{◌≡◌, ◌+◌, length}
use Rattle.image_reader.specs.Spaces.{PagesHold}
use Rattle.image_reader.proofs.recovering.pages_of.Given as goal

abbrev pub invariant-loop-number : goal.invariant-loop-number
invariant-loop-number l = PagesHold l.keys.header.now l.keys.ring.now l.log l.bytes l.double l.keys.salt.now l.space l.list.items × (length l.list.items + 1 ≡ l.number)
