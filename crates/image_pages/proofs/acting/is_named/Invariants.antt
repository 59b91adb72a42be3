use Rattle.image_pages.proofs.Named.{NamedBehind}
use Rattle.image_pages.proofs.acting.is_named.Given as goal

abbrev pub invariant-loop-entry : goal.invariant-loop-entry
invariant-loop-entry l = NamedBehind l.run l.space l.number l.lsn l.entry-index
