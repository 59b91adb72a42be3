use Rattle.std.proofs.Common.{◌≡◌, ◌++◌, ◌≤◌, length}
use Rattle.std.specs.Vec.Iter.{into_iter_items}
use Rattle.plain_engine.specs.declared.fault.State.TheVariants as state
use Rattle.keyd_cli.specs.Session.{entries_of, replies_to, AreAckedWithin}
use Rattle.keyd_cli.proofs.session.run_statements.Given as goal

abbrev pub invariant-loop-statement : goal.invariant-loop-statement
invariant-loop-statement g l = record {
  next : (goal.iterator-loop-statement g).can_next l.statement-iterator;
  finite : (goal.iterator-loop-statement g).is_finite l.statement-iterator;
  left : l.fn.statements.items ≡ l.yielded ++ into_iter_items l.statement-iterator;
  entries : l.engine.journal ≡ entries_of 0 l.yielded;
  replied : l.replies.items ≡ replies_to 0 l.yielded;
  up : l.engine.state ≡ state.Up;
  within : AreAckedWithin l.engine.acked l.replies.items;
  low : l.engine.acked ≤ length l.engine.journal;
  later : g.D.Disk.is_later l.fn.engine.disk l.engine.disk;
}
