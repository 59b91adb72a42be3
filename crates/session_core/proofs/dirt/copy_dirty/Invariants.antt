use Rattle.std.proofs.Common.{◌≡◌}
use Rattle.session_core.proofs.CopyLaws.{IsCopied}
use Rattle.session_core.proofs.dirt.copy_dirty.Given as goal

abbrev pub invariant-loop-i : goal.invariant-loop-i
invariant-loop-i l = record {
  pool : l.pool ≡ l.fn.pool;
  copied : IsCopied l.fn.pool l.fn.batch l.batch l.i;
}
