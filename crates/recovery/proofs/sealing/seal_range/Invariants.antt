use Rattle.std.proofs.Common.{◌≡◌, ◌≤◌}
use Rattle.recovery.specs.Rounds.{has_later}
use Rattle.recovery.specs.Sealing.{AreTextsIn}
use Rattle.recovery.proofs.sealing.seal_range.Given as goal

abbrev pub invariant-loop-page : goal.invariant-loop-page
invariant-loop-page l = record {
  begins : l.range.from ≤ l.page;
  same : l.pool ≡ l.fn.pool;
  texts : AreTextsIn (has_later l.notes l.last) l.range.info.space l.last l.under.version l.under.key l.fn.pool l.range.from l.page l.texts.items;
}
