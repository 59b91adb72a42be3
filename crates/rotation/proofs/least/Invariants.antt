use Rattle.std.specs.Prelude.{MatchOption}
use Rattle.rotation.specs.Rotation.{IsLeastBelow, NoneCleanBelow}
use Rattle.rotation.proofs.least.Given as goal

abbrev pub invariant-loop-page : goal.invariant-loop-page
invariant-loop-page l = MatchOption l.least (NoneCleanBelow l.homes l.page) (IsLeastBelow l.homes l.page)
