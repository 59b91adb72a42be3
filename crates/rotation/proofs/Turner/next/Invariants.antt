use Rattle.rotation.specs.Rotation.{NoneDueBelow}
use Rattle.rotation.proofs.Turner.next.Given as goal

abbrev pub invariant-loop-page : goal.invariant-loop-page
invariant-loop-page l = NoneDueBelow l.homes l.latest l.age l.page
