use Rattle.recovery.proofs.PlaceSteps.{NoneYet}
use Rattle.recovery.proofs.space_list.place_of.Given as goal

abbrev pub invariant-loop-i : goal.invariant-loop-i
invariant-loop-i l = NoneYet l.spaces l.space l.page l.i
