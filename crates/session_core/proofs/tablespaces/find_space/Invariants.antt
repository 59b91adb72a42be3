use Rattle.std.proofs.Common.{◌≡◌, drop}
use Rattle.session_core.specs.Spaces.{space_with_id}
use Rattle.session_core.proofs.tablespaces.find_space.Given as goal

abbrev pub invariant-loop-info : goal.invariant-loop-info
invariant-loop-info l = space_with_id (drop l.info-index l.spaces) l.space ≡ space_with_id l.spaces l.space
