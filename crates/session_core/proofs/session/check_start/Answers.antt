use Rattle.std.proofs.Common.{◌≤◌, refl, inl}
use Rattle.session_core.proofs.FloorLaws.{may_begin, no_beginning, on_ok}
use Rattle.session_core.proofs.KeyLaws.{version_some}
use Rattle.session_core.proofs.session.check_start.Goals as goal

pub returns-in-None-clause-may : goal.returns-in-None-clause-may
returns-in-None-clause-may c = may_begin c.args.ring.now c.args.active c.args.spaces.now c.check_floors.result c.in-None.ensures.lacking c.check_floors.ensures.none

pub returns-in-None-clause-some : goal.returns-in-None-clause-some
returns-in-None-clause-some c =
    on_ok (1 ≤ c.args.active) c.check_floors.result (version_some c.args.ring.now 1 c.args.active c.first_lacking.ensures.versions (c.in-None.ensures.lacking 1 (inl refl)))

pub returns-in-None-clause-refused : goal.returns-in-None-clause-refused
returns-in-None-clause-refused c = no_beginning c.args.ring.now c.args.active c.args.spaces.now c.check_floors.result c.in-None.ensures.lacking c.check_floors.ensures.refused
