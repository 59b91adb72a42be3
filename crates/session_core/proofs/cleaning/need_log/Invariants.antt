use Rattle.std.proofs.Common.{◌≡◌, drop}
use Rattle.session_core.specs.Putting.{need_log}
use Rattle.session_core.proofs.cleaning.need_log.Given as goal

abbrev pub invariant-loop-i : goal.invariant-loop-i
invariant-loop-i l = need_log l.number (drop l.i l.texts) ≡ need_log l.number l.texts
