use Rattle.std.proofs.Common.{◌≡◌, ◌+◌, ◌*◌, ◌≤◌, drop, map}
use Rattle.store_files.specs.Header.{pages_together}
use Rattle.store_form.specs.Said.{space_said}
use Rattle.store_form.proofs.space_list.pages_together.Given as goal

abbrev pub invariant-loop-i : goal.invariant-loop-i
invariant-loop-i l = (l.pages + pages_together (map space_said (drop l.i l.spaces)) ≡ pages_together (map space_said l.spaces)) × (l.pages ≤ l.i * 4294967295)
