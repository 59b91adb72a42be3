use Rattle.std.proofs.Common.{◌≡◌, drop, map}
use Rattle.store_files.specs.Header.{are_in_order}
use Rattle.store_form.specs.Said.{space_said}
use Rattle.store_form.proofs.space_list.are_in_order.Given as goal

abbrev pub invariant-loop-i : goal.invariant-loop-i
invariant-loop-i l = are_in_order l.id (map space_said (drop l.i l.spaces)) ≡ are_in_order 0 (map space_said l.spaces)
