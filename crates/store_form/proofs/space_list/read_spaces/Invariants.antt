use Rattle.std.proofs.Common.{◌≡◌, length, take, map}
use Rattle.store_files.specs.Header.{spaces_at}
use Rattle.store_form.specs.Said.{space_said}
use Rattle.store_form.proofs.space_list.read_spaces.Given as goal

abbrev pub invariant-loop-i : goal.invariant-loop-i
invariant-loop-i l = (map space_said (take l.i l.spaces) ≡ spaces_at l.block 40 l.i) × (length l.spaces ≡ 16)
