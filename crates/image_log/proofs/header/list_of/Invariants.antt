use Rattle.std.proofs.Common.{◌≡◌, ◌++◌, drop, map}
use Rattle.store_form.specs.Said.{space_said}
use Rattle.image_log.proofs.header.list_of.Given as goal

abbrev pub invariant-loop-space : goal.invariant-loop-space
invariant-loop-space l = l.list.items ++ map space_said (drop l.space-index l.spaces) ≡ map space_said l.spaces
