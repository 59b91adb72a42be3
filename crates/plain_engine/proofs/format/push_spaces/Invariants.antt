use Rattle.std.proofs.Common.{◌≡◌, ◌++◌, drop}
use Rattle.plain_engine.specs.Block.{spaces_fields}
use Rattle.plain_engine.proofs.format.push_spaces.Given as goal

abbrev pub invariant-loop-space : goal.invariant-loop-space
invariant-loop-space l = l.text.items ++ spaces_fields (drop l.space-index l.spaces) ≡ l.fn.text.items ++ spaces_fields l.spaces
