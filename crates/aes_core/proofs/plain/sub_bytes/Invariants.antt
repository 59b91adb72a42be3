use Rattle.std.proofs.Common.{◌≡◌, ◌++◌, map, take, drop}
use Rattle.aes_core.specs.Field.{sub_byte}
use Rattle.aes_core.proofs.plain.sub_bytes.Given as goal

abbrev pub invariant-loop-b : goal.invariant-loop-b
invariant-loop-b l = l.s ≡ map sub_byte (take l.b-index l.fn.s) ++ drop l.b-index l.fn.s
