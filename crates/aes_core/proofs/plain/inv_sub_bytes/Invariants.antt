use Rattle.std.proofs.Common.{◌≡◌, ◌++◌, map, take, drop}
use Rattle.aes_core.specs.Field.{inv_sub_byte}
use Rattle.aes_core.proofs.plain.inv_sub_bytes.Given as goal

abbrev pub invariant-loop-b : goal.invariant-loop-b
invariant-loop-b l = l.s ≡ map inv_sub_byte (take l.b-index l.fn.s) ++ drop l.b-index l.fn.s
