use Rattle.std.proofs.Common.{◌≡◌, ◌≤◌, take}
use Rattle.std.specs.Prelude.{min}
use Rattle.std.specs.Str.Parse.{digits_value}
use Rattle.key_file.proofs.line.id_of.Given as goal

-- the number that the digits so far spell, or 2^32 where it is larger
abbrev pub invariant-loop-digit : goal.invariant-loop-digit
invariant-loop-digit l = (l.value ≡ min (digits_value 10 (take l.digit-index l.digits)) 4294967296) × (l.value ≤ 4294967296)
