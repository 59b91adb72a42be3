-- What the first reads of a file answer.
use Rattle.std.specs.Prelude.{◌≡◌, ℕ, ◌⊎◌, List, length, Option, Some, None, Result, Ok, Err}
use Rattle.space_head.specs.declared.fault.HeadFault.{HeadFault}
use Rattle.innochecksum_cli.specs.Stops.{IsOutsideStatus}
use Rattle.innochecksum_cli.specs.declared.status.CheckStatus.{CheckStatus}
use Rattle.innochecksum_cli.specs.declared.status.CheckStatus.TheVariants.{Head, Missing}

-- the length of the file that was found, or that there is none, unless the call stopped
abbrev pub IsLengthAnswer : Option (List ℕ) → Result ℕ CheckStatus → Type 0
IsLengthAnswer found (Ok bytes) = (file : List ℕ) × (found ≡ Some file) × (bytes ≡ length file)
IsLengthAnswer found (Err status) = ((status ≡ Missing) × (found ≡ None)) ⊎ IsOutsideStatus status

-- the size that the flags name, or why they name none, unless the call stopped
abbrev pub IsSizeAnswer : Result ℕ HeadFault → Result ℕ CheckStatus → Type 0
IsSizeAnswer named (Ok size) = named ≡ Ok size
IsSizeAnswer named (Err status) = ((fault : HeadFault) × (status ≡ Head fault) × (named ≡ Err fault)) ⊎ IsOutsideStatus status
