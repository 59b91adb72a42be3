-- What a header says, in the words of the store's files.
use Rattle.std.specs.Prelude.{ℕ, nat_eq, if◌then◌else◌, take, map, Option, Some, None}
use Rattle.aes_core.specs.declared.algorithm.Algorithm.{Algorithm}
use Rattle.aes_core.specs.declared.algorithm.Algorithm.TheVariants.{Cbc, Ctr}
use Rattle.store_files.specs.Header.{HeldHeader, HeldSpace}
use Rattle.store_form.specs.declared.header.Header.{Header}
use Rattle.store_form.specs.declared.header.HeaderSpace.{HeaderSpace}

abbrev pub space_said : HeaderSpace → HeldSpace
space_said s = record { space = s.space; pages = s.pages; key_id = s.key_id }

-- the first spaces are the store's, so many as the header counts
abbrev pub header_said : Header → HeldHeader
header_said h = record { algorithm = h.algorithm; blocks = h.blocks; salt = h.salt; spaces = map space_said (take h.count h.spaces) }

-- the algorithm of a number in a header, where it is one
abbrev pub algorithm_named : ℕ → Option Algorithm
algorithm_named code = if nat_eq code 1 then Some Cbc else (if nat_eq code 2 then Some Ctr else None)
