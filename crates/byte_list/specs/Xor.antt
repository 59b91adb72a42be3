-- XOR of lists.
use Rattle.std.specs.Prelude.{ℕ, List, bit_xor}
use lib.Lanes.{zip2}

-- the XOR of two lists, byte by byte, as long as the shorter one
abbrev pub xored : List ℕ → List ℕ → List ℕ
xored xs ys = zip2 bit_xor xs ys
