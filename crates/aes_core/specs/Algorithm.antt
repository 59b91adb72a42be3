-- Texts under the mode that a store is kept in.
use Rattle.std.specs.Prelude.{ℕ, List}
use Rattle.aes_core.specs.declared.algorithm.Algorithm.{Algorithm}
use Rattle.aes_core.specs.declared.algorithm.Algorithm.TheVariants.{Cbc, Ctr}
use Rattle.aes_core.specs.Modes.{cbc_tail, ctr, uncbc_tail}

-- the cipher text of a text under a key and an IV
abbrev pub ciphered : Algorithm → List ℕ → List ℕ → List ℕ → List ℕ
ciphered Cbc key iv text = cbc_tail key iv text
ciphered Ctr key iv text = ctr key iv text

-- and the text of a cipher text
abbrev pub deciphered : Algorithm → List ℕ → List ℕ → List ℕ → List ℕ
deciphered Cbc key iv text = uncbc_tail key iv text
deciphered Ctr key iv text = ctr key iv text
