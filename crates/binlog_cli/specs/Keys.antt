-- What key files give.
use Rattle.std.specs.Prelude.{ℕ, List, [], Option, Result}
use Rattle.io_core.specs.Files.{Files}
use Rattle.key_ring.specs.Ring.{RingEntry}
use Rattle.key_file.specs.Loaded.{IsTheAnswer, LoadsFrom}
use Rattle.key_file.specs.declared.derivation.KeyDigest.{KeyDigest}
use Rattle.key_file.specs.declared.load_fault.LoadFault.{LoadFault}

-- the key files of these names give this, and nothing else
pub record IsOneLoad (files : Files) (filekey : Option (List ℕ)) (digest : KeyDigest) (names : List (List ℕ)) (keys : Result (List RingEntry) LoadFault) : Type 0 where
  pub loads : LoadsFrom files filekey digest 0 names [] keys
  pub only : IsTheAnswer files filekey digest names keys
