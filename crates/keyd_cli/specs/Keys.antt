-- The key files that the words of `drill` name.
use Rattle.std.specs.Prelude.{if◌then◌else◌, List, [], ◌∷◌, codes, Option, Some, None, Result}
use Rattle.std.specs.Str.{bytes_eq}
use Rattle.io_core.specs.Files.{Files}
use Rattle.key_file.specs.declared.derivation.KeyDigest.{KeyDigest}
use Rattle.key_file.specs.declared.derivation.KeyDigest.TheVariants.{Sha1, Sha256}
use Rattle.key_file.specs.declared.load_fault.LoadFault.{LoadFault}
use Rattle.key_ring.specs.Ring.{RingEntry}
use Rattle.key_file.specs.Loaded.{LoadsFrom}
use Rattle.keyd_cli.specs.declared.words.Flag.{Flag}
use Rattle.keyd_cli.specs.declared.words.Flag.TheVariants as flag
use Rattle.keyd_cli.specs.Words.{CommandWord, flag_word}
use Rattle.keyd_cli.specs.Plan.{value_in}

-- the values of an option, in the order in which they stand
unfoldable pub values_of : Flag → List CommandWord → List CommandWord
values_of f [] = []
values_of f (word ∷ []) = []
values_of f (word ∷ value ∷ words) = if bytes_eq word (flag_word f) then value ∷ values_of f words else values_of f words

-- the digest of a value, by default SHA-1
abbrev pub digest_named : Option CommandWord → KeyDigest
digest_named None = Sha1
digest_named (Some value) = if bytes_eq value (codes "sha256") then Sha256 else Sha1

abbrev pub digest_in : List CommandWord → KeyDigest
digest_in options = digest_named (value_in flag.Digest options)

-- What the key files that these options name give: the ring, or the first fault.
abbrev pub IsLoaded : Files → List CommandWord → Result (List RingEntry) LoadFault → Type 0
IsLoaded files options r = LoadsFrom files (value_in flag.FileKey options) (digest_in options) 0 (values_of flag.KeyFile options) [] r
