-- The ring that key files give, file by file.
use Rattle.std.specs.Prelude.{◌≡◌, ℕ, ◌+◌, ◌==◌, nat_eq, if◌then◌else◌, ◌⊎◌, List, [], ◌∷◌, drop, true, codes, Option, Some, None, Result, Ok, Err}
use Rattle.std.specs.List.{starts_with}
use Rattle.io_core.specs.Files.{Files}
use Rattle.key_ring.specs.Ring.{RingEntry, ring_key}
use Rattle.key_file.specs.declared.fault.KeyFault.TheVariants as key
use Rattle.key_file.specs.declared.load_fault.LoadFault.{LoadFault}
use Rattle.key_file.specs.declared.derivation.KeyDigest.{KeyDigest}
use Rattle.key_file.specs.declared.keys.KeyItem.{KeyItem}
use Rattle.key_file.specs.Plain.{key_in}
use Rattle.key_file.specs.Load.{KeysOf, contents, is_salted}

-- the new ring has the keys of a file as this version, and of other versions what the old one has
pub record HasKeysOfVersion (old : List RingEntry) (keys : List KeyItem) (version : ℕ) (new : List RingEntry) : Type 0 where
  pub keys_are : (id v : ℕ) → ring_key new id v ≡ (if v == version then key_in keys id else ring_key old id v)

-- a ring and its keys as a later version give the next ring
pub record NextRing (old : List RingEntry) (keys : List KeyItem) (version : ℕ) (rest : List RingEntry → Type 0) : Type 0 where
  pub ring : List RingEntry
  pub added : HasKeysOfVersion old keys version ring
  pub rest_loads : rest ring

-- what the files of these names give, the first of index n, to a ring that has the keys of those before:
-- the ring with all keys, those of file k as version k + 1, or the first fault in order of files
abbrev pub LoadsFrom : Files → Option (List ℕ) → KeyDigest → ℕ → List (List ℕ) → List RingEntry → Result (List RingEntry) LoadFault → Type 0
LoadsFrom files filekey digest n [] ring r = r ≡ Ok ring
LoadsFrom files filekey digest n (name ∷ names) ring (Err fault) =
    KeysOf files n filekey digest name (Err fault)
    ⊎ ((keys : List KeyItem) × KeysOf files n filekey digest name (Ok keys) × NextRing ring keys (n + 1) (λ next. LoadsFrom files filekey digest (n + 1) names next (Err fault)))
LoadsFrom files filekey digest n (name ∷ names) ring (Ok last) =
    (keys : List KeyItem) × KeysOf files n filekey digest name (Ok keys) × NextRing ring keys (n + 1) (λ next. LoadsFrom files filekey digest (n + 1) names next (Ok last))

-- two answers say the same: rings with the same keys, or one fault
abbrev pub IsSameAnswer : Result (List RingEntry) LoadFault → Result (List RingEntry) LoadFault → Type 0
IsSameAnswer (Ok ring) (Ok other) = (id v : ℕ) → ring_key ring id v ≡ ring_key other id v
IsSameAnswer (Err fault) (Err other) = fault ≡ other
IsSameAnswer _ _ = ⊥

-- whatever these files give says the same
abbrev pub IsTheAnswer : Files → Option (List ℕ) → KeyDigest → List (List ℕ) → Result (List RingEntry) LoadFault → Type 0
IsTheAnswer files filekey digest names r = (other : Result (List RingEntry) LoadFault) → LoadsFrom files filekey digest 0 names [] other → IsSameAnswer r other

-- ---- the files that are called for

-- the filekey names this file, with the password
abbrev pub NamesSecret : Option (List ℕ) → List ℕ → Type 0
NamesSecret None due = ⊥
NamesSecret (Some filekey) due = (starts_with nat_eq filekey (codes "FILE:") ≡ true) × (due ≡ drop 5 filekey)

-- the key file of a name calls for this file: for itself, or, where it is enciphered, for that with the password
abbrev pub CallsFor : Files → ℕ → Option (List ℕ) → List ℕ → List ℕ → Type 0
CallsFor files n filekey name due =
    (due ≡ name)
    ⊎ ((bytes : List ℕ) × (contents n key.TooLarge name (files name) ≡ Ok bytes) × (is_salted bytes ≡ true) × NamesSecret filekey due)

-- the key files of these names, the first of index n, call for this file: one of them does, and those before it gave keys
abbrev pub IsDue : Files → Option (List ℕ) → KeyDigest → ℕ → List (List ℕ) → List ℕ → Type 0
IsDue files filekey digest n [] due = ⊥
IsDue files filekey digest n (name ∷ names) due =
    CallsFor files n filekey name due
    ⊎ ((keys : List KeyItem) × KeysOf files n filekey digest name (Ok keys) × IsDue files filekey digest (n + 1) names due)
