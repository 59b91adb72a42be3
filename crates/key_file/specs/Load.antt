-- Key files in a library that tells its files: what each gives, in the order in which it is judged.
use Rattle.std.specs.Prelude.{◌≡◌, ◌≢◌, ℕ, ◌-◌, ◌==◌, ◌||◌, ◌&&◌, nat_le, nat_lt, nat_eq, if◌then◌else◌, Bool, List, length, take, drop, codes, Option, Some, None, Result, Ok, Err, MatchResult}
use Rattle.std.specs.Bool.{MatchBool}
use Rattle.std.specs.List.{starts_with, suffix_len}
use Rattle.io_core.specs.Files.{Files}
use Rattle.key_file.specs.declared.fault.KeyFault.{KeyFault}
use Rattle.key_file.specs.declared.fault.KeyFault.TheVariants as key
use Rattle.key_file.specs.declared.load_fault.LoadFault.{LoadFault}
use Rattle.key_file.specs.declared.load_fault.LoadFault.TheVariants.{Missing, FileFault, KeyFile, OutOfMemory}
use Rattle.key_file.specs.declared.derivation.KeyDigest.{KeyDigest}
use Rattle.key_file.specs.declared.keys.KeyItem.{KeyItem}
use Rattle.key_file.specs.Plain.{ReadsPlain}
use Rattle.key_file.specs.Salted.{Deciphers}

-- ---- the bytes of a file

-- its bytes; a file may be missing, and the fault is that of one of more than 1,048,576 bytes
abbrev pub contents : ℕ → KeyFault → List ℕ → Option (List ℕ) → Result (List ℕ) LoadFault
contents index fault name None = Err (Missing name)
contents index fault name (Some bytes) = if nat_lt 1048576 (length bytes) then Err (KeyFile index fault) else Ok bytes

-- ---- the password

-- a line feed or a carriage return
abbrev pub is_line_end : ℕ → Bool
is_line_end b = b == 10 || b == 13

-- without the line ends at its end
abbrev pub trimmed : List ℕ → List ℕ
trimmed text = take (length text - suffix_len is_line_end text) text

-- a password has 1 to 256 bytes
abbrev pub password_of : ℕ → List ℕ → Result (List ℕ) LoadFault
password_of index text = if nat_le 1 (length text) && nat_le (length text) 256 then Ok text else Err (KeyFile index (key.BadSecret (length text)))

-- the password in the contents of its file
abbrev pub password_in : ℕ → Result (List ℕ) LoadFault → Result (List ℕ) LoadFault
password_in index (Err fault) = Err fault
password_in index (Ok bytes) = password_of index (trimmed bytes)

-- a filekey that begins with `FILE:` names a file with the password; any other is the password
abbrev pub secret_of : Files → ℕ → List ℕ → Result (List ℕ) LoadFault
secret_of files index filekey =
    if starts_with nat_eq filekey (codes "FILE:") then password_in index (contents index key.SecretTooLarge (drop 5 filekey) (files (drop 5 filekey)))
    else password_of index filekey

-- ---- the text of a key file

abbrev pub is_salted : List ℕ → Bool
is_salted bytes = starts_with nat_eq bytes (codes "Salted__")

-- the text that an enciphered file gives under a password
abbrev pub Deciphered : ℕ → KeyDigest → List ℕ → List ℕ → Result (List ℕ) LoadFault → Type 0
Deciphered index digest password bytes (Ok text) = Deciphers digest password bytes (Ok text)
Deciphered index digest password bytes (Err (KeyFile i fault)) = (i ≡ index) × (fault ≢ key.OutOfMemory) × Deciphers digest password bytes (Err fault)
Deciphered index digest password bytes (Err _) = ⊥

-- an enciphered file needs a filekey
abbrev pub Opened : Files → ℕ → Option (List ℕ) → KeyDigest → List ℕ → Result (List ℕ) LoadFault → Type 0
Opened files index None digest bytes r = r ≡ Err (KeyFile index key.NoSecret)
Opened files index (Some filekey) digest bytes r =
    MatchResult (secret_of files index filekey) (λ password. Deciphered index digest password bytes r) (λ fault. r ≡ Err fault)

-- the text of a file: its bytes, where it is not enciphered
abbrev pub TextOf : Files → ℕ → Option (List ℕ) → KeyDigest → List ℕ → Result (List ℕ) LoadFault → Type 0
TextOf files index filekey digest bytes r = MatchBool (is_salted bytes) (Opened files index filekey digest bytes r) (r ≡ Ok bytes)

-- ---- the keys of a key file

abbrev pub KeysIn : ℕ → List ℕ → Result (List KeyItem) LoadFault → Type 0
KeysIn index text (Ok keys) = ReadsPlain text (Ok keys)
KeysIn index text (Err (KeyFile i fault)) = (i ≡ index) × ReadsPlain text (Err fault)
KeysIn index text (Err _) = ⊥

-- the keys of the text, where there is one
abbrev pub KeysOfText : ℕ → Result (List ℕ) LoadFault → Result (List KeyItem) LoadFault → Type 0
KeysOfText index (Ok text) r = KeysIn index text r
KeysOfText index (Err fault) r = r ≡ Err fault

-- the keys of the file of a name, or the first of its faults
abbrev pub KeysOf : Files → ℕ → Option (List ℕ) → KeyDigest → List ℕ → Result (List KeyItem) LoadFault → Type 0
KeysOf files index filekey digest name r =
    MatchResult (contents index key.TooLarge name (files name))
    (λ bytes. (text : Result (List ℕ) LoadFault) × TextOf files index filekey digest bytes text × KeysOfText index text r)
    (λ fault. r ≡ Err fault)

-- ---- answers that come from outside

-- the library failed, or there was no memory
abbrev pub IsOutside : LoadFault → Type 0
IsOutside FileFault = Unit {0}
IsOutside OutOfMemory = Unit {0}
IsOutside _ = ⊥

-- the answer for a fault of the key file of an index
abbrev pub load_fault_of : ℕ → KeyFault → LoadFault
load_fault_of index key.OutOfMemory = OutOfMemory
load_fault_of index fault = KeyFile index fault
