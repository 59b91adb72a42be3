-- An enciphered key file: `Salted__`, 8 bytes of salt, and AES-256-CBC over the padded text.
use Rattle.std.specs.Prelude.{◌≡◌, ℕ, ◌%◌, ◌<◌, ◌≤◌, ◌⊎◌, List, length, take, drop, codes, Result, Ok, Err}
use Rattle.aes_core.specs.Cipher.{AreBytes}
use Rattle.aes_core.specs.Modes.{cbc_pad}
use Rattle.key_file.specs.declared.fault.KeyFault.{KeyFault}
use Rattle.key_file.specs.declared.fault.KeyFault.TheVariants.{ShortSalted, CipherLength, Padding, OutOfMemory}
use Rattle.key_file.specs.declared.derivation.KeyDigest.{KeyDigest}
use Rattle.key_file.specs.Derivation.{derived_iv, derived_key}

-- the first 8 bytes
abbrev pub IsSalted : List ℕ → Type 0
IsSalted bytes = take 8 bytes ≡ codes "Salted__"

abbrev pub salt_of : List ℕ → List ℕ
salt_of bytes = take 8 (drop 8 bytes)

abbrev pub cipher_text : List ℕ → List ℕ
cipher_text bytes = drop 16 bytes

-- the text enciphers to the file's cipher text under the key and the IV that the password gives
abbrev pub IsSaltedText : KeyDigest → List ℕ → List ℕ → List ℕ → Type 0
IsSaltedText digest password bytes text =
    cipher_text bytes ≡ cbc_pad (derived_key digest password (salt_of bytes)) (derived_iv digest password (salt_of bytes)) text

-- some whole blocks
abbrev pub IsWholeBlocks : ℕ → Type 0
IsWholeBlocks n = (1 ≤ n) × (n % 16 ≡ 0)

-- what an enciphered file gives: its text, a list of bytes, or the first of three faults; want of memory is free
abbrev pub Deciphers : KeyDigest → List ℕ → List ℕ → Result (List ℕ) KeyFault → Type 0
Deciphers digest password bytes (Ok text) = (16 ≤ length bytes) × AreBytes text × IsSaltedText digest password bytes text
Deciphers digest password bytes (Err (ShortSalted n)) = (n ≡ length bytes) × (n < 16)
Deciphers digest password bytes (Err (CipherLength n)) = (16 ≤ length bytes) × (n ≡ length (cipher_text bytes)) × ((n ≡ 0) ⊎ (0 < n % 16))
Deciphers digest password bytes (Err Padding) =
    (16 ≤ length bytes) × IsWholeBlocks (length (cipher_text bytes)) × ((text : List ℕ) → AreBytes text → ¬ IsSaltedText digest password bytes text)
Deciphers digest password bytes (Err OutOfMemory) = (16 ≤ length bytes) × IsWholeBlocks (length (cipher_text bytes))
Deciphers digest password bytes (Err _) = ⊥
