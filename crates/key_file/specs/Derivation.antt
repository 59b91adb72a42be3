-- The key derivation of `openssl enc` without `-pbkdf2`.
use Rattle.std.specs.Prelude.{ℕ, zero, suc, List, [], ◌++◌, take, drop}
use Rattle.sha1.specs.Sha1.{sha1}
use Rattle.sha2.specs.Sha256.{sha256}
use Rattle.key_file.specs.declared.derivation.KeyDigest.{KeyDigest}
use Rattle.key_file.specs.declared.derivation.KeyDigest.TheVariants.{Sha1, Sha256}

-- the digest of a message (FIPS 180-4)
abbrev pub hash_of : KeyDigest → List ℕ → List ℕ
hash_of Sha1 message = sha1 message
hash_of Sha256 message = sha256 message

-- D(n): the digest of D(n - 1), the password and the salt; there is nothing before D(1)
abbrev pub chained : KeyDigest → List ℕ → List ℕ → ℕ → List ℕ
chained digest password salt zero = []
chained digest password salt (suc n) = hash_of digest (chained digest password salt n ++ password ++ salt)

-- D(1), D(2) and D(3), one after the other
abbrev pub derived : KeyDigest → List ℕ → List ℕ → List ℕ
derived digest password salt = chained digest password salt 1 ++ chained digest password salt 2 ++ chained digest password salt 3

-- the key of AES-256: the first 32 bytes
abbrev pub derived_key : KeyDigest → List ℕ → List ℕ → List ℕ
derived_key digest password salt = take 32 (derived digest password salt)

-- the IV: the next 16
abbrev pub derived_iv : KeyDigest → List ℕ → List ℕ → List ℕ
derived_iv digest password salt = take 16 (drop 32 (derived digest password salt))
