-- What a password gives is a key of AES-256 and an IV of one block.
use Rattle.std.proofs.Common.{◌≡◌, ℕ, ◌≤◌, List, ◌++◌, length, drop, arith, length-append, length-drop, length-take-le}
use Rattle.aes_core.specs.Cipher.{AreBytes, IsCipherBlock, IsKey}
use Rattle.byte_list.proofs.ByteLaws.{bytes_append, bytes_drop, bytes_take}
use Rattle.key_file.specs.declared.derivation.KeyDigest.{KeyDigest}
use Rattle.key_file.specs.declared.derivation.KeyDigest.TheVariants.{Sha1, Sha256}
use Rattle.key_file.specs.Derivation.{chained, derived, hash_of, derived_iv, derived_key}
use Rattle.key_file.proofs.DigestBytes.{sha1_bytes, sha1_long, sha256_bytes, sha256_long}

-- the bytes of a digest are bytes, 20 at least
hash_bytes : (d : KeyDigest) (m : List ℕ) → AreBytes (hash_of d m)
hash_bytes Sha1 m = sha1_bytes m
hash_bytes Sha256 m = sha256_bytes m

hash_long : (d : KeyDigest) (m : List ℕ) → 20 ≤ length (hash_of d m)
hash_long Sha1 m = omega (arith, sha1_long m)
hash_long Sha256 m = omega (arith, sha256_long m)

module _ (digest : KeyDigest) (password salt : List ℕ) where
  derived_bytes : AreBytes (derived digest password salt)
  derived_bytes =
      bytes_append (chained digest password salt 1 ++ chained digest password salt 2) (chained digest password salt 3)
      (bytes_append (chained digest password salt 1) (chained digest password salt 2) (hash_bytes digest _) (hash_bytes digest _)) (hash_bytes digest _)

  derived_long : 60 ≤ length (derived digest password salt)
  derived_long = omega (
    arith,
    hash_long digest (chained digest password salt 0 ++ password ++ salt),
    hash_long digest (chained digest password salt 1 ++ password ++ salt),
    hash_long digest (chained digest password salt 2 ++ password ++ salt),
    length-append (chained digest password salt 1) (chained digest password salt 2),
    length-append (chained digest password salt 1 ++ chained digest password salt 2) (chained digest password salt 3),
  )

  pub key_is_key : IsKey (derived_key digest password salt)
  key_is_key =
      let long : length (derived_key digest password salt) ≡ 32 = length-take-le 32 (derived digest password salt) (omega (arith, derived_long)) in
      record {
        whole = omega arith;
        some = omega arith;
        bytes = bytes_take 32 (derived digest password salt) derived_bytes;
      }

  pub iv_is_block : IsCipherBlock (derived_iv digest password salt)
  iv_is_block = record {
    long = length-take-le 16 (drop 32 (derived digest password salt)) (omega (arith, derived_long, length-drop 32 (derived digest password salt)));
    bytes = bytes_take 16 (drop 32 (derived digest password salt)) (bytes_drop 32 (derived digest password salt) derived_bytes);
  }
