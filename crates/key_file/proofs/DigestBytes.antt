-- A digest of SHA-1 is 20 bytes, and one of SHA-256 is 32.
use Rattle.std.proofs.Common.{◌≡◌, ℕ, zero, suc, ◌*◌, List, [], ◌++◌, length, slice_index, refl, ap, subst, sym, ◌∙◌, arith, length-append, ◌∷◌}
use Rattle.std.specs.Int.{byte_at, to_be_bytes, w32}
use Rattle.sha1.specs.Sha1.{digest_bytes as sha1_words, sha1}
use Rattle.sha2.specs.Sha256.{digest_bytes as sha256_words, sha256}
use Rattle.aes_core.specs.Cipher.{AreBytes}
use Rattle.aes_core.proofs.Inverse.{byte_at-lt}
use Rattle.byte_list.proofs.ByteLaws.{bytes_append, bytes_made, bytes_nil}

-- n words, one behind the other, are four bytes each
record IsWords (digest : ℕ → List ℕ) (h : List ℕ) : Type 0 where
  none : digest 0 ≡ []
  more : (n : ℕ) → digest (suc n) ≡ digest n ++ to_be_bytes w32 (slice_index h n)

long : (digest : ℕ → List ℕ) (h : List ℕ) → IsWords digest h → (n : ℕ) → length (digest n) ≡ n * 4
long digest h is zero = ap length is.none
long digest h is (suc n) =
    let before = long digest h is n in
    let last : length (to_be_bytes w32 (slice_index h n)) ≡ 4 = refl in
    ap length (is.more n) ∙ omega (arith, before, last, length-append (digest n) (to_be_bytes w32 (slice_index h n)))

bytes : (digest : ℕ → List ℕ) (h : List ℕ) → IsWords digest h → (n : ℕ) → AreBytes (digest n)
bytes digest h is zero = subst AreBytes (sym is.none) bytes_nil
bytes digest h is (suc n) =
    subst AreBytes (sym (is.more n))
    (bytes_append (digest n) (to_be_bytes w32 (slice_index h n)) (bytes digest h is n)
    (bytes_made (λ k. byte_at k (slice_index h n)) (λ k. byte_at-lt k (slice_index h n)) (3 ∷ 2 ∷ 1 ∷ 0 ∷ [])))

sha1_is : (h : List ℕ) → IsWords (sha1_words h) h
unfolding sha1_words
sha1_is h = record { none = refl; more = λ n. refl }

sha256_is : (h : List ℕ) → IsWords (sha256_words h) h
unfolding sha256_words
sha256_is h = record { none = refl; more = λ n. refl }

pub sha1_long : (m : List ℕ) → length (sha1 m) ≡ 20
unfolding sha1
sha1_long m = long _ _ (sha1_is _) 5

pub sha1_bytes : (m : List ℕ) → AreBytes (sha1 m)
unfolding sha1
sha1_bytes m = bytes _ _ (sha1_is _) 5

pub sha256_long : (m : List ℕ) → length (sha256 m) ≡ 32
unfolding sha256
sha256_long m = long _ _ (sha256_is _) 8

pub sha256_bytes : (m : List ℕ) → AreBytes (sha256 m)
unfolding sha256
sha256_bytes m = bytes _ _ (sha256_is _) 8
