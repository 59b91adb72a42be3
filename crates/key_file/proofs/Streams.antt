-- The parts of digests that stand one after the other.
use Rattle.std.proofs.Common.{◌≡◌, ℕ, ◌+◌, ◌-◌, ◌≤◌, List, [], ◌++◌, length, take, drop, sym, ap, ◌∙◌, arith}
use Rattle.std.proofs.lemmas.List.{append_assoc, take-append-drop, take-append-le, drop-append-le, take_all, take_at, drop_at, length-append, length-take-le, length-drop}
use Rattle.sha1.specs.Sha1.{sha1}
use Rattle.sha2.specs.Sha256.{sha256}
use Rattle.key_file.specs.declared.derivation.KeyDigest.TheVariants.{Sha1, Sha256}
use Rattle.key_file.specs.Derivation.{derived, derived_iv, derived_key}

-- ---- three lists: a part of the second goes to the first, the rest to the third

halves : (a b : List ℕ) (k : ℕ) → a ++ b ≡ (a ++ take k b) ++ drop k b
halves a b k = ap (λ (x : List ℕ). a ++ x) (sym (take-append-drop k b)) ∙ sym (append_assoc a (take k b) (drop k b))

front_part : (a b c : List ℕ) (n k : ℕ) → length (a ++ take k b) ≡ n → n ≤ length (a ++ b) → take n (a ++ b ++ c) ≡ a ++ take k b
front_part a b c n k e h = take-append-le n (a ++ b) c h ∙ ap (take n) (halves a b k) ∙ take_at (a ++ take k b) (drop k b) n e

next_part : (a b c : List ℕ) (n k m j : ℕ) → length (a ++ take k b) ≡ n → n ≤ length (a ++ b) → length (drop k b ++ take j c) ≡ m
    → take m (drop n (a ++ b ++ c)) ≡ drop k b ++ take j c
next_part a b c n k m j e h f =
    ap (take m) (drop-append-le n (a ++ b) c h ∙ ap (λ (x : List ℕ). x ++ c) (ap (drop n) (halves a b k) ∙ drop_at (a ++ take k b) (drop k b) n e) ∙ halves (drop k b) c j)
    ∙ take_at (drop k b ++ take j c) (drop j c) m f

length-front : (a b : List ℕ) (k : ℕ) → k ≤ length b → length (a ++ take k b) ≡ length a + k
length-front a b k h = length-append a (take k b) ∙ ap (λ (x : ℕ). length a + x) (length-take-le k b h)

length-next : (b c : List ℕ) (k j : ℕ) → k ≤ length b → j ≤ length c → length (drop k b ++ take j c) ≡ (length b - k) + j
length-next b c k j h l = length-front (drop k b) c j l ∙ ap (λ (x : ℕ). x + j) (length-drop k b)

-- digests of 20 bytes: the key, and the IV
take-20-20 : (a b c : List ℕ) → length a ≡ 20 → length b ≡ 20 → take 32 (a ++ b ++ c) ≡ a ++ take 12 b
take-20-20 a b c la lb =
    let twelve : 12 ≤ length b = omega arith in
    front_part a b c 32 12 (length-front a b 12 twelve ∙ ap (λ (x : ℕ). x + 12) la) (omega (arith, length-append a b))

drop-20-20 : (a b c : List ℕ) → length a ≡ 20 → length b ≡ 20 → length c ≡ 20 → take 16 (drop 32 (a ++ b ++ c)) ≡ drop 12 b ++ take 8 c
drop-20-20 a b c la lb lc =
    let twelve : 12 ≤ length b = omega arith in
    let eight : 8 ≤ length c = omega arith in
    next_part a b c 32 12 16 8 (length-front a b 12 twelve ∙ ap (λ (x : ℕ). x + 12) la) (omega (arith, length-append a b))
    (length-next b c 12 8 twelve eight ∙ ap (λ (x : ℕ). (x - 12) + 8) lb)

-- digests of 32 bytes
take-32 : (a b c : List ℕ) → length a ≡ 32 → take 32 (a ++ b ++ c) ≡ a
take-32 a b c la = ap (take 32) (append_assoc a b c) ∙ take_at a (b ++ c) 32 la

drop-32 : (a b c : List ℕ) → length a ≡ 32 → length b ≡ 32 → take 16 (drop 32 (a ++ b ++ c)) ≡ take 16 b
drop-32 a b c la lb = ap (λ (x : List ℕ). take 16 (drop 32 x)) (append_assoc a b c) ∙ ap (take 16) (drop_at a (b ++ c) 32 la) ∙ take-append-le 16 b c (omega arith)

-- the digests that the code computes in turn are those of the definition
chained_sha1 : (p s a b c : List ℕ) → a ≡ sha1 ([] ++ p ++ s) → b ≡ sha1 (a ++ p ++ s) → c ≡ sha1 (b ++ p ++ s) → a ++ b ++ c ≡ derived Sha1 p s
chained_sha1 p s a b c e f g = cc

chained_sha256 : (p s a b : List ℕ) → a ≡ sha256 ([] ++ p ++ s) → b ≡ sha256 (a ++ p ++ s) → a ++ b ++ sha256 (b ++ p ++ s) ≡ derived Sha256 p s
chained_sha256 p s a b e f = cc

pub sha1_key : (p s a b c : List ℕ) → a ≡ sha1 ([] ++ p ++ s) → b ≡ sha1 (a ++ p ++ s) → c ≡ sha1 (b ++ p ++ s)
    → length a ≡ 20 → length b ≡ 20 → length c ≡ 20 → a ++ take 12 b ≡ derived_key Sha1 p s
sha1_key p s a b c e f g la lb lc = sym (take-20-20 a b c la lb) ∙ ap (take 32) (chained_sha1 p s a b c e f g)

pub sha1_iv : (p s a b c : List ℕ) → a ≡ sha1 ([] ++ p ++ s) → b ≡ sha1 (a ++ p ++ s) → c ≡ sha1 (b ++ p ++ s)
    → length a ≡ 20 → length b ≡ 20 → length c ≡ 20 → take 8 (drop 12 b) ++ take 8 c ≡ derived_iv Sha1 p s
sha1_iv p s a b c e f g la lb lc =
    ap (λ (x : List ℕ). x ++ take 8 c) (take_all 8 (drop 12 b) (omega (arith, length-drop 12 b)))
    ∙ sym (drop-20-20 a b c la lb lc) ∙ ap (λ (x : List ℕ). take 16 (drop 32 x)) (chained_sha1 p s a b c e f g)

pub sha256_key : (p s a b : List ℕ) → a ≡ sha256 ([] ++ p ++ s) → b ≡ sha256 (a ++ p ++ s)
    → length a ≡ 32 → length b ≡ 32 → a ≡ derived_key Sha256 p s
sha256_key p s a b e f la lb = sym (take-32 a b (sha256 (b ++ p ++ s)) la) ∙ ap (take 32) (chained_sha256 p s a b e f)

pub sha256_iv : (p s a b : List ℕ) → a ≡ sha256 ([] ++ p ++ s) → b ≡ sha256 (a ++ p ++ s)
    → length a ≡ 32 → length b ≡ 32 → take 16 b ≡ derived_iv Sha256 p s
sha256_iv p s a b e f la lb = sym (drop-32 a b (sha256 (b ++ p ++ s)) la lb) ∙ ap (λ (x : List ℕ). take 16 (drop 32 x)) (chained_sha256 p s a b e f)
