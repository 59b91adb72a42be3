-- Numbers in a list of bytes, read from what was written and written from what was read.
use Rattle.std.proofs.Common.{◌≡◌, ℕ, ◌+◌, ◌^◌, ◌<◌, ◌≤◌, List, length, refl, ap, ◌∙◌}
use Rattle.std.specs.Int.{from_be_bytes, from_le_bytes, to_be_bytes, to_le_bytes, w16, w32, w64}
use Rattle.std.proofs.lemmas.Nat.{be_bytes_2, be_bytes_4, be_bytes_8, le_bytes_2, le_bytes_4, le_bytes_8}
use Rattle.std.proofs.lemmas.Nat.{from_be_bytes-to_be_bytes_2, from_be_bytes-to_be_bytes_4, from_be_bytes-to_be_bytes_8, from_le_bytes-to_le_bytes_2, from_le_bytes-to_le_bytes_4, from_le_bytes-to_le_bytes_8}
use Rattle.byte_list.specs.Bytes.{AreBytes, put, range}
use Rattle.byte_list.specs.Fields.{be16_at, be32_at, be64_at, le16_at, le32_at, le64_at}
use Rattle.byte_list.proofs.ByteLaws.{bytes_range}
use Rattle.byte_list.proofs.RangeLaws.{length-range}
use Rattle.byte_list.proofs.PutLaws.{range-put_same}

-- ---- the bytes of a field, by the number in it

pub be16_bytes : (xs : List ℕ) (at : ℕ) → AreBytes xs → at + 2 ≤ length xs → to_be_bytes w16 (be16_at xs at) ≡ range at 2 xs
unfolding be16_at
be16_bytes xs at h room = be_bytes_2 (range at 2 xs) (be16_at xs at) (length-range at 2 xs room) (bytes_range at 2 xs h) refl

pub be32_bytes : (xs : List ℕ) (at : ℕ) → AreBytes xs → at + 4 ≤ length xs → to_be_bytes w32 (be32_at xs at) ≡ range at 4 xs
unfolding be32_at
be32_bytes xs at h room = be_bytes_4 (range at 4 xs) (be32_at xs at) (length-range at 4 xs room) (bytes_range at 4 xs h) refl

pub be64_bytes : (xs : List ℕ) (at : ℕ) → AreBytes xs → at + 8 ≤ length xs → to_be_bytes w64 (be64_at xs at) ≡ range at 8 xs
unfolding be64_at
be64_bytes xs at h room = be_bytes_8 (range at 8 xs) (be64_at xs at) (length-range at 8 xs room) (bytes_range at 8 xs h) refl

pub le16_bytes : (xs : List ℕ) (at : ℕ) → AreBytes xs → at + 2 ≤ length xs → to_le_bytes w16 (le16_at xs at) ≡ range at 2 xs
unfolding le16_at
le16_bytes xs at h room = le_bytes_2 (range at 2 xs) (le16_at xs at) (length-range at 2 xs room) (bytes_range at 2 xs h) refl

pub le32_bytes : (xs : List ℕ) (at : ℕ) → AreBytes xs → at + 4 ≤ length xs → to_le_bytes w32 (le32_at xs at) ≡ range at 4 xs
unfolding le32_at
le32_bytes xs at h room = le_bytes_4 (range at 4 xs) (le32_at xs at) (length-range at 4 xs room) (bytes_range at 4 xs h) refl

pub le64_bytes : (xs : List ℕ) (at : ℕ) → AreBytes xs → at + 8 ≤ length xs → to_le_bytes w64 (le64_at xs at) ≡ range at 8 xs
unfolding le64_at
le64_bytes xs at h room = le_bytes_8 (range at 8 xs) (le64_at xs at) (length-range at 8 xs room) (bytes_range at 8 xs h) refl

-- ---- bytes that a number gave read as the number

pub be16_at-written : (xs : List ℕ) (at n : ℕ) → range at 2 xs ≡ to_be_bytes w16 n → n < 2 ^ 16 → be16_at xs at ≡ n
unfolding be16_at
be16_at-written xs at n e h = ap (from_be_bytes w16) e ∙ from_be_bytes-to_be_bytes_2 n h

pub be32_at-written : (xs : List ℕ) (at n : ℕ) → range at 4 xs ≡ to_be_bytes w32 n → n < 2 ^ 32 → be32_at xs at ≡ n
unfolding be32_at
be32_at-written xs at n e h = ap (from_be_bytes w32) e ∙ from_be_bytes-to_be_bytes_4 n h

pub be64_at-written : (xs : List ℕ) (at n : ℕ) → range at 8 xs ≡ to_be_bytes w64 n → n < 2 ^ 64 → be64_at xs at ≡ n
unfolding be64_at
be64_at-written xs at n e h = ap (from_be_bytes w64) e ∙ from_be_bytes-to_be_bytes_8 n h

pub le16_at-written : (xs : List ℕ) (at n : ℕ) → range at 2 xs ≡ to_le_bytes w16 n → n < 2 ^ 16 → le16_at xs at ≡ n
unfolding le16_at
le16_at-written xs at n e h = ap (from_le_bytes w16) e ∙ from_le_bytes-to_le_bytes_2 n h

pub le32_at-written : (xs : List ℕ) (at n : ℕ) → range at 4 xs ≡ to_le_bytes w32 n → n < 2 ^ 32 → le32_at xs at ≡ n
unfolding le32_at
le32_at-written xs at n e h = ap (from_le_bytes w32) e ∙ from_le_bytes-to_le_bytes_4 n h

pub le64_at-written : (xs : List ℕ) (at n : ℕ) → range at 8 xs ≡ to_le_bytes w64 n → n < 2 ^ 64 → le64_at xs at ≡ n
unfolding le64_at
le64_at-written xs at n e h = ap (from_le_bytes w64) e ∙ from_le_bytes-to_le_bytes_8 n h

-- ---- and so do those that were put

pub be16_at-put : (xs : List ℕ) (at n : ℕ) → at + 2 ≤ length xs → n < 2 ^ 16 → be16_at (put at (to_be_bytes w16 n) xs) at ≡ n
be16_at-put xs at n room h = be16_at-written _ at n (range-put_same at (to_be_bytes w16 n) xs room 2 refl) h

pub be32_at-put : (xs : List ℕ) (at n : ℕ) → at + 4 ≤ length xs → n < 2 ^ 32 → be32_at (put at (to_be_bytes w32 n) xs) at ≡ n
be32_at-put xs at n room h = be32_at-written _ at n (range-put_same at (to_be_bytes w32 n) xs room 4 refl) h

pub be64_at-put : (xs : List ℕ) (at n : ℕ) → at + 8 ≤ length xs → n < 2 ^ 64 → be64_at (put at (to_be_bytes w64 n) xs) at ≡ n
be64_at-put xs at n room h = be64_at-written _ at n (range-put_same at (to_be_bytes w64 n) xs room 8 refl) h

pub le16_at-put : (xs : List ℕ) (at n : ℕ) → at + 2 ≤ length xs → n < 2 ^ 16 → le16_at (put at (to_le_bytes w16 n) xs) at ≡ n
le16_at-put xs at n room h = le16_at-written _ at n (range-put_same at (to_le_bytes w16 n) xs room 2 refl) h

pub le32_at-put : (xs : List ℕ) (at n : ℕ) → at + 4 ≤ length xs → n < 2 ^ 32 → le32_at (put at (to_le_bytes w32 n) xs) at ≡ n
le32_at-put xs at n room h = le32_at-written _ at n (range-put_same at (to_le_bytes w32 n) xs room 4 refl) h

pub le64_at-put : (xs : List ℕ) (at n : ℕ) → at + 8 ≤ length xs → n < 2 ^ 64 → le64_at (put at (to_le_bytes w64 n) xs) at ≡ n
le64_at-put xs at n room h = le64_at-written _ at n (range-put_same at (to_le_bytes w64 n) xs room 8 refl) h

-- ---- fields over the same bytes

pub be16_at-same : (xs ys : List ℕ) (a b : ℕ) → range a 2 xs ≡ range b 2 ys → be16_at xs a ≡ be16_at ys b
unfolding be16_at
be16_at-same xs ys a b e = ap (from_be_bytes w16) e

pub be32_at-same : (xs ys : List ℕ) (a b : ℕ) → range a 4 xs ≡ range b 4 ys → be32_at xs a ≡ be32_at ys b
unfolding be32_at
be32_at-same xs ys a b e = ap (from_be_bytes w32) e

pub be64_at-same : (xs ys : List ℕ) (a b : ℕ) → range a 8 xs ≡ range b 8 ys → be64_at xs a ≡ be64_at ys b
unfolding be64_at
be64_at-same xs ys a b e = ap (from_be_bytes w64) e

pub le16_at-same : (xs ys : List ℕ) (a b : ℕ) → range a 2 xs ≡ range b 2 ys → le16_at xs a ≡ le16_at ys b
unfolding le16_at
le16_at-same xs ys a b e = ap (from_le_bytes w16) e

pub le32_at-same : (xs ys : List ℕ) (a b : ℕ) → range a 4 xs ≡ range b 4 ys → le32_at xs a ≡ le32_at ys b
unfolding le32_at
le32_at-same xs ys a b e = ap (from_le_bytes w32) e

pub le64_at-same : (xs ys : List ℕ) (a b : ℕ) → range a 8 xs ≡ range b 8 ys → le64_at xs a ≡ le64_at ys b
unfolding le64_at
le64_at-same xs ys a b e = ap (from_le_bytes w64) e
