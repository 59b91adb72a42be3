-- The numbers in two, four and eight bytes of a list from a place on: `be` has the highest byte first, `le` the lowest.
use Rattle.std.specs.Prelude.{ℕ, List}
use Rattle.std.specs.Int.{from_be_bytes, from_le_bytes, w16, w32, w64}
use Rattle.byte_list.specs.Bytes.{range}

unfoldable pub be16_at : List ℕ → ℕ → ℕ
be16_at bytes at = from_be_bytes w16 (range at 2 bytes)

unfoldable pub be32_at : List ℕ → ℕ → ℕ
be32_at bytes at = from_be_bytes w32 (range at 4 bytes)

unfoldable pub be64_at : List ℕ → ℕ → ℕ
be64_at bytes at = from_be_bytes w64 (range at 8 bytes)

unfoldable pub le16_at : List ℕ → ℕ → ℕ
le16_at bytes at = from_le_bytes w16 (range at 2 bytes)

unfoldable pub le32_at : List ℕ → ℕ → ℕ
le32_at bytes at = from_le_bytes w32 (range at 4 bytes)

unfoldable pub le64_at : List ℕ → ℕ → ℕ
le64_at bytes at = from_le_bytes w64 (range at 8 bytes)
