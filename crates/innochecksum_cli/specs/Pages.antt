-- The pages of a tablespace file, and what each of them is.
use Rattle.std.specs.Prelude.{ℕ, ◌*◌, ◌/◌, ◌==◌, ◌&&◌, Bool, not, List, length, take, drop, map}
use Rattle.std.specs.List.{list_all, range_with_len}
use Rattle.byte_list.specs.Fields.{be16_at, be32_at}
use Rattle.page_text.specs.Parts.{page_type_at}
use Rattle.page_text.specs.State.{computed_sum, stored_sum}

-- a whole page of a file: its number, from 0, and its bytes
pub record FilePage : Type 0 where
  pub number : ℕ
  pub bytes : List ℕ

abbrev pub nth_page : ℕ → List ℕ → ℕ → FilePage
nth_page size file number = record { number = number; bytes = take size (drop (number * size) file) }

-- the whole pages of a file, in order
unfoldable pub whole_pages : ℕ → List ℕ → List FilePage
whole_pages size file = map (nth_page size file) (range_with_len 0 (length file / size))

-- all bytes are zero, as of a page that is unused
unfoldable pub is_zero : FilePage → Bool
is_zero page = list_all (λ byte. byte == 0) page.bytes

-- the checksum that is stored isn't the one that the bytes have
unfoldable pub is_mismatch : FilePage → Bool
is_mismatch page = not (is_zero page) && not (stored_sum page.bytes == computed_sum page.bytes)

-- the type of a page that isn't zero
unfoldable pub is_of_kind : ℕ → FilePage → Bool
is_of_kind kind page = not (is_zero page) && (be16_at page.bytes page_type_at == kind)

-- a page that isn't zero has a key version other than 0
unfoldable pub is_ciphered_page : FilePage → Bool
is_ciphered_page page = not (is_zero page) && not (be32_at page.bytes 0 == 0)
