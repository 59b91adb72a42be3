-- The parts of a page, which has one of five sizes.
use Rattle.std.specs.Prelude.{ℕ, ◌-◌, List, length}
pub use Rattle.byte_list.specs.Bytes.{part_of, with_part}
pub use Rattle.space_head.specs.Sizes.{IsPageSize, page_header_size}

-- where the fields of its header stand, in bytes: the key version, the page's number, those of the previous and the next page, the LSN, the type, the first ciphered byte with the LSN of a flush, and the space's id
abbrev pub page_version_at : ℕ
page_version_at = 0

abbrev pub page_number_at : ℕ
page_number_at = 4

abbrev pub page_previous_at : ℕ
page_previous_at = 8

abbrev pub page_next_at : ℕ
page_next_at = 12

abbrev pub page_lsn_at : ℕ
page_lsn_at = 16

abbrev pub page_type_at : ℕ
page_type_at = 24

abbrev pub page_cipher_at : ℕ
page_cipher_at = 26

abbrev pub page_space_at : ℕ
page_space_at = 34

-- the bytes of its trailer, of the checksum at the end of that, and of header and trailer
abbrev pub page_trailer_size : ℕ
page_trailer_size = 8

abbrev pub page_sum_size : ℕ
page_sum_size = 4

abbrev pub page_frame_size : ℕ
page_frame_size = 46

abbrev pub header : List ℕ → List ℕ
header page = part_of page 0 page_header_size

abbrev pub body : List ℕ → List ℕ
body page = part_of page page_header_size (length page - page_trailer_size)

abbrev pub trailer : List ℕ → List ℕ
trailer page = part_of page (length page - page_trailer_size) (length page)

-- what is ciphered: all between the type and the checksum
abbrev pub cipher_part : List ℕ → List ℕ
cipher_part page = part_of page page_cipher_at (length page - page_sum_size)
