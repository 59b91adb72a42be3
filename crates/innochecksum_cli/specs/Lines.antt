-- The lines that are printed. Each ends with a line feed, 10.
use Rattle.std.specs.Prelude.{ℕ, ◌^◌, ◌-◌, ◌==◌, false, List, [], ◌++◌, codes, filter, count_by, if◌then◌else◌}
use Rattle.std.specs.List.{flat_map, list_any, range_with_len}
use Rattle.std.specs.Fmt.{decimal, digits, format_spec, padded_integral}
use Rattle.page_text.specs.State.{computed_sum, stored_sum}
use Rattle.innochecksum_cli.specs.Pages.{FilePage, is_ciphered_page, is_mismatch, is_of_kind, is_zero}

-- a checksum in eight hex digits of lower case
abbrev pub hex_sum : ℕ → List ℕ
hex_sum sum = padded_integral (format_spec 32 0 4 8 (2 ^ 64 - 1)) false [] (digits 16 false sum)

abbrev pub pages_line : ℕ → List ℕ
pages_line count = codes "pages " ++ (decimal count ++ codes "\n")

abbrev pub mismatch_line : ℕ → ℕ → ℕ → List ℕ
mismatch_line number stored computed =
    codes "page " ++ (decimal number ++ (codes " stored " ++ (hex_sum stored ++ (codes " computed " ++ (hex_sum computed ++ codes "\n")))))

abbrev pub line_of_mismatch : FilePage → List ℕ
line_of_mismatch page = mismatch_line page.number (stored_sum page.bytes) (computed_sum page.bytes)

abbrev pub stopped_line : ℕ → ℕ → List ℕ
stopped_line mismatches allowed =
    codes "stopped mismatches " ++ (decimal mismatches ++ (codes " allowed " ++ (decimal allowed ++ codes "\n")))

abbrev pub checked_line : ℕ → ℕ → List ℕ
checked_line checked mismatches =
    codes "checked " ++ (decimal checked ++ (codes " mismatches " ++ (decimal mismatches ++ codes "\n")))

abbrev pub truncated_line : ℕ → ℕ → List ℕ
truncated_line number bytes =
    codes "truncated page " ++ (decimal number ++ (codes " bytes " ++ (decimal bytes ++ codes "\n")))

-- a page's own line, where it is a mismatch
abbrev pub line_of_page : FilePage → List ℕ
line_of_page page = if is_mismatch page then line_of_mismatch page else []

-- the names of the page types, which are this project's own
unfoldable pub kind_name : ℕ → List ℕ
kind_name kind =
    if kind == 0 then codes "allocated"
    else if kind == 2 then codes "undo_log"
    else if kind == 3 then codes "inode"
    else if kind == 4 then codes "ibuf_free_list"
    else if kind == 5 then codes "ibuf_bitmap"
    else if kind == 6 then codes "sys"
    else if kind == 7 then codes "trx_sys"
    else if kind == 8 then codes "fsp_hdr"
    else if kind == 9 then codes "xdes"
    else if kind == 10 then codes "blob"
    else if kind == 17854 then codes "rtree"
    else if kind == 17855 then codes "index"
    else codes "other"

abbrev pub kind_line : ℕ → ℕ → List ℕ
kind_line kind count =
    codes "type " ++ (decimal kind ++ (codes " " ++ (kind_name kind ++ (codes " " ++ (decimal count ++ codes "\n")))))

abbrev pub unused_line : ℕ → List ℕ
unused_line count = codes "unused " ++ (decimal count ++ codes "\n")

abbrev pub ciphered_line : ℕ → List ℕ
ciphered_line count = codes "ciphered " ++ (decimal count ++ codes "\n")

-- a line for each of the types below a bound that some page has, ascending
unfoldable pub kind_lines : ℕ → List FilePage → List ℕ
kind_lines bound pages =
    flat_map (λ kind. kind_line kind (count_by (is_of_kind kind) pages))
    (filter (λ kind. list_any (is_of_kind kind) pages) (range_with_len 0 bound))

-- what pages are: the types of those that aren't zero, those that are, and those that are ciphered
abbrev pub summary : List FilePage → List ℕ
summary pages =
    kind_lines (2 ^ 16) pages ++ (unused_line (count_by is_zero pages) ++ ciphered_line (count_by is_ciphered_page pages))
