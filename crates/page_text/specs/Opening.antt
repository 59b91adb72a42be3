-- What is looked at before a page text is taken, in order, and what is left of the page.
use Rattle.std.specs.Prelude.{◌≡◌, ℕ, ◌-◌, ◌%◌, ◌^◌, ◌==◌, ◌&&◌, ◌||◌, Bool, not, List, length, if◌then◌else◌}
use Rattle.std.specs.Prelude.{Option, Some, None, Result, Ok, Err}
use Rattle.aes_core.specs.Algorithm.{deciphered}
use Rattle.byte_list.specs.Bytes.{AreBytes}
use Rattle.byte_list.specs.Fields.{be16_at, be32_at, be64_at}
use Rattle.byte_list.specs.Bytes.{put}
use Rattle.page_text.specs.Parts.{cipher_part, page_cipher_at, page_lsn_at, page_next_at, page_number_at, page_previous_at, page_space_at, page_trailer_size, page_type_at, page_version_at}
use Rattle.page_text.specs.State.{computed_sum, stored_sum}
use Rattle.page_text.specs.Text.{enciphered, page_key, page_iv}
use Rattle.page_text.specs.declared.fault.OpenFault.{OpenFault}
use Rattle.page_text.specs.declared.fault.OpenFault.TheVariants.{Checksum, WrongEnd, WrongFill, WrongKind, WrongPage, WrongSpace}
use Rattle.page_text.specs.declared.key.PageKey.{PageKey}

-- whether a page of this type and key version may stand at a page number
unfoldable pub fits_page : ℕ → ℕ → ℕ → Bool
fits_page page kind version = if page == 0 then (kind == 8) && (version == 0) else not ((kind == 8) || (kind == 9))

-- of the page as it stands: its checksum, its page number, and its type and key version
unfoldable pub clear_check : List ℕ → ℕ → Result (Unit {0}) OpenFault
clear_check page number =
    if not (stored_sum page == computed_sum page) then Err (Checksum (stored_sum page) (computed_sum page))
    else if not (be32_at page page_number_at == number) then Err (WrongPage number (be32_at page page_number_at))
    else if not (fits_page number (be16_at page page_type_at) (be32_at page page_version_at)) then Err (WrongKind (be16_at page page_type_at) (be32_at page page_version_at))
    else Ok tt

-- of the deciphered page: its space, its end, and prev, next and flush LSN
unfoldable pub inner_check : List ℕ → ℕ → Result (Unit {0}) OpenFault
inner_check page space =
    if not (be32_at page page_space_at == space) then Err (WrongSpace space (be32_at page page_space_at))
    else if not (be32_at page (length page - page_trailer_size) == be64_at page page_lsn_at % 2 ^ 32) then Err (WrongEnd (be64_at page page_lsn_at % 2 ^ 32) (be32_at page (length page - page_trailer_size)))
    else if not (be32_at page page_previous_at == 0xFFFFFFFF) then Err (WrongFill page_previous_at (be32_at page page_previous_at))
    else if not (be32_at page page_next_at == 0xFFFFFFFF) then Err (WrongFill page_next_at (be32_at page page_next_at))
    else if not (be64_at page page_cipher_at == 0) then Err (WrongFill page_cipher_at (be64_at page page_cipher_at))
    else Ok tt

-- bytes that were under a key, or as they are without one
abbrev pub unciphered : Option PageKey → List ℕ → List ℕ → List ℕ
unciphered None iv bytes = bytes
unciphered (Some key) iv bytes = deciphered key.algorithm key.local iv bytes

-- the page with its part up to the checksum deciphered, where its version isn't 0, and all else as it was
abbrev pub in_clear : ℕ → ℕ → Option PageKey → List ℕ → List ℕ
in_clear space number key page =
    put page_cipher_at (unciphered (page_key (be32_at page page_version_at) key) (page_iv space number (be64_at page page_lsn_at)) (cipher_part page)) page

-- the first fault of two checks
abbrev pub and_then : Result (Unit {0}) OpenFault → Result (Unit {0}) OpenFault → Result (Unit {0}) OpenFault
and_then (Err fault) next = Err fault
and_then (Ok u) next = next

-- the first fault of a page, or none
abbrev pub opening : ℕ → ℕ → Option PageKey → List ℕ → Result (Unit {0}) OpenFault
opening space number key page = and_then (clear_check page number) (inner_check (in_clear space number key page) space)

-- what is left: the page as it was after the faults that are found before deciphering, else the page in clear
abbrev pub left_after : Result (Unit {0}) OpenFault → List ℕ → List ℕ → List ℕ
left_after (Err (Checksum stored computed)) page clear = page
left_after (Err (WrongPage wanted found)) page clear = page
left_after (Err (WrongKind found version)) page clear = page
left_after (Err (WrongSpace wanted found)) page clear = clear
left_after (Err (WrongEnd wanted found)) page clear = clear
left_after (Err (WrongFill at found)) page clear = clear
left_after (Ok u) page clear = clear

-- deciphering these bytes gives what enciphers to them, and what was enciphered to them
pub record Undoes (key : Option PageKey) (iv bytes : List ℕ) : Type 0 where
  pub long : length (unciphered key iv bytes) ≡ length bytes
  pub inverse : enciphered key iv (unciphered key iv bytes) ≡ bytes
  pub undoes : (x : List ℕ) → AreBytes x → bytes ≡ enciphered key iv x → unciphered key iv bytes ≡ x
