-- The text of a page.
use Rattle.std.specs.Prelude.{◌≡◌, ℕ, ◌^◌, ◌<◌, true, List, [], length, slice_index_or}
use Rattle.byte_list.specs.Fields.{be32_at}
use Rattle.page_places.specs.Texts.{ends_in_sum, page_bytes, page_number_at}

-- the page's number, in clear
abbrev pub page_number_of : List ℕ → ℕ
page_number_of text = be32_at text page_number_at

-- the bytes of a page whose last four are the CRC-32C of those before them
pub record IsPageText (text : List ℕ) : Type 0 where
  pub long : length text ≡ page_bytes
  pub sums : ends_in_sum text ≡ true
  pub number : page_number_of text < 2 ^ 32

abbrev pub ArePageTexts : List (List ℕ) → Type 0
ArePageTexts texts = (i : ℕ) → i < length texts → IsPageText (slice_index_or texts i [])
