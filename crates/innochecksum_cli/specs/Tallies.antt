-- What pages add up to.
use Rattle.std.specs.Prelude.{◌≡◌, ◌<◌, ◌^◌, ℕ, List, length, count_by, slice_index}
use Rattle.innochecksum_cli.specs.Pages.{FilePage, is_ciphered_page, is_mismatch, is_of_kind, is_zero}
use Rattle.innochecksum_cli.specs.declared.tally.Tally.{Tally}

-- the counts are those of these pages
pub record IsTally (pages : List FilePage) (tally : Tally) : Type 0 where
  pub checked : tally.checked ≡ length pages
  pub mismatches : tally.mismatches ≡ count_by is_mismatch pages
  pub unused : tally.unused ≡ count_by is_zero pages
  pub ciphered : tally.ciphered ≡ count_by is_ciphered_page pages
  pub kinds : (kind : ℕ) → kind < 2 ^ 16 → slice_index tally.kinds.items kind ≡ count_by (is_of_kind kind) pages
