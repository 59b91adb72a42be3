-- What is known once pages were looked at.
use Rattle.std.specs.Prelude.{◌≡◌, ◌≤◌, ℕ, List, length, Option}
use Rattle.std.specs.List.{flat_map}
use Rattle.io_core.specs.Stream.{extended}
use Rattle.innochecksum_cli.specs.Pages.{FilePage}
use Rattle.innochecksum_cli.specs.Lines.{line_of_mismatch}
use Rattle.innochecksum_cli.specs.Tallies.{IsTally}
use Rattle.innochecksum_cli.specs.Inspection.{mismatches}
use Rattle.innochecksum_cli.specs.declared.looks.PageScan.{PageScan}

-- All these pages were looked at, with no more mismatches than the permitted number, and exactly the
-- lines of these were printed.
pub record IsPageScan (pages : List FilePage) (count rest allowed : ℕ) (before now : Option (List ℕ)) (looked : PageScan) : Type 0 where
  pub tally : IsTally pages looked.tally
  pub whole : looked.whole ≡ count
  pub rest_is : looked.rest ≡ rest
  pub few : length (mismatches pages) ≤ allowed
  pub given : now ≡ extended (flat_map line_of_mismatch (mismatches pages)) before
