-- What an inspection of a file prints, and how it ends.
use Rattle.std.specs.Prelude.{ℕ, ◌+◌, ◌/◌, ◌%◌, ◌==◌, ◌&&◌, ◌≡◌, Bool, not, List, [], ◌++◌, length, take, drop, filter, nat_le, nat_lt, if◌then◌else◌}
use Rattle.std.specs.Prelude.{Option, Some, None, Result, Ok, Err}
use Rattle.std.specs.List.{flat_map}
use Rattle.byte_list.specs.Fields.{be32_at}
use Rattle.space_head.specs.Head.{head_flags_at}
use Rattle.space_head.specs.Sizes.{page_size}
use Rattle.space_head.specs.declared.fault.HeadFault.{HeadFault}
use Rattle.io_core.specs.Stream.{IsPartlyGiven, extended}
use Rattle.innochecksum_cli.specs.Pages.{FilePage, is_mismatch, whole_pages}
use Rattle.innochecksum_cli.specs.Lines.{checked_line, line_of_mismatch, pages_line, stopped_line, summary, truncated_line}
use Rattle.innochecksum_cli.specs.declared.options.Options.{Options}
use Rattle.innochecksum_cli.specs.declared.status.CheckStatus.{CheckStatus}
use Rattle.innochecksum_cli.specs.declared.status.CheckStatus.TheVariants.{Done, FileFault, Head, Mismatch, Missing, OutFault, OutOfMemory, Short, Truncated}

-- the text that is printed, and the status
pub record Report : Type 0 where
  pub text : List ℕ
  pub status : CheckStatus

-- the pages from the first that is asked for to the last, both included
abbrev pub selected : Options → List FilePage → List FilePage
selected options pages = drop options.first (take (options.last + 1) pages)

abbrev pub mismatches : List FilePage → List FilePage
mismatches pages = filter is_mismatch pages

-- the rest of the file is a cut page, and that page is asked for
abbrev pub is_cut : Options → ℕ → ℕ → Bool
is_cut options count rest = not (rest == 0) && (nat_le options.first count && nat_le count options.last)

-- what is printed past the mismatches, where no more than the permitted number was met
abbrev pub ending : Options → List FilePage → ℕ → ℕ → List ℕ
ending options looked count rest =
    (if options.summary then summary looked else [])
    ++ (checked_line (length looked) (length (mismatches looked))
    ++ (if is_cut options count rest then truncated_line count rest else []))

-- what is printed of the pages that were looked at
abbrev pub report_of : Options → List FilePage → ℕ → ℕ → Report
report_of options looked count rest =
    if nat_lt options.allowed (length (mismatches looked)) then record {
      text = flat_map line_of_mismatch (take (options.allowed + 1) (mismatches looked)) ++ stopped_line (options.allowed + 1) options.allowed;
      status = Mismatch;
    }
    else record {
      text = flat_map line_of_mismatch (mismatches looked) ++ ending options looked count rest;
      status = if is_cut options count rest then Truncated else Done;
    }

-- nothing is printed
abbrev pub refused : CheckStatus → Report
refused status = record { text = []; status = status }

-- the report on a file of pages of a size
unfoldable pub sized_report : Options → List ℕ → ℕ → Report
sized_report options file size =
    if nat_lt (length file) size then refused (Short (length file))
    else if options.count then record { text = pages_line (length file / size); status = Done }
    else report_of options (selected options (whole_pages size file)) (length file / size) (length file % size)

-- the report where the flags name a size, or say why they don't
abbrev pub headed_report : Options → List ℕ → Result ℕ HeadFault → Report
headed_report options file (Err fault) = refused (Head fault)
headed_report options file (Ok size) = sized_report options file size

-- the bytes of the least page
abbrev pub least_page_size : ℕ
least_page_size = 4096

-- The report on a file, or on a name that has none.
unfoldable pub inspected : Options → Option (List ℕ) → Report
inspected options None = refused Missing
inspected options (Some file) =
    if nat_lt (length file) least_page_size then refused (Short (length file))
    else headed_report options file (page_size (be32_at file head_flags_at))

-- A status, and what was given to the sink before it, agree with a report: either they are its own,
-- or a fault or want of memory came, and a front of its text was given.
abbrev pub Agrees : Report → Option (List ℕ) → Option (List ℕ) → CheckStatus → Type 0
Agrees report before now FileFault = IsPartlyGiven report.text before now
Agrees report before now OutFault = IsPartlyGiven report.text before now
Agrees report before now OutOfMemory = IsPartlyGiven report.text before now
Agrees report before now status = (status ≡ report.status) × (now ≡ extended report.text before)
