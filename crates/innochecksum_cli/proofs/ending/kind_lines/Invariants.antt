use Rattle.std.proofs.Common.{◌≡◌, ◌<◌, ℕ, List, length, slice_index, count_by, string_bytes}
use Rattle.innochecksum_cli.specs.Pages.{FilePage, is_of_kind}
use Rattle.innochecksum_cli.specs.Lines.{kind_lines}
use Rattle.innochecksum_cli.proofs.ending.kind_lines.Given as goal

abbrev pub invariant-loop-kind : goal.invariant-loop-kind
invariant-loop-kind l =
    (pages : List FilePage) → ((kind : ℕ) → kind < length l.kinds → slice_index l.kinds kind ≡ count_by (is_of_kind kind) pages)
    → string_bytes l.text ≡ kind_lines l.kind pages
