use Rattle.std.proofs.Common.{◌≡◌, ◌++◌, ℕ, List, [], length, cond, sym, ap₂, ◌∙◌, append_assoc}
use Rattle.std.proofs.lemmas.List.Sums.{length-filter}
use Rattle.innochecksum_cli.specs.Pages.{is_mismatch}
use Rattle.innochecksum_cli.specs.Lines.{checked_line, summary, truncated_line}
use Rattle.innochecksum_cli.specs.Inspection.{is_cut, mismatches}
use Rattle.innochecksum_cli.proofs.ending.ending.Goals as goal

pub returns : goal.returns
returns c = λ pages tally.
    let checked : c.as_str.result.now ≡ checked_line (length pages) (length (mismatches pages)) =
    c.as_str.ensures.value ∙ c.in_ok-checked.ensures ∙ ap₂ checked_line tally.checked (tally.mismatches ∙ sym (length-filter is_mismatch pages)) in
    let cut = c.as_str-2.ensures.value ∙ c.in_ok-cut.ensures in
    let front = c.in_ok-push_str.ensures.bytes ∙ ap₂ (λ (a b : List ℕ). a ++ b) (c.in_ok-text.ensures pages tally) checked in
    c.in_ok-push_str-2.ensures.bytes ∙ ap₂ (λ (a b : List ℕ). a ++ b) front cut
    ∙ append_assoc (cond c.args.options.now.summary (summary pages) []) (checked_line (length pages) (length (mismatches pages)))
    (cond (is_cut c.args.options.now c.args.looked.now.whole c.args.looked.now.rest) (truncated_line c.args.looked.now.whole c.args.looked.now.rest) [])
