use Rattle.std.proofs.Common.{◌≡◌, ◌<◌, true, false, ltb, length, count_by, slice_index, sym, ◌∙◌, ap, arith, rules, string_bytes}
use Rattle.std.proofs.lemmas.Bool.{le-ltb, lt-ltb}
use Rattle.std.proofs.lemmas.List.{append-nil}
use Rattle.innochecksum_cli.specs.Pages.{is_of_kind}
use Rattle.innochecksum_cli.specs.Lines.{kind_lines}
use Rattle.innochecksum_cli.proofs.KindLines.{kind_lines_more, kind_lines_none}
use Rattle.innochecksum_cli.proofs.ending.kind_lines.Goals as goal
use Rattle.innochecksum_cli.proofs.ending.kind_lines.Goals.{then-count-gt0+in_ok-line+in_ok-push_str, else-count-gt0}

pub loop-kind-init : goal.loop-kind-init
loop-kind-init c = λ pages counts. c.new-text.ensures.bytes ∙ sym (kind_lines_none pages)

pub loop-kind-preserved : goal.loop-kind-preserved
loop-kind-preserved c = λ pages counts.
    let i = c.loop-kind.kind in
    let below : i < length c.args.kinds.now = omega arith in
    let count : slice_index c.args.kinds.now i ≡ count_by (is_of_kind i) pages = counts i below in
    let before = c.loop-kind.invariant pages counts in
    elim c.if-count-gt0.branch [
      | then-count-gt0+in_ok-line+in_ok-push_str w ↦
          let yes : ltb 0 (count_by (is_of_kind i) pages) ≡ true = lt-ltb 0 (count_by (is_of_kind i) pages) (omega (arith, count, w.if-count-gt0.true)) in
          rw (kind_lines_more pages i, yes, ← count, ← before) (search rules)
      | else-count-gt0 w ↦
          let no : ltb 0 (count_by (is_of_kind i) pages) ≡ false = le-ltb 0 (count_by (is_of_kind i) pages) (omega (arith, count, w.if-count-gt0.false)) in
          ap string_bytes w.text-is ∙ before ∙ sym (rw (kind_lines_more pages i, no) (append-nil (kind_lines i pages)))
    ]
