use Rattle.std.proofs.Common.{Bool, Some, None, length, if◌then◌else◌, sym, ap, ◌∙◌}
use Rattle.page_pool.specs.Pages.{plain_page}
use Rattle.session_core.specs.Reading.{part_of_page}
use Rattle.session_core.proofs.ReadLaws.{part_unused, part_used}
use Rattle.session_core.proofs.reading.copy_part.Goals as goal

pub returns-then-is_used : goal.returns-then-is_used
returns-then-is_used c =
    let n = length c.args.into.now in
    c.copy_range.ensures ∙ part_used c.args.bytes.now c.args.at n c.requires.range
    ∙ ap (λ (b : Bool). part_of_page c.args.at n (if b then Some (plain_page c.args.bytes.now) else None)) (sym c.if-is_used.true)

pub returns : goal.returns
returns c =
    let n = length c.args.into.now in
    c.fill_zeros.ensures ∙ part_unused c.args.at n c.requires.range
    ∙ ap (λ (b : Bool). part_of_page c.args.at n (if b then Some (plain_page c.args.bytes.now) else None)) (sym c.if-is_used.false)
