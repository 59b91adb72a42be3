use Rattle.std.proofs.Common.{rules, ◌≡◌, ℕ, List, sym, ◌∙◌}
use Rattle.std.specs.Prelude.{Err, IsErrAnd}
use Rattle.redo_text.specs.declared.fault.BlockFault.TheVariants.{BadBlock}
use Rattle.redo_text.specs.Reading.{computed_block_sum, reading, stored_block_sum}
use Rattle.redo_text.proofs.BlockTaken.{handed, reading_bad, reading_sum, taken, torn}
use Rattle.redo_text.proofs.view.read_block.Goals as goal

pub returns-in_err-check_block-clause-taken : goal.returns-in_err-check_block-clause-taken
returns-in_err-check_block-clause-taken c = λ key first last text is some version least most whole.
    taken key c.args.number first last text c.args.bytes.now c.requires is c.ranges.number.fits some version least most whole

pub returns-clause-taken : goal.returns-clause-taken
returns-clause-taken c = λ key first last text is some version least most whole.
    taken key c.args.number first last text c.args.bytes.now c.requires is c.ranges.number.fits some version least most whole

pub returns-in_err-check_block-clause-inverted : goal.returns-in_err-check_block-clause-inverted
returns-in_err-check_block-clause-inverted c = λ whole bytes ok is.
    let o : List ℕ = c.args.bytes.now in
    let bad : reading c.args.number o ≡ Err (BadBlock (stored_block_sum o) (computed_block_sum o)) = reading_bad c.args.number o (torn whole o c.requires c.known_bytes.ensures bytes is (reading_sum c.args.number whole ok)) in
    let is_err : IsErrAnd c.from_residual.result (λ e. e ≡ c.in_err-check_block.field-0.0) = search rules in
    handed c.from_residual.result c.in_err-check_block.field-0.0 (BadBlock (stored_block_sum o) (computed_block_sum o)) is_err (c.in_err-check_block.ensures ∙ bad)

pub returns-clause-inverted : goal.returns-clause-inverted
returns-clause-inverted c = λ whole bytes ok is.
    let o : List ℕ = c.args.bytes.now in
    torn whole o c.requires c.known_bytes.ensures bytes is (reading_sum c.args.number whole ok) (reading_sum c.args.number o (sym (c.in_ok-check_block.ensures)))
