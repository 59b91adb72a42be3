use Rattle.std.proofs.Common.{List, ℕ, ap, ◌∙◌}
use Rattle.aes_core.specs.Cipher.{mix_columns, shift_rows, xored}
use Rattle.aes_core.proofs.plain.round.Goals as goal

pub returns : goal.returns
returns c =
    c.xor_with.ensures
    ∙ ap (λ (x : List ℕ). xored x c.args.key.now) (c.mix_columns.ensures ∙ ap mix_columns (c.shift_rows.ensures ∙ ap shift_rows c.sub_bytes.ensures))
