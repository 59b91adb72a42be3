use Rattle.std.proofs.Common.{List, ℕ, ap, ◌∙◌}
use Rattle.aes_core.specs.Cipher.{inv_mix_columns, inv_sub_bytes, xored}
use Rattle.aes_core.proofs.plain.inv_round.Goals as goal

pub returns : goal.returns
returns c =
    c.inv_mix_columns.ensures
    ∙ ap inv_mix_columns (c.xor_with.ensures
    ∙ ap (λ (x : List ℕ). xored x c.args.key.now) (c.inv_sub_bytes.ensures ∙ ap inv_sub_bytes c.inv_shift_rows.ensures))
