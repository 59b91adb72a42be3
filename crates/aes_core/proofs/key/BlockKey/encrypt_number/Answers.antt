use Rattle.std.proofs.Common.{ℕ, List, ◌+◌, ◌-◌, ◌*◌, ◌/◌, ap₂, ◌∙◌, arith}
use Rattle.std.specs.Int.{to_le_bytes, w128}
use Rattle.aes_core.specs.Cipher.{encrypted_by}
use Rattle.aes_core.proofs.WordKeys.{opened_words}
use Rattle.aes_core.proofs.key.BlockKey.encrypt_number.Goals as goal

pub returns : goal.returns
returns c =
    let i = c.self.inside in
    let e = opened_words i.words i.back i.key_len (4 * (i.key_len / 4 + 6 + 1) - 0) c.args.self.now c.self.invariant (omega arith) c.self.view_is in
    c.encrypt_number.ensures ∙ ap₂ (λ (w : List ℕ) (n : ℕ). encrypted_by w n (to_le_bytes w128 c.args.n)) e.0 e.1
