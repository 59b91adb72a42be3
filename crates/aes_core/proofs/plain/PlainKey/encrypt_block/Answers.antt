use Rattle.std.proofs.Common.{ℕ, List, ◌+◌, ◌-◌, ◌*◌, ◌/◌, ap₂, ◌∙◌, arith}
use Rattle.aes_core.specs.Cipher.{encrypted_by}
use Rattle.aes_core.proofs.Schedule.{opened}
use Rattle.aes_core.proofs.plain.PlainKey.encrypt_block.Goals as goal

pub returns : goal.returns
returns c =
    let e = opened c.self.inside.keys c.self.inside.key_len (16 * (c.self.inside.key_len / 4 + 6 + 1) - 0) c.args.self.now c.self.told c.self.invariant (omega arith) c.self.view_is in
    c.encrypt.ensures ∙ ap₂ (λ (w : List ℕ) (n : ℕ). encrypted_by w n c.args.block.now) e.0 e.1
