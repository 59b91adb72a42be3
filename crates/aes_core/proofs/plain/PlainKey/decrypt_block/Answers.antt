use Rattle.aes_core.specs.Cipher.{IsKey}
use Rattle.std.proofs.Common.{◌≡◌, ℕ, List, ◌+◌, ◌-◌, ◌*◌, ◌/◌, ap, ap₂, ◌∙◌, arith}
use Rattle.aes_core.specs.Cipher.{IsCipherBlock, decrypted, decrypted_by, encrypted, round_count, schedule}
use Rattle.aes_core.proofs.Inverse.{decrypted-encrypted, encrypted-decrypted}
use Rattle.aes_core.proofs.Schedule.{keys_of, opened, opened_key}
use Rattle.aes_core.proofs.plain.PlainKey.decrypt_block.Goals as goal

pub returns : goal.returns
returns c =
    let key : List ℕ = c.args.self.now in
    let e = opened c.self.inside.keys c.self.inside.key_len (16 * (c.self.inside.key_len / 4 + 6 + 1) - 0) key c.self.told c.self.invariant (omega arith) c.self.view_is in
    let value : c.decrypt.new.s ≡ decrypted key c.args.block.now =
    c.decrypt.ensures ∙ ap₂ (λ (w : List ℕ) (n : ℕ). decrypted_by w n c.args.block.now) e.0 e.1 in
    let k : IsKey key = opened_key c.self.inside.keys c.self.inside.key_len key c.self.told c.self.invariant c.self.view_is in
    let block : IsCipherBlock c.args.block.now = record { long = c.told-block; bytes = c.fits-block } in
    record {
      value = value;
      inverse = ap (encrypted key) value ∙ encrypted-decrypted (schedule key) c.args.block.now (round_count key) (omega arith) (keys_of key k) block;
      undoes = λ s h was. value ∙ ap (decrypted key) was ∙ decrypted-encrypted (schedule key) s (round_count key) (omega arith) (keys_of key k) h;
    }
