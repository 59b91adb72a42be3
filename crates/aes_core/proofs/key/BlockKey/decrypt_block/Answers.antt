use Rattle.std.proofs.Common.{◌≡◌, ℕ, List, ◌+◌, ◌-◌, ◌*◌, ◌/◌, length, ap, ap₂, ◌∙◌, arith}
use Rattle.aes_core.specs.Cipher.{IsCipherBlock, IsKey, bytes_of, decrypted, decrypted_by, encrypted, round_count, schedule}
use Rattle.aes_core.proofs.Inverse.{decrypted-encrypted, encrypted-decrypted}
use Rattle.aes_core.proofs.Schedule.{keys_of, opened_key}
use Rattle.aes_core.proofs.WordKeys.{length-bytes_of, opened_back, opened_words}
use Rattle.aes_core.proofs.key.BlockKey.decrypt_block.Goals as goal

pub decrypt-requires-clause-unmixed : goal.decrypt-requires-clause-unmixed
decrypt-requires-clause-unmixed c =
    let i = c.self.inside in
    opened_back i.words i.back i.key_len (4 * (i.key_len / 4 + 6 + 1) - 0) c.self.invariant (omega arith)

pub returns : goal.returns
returns c =
    let i = c.self.inside in
    let w = c.self.invariant in
    let key : List ℕ = c.args.self.now in
    let e = opened_words i.words i.back i.key_len (4 * (i.key_len / 4 + 6 + 1) - 0) key w (omega arith) c.self.view_is in
    let value : c.decrypt.new.s ≡ decrypted key c.args.block.now =
    c.decrypt.ensures ∙ ap₂ (λ (v : List ℕ) (n : ℕ). decrypted_by v n c.args.block.now) e.0 e.1 in
    let long : length (bytes_of i.words) ≡ 240 = omega (arith, length-bytes_of i.words, w.words_long) in
    let k : IsKey key = opened_key (bytes_of i.words) i.key_len key long w.ready c.self.view_is in
    let block : IsCipherBlock c.args.block.now = record { long = c.told-block; bytes = c.fits-block } in
    record {
      value = value;
      inverse = ap (encrypted key) value ∙ encrypted-decrypted (schedule key) c.args.block.now (round_count key) (omega arith) (keys_of key k) block;
      undoes = λ s h was. value ∙ ap (decrypted key) was ∙ decrypted-encrypted (schedule key) s (round_count key) (omega arith) (keys_of key k) h;
    }
