use Rattle.std.proofs.Common.{ℕ, List, ◌∙◌, arith}
use Rattle.aes_core.specs.Modes.{cbc_tail}
use Rattle.binlog_text.specs.Cipher.{enciphered_event, with_length}
use Rattle.binlog_text.proofs.CipherLaws.{behind}
use Rattle.binlog_text.proofs.cipher.encipher_event.Goals as goal

pub returns : goal.returns
unfolding enciphered_event
returns c =
    let e : List ℕ = c.args.event.now in
    c.show_length.ensures
    ∙ (λ i. with_length ((c.encipher_rest.ensures ∙ (λ j. cbc_tail c.args.key.now (c.event_iv-iv.ensures j) (behind e c.hide_length.new.event (omega arith) c.hide_length.ensures j))) i) (c.four_at-bytes.ensures i))
