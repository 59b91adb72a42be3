use Rattle.std.proofs.Common.{ap, ◌∙◌}
use Rattle.aes_core.specs.Cipher.{encrypted}
use Rattle.aes_core.proofs.modes.stream_block.Goals as goal

pub returns : goal.returns
returns c = c.encrypt_block.ensures ∙ ap (encrypted c.args.key.now) c.big_endian-block.ensures
