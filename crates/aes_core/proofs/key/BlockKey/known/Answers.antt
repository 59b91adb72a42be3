use Rattle.std.proofs.Common.{◌≡◌, length, arith}
use Rattle.aes_core.specs.Cipher.{bytes_of}
use Rattle.aes_core.proofs.Schedule.{opened_key}
use Rattle.aes_core.proofs.WordKeys.{length-bytes_of}
use Rattle.aes_core.proofs.key.BlockKey.known.Goals as goal

pub returns : goal.returns
returns c =
    let i = c.self.inside in
    let w = c.self.invariant in
    let long : length (bytes_of i.words) ≡ 240 = omega (arith, length-bytes_of i.words, w.words_long) in
    opened_key (bytes_of i.words) i.key_len c.args.self.now long w.ready c.self.view_is
