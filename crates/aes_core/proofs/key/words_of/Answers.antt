use Rattle.std.proofs.Common.{◌≡◌, ◌*◌, sym, ap, ◌∙◌, arith}
use Rattle.std.proofs.lemmas.List.{length-set, take_all}
use Rattle.aes_core.specs.Cipher.{AreBytes, bytes_of}
use Rattle.aes_core.proofs.WordKeys.{word_more}
use Rattle.aes_core.proofs.key.words_of.Goals as goal

pub loop-i-preserved : goal.loop-i-preserved
loop-i-preserved c =
    let bytes : AreBytes c.args.keys.now = λ i. omega (arith, c.type_inv.keys i) in (
      length-set c.loop-i.out c.loop-i.i c.from_le_bytes-word.result ∙ c.loop-i.invariant.0,
      word_more c.args.keys.now c.loop-i.out c.loop-i.i c.from_le_bytes-word.result bytes (omega arith) (omega arith) c.loop-i.invariant.1 c.from_le_bytes-word.ensures,
    )

pub returns : goal.returns
returns c =
    let e : c.loop-i.i ≡ 60 = omega arith in
    ap bytes_of (sym (take_all c.loop-i.i c.loop-i.out (omega arith))) ∙ c.loop-i.invariant.1 ∙ take_all (4 * c.loop-i.i) c.args.keys.now (omega arith)
