use Rattle.std.proofs.Common.{◌≡◌, ◌+◌, ◌≤◌, ℕ, List, length, ap, sym, ◌∙◌, arith}
use Rattle.aes_core.specs.Algorithm.{ciphered, deciphered}
use Rattle.byte_list.specs.Bytes.{AreBytes, put, range}
use borrow.Rule.Slice.PartMut.{put_mid}
use Rattle.byte_list.proofs.PutLaws.{put_written, range-put_same}
use Rattle.byte_list.proofs.RangeLaws.{length-range}
use Rattle.redo_text.specs.Reading.{block_body, number_of}
use Rattle.redo_text.specs.Block.{filled, log_iv}
use Rattle.redo_text.proofs.BlockFields.{body_is, filled_bytes, number_is, text_read}
use Rattle.redo_text.proofs.block.decipher_under.Goals as goal

pub returns : goal.returns
returns c =
    let o : List ℕ = c.args.bytes.now in
    let k = c.args.key.now in
    let d : List ℕ = c.decrypt.new.bytes in
    let iv : List ℕ = log_iv (number_of o) in
    let iv_is : c.log_iv.result ≡ iv = c.log_iv.ensures ∙ ap log_iv c.be64_at-number.ensures in
    let long : length d ≡ 4076 = c.decrypt.auto.bytes ∙ length-range 16 4076 o (omega (arith, c.requires.size)) in
    let fits : 16 + length d ≤ length o = omega (arith, long, c.requires.size) in
    let is : d ≡ deciphered k.algorithm k.local iv (block_body o) = c.decrypt.ensures.value ∙ (λ i. deciphered k.algorithm (c.requires.keyed i) (iv_is i) (block_body o)) in
    let written = put_written 16 4076 d o (sym long) in
    let new : List ℕ = put_mid 16 4076 o d in
    let now : range 16 4076 (put 16 d o) ≡ d = range-put_same 16 d o fits 4076 (sym long) in
    let undone : (p : List ℕ) → AreBytes p → block_body o ≡ ciphered k.algorithm k.local iv p → d ≡ p =
    λ p are e. c.decrypt.ensures.undoes p are (e ∙ (λ i. ciphered k.algorithm (sym c.requires.keyed i) (sym iv_is i) p)) in
    record {
      value = written ∙ ap (λ (l : List ℕ). put 16 l o) is;
      inverse = (λ i. ciphered k.algorithm (sym c.requires.keyed i) (sym iv_is i) ((ap block_body written ∙ now) i)) ∙ c.decrypt.ensures.inverse;
      undoes = λ p are e. ap block_body written ∙ now ∙ undone p are e;
      text = λ number first last text small are most e.
          let there : block_body o ≡ ciphered k.algorithm k.local iv (filled text) =
          body_is k number first last text o c.requires.size e ∙ ap (λ (n : ℕ). ciphered k.algorithm k.local (log_iv n) (filled text)) (sym (number_is k number first last text o c.requires.size e small)) in
          text_read text new most (ap block_body written ∙ now ∙ undone (filled text) (filled_bytes text are) there);
    }
