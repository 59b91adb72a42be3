use Rattle.std.proofs.Common.{◌≡◌, ℕ, List, length, ap, sym, ◌∙◌, arith}
use Rattle.aes_core.specs.Algorithm.{ciphered}
use Rattle.byte_list.specs.Bytes.{put}
use Rattle.byte_list.proofs.PutLaws.{put_written}
use Rattle.byte_list.proofs.RangeLaws.{length-range}
use Rattle.redo_text.specs.Reading.{block_body}
use Rattle.redo_text.specs.Block.{log_iv}
use Rattle.redo_text.proofs.block.encipher_body.Goals as goal

pub returns : goal.returns
returns c =
    let o : List ℕ = c.args.block.now in
    let long : length c.encrypt.new.bytes ≡ 4076 = c.encrypt.auto.bytes ∙ length-range 16 4076 o (omega (arith, c.requires.size)) in
    let is : c.encrypt.new.bytes ≡ ciphered c.args.key.now.algorithm c.args.key.now.local (log_iv c.args.number) (block_body o) =
    c.encrypt.ensures ∙ (λ i. ciphered c.args.key.now.algorithm (c.requires.keyed i) (c.log_iv.ensures i) (block_body o)) in
    record {
      value = put_written 16 4076 c.encrypt.new.bytes o (sym long) ∙ ap (λ (l : List ℕ). put 16 l o) is;
      long = ap length (sym is) ∙ long;
    }
