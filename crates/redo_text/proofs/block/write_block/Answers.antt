use Rattle.std.proofs.Common.{◌≡◌, ℕ, List, ◌++◌, length, ap, sym, ◌∙◌, arith}
use Rattle.std.specs.Int.{to_be_bytes, w32}
use Rattle.aes_core.specs.Algorithm.{ciphered}
use Rattle.bytes_core.specs.Crc.{crc32c}
use Rattle.byte_list.specs.Bytes.{put, range, zeros}
use Rattle.byte_list.proofs.RangeLaws.{length-zeros}
use Rattle.redo_text.specs.Reading.{block_body}
use Rattle.redo_text.specs.Block.{filled, flags, head, log_iv}
use Rattle.redo_text.proofs.BlockWrites.{body_put, body_read, front_read, head_put, length-filled, length-head, sum_put, text_put}
use Rattle.redo_text.proofs.block.write_block.Goals as goal

pub put-requires : goal.put-requires
put-requires c = omega (arith, ap length c.requires.clear ∙ length-zeros 4096, ap length c.head-head.ensures ∙ length-head c.args.number c.args.key.now.version (length c.args.text.now) c.flags.result)

pub put-requires-2 : goal.put-requires-2
put-requires-2 c = omega (arith, ap length c.requires.clear ∙ length-zeros 4096, c.put.auto.bytes, c.requires.most)

pub encipher_body-requires-clause-size : goal.encipher_body-requires-clause-size
encipher_body-requires-clause-size c = c.put-2.auto.bytes ∙ c.put.auto.bytes ∙ ap length c.requires.clear ∙ length-zeros 4096

pub write_sum-requires : goal.write_sum-requires
write_sum-requires c = c.encipher_body.auto.block ∙ c.put-2.auto.bytes ∙ c.put.auto.bytes ∙ ap length c.requires.clear ∙ length-zeros 4096

pub returns : goal.returns
returns c =
    let t : List ℕ = c.args.text.now in
    let k = c.args.key.now in
    let h : List ℕ = head c.args.number k.version (length t) (flags c.args.first c.args.last) in
    let h_is : c.head-head.result ≡ h = c.head-head.ensures ∙ ap (head c.args.number k.version (length t)) c.flags.ensures in
    let hl : length h ≡ 16 = length-head _ _ _ _ in
    let f : List ℕ = filled t in
    let fl : length f ≡ 4076 = length-filled t c.requires.most in
    let z : List ℕ = zeros 4 in
    let e1 = c.put.ensures ∙ ap (λ (l : List ℕ). put 0 l c.args.block.now) h_is ∙ head_put h t hl c.requires.most c.args.block.now c.requires.clear in
    let e2 : c.put-2.new.bytes ≡ h ++ (f ++ z) = c.put-2.ensures ∙ ap (put 16 t) e1 ∙ text_put h t hl c.requires.most in
    let read : block_body c.put-2.new.bytes ≡ f = ap block_body e2 ∙ body_read h f hl fl z in
    let b : List ℕ = ciphered k.algorithm k.local (log_iv c.args.number) f in
    let made : ciphered k.algorithm k.local (log_iv c.args.number) (block_body c.put-2.new.bytes) ≡ b = ap (ciphered k.algorithm k.local (log_iv c.args.number)) read in
    let bl : length b ≡ 4076 = ap length (sym made) ∙ c.encipher_body.ensures.long in
    let e3 : c.encipher_body.new.block ≡ h ++ (b ++ z) = c.encipher_body.ensures.value ∙ (λ i. put 16 (made i) (e2 i)) ∙ body_put h f hl fl z b bl in
    let front : range 0 4092 c.encipher_body.new.block ≡ h ++ b = ap (range 0 4092) e3 ∙ front_read h b hl bl z in
    c.write_sum.ensures ∙ (λ i. put 4092 (to_be_bytes w32 (crc32c (front i))) (e3 i)) ∙ sum_put h b hl bl z (to_be_bytes w32 (crc32c (h ++ b))) (length-zeros 4)
