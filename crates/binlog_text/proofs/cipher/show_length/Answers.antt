use Rattle.std.proofs.Common.{◌≡◌, ℕ, List, length, ap, ◌∙◌, arith}
use Rattle.byte_list.specs.Bytes.{put}
use Rattle.binlog_text.proofs.CipherLaws.{shown_step}
use Rattle.binlog_text.proofs.cipher.show_length.Goals as goal

pub returns : goal.returns
returns c =
    let e : List ℕ = c.args.event.now in
    let four : length c.args.bytes.now ≡ 4 = omega arith in
    c.put-2.ensures ∙ ap (put 9 c.args.bytes.now) (c.put.ensures ∙ ap (λ (x : List ℕ). put 0 x e) c.four_at-moved.ensures) ∙ shown_step e c.args.bytes.now (omega arith) four
