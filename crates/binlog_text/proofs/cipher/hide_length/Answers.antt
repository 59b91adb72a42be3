use Rattle.std.proofs.Common.{ℕ, List, ap, ◌∙◌, arith}
use Rattle.byte_list.specs.Bytes.{put}
use Rattle.binlog_text.proofs.CipherLaws.{hidden}
use Rattle.binlog_text.proofs.cipher.hide_length.Goals as goal

pub returns : goal.returns
returns c =
    let e : List ℕ = c.args.event.now in
    c.put.ensures ∙ ap (λ (x : List ℕ). put 9 x e) c.four_at-time.ensures ∙ hidden e (omega arith)
