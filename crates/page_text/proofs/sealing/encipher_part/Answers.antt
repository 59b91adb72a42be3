use Rattle.std.proofs.Common.{◌≡◌, ℕ, ◌-◌, List, length, sym, ap, ◌∙◌, arith}
use Rattle.byte_list.specs.Bytes.{put}
use Rattle.byte_list.proofs.PutLaws.{put_written}
use Rattle.byte_list.proofs.RangeLaws.{length-range}
use Rattle.page_text.proofs.sealing.encipher_part.Goals as goal

pub returns-clause-value : goal.returns-clause-value
returns-clause-value c =
    let o : List ℕ = c.args.page.now in
    let d : List ℕ = c.encipher.new.bytes in
    let long : length d ≡ length o - 4 - 26 = c.encipher.auto.bytes ∙ length-range 26 (length o - 4 - 26) o (omega arith) in
    put_written 26 (length o - 4 - 26) d o (sym long) ∙ ap (λ (x : List ℕ). put 26 x o) c.encipher.ensures
