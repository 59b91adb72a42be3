use Rattle.std.proofs.Common.{◌≡◌, List, ℕ, ap, ◌∙◌, take, drop}
use Rattle.std.specs.Int.{to_be_bytes, w32}
use Rattle.bytes_core.specs.Crc.{crc32c}
use Rattle.byte_list.specs.Bytes.{put, zeros}
use Rattle.redo_log.specs.Check.{check_words}
use Rattle.redo_log.proofs.CheckParts.{check_built, check_front, check_read}
use Rattle.redo_log.proofs.check_block.fill_check.Goals as goal

pub returns : goal.returns
returns c =
    let sequence = c.args.sequence in
    let from = c.args.from in
    let x = c.args.block.now in
    let head : c.clear_part.new.bytes ≡ put 24 (zeros 4068) (put 0 (check_words sequence from) x) =
    c.clear_part.ensures ∙ ap (put 24 (zeros 4068)) (c.write_part.ensures ∙ ap (λ (l : List ℕ). put 0 l x) c.words.ensures) in
    let front : c.part.result.now ≡ check_front sequence from = c.part.ensures ∙ ap (λ (l : List ℕ). take 4092 (drop 0 l)) head ∙ check_read sequence from x in
    let bytes : c.to_be_bytes.result ≡ to_be_bytes w32 (crc32c (check_front sequence from)) = c.to_be_bytes.ensures ∙ ap (to_be_bytes w32) (c.crc32c-sum.ensures ∙ ap crc32c front) in
    c.write_part-2.ensures ∙ ap (λ (l : List ℕ). put 4092 l c.clear_part.new.bytes) bytes ∙ ap (put 4092 (to_be_bytes w32 (crc32c (check_front sequence from)))) head
    ∙ check_built sequence from x c.requires.size
