use Rattle.std.proofs.Common.{◌≡◌, List, ℕ, ◌++◌, [], ap, ◌∙◌, take, drop}
use Rattle.std.specs.Int.{to_be_bytes, w32}
use Rattle.bytes_core.specs.Crc.{crc32c}
use Rattle.byte_list.specs.Bytes.{put, zeros}
use Rattle.doublewrite.specs.Text.{page_number_of}
use Rattle.page_places.specs.Texts.{slot_words, slot_front}
use Rattle.doublewrite.proofs.SlotParts.{slot_built, front_read}
use Rattle.doublewrite.proofs.slot.fill_slot.Goals as goal

pub returns : goal.returns
returns c =
    let space = c.args.space in
    let page = page_number_of c.args.text.now in
    let batch = c.args.batch in
    let text = c.args.text.now in
    let x = c.args.slot.now in
    let head : c.clear_part.new.bytes ≡ put 24 (zeros 484) (put 0 (slot_words space page batch) x) =
    c.clear_part.ensures ∙ ap (put 24 (zeros 484)) (c.put.ensures ∙ ap (λ (l : List ℕ). put 0 l x) (c.words.ensures ∙ ap (λ (p : ℕ). slot_words space p batch) c.be32_at.ensures)) in
    let front : c.part.result.now ≡ slot_front space page batch = c.part.ensures ∙ ap (λ (l : List ℕ). take 508 (drop 0 l)) head ∙ front_read space page batch x in
    let sum : c.finish.result ≡ crc32c (slot_front space page batch ++ text) =
    c.finish.ensures (c.part.result.now ++ text) (c.update-2.ensures c.part.result.now (c.update.ensures [] c.new-sum.ensures)) ∙ ap (λ (l : List ℕ). crc32c (l ++ text)) front in
    let bytes : c.to_be_bytes.result ≡ to_be_bytes w32 (crc32c (slot_front space page batch ++ text)) = c.to_be_bytes.ensures ∙ ap (to_be_bytes w32) sum in
    c.put-3.ensures
    ∙ ap (put 512 text) (c.put-2.ensures ∙ ap (λ (l : List ℕ). put 508 l c.clear_part.new.bytes) bytes ∙ ap (put 508 (to_be_bytes w32 (crc32c (slot_front space page batch ++ text)))) head)
    ∙ slot_built space page batch x text c.requires.size c.requires.text
