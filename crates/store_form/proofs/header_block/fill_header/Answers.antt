use Rattle.std.proofs.Common.{rules, ◌≡◌, ◌∙◌, ℕ, ◌-◌, ◌*◌, ◌≤◌, List, ◌++◌, length, map, take, sym, ap, arith, length-take}
use Rattle.std.specs.Int.{to_be_bytes, w32}
use Rattle.byte_list.specs.Bytes.{put, zeros}
use Rattle.store_files.specs.Header.{algorithm_code, header_words, space_words}
use Rattle.store_form.specs.HeaderParts.{first_words}
use Rattle.store_form.specs.Said.{header_said, space_said}
use Rattle.store_form.proofs.HeaderWrites.{words_put, salt_put, header_words-long, map_long, code_put, sum_put}
use Rattle.store_form.proofs.header_block.fill_header.Goals as goal

pub returns : goal.returns
returns c =
    let h = header_said c.args.header.now in
    let salt_long : length c.args.header.now.salt ≡ 16 = search rules in
    let spaces = take c.args.header.now.count c.args.header.now.spaces in
    let mapped : length (map space_said spaces) ≡ length spaces = map_long spaces in
    let most : length spaces ≤ c.args.header.now.count = omega (arith, length-take c.args.header.now.count c.args.header.now.spaces) in
    let count : length h.spaces ≤ 16 = omega (arith, mapped, most, c.requires.count) in
    let words : c.first_words.result ≡ first_words h.blocks (length h.spaces) = c.first_words.ensures ∙ ap (λ (n : ℕ). first_words c.args.header.now.blocks n) (sym mapped) in
    let one : c.put.new.bytes ≡ first_words h.blocks (length h.spaces) ++ zeros 4072 = c.put.ensures ∙ ap (λ (l : List ℕ). put 0 l c.clear.new.page) words ∙ words_put h.blocks (length h.spaces) c.clear.new.page (c.clear.ensures ∙ ap zeros c.requires.long) in
    let two : c.put-2.new.bytes ≡ header_words h ++ zeros 4056 = c.put-2.ensures ∙ salt_put h c.put.new.bytes salt_long one in
    let three : c.fill_spaces.new.block ≡ (header_words h ++ space_words h.spaces) ++ zeros (4056 - 12 * length h.spaces) = c.fill_spaces.ensures.words (header_words h) (header_words-long h salt_long) two ∙ ap (λ (n : ℕ). (header_words h ++ space_words h.spaces) ++ zeros (4056 - 12 * n)) (sym mapped) in
    let code : c.put_be32.new.bytes ≡ put 240 (to_be_bytes w32 (algorithm_code h.algorithm)) c.fill_spaces.new.block = c.put_be32.ensures ∙ ap (λ (n : ℕ). put 240 (to_be_bytes w32 n) c.fill_spaces.new.block) c.code_of.ensures in
    c.fill_sum.ensures ∙ sum_put h salt_long count c.put_be32.new.bytes (code ∙ code_put h salt_long count c.fill_spaces.new.block three)
