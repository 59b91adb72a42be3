use Rattle.std.proofs.Common.{ℕ, ◌<◌, ◌/◌, ◌^◌, get_or, bit_and, arith}
use Rattle.std.specs.Int.{byte_at, to_le_bytes, w32}
use Rattle.aes_core.specs.Field.{sub_byte}
use Rattle.aes_core.specs.Cipher.{circulant_times, xored}
use Rattle.aes_core.proofs.WordsAt.{ROUND_0, ROUND_1, ROUND_2, ROUND_3, column_is, in_turn}
use Rattle.aes_core.proofs.words.round.Goals as goal

pub returns : goal.returns
returns c =
    let w = λ (i : ℕ). get_or c.args.w i 0 in
    let k = λ (i : ℕ). get_or c.args.k.now i 0 in
    let ha : w 0 < 2 ^ 32 = omega arith in
    let hb : w 1 < 2 ^ 32 = omega arith in
    let hc : w 2 < 2 ^ 32 = omega arith in
    let hd : w 3 < 2 ^ 32 = omega arith in
    in_turn
    (λ a. get_or ROUND_0 (bit_and a 255) 0) (λ b. get_or ROUND_1 (bit_and (b / 256) 255) 0)
    (λ c. get_or ROUND_2 (bit_and (c / 65536) 255) 0) (λ d. get_or ROUND_3 (d / 16777216) 0)
    (λ a b c d key. xored (circulant_times 2 3 1 1 (sub_byte (byte_at 0 a)) (sub_byte (byte_at 1 b)) (sub_byte (byte_at 2 c)) (sub_byte (byte_at 3 d))) (to_le_bytes w32 key))
    column_is (w 0) (w 1) (w 2) (w 3) (k 0) (k 1) (k 2) (k 3) ha hb hc hd
