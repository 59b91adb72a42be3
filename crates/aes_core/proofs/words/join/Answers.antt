use Rattle.std.proofs.Common.{◌≡◌, ℕ, ◌+◌, ◌*◌, ◌%◌, ◌<◌, bit_or, get_or, refl, ap, ◌∙◌, arith}
use Rattle.std.proofs.lemmas.Grind.{or_before_shift}
use Rattle.aes_core.proofs.BigEndian.{le_joined, words_sum}
use Rattle.aes_core.proofs.words.join.Goals as goal

summed : (a b c d : ℕ) → a < 4294967296 → b < 4294967296 → c < 4294967296 → d < 4294967296
    → bit_or (bit_or (bit_or a (b * 4294967296 % 340282366920938463463374607431768211456)) (c * 18446744073709551616 % 340282366920938463463374607431768211456)) (d * 79228162514264337593543950336 % 340282366920938463463374607431768211456)
    ≡ words_sum a b c d
summed a b c d ha hb hc hd =
    let two = or_before_shift a b 4294967296 340282366920938463463374607431768211456 refl ha (omega arith) in
    let three = or_before_shift (b * 4294967296 + a) c 18446744073709551616 340282366920938463463374607431768211456 refl (omega arith) (omega arith) in
    let four = or_before_shift (c * 18446744073709551616 + (b * 4294967296 + a)) d 79228162514264337593543950336 340282366920938463463374607431768211456 refl (omega arith) (omega arith) in
    ap (λ (x : ℕ). bit_or (bit_or x (c * 18446744073709551616 % 340282366920938463463374607431768211456)) (d * 79228162514264337593543950336 % 340282366920938463463374607431768211456)) two
    ∙ ap (λ (x : ℕ). bit_or x (d * 79228162514264337593543950336 % 340282366920938463463374607431768211456)) three
    ∙ four ∙ omega arith

pub returns : goal.returns
returns c =
    let a : ℕ = get_or c.args.w 0 0 in
    let b : ℕ = get_or c.args.w 1 0 in
    let d : ℕ = get_or c.args.w 2 0 in
    let e : ℕ = get_or c.args.w 3 0 in
    let ha : a < 4294967296 = omega arith in
    let hb : b < 4294967296 = omega arith in
    let hd : d < 4294967296 = omega arith in
    let he : e < 4294967296 = omega arith in
    le_joined a b d e _ ha hb hd he (summed a b d e ha hb hd he)
