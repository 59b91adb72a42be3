use Rattle.std.proofs.Common.{ℕ, ◌++◌, ◌/◌, ap, ◌∙◌}
use Rattle.std.specs.Int.{to_le_bytes, w32}
use Rattle.std.proofs.lemmas.Nat.{and_mask}
use Rattle.aes_core.proofs.BigEndian.{le_four_words, le_low_word}
use Rattle.aes_core.proofs.words.split.Goals as goal

pub returns : goal.returns
returns c =
    let n : ℕ = c.args.n in
    let ea = ap (to_le_bytes w32) (and_mask n 32) ∙ le_low_word n in
    let eb = ap (to_le_bytes w32) (and_mask (n / 4294967296) 32) ∙ le_low_word (n / 4294967296) in
    let ec = ap (to_le_bytes w32) (and_mask (n / 18446744073709551616) 32) ∙ le_low_word (n / 18446744073709551616) in
    (λ i. ea i ++ eb i ++ ec i ++ to_le_bytes w32 (n / 79228162514264337593543950336)) ∙ le_four_words n
