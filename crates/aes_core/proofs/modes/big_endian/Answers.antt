use Rattle.std.proofs.Common.{ℕ, ◌++◌, ◌/◌, ap, ◌∙◌}
use Rattle.std.specs.Int.{to_be_bytes, w32}
use Rattle.std.proofs.lemmas.Nat.{and_mask}
use Rattle.aes_core.proofs.BigEndian.{four_words, low_word, swapped}
use Rattle.aes_core.proofs.modes.big_endian.Goals as goal

pub returns : goal.returns
returns c =
    let n : ℕ = c.args.n in
    let ea = swapped _ _ c.swap_bytes-a.ensures in
    let eb = swapped _ _ c.swap_bytes-b.ensures ∙ ap (to_be_bytes w32) (and_mask (n / 18446744073709551616) 32) ∙ low_word (n / 18446744073709551616) in
    let ec = swapped _ _ c.swap_bytes-c.ensures ∙ ap (to_be_bytes w32) (and_mask (n / 4294967296) 32) ∙ low_word (n / 4294967296) in
    let ed = swapped _ _ c.swap_bytes-d.ensures ∙ ap (to_be_bytes w32) (and_mask n 32) ∙ low_word n in
    c.store.ensures ∙ (λ i. ea i ++ eb i ++ ec i ++ ed i) ∙ four_words n
