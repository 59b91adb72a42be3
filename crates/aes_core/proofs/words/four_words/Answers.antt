use Rattle.std.proofs.Common.{ℕ, List, ◌++◌, ◌<◌, get_or, sym, ◌∙◌, arith}
use Rattle.aes_core.proofs.Inverse.{sixteen_of}
use Rattle.aes_core.proofs.WordsAt.{bytes_from}
use Rattle.aes_core.proofs.words.four_words.Goals as goal

pub returns : goal.returns
returns c =
    let s : List ℕ = c.args.s.now in
    let b : (i : ℕ) → get_or s i 0 < 256 = λ i. omega (arith, c.type_inv.s i) in
    let x = λ (i : ℕ). get_or s i 0 in
    let e0 = bytes_from (x 0) (x 1) (x 2) (x 3) c.from_le_bytes.result (b 0) (b 1) (b 2) (b 3) c.from_le_bytes.ensures in
    let e1 = bytes_from (x 4) (x 5) (x 6) (x 7) c.from_le_bytes-2.result (b 4) (b 5) (b 6) (b 7) c.from_le_bytes-2.ensures in
    let e2 = bytes_from (x 8) (x 9) (x 10) (x 11) c.from_le_bytes-3.result (b 8) (b 9) (b 10) (b 11) c.from_le_bytes-3.ensures in
    let e3 = bytes_from (x 12) (x 13) (x 14) (x 15) c.from_le_bytes-4.result (b 12) (b 13) (b 14) (b 15) c.from_le_bytes-4.ensures in
    (λ i. e0 i ++ e1 i ++ e2 i ++ e3 i) ∙ sym (sixteen_of s c.requires)
