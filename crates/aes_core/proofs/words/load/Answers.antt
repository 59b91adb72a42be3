use Rattle.std.proofs.Common.{ℕ, List, ◌++◌, ◌<◌, get_or, sym, ap, ◌∙◌, arith}
use Rattle.aes_core.specs.Cipher.{state_of, xored}
use Rattle.aes_core.proofs.Inverse.{sixteen_of}
use Rattle.aes_core.proofs.WordsAt.{loaded}
use Rattle.aes_core.proofs.words.load.Goals as goal

pub returns : goal.returns
returns c =
    let s : List ℕ = c.args.s.now in
    let b : (i : ℕ) → get_or s i 0 < 256 = λ i. omega (arith, c.type_inv.s i) in
    let k = λ (i : ℕ). get_or c.args.k.now i 0 in
    let x = λ (i : ℕ). get_or s i 0 in
    let e0 = loaded (x 0) (x 1) (x 2) (x 3) c.from_le_bytes.result (k 0) (b 0) (b 1) (b 2) (b 3) c.from_le_bytes.ensures in
    let e1 = loaded (x 4) (x 5) (x 6) (x 7) c.from_le_bytes-2.result (k 1) (b 4) (b 5) (b 6) (b 7) c.from_le_bytes-2.ensures in
    let e2 = loaded (x 8) (x 9) (x 10) (x 11) c.from_le_bytes-3.result (k 2) (b 8) (b 9) (b 10) (b 11) c.from_le_bytes-3.ensures in
    let e3 = loaded (x 12) (x 13) (x 14) (x 15) c.from_le_bytes-4.result (k 3) (b 12) (b 13) (b 14) (b 15) c.from_le_bytes-4.ensures in
    (λ i. e0 i ++ e1 i ++ e2 i ++ e3 i)
    ∙ ap (λ (l : List ℕ). xored l (state_of c.args.k.now)) (sym (sixteen_of s c.requires.whole))
