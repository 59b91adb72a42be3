use Rattle.std.proofs.Common.{ℕ, ◌++◌, get_or}
use Rattle.aes_core.proofs.WordsAt.{bytes_xor}
use Rattle.aes_core.proofs.words.add_key.Goals as goal

pub returns : goal.returns
returns c =
    let w = λ (i : ℕ). get_or c.args.w i 0 in
    let k = λ (i : ℕ). get_or c.args.k.now i 0 in
    (λ i. bytes_xor (w 0) (k 0) i ++ bytes_xor (w 1) (k 1) i ++ bytes_xor (w 2) (k 2) i ++ bytes_xor (w 3) (k 3) i)
