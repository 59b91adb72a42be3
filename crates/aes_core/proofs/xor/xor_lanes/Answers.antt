use Rattle.std.proofs.Common.{List, ℕ, take, bit_xor, sym, ap, ◌∙◌, arith}
use Rattle.std.proofs.lemmas.List.{take_all}
use lib.Lanes.{put_chunk, zip2}
use Rattle.aes_core.proofs.Loops.{lanes_xored}
use Rattle.aes_core.proofs.xor.xor_lanes.Goals as goal

pub returns : goal.returns
returns c =
    let to : List ℕ = c.args.to.now in
    ap (λ (l : List ℕ). put_chunk 0 to (zip2 bit_xor (take 16 to) l)) (sym (take_all 16 c.args.with (omega arith)))
    ∙ lanes_xored 16 to c.args.with c.requires.0 c.requires.1
