use Rattle.std.proofs.Common.{◌≡◌, ℕ, ◌+◌, ◌-◌, List, length, replicate, refl, arith}
use Rattle.std.proofs.lemmas.List.{length-replicate}
use Rattle.byte_list.specs.Bytes.{zeros}
use Rattle.plain_engine.proofs.block.ring_block.Goals as goal

pub returns : goal.returns
unfolding zeros
returns c =
    let text : List ℕ = c.args.text.now in
    let n : ℕ = 4076 - length {A = ℕ} text in
    let long : length (replicate n 0) ≡ n = length-replicate {A = ℕ} n 0 in
    let sum : length {A = ℕ} text + n ≡ 4076 = omega (arith, c.requires.most) in
    record {
      small = omega arith;
      some = c.requires.some;
      rest = zeros n;
      size = omega (arith, long, sum);
      is = rw (c.in_ok-block-2.ensures, c.in_ok-extend_from_slice-2.ensures.items, c.in_ok-extend_from_slice.ensures.items, c.in_ok-block.ensures, c.deref.ensures.value, c.in_ok-zero_bytes.ensures) refl;
    }
