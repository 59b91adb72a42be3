use Rattle.std.proofs.Common.{◌≡◌, ◌-◌, ◌∙◌, ℕ, length, replicate, refl, ap, arith, rules}
use Rattle.std.proofs.lemmas.List.{length-replicate}
use Rattle.byte_list.specs.Bytes.{zeros}
use Rattle.plain_engine.specs.Block.{header_head}
use Rattle.plain_engine.proofs.Fresh.{length-header_head}
use Rattle.plain_engine.proofs.format.header_block.Goals as goal

pub overflow_sub-rest : goal.overflow_sub-rest
overflow_sub-rest c =
    let long : c.len-rest.result ≡ length c.in_ok-text.text.items = search rules in
    omega (arith, long, ap length c.in_ok-text.ensures, length-header_head c.args.spaces.now, c.requires)

pub returns : goal.returns
unfolding zeros
returns c =
    let long : c.len-rest.result ≡ length c.in_ok-text.text.items = search rules in
    let head : c.len-rest.result ≡ length (header_head c.args.spaces.now) = long ∙ ap length c.in_ok-text.ensures in
    let n : ℕ = 4092 - c.len-rest.result in
    let zero : length (replicate n 0) ≡ n = length-replicate {A = ℕ} n 0 in
    record {
      rest = zeros n;
      size = omega (arith, head, zero, length-header_head c.args.spaces.now, c.requires);
      is = rw (c.in_ok-block.ensures, c.in_ok-extend_from_slice.ensures.items, c.in_ok-text.ensures, c.deref.ensures.value, c.in_ok-zero_bytes.ensures) refl;
    }
