use Rattle.std.proofs.Common.{ℕ, refl}
use Rattle.std.proofs.lemmas.List.{length-replicate}
use Rattle.byte_list.specs.Bytes.{zeros}
use Rattle.plain_engine.proofs.format.checkpoint_block.Goals as goal

pub returns : goal.returns
unfolding zeros
returns c = record {
  first = c.requires.first;
  order = c.requires.order;
  most = c.requires.most;
  rest = zeros 4068;
  size = length-replicate {A = ℕ} 4068 0;
  is = rw (c.in_ok-block.ensures, c.in_ok-extend_from_slice.ensures.items, c.in_ok-text.ensures, c.deref.ensures.value, c.in_ok-zero_bytes.ensures) refl;
}
