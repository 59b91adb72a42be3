use Rattle.std.proofs.Common.{◌≡◌, ◌-◌, ◌*◌, ◌++◌}
use Rattle.aes_core.specs.Modes.{joined}
use Rattle.byte_list.specs.Bytes.{zeros}
use Rattle.redo_text.specs.Block.{AreOf, block_count, nth_block}
use Rattle.redo_text.proofs.block.write_under.Given as goal

abbrev pub invariant-loop-k : goal.invariant-loop-k
invariant-loop-k l = record {
  out : l.out ≡ joined (nth_block l.fn.key l.fn.first l.fn.text) l.k ++ zeros (4096 * (block_count l.fn.text - l.k));
  each : AreOf 4096 (nth_block l.fn.key l.fn.first l.fn.text) l.k;
}
