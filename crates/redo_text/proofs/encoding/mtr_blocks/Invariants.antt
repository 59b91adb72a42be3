use Rattle.std.proofs.Common.{◌≡◌, ◌+◌, ◌*◌, ◌≤◌, drop, length}
use Rattle.redo_text.specs.Text.{text_of, AreAllowed}
use Rattle.redo_text.proofs.encoding.mtr_blocks.Given as goal

abbrev pub invariant-loop-change : goal.invariant-loop-change
invariant-loop-change l = record {
  len : l.len + length (text_of (drop l.change-index l.change-items)) ≡ length (text_of l.change-items);
  most : l.len ≤ 16355 * l.change-index;
  allowed : AreAllowed (drop l.change-index l.change-items);
}
