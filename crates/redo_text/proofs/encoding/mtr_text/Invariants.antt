use Rattle.std.proofs.Common.{◌≡◌, ◌++◌, drop}
use Rattle.redo_text.specs.Text.{text_of, AreAllowed}
use Rattle.redo_text.proofs.encoding.mtr_text.Given as goal

abbrev pub invariant-loop-change : goal.invariant-loop-change
invariant-loop-change l = record {
  text : l.text.items ++ text_of (drop l.change-index l.change-items) ≡ text_of l.change-items;
  allowed : AreAllowed (drop l.change-index l.change-items);
}
