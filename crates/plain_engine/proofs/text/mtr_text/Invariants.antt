use Rattle.std.proofs.Common.{◌≡◌, ◌++◌, drop}
use Rattle.plain_engine.specs.Text.{mtr_text, ArePlainAllowed}
use Rattle.plain_engine.proofs.text.mtr_text.Given as goal

abbrev pub invariant-loop-change : goal.invariant-loop-change
invariant-loop-change l = record {
  text : l.text.items ++ mtr_text (drop l.change-index l.change-items) ≡ mtr_text l.change-items;
  allowed : ArePlainAllowed (drop l.change-index l.change-items);
}
