use Rattle.std.proofs.Common.{◌≡◌, ◌≤◌, take}
use Rattle.keyd_words.specs.Settings.{times_in}
use Rattle.keyd_words.proofs.setting.times_of.Given as goal

abbrev pub invariant-loop-other : goal.invariant-loop-other
invariant-loop-other l = record { count : l.count ≡ times_in l.name (take l.other-index l.names); low : l.count ≤ l.other-index }
