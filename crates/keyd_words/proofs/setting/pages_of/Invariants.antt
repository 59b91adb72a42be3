use Rattle.std.proofs.Common.{◌≡◌, take}
use Rattle.keyd_words.specs.Settings.{pages_of_spaces}
use Rattle.keyd_words.proofs.setting.pages_of.Given as goal

abbrev pub invariant-loop-space : goal.invariant-loop-space
invariant-loop-space l = l.pages ≡ pages_of_spaces (take l.space-index l.spaces)
