use Rattle.std.proofs.Common.{◌≢◌, ℕ, ◌<◌, get_or}
use Rattle.keyd_words.specs.declared.text.NewSpace.{NewSpace}
use Rattle.keyd_words.proofs.setting.is_free.Given as goal

abbrev pub invariant-loop-space : goal.invariant-loop-space
invariant-loop-space l = (k : ℕ) (d : NewSpace) → k < l.space-index → (get_or l.spaces k d).space ≢ l.id
