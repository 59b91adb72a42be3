use Rattle.std.proofs.Common.{◌≢◌, ℕ, ◌<◌, get_or}
use Rattle.keyd_words.specs.declared.command.Command.{Command}
use Rattle.keyd_words.proofs.reading.is_built.Given as goal

abbrev pub invariant-loop-known : goal.invariant-loop-known
invariant-loop-known l = (k : ℕ) (d : Command) → k < l.known-index → get_or l.built k d ≢ l.command
