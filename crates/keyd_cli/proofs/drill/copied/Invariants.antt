use Rattle.std.proofs.Common.{◌≡◌, map, take}
use Rattle.keyd_cli.proofs.drill.copied.Given as goal

abbrev pub invariant-loop-entry : goal.invariant-loop-entry
invariant-loop-entry l = l.mtrs.items ≡ map (λ e. e.mtr) (take l.entry-index l.entries)
