use Rattle.std.proofs.Common.{◌≡◌, drop}
use Rattle.session_core.specs.Putting.{homes_after_put}
use Rattle.session_core.proofs.cleaning.set_homes.Given as goal

abbrev pub invariant-loop-i : goal.invariant-loop-i
invariant-loop-i l = record {
  written : homes_after_put l.space l.version (drop l.i l.texts) l.store ≡ homes_after_put l.space l.version l.texts l.fn.store;
  spaces : l.store.spaces ≡ l.fn.store.spaces;
}
