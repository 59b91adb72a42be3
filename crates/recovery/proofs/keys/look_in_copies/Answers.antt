use Rattle.std.proofs.Common.{◌<◌, ◌∙◌, ℕ, subst, map, length, arith}
use Rattle.std.proofs.lemmas.List.{get_or_default}
use Rattle.doublewrite.specs.declared.listing.Copied.{Copied}
use Rattle.store_form.specs.Said.{space_said}
use Rattle.recovery.specs.Keys.{IsCopyKey, IsListedKey, LooksFor, no_copied}
use Rattle.recovery.proofs.LooksSteps.{looks_next}
use Rattle.recovery.proofs.keys.look_in_copies.Goals as goal

pub loop-j-preserved : goal.loop-j-preserved
loop-j-preserved c =
    let hs = map space_said c.args.spaces.now in
    let lt : c.loop-j.j < length c.args.copies.now = let test = c.loop-j-test.true in let end = c.len-j-end.ensures in omega (arith, test, end) in
    looks_next c.args.ring.now (IsListedKey hs c.args.notes.now c.args.copies.now) c.loop-j.j c.args.least c.loop-j.found c.look_for_copy-found.result c.loop-j.invariant
    (subst (λ (k : Copied). LooksFor c.args.ring.now (IsCopyKey hs c.args.notes.now k) c.loop-j.found c.look_for_copy-found.result) (c.get.ensures ∙ get_or_default c.args.copies.now c.loop-j.j c.get.result.now no_copied lt) c.look_for_copy-found.ensures)
