use Rattle.std.proofs.Common.{rules, ◌≡◌, ⊎_elim, ℕ, ◌+◌, ◌<◌, ◌≤◌, ◌∙◌, length, refl, subst, arith, IsErrAnd}
use Rattle.std.proofs.lemmas.Bool.{cases_lt}
use Rattle.cause_core.proofs.Causes.{handed}
use Rattle.disk_model.specs.Past.{At}
use Rattle.disk_model.proofs.Layers.{does_err, so_far_done, so_far_more, so_far_then}
use Rattle.disk_model.proofs.Moments.{weaker}
use Rattle.doublewrite.specs.Restore.{space_at}
use Rattle.store_form.specs.Said.{header_said}
use Rattle.recovery.specs.Due.{IsByPage}
use Rattle.recovery.specs.Putting.{BetweenGroups}
use Rattle.recovery.specs.Spaces.{HasRefusedSpace, HasTexts, LeavesSpacesSince}
use Rattle.recovery.proofs.PutGroups.{groups_recover}
use Rattle.recovery.proofs.RoundPages.{at_moment}
use Rattle.recovery.proofs.SpaceSteps.{says_still}
use Rattle.recovery.proofs.SpacesApplied.{by_space_back, files_now, leaves_space, leaves_spaces_none, space_due, spaces_none, spaces_then, store_done, texts_back}
use Rattle.recovery.proofs.spaces.apply_spaces.Goals as goal

pub loop-i-init : goal.loop-i-init
loop-i-init g c =
    let old = g.D.Disk.past c.args.disk.now in
    let found = c.args.found.now in
    record {
      applies = λ o number s b now own is due. spaces_none o s found old (at_moment {P = BetweenGroups o s} b now due.between);
      texts = λ j lt. absurd (omega (arith, lt));
      beside = leaves_spaces_none found.changes.spaces old;
      double = c.requires.double;
      spaces = λ z n file. file;
      log = λ n file. file;
      says = c.requires.says;
      faults = refl;
      memory = refl;
      later = g.met.D.Disk.is_later_reflexive c.args.disk.now;
    }

pub apply_listed-requires-clause-files : goal.apply_listed-requires-clause-files
apply_listed-requires-clause-files g c = files_now c.args.found.now.changes.spaces (g.D.Disk.past c.args.disk.now) (g.D.Disk.past c.loop-i.disk) c.requires.files c.loop-i.invariant.spaces

pub apply_listed-requires-clause-log : goal.apply_listed-requires-clause-log
apply_listed-requires-clause-log g c = c.loop-i.invariant.log c.args.found.now.header.blocks c.requires.log

pub apply_listed-requires-clause-says : goal.apply_listed-requires-clause-says
apply_listed-requires-clause-says g c = c.loop-i.invariant.says

pub returns-in_err-number-clause-applies : goal.returns-in_err-number-clause-applies
returns-in_err-number-clause-applies g c = λ o number s b now own is due.
    let old = g.D.Disk.past c.args.disk.now in
    let cur = g.D.Disk.past c.loop-i.disk in
    let found = c.args.found.now in
    let lt : c.loop-i.i < length found.changes.spaces = omega (arith, c.loop-i-test.true, c.len-i-end.ensures) in
    let so_far = c.loop-i.invariant.applies o number s b now own is due in
    let (m, told, round) = space_due o s found c.args.active number c.args.ring.now c.requires.fits own is c.loop-i.i lt b old cur now c.loop-i.invariant.beside so_far.at due in
    does_err _ _ c.from_residual.ensures.1
    (so_far_then so_far (spaces_then o s found c.loop-i.i lt old cur (g.D.Disk.past c.apply_listed.new.disk) _ so_far.at (c.in_err-number.ensures.applies o number s m told own is round)))

pub returns-in_err-number-clause-recovers : goal.returns-in_err-number-clause-recovers
returns-in_err-number-clause-recovers g c = λ o number s b now own is due. weaker (λ m may. groups_recover o number s due.opened m may) (returns-in_err-number-clause-applies g c o number s b now own is due).moments

pub returns-in_err-number-clause-refused : goal.returns-in_err-number-clause-refused
returns-in_err-number-clause-refused g c =
    let old = g.D.Disk.past c.args.disk.now in
    let found = c.args.found.now in
    let ring = c.args.ring.now in
    let lt : c.loop-i.i < length found.changes.spaces = omega (arith, c.loop-i-test.true, c.len-i-end.ensures) in
    let why = c.in_err-number.field-0.0 in
    let is : IsErrAnd c.from_residual.result (λ e. e ≡ why) = search rules in
    handed (IsByPage (HasRefusedSpace ring c.args.active found) old) c.from_residual.result why is
    (by_space_back ring c.args.active found c.requires.fits c.loop-i.i lt old (g.D.Disk.past c.loop-i.disk) c.loop-i.invariant.beside why c.loop-i.invariant.texts c.in_err-number.ensures.refused)

pub loop-i-preserved : goal.loop-i-preserved
loop-i-preserved g c =
    let old = g.D.Disk.past c.args.disk.now in
    let cur = g.D.Disk.past c.loop-i.disk in
    let new = g.D.Disk.past c.apply_listed.new.disk in
    let found = c.args.found.now in
    let ring = c.args.ring.now in
    let i = c.loop-i.i in
    let space = space_at found.changes.spaces i in
    let lt : i < length found.changes.spaces = omega (arith, c.loop-i-test.true, c.len-i-end.ensures) in
    record {
      applies = λ o number s b now own is due.
          let so_far = c.loop-i.invariant.applies o number s b now own is due in
          let (m, told, round) = space_due o s found c.args.active number ring c.requires.fits own is i lt b old cur now c.loop-i.invariant.beside so_far.at due in
          so_far_more so_far (spaces_then o s found i lt old cur new _ so_far.at (c.in_ok-number.ensures.applies o number s m told own is round));
      texts = λ j below. ⊎_elim
          (λ (before : j < i). c.loop-i.invariant.texts j before)
          (λ (ge : i ≤ j). let same : i ≡ j = omega (arith, ge, below) in subst (λ (k : ℕ). At (HasTexts ring c.args.active found k) old) same (texts_back ring c.args.active found c.requires.fits i lt old cur c.loop-i.invariant.beside c.in_ok-number.ensures.texts))
          (cases_lt j i);
      beside = leaves_space found.changes.spaces i space.pages lt old cur new c.loop-i.invariant.beside c.in_ok-number.ensures.beside;
      double = c.in_ok-number.ensures.double;
      spaces = λ z n file. c.in_ok-number.ensures.spaces z n (c.loop-i.invariant.spaces z n file);
      log = λ n file. c.in_ok-number.ensures.log n (c.loop-i.invariant.log n file);
      says = says_still (header_said found.header) ring found.checkpoint.from (found.run.last + 1) space.space 0 space.pages cur new c.in_ok-number.ensures.beside c.loop-i.invariant.says;
      faults = search rules;
      memory = c.in_ok-number.ensures.no_refusal ∙ c.loop-i.invariant.memory;
      later = g.met.D.Disk.is_later_transitive _ _ _ c.loop-i.invariant.later c.in_ok-number.ensures.later;
    }

pub returns-clause-applies : goal.returns-clause-applies
returns-clause-applies g c = λ o number s b now own is due.
    let old = g.D.Disk.past c.args.disk.now in
    let found = c.args.found.now in
    let le : length found.changes.spaces ≤ c.loop-i.i = omega (arith, c.loop-i-test.false, c.len-i-end.ensures) in
    so_far_done (store_done o s found c.args.active number c.args.ring.now c.requires.fits own is c.loop-i.i le b old now due) (c.loop-i.invariant.applies o number s b now own is due)

pub returns-clause-recovers : goal.returns-clause-recovers
returns-clause-recovers g c = λ o number s b now own is due. weaker (λ m may. groups_recover o number s due.opened m may) (returns-clause-applies g c o number s b now own is due).moments

pub returns-clause-texts : goal.returns-clause-texts
returns-clause-texts g c = λ i lt. c.loop-i.invariant.texts i (omega (arith, lt, c.loop-i-test.false, c.len-i-end.ensures))

pub returns-clause-beside : goal.returns-clause-beside
returns-clause-beside g c =
    let found = c.args.found.now in
    let ended : c.loop-i.i ≡ length found.changes.spaces = omega (arith, c.loop-i-test.false, c.len-i-end.ensures, c.loop-i.auto.i-end) in
    subst (λ (n : ℕ). LeavesSpacesSince found.changes.spaces n (g.D.Disk.past c.args.disk.now) (g.D.Disk.past c.loop-i.disk)) ended c.loop-i.invariant.beside
