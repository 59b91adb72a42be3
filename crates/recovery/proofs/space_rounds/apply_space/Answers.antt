use Rattle.std.proofs.Common.{rules, ◌≡◌, ⊎_elim, ℕ, ◌+◌, ◌-◌, ◌≤◌, ◌<◌, ◌∙◌, true, List, length, refl, sym, ap, subst, arith, IsErrAnd}
use Rattle.std.proofs.lemmas.Bool.{cases_lt}
use Rattle.cause_core.proofs.Causes.{handed}
use Rattle.disk_model.specs.Past.{At}
use Rattle.disk_model.proofs.Layers.{does_err, so_far_done, so_far_more, so_far_then}
use Rattle.disk_model.proofs.Moments.{at_each, weaker}
use Rattle.places.specs.Batches.{From}
use Rattle.store_form.specs.Said.{header_said}
use Rattle.recovery.specs.Due.{HasRefusedPage, IsByPage}
use Rattle.recovery.specs.Groups.{IsApplyEvent, IsRangeApplied, LeavesSince}
use Rattle.recovery.specs.Loading.{HaveTexts}
use Rattle.recovery.specs.Putting.{BetweenGroups}
use Rattle.recovery.specs.Rounds.{count_in, has_later}
use Rattle.recovery.proofs.GroupSteps.{groups_none, groups_then}
use Rattle.recovery.proofs.OtherHomes.{leaves_none, leaves_then}
use Rattle.recovery.proofs.PutGroups.{groups_recover}
use Rattle.recovery.proofs.RecordSteps.{records_none}
use Rattle.recovery.proofs.RoundPages.{at_moment}
use Rattle.recovery.proofs.RoundSteps.{count_none}
use Rattle.recovery.proofs.SpaceSteps.{applied_on, by_page_back, leaves_on, round_at, says_still, texts_more, texts_on}
use Rattle.recovery.proofs.space_rounds.apply_space.Goals as goal

pub loop-start-init : goal.loop-start-init
loop-start-init g c =
    let z = c.args.info.now.space in
    let has = has_later c.args.notes.now c.args.last.now in
    let old = g.D.Disk.past c.args.disk.now in
    let first = c.next_later-first.result in
    let none : (p : ℕ) → 0 ≤ p → p < first → has p ≡ true → ⊥ = c.next_later-first.ensures.none in
    record {
      ends = c.next_later-first.ensures.ends;
      applies = λ o number s b now by space under due. applied_on o s has z 0 0 first old old none (groups_none o s has z 0 old (at_moment {P = BetweenGroups o s} b now due.between));
      recorded = λ o number s b now by space under due kept. records_none o number s due.opened (IsApplyEvent z) old (at_moment {P = BetweenGroups o s} b now due.between) kept;
      texts = texts_on c.args.ring.now c.args.header.now.algorithm c.args.info.now c.args.notes.now has 0 first old none (record { here = λ es is. record { each = λ p low high later. absurd (omega (arith, high)) } });
      beside = leaves_none z 0 first old old refl;
      double = c.requires.double;
      spaces = λ y count file. file;
      log = λ n file. file;
      says = c.requires.says;
      faults = refl;
      memory = refl;
      later = g.met.D.Disk.is_later_reflexive c.args.disk.now;
    }

pub apply_round-requires-clause-double : goal.apply_round-requires-clause-double
apply_round-requires-clause-double g c = c.loop-start.invariant.double

pub apply_round-requires-clause-file : goal.apply_round-requires-clause-file
apply_round-requires-clause-file g c = c.loop-start.invariant.spaces c.args.info.now.space (length c.args.notes.now) c.requires.file

pub apply_round-requires-clause-log : goal.apply_round-requires-clause-log
apply_round-requires-clause-log g c = c.loop-start.invariant.log c.args.header.now.blocks c.requires.log

pub apply_round-requires-clause-says : goal.apply_round-requires-clause-says
apply_round-requires-clause-says g c = c.loop-start.invariant.says

pub returns-in_err-number-clause-applies : goal.returns-in_err-number-clause-applies
returns-in_err-number-clause-applies g c = λ o number s b now by space under due.
    let z = c.args.info.now.space in
    let has = has_later c.args.notes.now c.args.last.now in
    let old = g.D.Disk.past c.args.disk.now in
    let cur = g.D.Disk.past c.loop-start.disk in
    let start = c.loop-start.start in
    let end = c.next_range-end.result in
    let so_far = c.loop-start.invariant.applies o number s b now by space under due in
    let (m, told, round) = round_at o s has z number start end c.args.count b old cur c.next_range-end.ensures.ends now so_far.moments.later c.loop-start.invariant.beside so_far.at due in
    does_err _ _ c.from_residual.ensures.1
    (so_far_then so_far (groups_then o s has z 0 start end old cur (g.D.Disk.past c.apply_round.new.disk) _ so_far.at (c.in_err-number.ensures.applies o number s m told by space under round)))

pub returns-in_err-number-clause-recovers : goal.returns-in_err-number-clause-recovers
returns-in_err-number-clause-recovers g c = λ o number s b now by space under due. weaker (λ m may. groups_recover o number s due.opened m may) (returns-in_err-number-clause-applies g c o number s b now by space under due).moments

pub returns-in_err-number-clause-refused : goal.returns-in_err-number-clause-refused
returns-in_err-number-clause-refused g c =
    let has = has_later c.args.notes.now c.args.last.now in
    let old = g.D.Disk.past c.args.disk.now in
    let ring = c.args.ring.now in
    let algorithm = c.args.header.now.algorithm in
    let why = c.in_err-number.field-0.0 in
    let is : IsErrAnd c.from_residual.result (λ e. e ≡ why) = search rules in
    handed (IsByPage (HasRefusedPage ring algorithm c.args.info.now c.args.notes.now has 0 c.args.count) old) c.from_residual.result why is
    (by_page_back ring algorithm c.args.info.now c.args.notes.now has c.loop-start.start c.next_range-end.result c.args.count c.next_range-end.ensures.ends old (g.D.Disk.past c.loop-start.disk) c.loop-start.invariant.beside c.loop-start.invariant.texts why c.in_err-number.ensures.refused)

pub loop-start-smaller : goal.loop-start-smaller
loop-start-smaller g c =
    let has = has_later c.args.notes.now c.args.last.now in
    let start = c.loop-start.start in
    let end = c.next_range-end.result in
    let low = c.next_range-end.ensures.begins in
    let high = c.next_range-end.ensures.ends in
    let lt = c.loop-start-test.true in
    let behind = c.next_later-behind.ensures.begins in
    ⊎_elim (λ (more : start < end). omega (arith, more, high, lt, behind))
    (λ (le : end ≤ start).
    let same : end ≡ start = omega (arith, le, low) in
    let full = (c.next_range-end.ensures.longest (omega (arith, same, lt))).0 in
    let none : count_in has start (end - start) ≡ 0 = ap (λ (q : ℕ). count_in has start (q - start)) same ∙ count_none has start in
    absurd (omega (arith, full, none)))
    (cases_lt start end)

pub loop-start-preserved : goal.loop-start-preserved
loop-start-preserved g c =
    let z = c.args.info.now.space in
    let has = has_later c.args.notes.now c.args.last.now in
    let old = g.D.Disk.past c.args.disk.now in
    let cur = g.D.Disk.past c.loop-start.disk in
    let new = g.D.Disk.past c.apply_round.new.disk in
    let start = c.loop-start.start in
    let end = c.next_range-end.result in
    let behind = c.next_later-behind.result in
    let ring = c.args.ring.now in
    let algorithm = c.args.header.now.algorithm in
    let none : (p : ℕ) → end ≤ p → p < behind → has p ≡ true → ⊥ = c.next_later-behind.ensures.none in
    record {
      ends = c.next_later-behind.ensures.ends;
      applies = λ o number s b now by space under due.
          let so_far = c.loop-start.invariant.applies o number s b now by space under due in
          let (m, told, round) = round_at o s has z number start end c.args.count b old cur c.next_range-end.ensures.ends now so_far.moments.later c.loop-start.invariant.beside so_far.at due in
          applied_on o s has z 0 end behind old new none
          (so_far_more so_far (groups_then o s has z 0 start end old cur new _ so_far.at (c.in_ok-number.ensures.applies o number s m told by space under round)));
      recorded = λ o number s b now by space under due kept.
          let applied = c.loop-start.invariant.applies o number s b now by space under due in
          let so_far = c.loop-start.invariant.recorded o number s b now by space under due kept in
          let (m, told, round) = round_at o s has z number start end c.args.count b old cur c.next_range-end.ensures.ends now applied.moments.later c.loop-start.invariant.beside applied.at due in
          so_far_more so_far (c.in_ok-number.ensures.recorded o number s m told by space under round so_far.at);
      texts = texts_on ring algorithm c.args.info.now c.args.notes.now has end behind old none (texts_more ring algorithm c.args.info.now c.args.notes.now has start end old cur c.loop-start.invariant.beside c.loop-start.invariant.texts c.in_ok-number.ensures.texts);
      beside = leaves_on z 0 end behind old new (omega arith) c.next_later-behind.ensures.begins (leaves_then z 0 start end (omega arith) c.next_range-end.ensures.begins old cur new c.loop-start.invariant.beside c.in_ok-number.ensures.beside);
      double = c.in_ok-number.ensures.double;
      spaces = λ y count file. c.in_ok-number.ensures.spaces y count (c.loop-start.invariant.spaces y count file);
      log = λ n file. c.in_ok-number.ensures.log n (c.loop-start.invariant.log n file);
      says = says_still (header_said c.args.header.now) ring c.args.from (c.args.run.now.last + 1) z start end cur new c.in_ok-number.ensures.beside c.loop-start.invariant.says;
      faults = search rules;
      memory = c.in_ok-number.ensures.no_refusal ∙ c.loop-start.invariant.memory;
      later = g.met.D.Disk.is_later_transitive _ _ _ c.loop-start.invariant.later c.in_ok-number.ensures.later;
    }

pub returns-clause-applies : goal.returns-clause-applies
returns-clause-applies g c = λ o number s b now by space under due.
    let z = c.args.info.now.space in
    let has = has_later c.args.notes.now c.args.last.now in
    let ended : c.loop-start.start ≡ c.args.count = omega (arith, c.loop-start-test.false, c.loop-start.invariant.ends) in
    so_far_done (λ m done. subst (λ (q : ℕ). From (IsRangeApplied o s has z 0 q) (g.D.Disk.past c.args.disk.now) m) ended done.1) (c.loop-start.invariant.applies o number s b now by space under due)

pub returns-clause-recovers : goal.returns-clause-recovers
returns-clause-recovers g c = λ o number s b now by space under due. weaker (λ m may. groups_recover o number s due.opened m may) (returns-clause-applies g c o number s b now by space under due).moments

pub returns-clause-texts : goal.returns-clause-texts
returns-clause-texts g c =
    let ended : c.loop-start.start ≡ c.args.count = omega (arith, c.loop-start-test.false, c.loop-start.invariant.ends) in
    at_each (λ es texts. subst (λ (q : ℕ). HaveTexts c.args.ring.now c.args.header.now.algorithm c.args.info.now c.args.notes.now (has_later c.args.notes.now c.args.last.now) 0 q es) ended texts) c.loop-start.invariant.texts

pub returns-clause-beside : goal.returns-clause-beside
returns-clause-beside g c =
    let ended : c.loop-start.start ≡ c.args.count = omega (arith, c.loop-start-test.false, c.loop-start.invariant.ends) in
    subst (λ (q : ℕ). LeavesSince c.args.info.now.space 0 q (g.D.Disk.past c.args.disk.now) (g.D.Disk.past c.loop-start.disk)) ended c.loop-start.invariant.beside

pub returns-in_err-number-clause-recorded : goal.returns-in_err-number-clause-recorded
returns-in_err-number-clause-recorded g c = λ o number s b now by space under due kept.
    let z = c.args.info.now.space in
    let has = has_later c.args.notes.now c.args.last.now in
    let old = g.D.Disk.past c.args.disk.now in
    let cur = g.D.Disk.past c.loop-start.disk in
    let applied = c.loop-start.invariant.applies o number s b now by space under due in
    let so_far = c.loop-start.invariant.recorded o number s b now by space under due kept in
    let (m, told, round) = round_at o s has z number c.loop-start.start c.next_range-end.result c.args.count b old cur c.next_range-end.ensures.ends now applied.moments.later c.loop-start.invariant.beside applied.at due in
    does_err _ _ c.from_residual.ensures.1 (so_far_then so_far (c.in_err-number.ensures.recorded o number s m told by space under round so_far.at))

pub returns-clause-recorded : goal.returns-clause-recorded
returns-clause-recorded g c = λ o number s b now by space under due kept. so_far_done (λ m k. k) (c.loop-start.invariant.recorded o number s b now by space under due kept)
