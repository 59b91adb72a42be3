use Rattle.std.proofs.Common.{rules, ◌≡◌, ⊎_elim, ℕ, ◌+◌, ◌*◌, ◌-◌, ◌≤◌, ◌<◌, ◌∙◌, [], List, length, refl, sym, ap, subst, arith}
use Rattle.std.proofs.lemmas.Bool.{cases_lt}
use Rattle.disk_model.specs.Past.{At}
use Rattle.disk_model.proofs.Layers.{does_err, so_far_done, so_far_more, so_far_then}
use Rattle.disk_model.proofs.Moments.{at_each, weaker}
use Rattle.page_pool.specs.Pages.{PoolState}
use Rattle.places.specs.Batches.{From}
use Rattle.recovery.specs.Groups.{AreSealable, IsApplyEvent, IsRangeApplied, LeavesSince}
use Rattle.recovery.specs.Loading.{AreDirty}
use Rattle.recovery.specs.Rounds.{count_in, has_later}
use Rattle.recovery.proofs.GroupSteps.{groups_none, groups_then, part_dirty, part_sealable}
use Rattle.recovery.proofs.OtherHomes.{leaves_none, leaves_then}
use Rattle.recovery.proofs.PutGroups.{groups_recover}
use Rattle.recovery.proofs.RecordSteps.{records_none}
use Rattle.recovery.proofs.RoundSteps.{count_less, count_none, count_parts}
use Rattle.recovery.proofs.group_writing.write_groups.Goals as goal

pub loop-at-init : goal.loop-at-init
loop-at-init g c =
    let r = c.args.range.now in
    let has = has_later c.args.notes.now c.args.last.now in
    let none = count_none has r.from in
    record {
      begins = omega arith;
      ends = c.requires.order;
      applies = λ o s between under due. groups_none o s has r.info.space r.from (g.D.Disk.past c.args.disk.now) between;
      recorded = λ o end s opened between kept under due. records_none o end s opened (IsApplyEvent r.info.space) (g.D.Disk.past c.args.disk.now) between kept;
      beside = leaves_none r.info.space r.from r.from (g.D.Disk.past c.args.disk.now) (g.D.Disk.past c.args.disk.now) refl;
      same = refl;
      double = c.requires.double;
      spaces = λ z count file. file;
      log = λ n file. file;
      within = λ lt. omega arith;
      calls = omega arith;
      faults = refl;
      memory = refl;
      later = g.met.D.Disk.is_later_reflexive c.args.disk.now;
    }

pub write_group-requires-clause-alone : goal.write_group-requires-clause-alone
write_group-requires-clause-alone g c = ap (λ (p : PoolState). p.clean) c.loop-at.invariant.same ∙ c.requires.alone

pub write_group-requires-clause-pages : goal.write_group-requires-clause-pages
write_group-requires-clause-pages g c =
    let r = c.args.range.now in
    let has = has_later c.args.notes.now c.args.last.now in
    subst (λ (p : PoolState). AreDirty has r.info.space c.loop-at.at c.next_range-end.result p) (sym c.loop-at.invariant.same)
    (part_dirty has r.info.space r.from r.end c.loop-at.at c.next_range-end.result c.args.pool.now c.loop-at.invariant.begins c.next_range-end.ensures.ends c.requires.pages)

pub write_group-requires-clause-file : goal.write_group-requires-clause-file
write_group-requires-clause-file g c = c.loop-at.invariant.spaces c.args.range.now.info.space (length c.args.notes.now) c.requires.file

pub write_group-requires-clause-double : goal.write_group-requires-clause-double
write_group-requires-clause-double g c = c.loop-at.invariant.double

pub returns-in_err-write_group-clause-applies : goal.returns-in_err-write_group-clause-applies
returns-in_err-write_group-clause-applies g c = λ o s between under due.
    let r = c.args.range.now in
    let has = has_later c.args.notes.now c.args.last.now in
    let old = g.D.Disk.past c.args.disk.now in
    let so_far = c.loop-at.invariant.applies o s between under due in
    let part : AreSealable o has r.info.space c.args.last.now c.loop-at.at c.next_range-end.result c.loop-at.pool =
    subst (λ (p : PoolState). AreSealable o has r.info.space c.args.last.now c.loop-at.at c.next_range-end.result p) (sym c.loop-at.invariant.same)
    (part_sealable o has r.info.space c.args.last.now r.from r.end c.loop-at.at c.next_range-end.result c.args.pool.now c.loop-at.invariant.begins c.next_range-end.ensures.ends due) in
    does_err _ _ c.from_residual.ensures.1
    (so_far_then so_far
    (groups_then o s has r.info.space r.from c.loop-at.at c.next_range-end.result old (g.D.Disk.past c.loop-at.disk) (g.D.Disk.past c.write_group.new.disk) _ so_far.at
    (c.in_err-write_group.ensures.applies o s (at_each (λ m done. done.0) so_far.at) under part)))

pub returns-in_err-write_group-clause-recovers : goal.returns-in_err-write_group-clause-recovers
returns-in_err-write_group-clause-recovers g c = λ o end s opened between under due. weaker (λ m may. groups_recover o end s opened m may) (returns-in_err-write_group-clause-applies g c o s between under due).moments

pub returns-in_err-write_group-clause-calls : goal.returns-in_err-write_group-clause-calls
returns-in_err-write_group-clause-calls g c =
    let r = c.args.range.now in
    let has = has_later c.args.notes.now c.args.last.now in
    let at = c.loop-at.at in
    let end = c.next_range-end.result in
    let parts = count_parts has r.from at end c.loop-at.invariant.begins c.next_range-end.ensures.begins in
    let whole = count_parts has r.from end r.end (omega (arith, c.loop-at.invariant.begins, c.next_range-end.ensures.begins)) c.next_range-end.ensures.ends in
    let so_far = c.loop-at.invariant.within c.loop-at-test.true in
    let group = c.in_err-write_group.ensures.calls in
    omega (arith, parts, whole, so_far, group)

pub loop-at-smaller : goal.loop-at-smaller
loop-at-smaller g c =
    let has = has_later c.args.notes.now c.args.last.now in
    let at = c.loop-at.at in
    let end = c.next_range-end.result in
    let low = c.next_range-end.ensures.begins in
    let high = c.next_range-end.ensures.ends in
    let lt = c.loop-at-test.true in
    ⊎_elim (λ (more : at < end). omega (arith, more, high, lt))
    (λ (le : end ≤ at).
    let same : end ≡ at = omega (arith, le, low) in
    let full = (c.next_range-end.ensures.longest (omega (arith, same, lt))).0 in
    let none : count_in has at (end - at) ≡ 0 = ap (λ (q : ℕ). count_in has at (q - at)) same ∙ count_none has at in
    absurd (omega (arith, full, none)))
    (cases_lt at end)

pub loop-at-preserved : goal.loop-at-preserved
loop-at-preserved g c =
    let r = c.args.range.now in
    let has = has_later c.args.notes.now c.args.last.now in
    let at = c.loop-at.at in
    let end = c.next_range-end.result in
    let old = g.D.Disk.past c.args.disk.now in
    let parts = count_parts has r.from at end c.loop-at.invariant.begins c.next_range-end.ensures.begins in
    let so_far = c.loop-at.invariant.within c.loop-at-test.true in
    let group = c.in_ok-write_group.ensures.calls in
    record {
      begins = omega (arith, c.loop-at.invariant.begins, c.next_range-end.ensures.begins);
      ends = c.next_range-end.ensures.ends;
      applies = λ o s between under due.
          let done = c.loop-at.invariant.applies o s between under due in
          let part : AreSealable o has r.info.space c.args.last.now at end c.loop-at.pool =
          subst (λ (p : PoolState). AreSealable o has r.info.space c.args.last.now at end p) (sym c.loop-at.invariant.same)
          (part_sealable o has r.info.space c.args.last.now r.from r.end at end c.args.pool.now c.loop-at.invariant.begins c.next_range-end.ensures.ends due) in
          so_far_more done
          (groups_then o s has r.info.space r.from at end old (g.D.Disk.past c.loop-at.disk) (g.D.Disk.past c.write_group.new.disk) _ done.at
          (c.in_ok-write_group.ensures.applies o s (at_each (λ m d. d.0) done.at) under part));
      recorded = λ o last s opened between kept under due.
          let done = c.loop-at.invariant.applies o s between under due in
          let so_far = c.loop-at.invariant.recorded o last s opened between kept under due in
          let part : AreSealable o has r.info.space c.args.last.now at end c.loop-at.pool =
          subst (λ (p : PoolState). AreSealable o has r.info.space c.args.last.now at end p) (sym c.loop-at.invariant.same)
          (part_sealable o has r.info.space c.args.last.now r.from r.end at end c.args.pool.now c.loop-at.invariant.begins c.next_range-end.ensures.ends due) in
          so_far_more so_far (c.in_ok-write_group.ensures.recorded o last s opened (at_each (λ m d. d.0) done.at) so_far.at under part);
      beside = leaves_then r.info.space r.from at end c.loop-at.invariant.begins c.next_range-end.ensures.begins old (g.D.Disk.past c.loop-at.disk) (g.D.Disk.past c.write_group.new.disk) c.loop-at.invariant.beside c.in_ok-write_group.ensures.beside;
      same = c.in_ok-write_group.ensures.same ∙ c.loop-at.invariant.same;
      double = c.in_ok-write_group.ensures.double;
      spaces = λ z count file. c.in_ok-write_group.ensures.spaces z count (c.loop-at.invariant.spaces z count file);
      log = λ n file. c.in_ok-write_group.ensures.log n (c.loop-at.invariant.log n file);
      within = λ lt. let full = (c.next_range-end.ensures.longest lt).0 in omega (arith, parts, so_far, group, full);
      calls = omega (arith, parts, so_far, group);
      faults = search rules;
      memory = c.in_ok-write_group.ensures.no_refusal ∙ c.loop-at.invariant.memory;
      later = g.met.D.Disk.is_later_transitive _ _ _ c.loop-at.invariant.later c.in_ok-write_group.ensures.later;
    }

pub returns-clause-applies : goal.returns-clause-applies
returns-clause-applies g c = λ o s between under due.
    let r = c.args.range.now in
    let has = has_later c.args.notes.now c.args.last.now in
    let ended : c.loop-at.at ≡ r.end = omega (arith, c.loop-at-test.false, c.loop-at.invariant.ends) in
    so_far_done (λ m done. subst (λ (q : ℕ). From (IsRangeApplied o s has r.info.space r.from q) (g.D.Disk.past c.args.disk.now) m) ended done.1) (c.loop-at.invariant.applies o s between under due)

pub returns-clause-recovers : goal.returns-clause-recovers
returns-clause-recovers g c = λ o end s opened between under due. weaker (λ m may. groups_recover o end s opened m may) (returns-clause-applies g c o s between under due).moments

pub returns-clause-beside : goal.returns-clause-beside
returns-clause-beside g c =
    let r = c.args.range.now in
    let ended : c.loop-at.at ≡ r.end = omega (arith, c.loop-at-test.false, c.loop-at.invariant.ends) in
    subst (λ (q : ℕ). LeavesSince r.info.space r.from q (g.D.Disk.past c.args.disk.now) (g.D.Disk.past c.loop-at.disk)) ended c.loop-at.invariant.beside

pub returns-clause-calls : goal.returns-clause-calls
returns-clause-calls g c =
    let r = c.args.range.now in
    let has = has_later c.args.notes.now c.args.last.now in
    let ended : c.loop-at.at ≡ r.end = omega (arith, c.loop-at-test.false, c.loop-at.invariant.ends) in
    let same : count_in has r.from (c.loop-at.at - r.from) ≡ count_in has r.from (r.end - r.from) = ap (λ (q : ℕ). count_in has r.from (q - r.from)) ended in
    omega (arith, same, c.loop-at.invariant.calls)

pub returns-in_err-write_group-clause-recorded : goal.returns-in_err-write_group-clause-recorded
returns-in_err-write_group-clause-recorded g c = λ o last s opened between kept under due.
    let r = c.args.range.now in
    let has = has_later c.args.notes.now c.args.last.now in
    let done = c.loop-at.invariant.applies o s between under due in
    let so_far = c.loop-at.invariant.recorded o last s opened between kept under due in
    let part : AreSealable o has r.info.space c.args.last.now c.loop-at.at c.next_range-end.result c.loop-at.pool =
    subst (λ (p : PoolState). AreSealable o has r.info.space c.args.last.now c.loop-at.at c.next_range-end.result p) (sym c.loop-at.invariant.same)
    (part_sealable o has r.info.space c.args.last.now r.from r.end c.loop-at.at c.next_range-end.result c.args.pool.now c.loop-at.invariant.begins c.next_range-end.ensures.ends due) in
    does_err _ _ c.from_residual.ensures.1 (so_far_then so_far (c.in_err-write_group.ensures.recorded o last s opened (at_each (λ m d. d.0) done.at) so_far.at under part))

pub returns-clause-recorded : goal.returns-clause-recorded
returns-clause-recorded g c = λ o last s opened between kept under due. so_far_done (λ m k. k) (c.loop-at.invariant.recorded o last s opened between kept under due)
