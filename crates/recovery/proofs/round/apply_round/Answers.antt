use Rattle.std.proofs.Common.{rules, ◌≡◌, ℕ, ◌+◌, ◌-◌, ◌≤◌, ◌<◌, ◌∙◌, true, List, Option, Some, None, sym, subst, arith, IsErrAnd}
use Rattle.std.specs.Prelude.{IfNone, IfSome}
use Rattle.cause_core.proofs.Causes.{handed}
use Rattle.disk_model.specs.Event.{Event}
use Rattle.disk_model.specs.Past.{Past, At}
use Rattle.disk_model.specs.declared.names.FileName.TheVariants.{Log, Space}
use Rattle.disk_model.proofs.Layers.{does_err, does_nothing}
use Rattle.disk_model.proofs.Moments.{at_each, at_is, weaker}
use Rattle.doublewrite.specs.declared.refuse.OpenRefuse.{OpenRefuse}
use Rattle.doublewrite.specs.declared.refuse.OpenRefuse.TheVariants.{OutOfMemory}
use Rattle.page_places.specs.Texts.{page_bytes}
use Rattle.page_pool.specs.Pages.{PoolState}
use Rattle.places.specs.Places.{shown}
use Rattle.places.proofs.Batches.{does_failed}
use Rattle.recovery.specs.Due.{HasRefusedPage, IsByPage}
use Rattle.recovery.specs.Groups.{AreSealable, IsApplyEvent, IsRangeApplied, LeavesSince}
use Rattle.recovery.specs.Loading.{AreDirty, HasNoText, HaveTexts, IsHomeFaultKind}
use Rattle.recovery.specs.Putting.{BetweenGroups, MayApplyGroups}
use Rattle.recovery.specs.Recorded.{HasRecord, KeepsOpeningRecord}
use Rattle.recovery.specs.Rounds.{has_later}
use Rattle.recovery.proofs.DuePages.{read_by_disk}
use Rattle.recovery.proofs.GroupSteps.{between_may, part_dirty, part_sealable}
use Rattle.recovery.proofs.PutGroups.{groups_recover}
use Rattle.recovery.proofs.RecordSteps.{does_from, keeps_between}
use Rattle.recovery.proofs.RoundPages.{at_moment, by_page_fault, by_page_run, does_at, does_to, no_disk_fault, part_round}
use Rattle.recovery.proofs.round.apply_round.Goals as goal

pub write_groups-requires-clause-alone : goal.write_groups-requires-clause-alone
write_groups-requires-clause-alone g c = c.in_ok-loaded.ensures.holds.clean

pub write_groups-requires-clause-pages : goal.write_groups-requires-clause-pages
write_groups-requires-clause-pages g c =
    let r = c.args.round.now in
    part_dirty (has_later c.args.notes.now c.args.last.now) r.info.space r.from c.in_ok-loaded.loaded.end r.from c.groups_end.result c.load_round.new.pool (omega arith) c.groups_end.ensures.ends c.in_ok-loaded.ensures.holds.pages

pub write_groups-requires-clause-double : goal.write_groups-requires-clause-double
write_groups-requires-clause-double g c = at_is c.in_ok-loaded.ensures.same c.requires.double

pub write_groups-requires-clause-file : goal.write_groups-requires-clause-file
write_groups-requires-clause-file g c = at_is c.in_ok-loaded.ensures.same c.requires.file

pub returns-in_default-clause-applies : goal.returns-in_default-clause-applies
returns-in_default-clause-applies g c = λ o number s b now by space under due. does_nothing OutOfMemory (at_moment b now (between_may o s b due.between))

pub returns-in_default-clause-recovers : goal.returns-in_default-clause-recovers
returns-in_default-clause-recovers g c = λ o number s b now by space under due. weaker (λ m may. groups_recover o number s due.opened m may) (returns-in_default-clause-applies g c o number s b now by space under due).moments

pub returns-in_err-loaded-clause-applies : goal.returns-in_err-loaded-clause-applies
returns-in_err-loaded-clause-applies g c = λ o number s b now by space under due.
    let why = c.in_err-loaded.field-0.0 in
    let is : IsErrAnd c.from_residual.result (λ e. e ≡ why) = search rules in
    does_failed c.from_residual.result (λ e. e ≡ why) is (at_moment {P = BetweenGroups o s} b now due.between) (λ m between. between_may o s m between) c.in_err-loaded.ensures.same

pub returns-in_err-loaded-clause-recovers : goal.returns-in_err-loaded-clause-recovers
returns-in_err-loaded-clause-recovers g c = λ o number s b now by space under due. weaker (λ m may. groups_recover o number s due.opened m may) (returns-in_err-loaded-clause-applies g c o number s b now by space under due).moments

pub returns-in_err-loaded-clause-refused : goal.returns-in_err-loaded-clause-refused
returns-in_err-loaded-clause-refused g c =
    let r = c.args.round.now in
    let old = g.D.Disk.past c.args.disk.now in
    let P : OpenRefuse → List Event → Type 0 = HasRefusedPage c.args.ring.now c.args.header.now.algorithm r.info c.args.notes.now (has_later c.args.notes.now c.args.last.now) r.from r.end in
    let why = c.in_err-loaded.field-0.0 in
    let is : IsErrAnd c.from_residual.result (λ e. e ≡ why) = search rules in
    handed (IsByPage P old) c.from_residual.result why is (by_page_run P old why c.in_err-loaded.ensures.refused)

pub returns-in_err-next-clause-applies : goal.returns-in_err-next-clause-applies
returns-in_err-next-clause-applies g c = λ o number s b now by space under due.
    let r = c.args.round.now in
    let has = has_later c.args.notes.now c.args.last.now in
    let sealable = c.in_ok-loaded.ensures.due o number s b now by space (part_round o number s has r.info.space r.from r.end c.in_ok-loaded.loaded.end b c.in_ok-loaded.ensures.ends due) in
    let part : AreSealable o has r.info.space c.args.last.now r.from c.groups_end.result c.load_round.new.pool = part_sealable o has r.info.space c.args.last.now r.from c.in_ok-loaded.loaded.end r.from c.groups_end.result c.load_round.new.pool (omega arith) c.groups_end.ensures.ends sealable in
    let between = at_is c.in_ok-loaded.ensures.same (at_moment {P = BetweenGroups o s} b now due.between) in
    does_err _ _ c.from_residual-in_err-next.ensures.1
    (does_at (IsRangeApplied o s has r.info.space r.from c.groups_end.result) (MayApplyGroups o s) (IsApplyEvent r.info.space) (g.D.Disk.past c.args.disk.now) (g.D.Disk.past c.load_round.new.disk) (g.D.Disk.past c.write_groups.new.disk) _ c.in_ok-loaded.ensures.same (c.in_err-next.ensures.applies o s between under part))

pub returns-in_err-next-clause-recovers : goal.returns-in_err-next-clause-recovers
returns-in_err-next-clause-recovers g c = λ o number s b now by space under due. weaker (λ m may. groups_recover o number s due.opened m may) (returns-in_err-next-clause-applies g c o number s b now by space under due).moments

pub returns-in_err-next-clause-refused : goal.returns-in_err-next-clause-refused
returns-in_err-next-clause-refused g c =
    let r = c.args.round.now in
    let old = g.D.Disk.past c.args.disk.now in
    let P : OpenRefuse → List Event → Type 0 = HasRefusedPage c.args.ring.now c.args.header.now.algorithm r.info c.args.notes.now (has_later c.args.notes.now c.args.last.now) r.from r.end in
    let why = c.in_err-next.field-0.0 in
    let is : IsErrAnd c.from_residual-in_err-next.result (λ e. e ≡ why) = search rules in
    handed (IsByPage P old) c.from_residual-in_err-next.result why is (by_page_run P old why (read_by_disk old why c.in_err-next.ensures.refused))

pub returns-in-None-clause-applies : goal.returns-in-None-clause-applies
returns-in-None-clause-applies g c = λ o number s b now by space under due.
    let r = c.args.round.now in
    let has = has_later c.args.notes.now c.args.last.now in
    let old = g.D.Disk.past c.args.disk.now in
    let whole : c.in_ok-loaded.loaded.end ≡ r.end = subst (λ (f : Option OpenRefuse). IfNone f (c.in_ok-loaded.loaded.end ≡ r.end)) c.in-None.is c.in_ok-loaded.ensures.whole in
    let groups : c.groups_end.result ≡ c.in_ok-loaded.loaded.end = subst (λ (f : Option OpenRefuse). IfNone f (c.groups_end.result ≡ c.in_ok-loaded.loaded.end)) c.in-None.is c.groups_end.ensures.whole in
    let sealable = c.in_ok-loaded.ensures.due o number s b now by space (part_round o number s has r.info.space r.from r.end c.in_ok-loaded.loaded.end b c.in_ok-loaded.ensures.ends due) in
    let part : AreSealable o has r.info.space c.args.last.now r.from c.groups_end.result c.load_round.new.pool = part_sealable o has r.info.space c.args.last.now r.from c.in_ok-loaded.loaded.end r.from c.groups_end.result c.load_round.new.pool (omega arith) c.groups_end.ensures.ends sealable in
    let between = at_is c.in_ok-loaded.ensures.same (at_moment {P = BetweenGroups o s} b now due.between) in
    let does = does_at (IsRangeApplied o s has r.info.space r.from c.groups_end.result) (MayApplyGroups o s) (IsApplyEvent r.info.space) (g.D.Disk.past c.args.disk.now) (g.D.Disk.past c.load_round.new.disk) (g.D.Disk.past c.write_groups.new.disk) _ c.in_ok-loaded.ensures.same (c.in_ok-next.ensures.applies o s between under part) in
    does_to (λ q. IsRangeApplied o s has r.info.space r.from q) (MayApplyGroups o s) (IsApplyEvent r.info.space) old (g.D.Disk.past c.write_groups.new.disk) _ c.groups_end.result r.end (groups ∙ whole) does

pub returns-in-None-clause-recovers : goal.returns-in-None-clause-recovers
returns-in-None-clause-recovers g c = λ o number s b now by space under due. weaker (λ m may. groups_recover o number s due.opened m may) (returns-in-None-clause-applies g c o number s b now by space under due).moments

pub returns-in-None-clause-texts : goal.returns-in-None-clause-texts
returns-in-None-clause-texts g c =
    let r = c.args.round.now in
    let whole : c.in_ok-loaded.loaded.end ≡ r.end = subst (λ (f : Option OpenRefuse). IfNone f (c.in_ok-loaded.loaded.end ≡ r.end)) c.in-None.is c.in_ok-loaded.ensures.whole in
    at_each (λ es texts. subst (λ (q : ℕ). HaveTexts c.args.ring.now c.args.header.now.algorithm r.info c.args.notes.now (has_later c.args.notes.now c.args.last.now) r.from q es) whole texts) c.in_ok-loaded.ensures.texts

pub returns-in-None-clause-beside : goal.returns-in-None-clause-beside
returns-in-None-clause-beside g c =
    let r = c.args.round.now in
    let whole : c.in_ok-loaded.loaded.end ≡ r.end = subst (λ (f : Option OpenRefuse). IfNone f (c.in_ok-loaded.loaded.end ≡ r.end)) c.in-None.is c.in_ok-loaded.ensures.whole in
    let groups : c.groups_end.result ≡ c.in_ok-loaded.loaded.end = subst (λ (f : Option OpenRefuse). IfNone f (c.groups_end.result ≡ c.in_ok-loaded.loaded.end)) c.in-None.is c.groups_end.ensures.whole in
    subst (λ (q : ℕ). LeavesSince r.info.space r.from q (g.D.Disk.past c.args.disk.now) (g.D.Disk.past c.write_groups.new.disk)) (groups ∙ whole)
    (subst (λ (h : Past). LeavesSince r.info.space r.from c.groups_end.result h (g.D.Disk.past c.write_groups.new.disk)) c.in_ok-loaded.ensures.same c.in_ok-next.ensures.beside)

pub returns-in-None-clause-spaces : goal.returns-in-None-clause-spaces
returns-in-None-clause-spaces g c = λ z count file. c.in_ok-next.ensures.spaces z count (at_is c.in_ok-loaded.ensures.same file)

pub returns-in-None-clause-log : goal.returns-in-None-clause-log
returns-in-None-clause-log g c = λ n file. c.in_ok-next.ensures.log n (at_is c.in_ok-loaded.ensures.same file)

pub returns-clause-applies : goal.returns-clause-applies
returns-clause-applies g c = λ o number s b now by space under due.
    let r = c.args.round.now in
    let has = has_later c.args.notes.now c.args.last.now in
    let sealable = c.in_ok-loaded.ensures.due o number s b now by space (part_round o number s has r.info.space r.from r.end c.in_ok-loaded.loaded.end b c.in_ok-loaded.ensures.ends due) in
    let part : AreSealable o has r.info.space c.args.last.now r.from c.groups_end.result c.load_round.new.pool = part_sealable o has r.info.space c.args.last.now r.from c.in_ok-loaded.loaded.end r.from c.groups_end.result c.load_round.new.pool (omega arith) c.groups_end.ensures.ends sealable in
    let between = at_is c.in_ok-loaded.ensures.same (at_moment {P = BetweenGroups o s} b now due.between) in
    let does = does_at (IsRangeApplied o s has r.info.space r.from c.groups_end.result) (MayApplyGroups o s) (IsApplyEvent r.info.space) (g.D.Disk.past c.args.disk.now) (g.D.Disk.past c.load_round.new.disk) (g.D.Disk.past c.write_groups.new.disk) _ c.in_ok-loaded.ensures.same (c.in_ok-next.ensures.applies o s between under part) in
    record { moments = does.moments; adds = does.adds; next = tt }

pub returns-clause-recovers : goal.returns-clause-recovers
returns-clause-recovers g c = λ o number s b now by space under due. weaker (λ m may. groups_recover o number s due.opened m may) (returns-clause-applies g c o number s b now by space under due).moments

pub returns-clause-refused : goal.returns-clause-refused
returns-clause-refused g c =
    let r = c.args.round.now in
    let has = has_later c.args.notes.now c.args.last.now in
    let old = g.D.Disk.past c.args.disk.now in
    let end = c.in_ok-loaded.loaded.end in
    let ring = c.args.ring.now in
    let algorithm = c.args.header.now.algorithm in
    let P : OpenRefuse → List Event → Type 0 = HasRefusedPage ring algorithm r.info c.args.notes.now has r.from r.end in
    let why = c.in-Some.why in
    let (high, later, fault) = subst (λ (f : Option OpenRefuse). IfSome f (λ w. (end < r.end) × (has end ≡ true) × At (λ es. HasNoText ring algorithm r.info end (shown (Space r.info.space) page_bytes end es) w) old)) c.in-Some.is c.in_ok-loaded.ensures.fault in
    by_page_fault P old why (record { here = λ es now. record { page = end; low = c.in_ok-loaded.ensures.begins; high = high; later = later; before = c.in_ok-loaded.ensures.texts.here es now; fault = fault.here es now } })

pub returns-clause-cause : goal.returns-clause-cause
returns-clause-cause g c =
    let kind : IsHomeFaultKind c.in-Some.why = subst (λ (f : Option OpenRefuse). IfSome f IsHomeFaultKind) c.in-Some.is c.in_ok-loaded.ensures.kind in
    record { later = search rules; rose = λ is. absurd (no_disk_fault c.in-Some.why kind is) }

pub returns-in_default-clause-recorded : goal.returns-in_default-clause-recorded
returns-in_default-clause-recorded g c = λ o number s b now by space under due kept. does_nothing OutOfMemory (keeps_between o number s due.opened (g.D.Disk.past c.args.disk.now) (at_moment {P = BetweenGroups o s} b now due.between) kept)

pub returns-in_err-loaded-clause-recorded : goal.returns-in_err-loaded-clause-recorded
returns-in_err-loaded-clause-recorded g c = λ o number s b now by space under due kept.
    let why = c.in_err-loaded.field-0.0 in
    let is : IsErrAnd c.from_residual.result (λ e. e ≡ why) = search rules in
    does_failed c.from_residual.result (λ e. e ≡ why) is (keeps_between o number s due.opened (g.D.Disk.past c.args.disk.now) (at_moment {P = BetweenGroups o s} b now due.between) kept) (λ m k. k) c.in_err-loaded.ensures.same

pub returns-in_err-next-clause-recorded : goal.returns-in_err-next-clause-recorded
returns-in_err-next-clause-recorded g c = λ o number s b now by space under due kept.
    let r = c.args.round.now in
    let has = has_later c.args.notes.now c.args.last.now in
    let old = g.D.Disk.past c.args.disk.now in
    let sealable = c.in_ok-loaded.ensures.due o number s b now by space (part_round o number s has r.info.space r.from r.end c.in_ok-loaded.loaded.end b c.in_ok-loaded.ensures.ends due) in
    let part : AreSealable o has r.info.space c.args.last.now r.from c.groups_end.result c.load_round.new.pool = part_sealable o has r.info.space c.args.last.now r.from c.in_ok-loaded.loaded.end r.from c.groups_end.result c.load_round.new.pool (omega arith) c.groups_end.ensures.ends sealable in
    let between = at_is c.in_ok-loaded.ensures.same (at_moment {P = BetweenGroups o s} b now due.between) in
    let kept_then = at_is c.in_ok-loaded.ensures.same kept in
    does_err _ _ c.from_residual-in_err-next.ensures.1
    (does_from (KeepsOpeningRecord o) (IsApplyEvent r.info.space) (HasRecord o) old (g.D.Disk.past c.load_round.new.disk) (g.D.Disk.past c.write_groups.new.disk) _ c.in_ok-loaded.ensures.same (c.in_err-next.ensures.recorded o number s due.opened between kept_then under part))

pub returns-in-None-clause-recorded : goal.returns-in-None-clause-recorded
returns-in-None-clause-recorded g c = λ o number s b now by space under due kept.
    let r = c.args.round.now in
    let has = has_later c.args.notes.now c.args.last.now in
    let old = g.D.Disk.past c.args.disk.now in
    let sealable = c.in_ok-loaded.ensures.due o number s b now by space (part_round o number s has r.info.space r.from r.end c.in_ok-loaded.loaded.end b c.in_ok-loaded.ensures.ends due) in
    let part : AreSealable o has r.info.space c.args.last.now r.from c.groups_end.result c.load_round.new.pool = part_sealable o has r.info.space c.args.last.now r.from c.in_ok-loaded.loaded.end r.from c.groups_end.result c.load_round.new.pool (omega arith) c.groups_end.ensures.ends sealable in
    let between = at_is c.in_ok-loaded.ensures.same (at_moment {P = BetweenGroups o s} b now due.between) in
    let kept_then = at_is c.in_ok-loaded.ensures.same kept in
    does_from (KeepsOpeningRecord o) (IsApplyEvent r.info.space) (HasRecord o) old (g.D.Disk.past c.load_round.new.disk) (g.D.Disk.past c.write_groups.new.disk) _ c.in_ok-loaded.ensures.same (c.in_ok-next.ensures.recorded o number s due.opened between kept_then under part)

pub returns-clause-recorded : goal.returns-clause-recorded
returns-clause-recorded g c = λ o number s b now by space under due kept.
    let r = c.args.round.now in
    let has = has_later c.args.notes.now c.args.last.now in
    let old = g.D.Disk.past c.args.disk.now in
    let sealable = c.in_ok-loaded.ensures.due o number s b now by space (part_round o number s has r.info.space r.from r.end c.in_ok-loaded.loaded.end b c.in_ok-loaded.ensures.ends due) in
    let part : AreSealable o has r.info.space c.args.last.now r.from c.groups_end.result c.load_round.new.pool = part_sealable o has r.info.space c.args.last.now r.from c.in_ok-loaded.loaded.end r.from c.groups_end.result c.load_round.new.pool (omega arith) c.groups_end.ensures.ends sealable in
    let between = at_is c.in_ok-loaded.ensures.same (at_moment {P = BetweenGroups o s} b now due.between) in
    let kept_then = at_is c.in_ok-loaded.ensures.same kept in
    let does = does_from (KeepsOpeningRecord o) (IsApplyEvent r.info.space) (HasRecord o) old (g.D.Disk.past c.load_round.new.disk) (g.D.Disk.past c.write_groups.new.disk) _ c.in_ok-loaded.ensures.same (c.in_ok-next.ensures.recorded o number s due.opened between kept_then under part) in
    record { moments = does.moments; adds = does.adds; next = tt }
