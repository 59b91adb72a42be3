use Rattle.std.proofs.Common.{rules, ◌≡◌, ℕ, ◌+◌, ◌-◌, ◌<◌, ◌≤◌, ◌∙◌, Bool, MatchBool, true, length, slice_index_or, Option, sym, refl, ap, subst, arith}
use Rattle.std.specs.Prelude.{IfNone}
use Rattle.disk_model.specs.declared.names.FileName.TheVariants.{Space}
use Rattle.disk_model.proofs.Moments.{at_each, at_is}
use Rattle.doublewrite.specs.declared.refuse.OpenRefuse.{OpenRefuse}
use Rattle.page_places.specs.Texts.{pages}
use Rattle.places.proofs.FileSteps.{file_inside}
use Rattle.recovery.specs.Loading.{HoldsHomes, IsPageLoaded}
use Rattle.recovery.specs.Notes.{no_note}
use Rattle.recovery.specs.Rounds.{count_in, has_later}
use Rattle.recovery.proofs.LoadSteps.{holds_next, holds_none, homes_next, homes_none, is_fresh, room}
use Rattle.recovery.proofs.RoundSteps.{count_next, count_to}
use Rattle.recovery.proofs.loading.load_pages.Goals as goal

pub load_later-requires-clause-inside : goal.load_later-requires-clause-inside
load_later-requires-clause-inside g c =
    let p = c.loop-page.page in
    let lt : p < length c.args.notes.now = omega (arith, c.loop-page-test.true, c.loop-page.auto.page-end, c.requires.noted) in
    at_is c.loop-page.invariant.same (at_each (λ es has. file_inside (Space c.args.round.now.info.space) (pages (length c.args.notes.now)) p lt 16384 refl es has) c.requires.file)

pub load_later-requires-clause-few : goal.load_later-requires-clause-few
load_later-requires-clause-few g c = λ later.
    let count = c.loop-page.invariant.holds.count in
    let fits = room (has_later c.args.notes.now c.args.last.now) c.args.round.now.from c.loop-page.page c.args.round.now.end c.loop-page.invariant.begins (omega (arith, c.loop-page-test.true, c.loop-page.auto.page-end)) later c.requires.few in
    omega (arith, count, fits)

pub load_later-requires-clause-fresh : goal.load_later-requires-clause-fresh
load_later-requires-clause-fresh g c =
    is_fresh (has_later c.args.notes.now c.args.last.now) c.args.round.now.info.space c.args.round.now.from c.loop-page.page c.loop-page.pool c.loop-page.invariant.begins c.loop-page.invariant.holds

pub load_later-requires-clause-alone : goal.load_later-requires-clause-alone
load_later-requires-clause-alone g c = c.loop-page.invariant.holds.clean

pub returns-in_err-fault-clause-calls : goal.returns-in_err-fault-clause-calls
returns-in_err-fault-clause-calls g c =
    let most = count_to (has_later c.args.notes.now c.args.last.now) c.args.round.now.from c.loop-page.page c.args.round.now.end c.loop-page.invariant.begins (omega (arith, c.loop-page-test.true, c.loop-page.auto.page-end)) in
    omega (arith, c.loop-page.invariant.calls, c.load_later.ensures.calls, most)

pub returns-in-Some-clause-calls : goal.returns-in-Some-clause-calls
returns-in-Some-clause-calls g c =
    let most = count_to (has_later c.args.notes.now c.args.last.now) c.args.round.now.from c.loop-page.page c.args.round.now.end c.loop-page.invariant.begins (omega (arith, c.loop-page-test.true, c.loop-page.auto.page-end)) in
    omega (arith, c.loop-page.invariant.calls, c.load_later.ensures.calls, most)

pub loop-page-init : goal.loop-page-init
loop-page-init g c = record {
  begins = omega arith;
  holds = holds_none (has_later c.args.notes.now c.args.last.now) c.args.round.now.info.space c.args.round.now.from c.args.pool.now c.requires.empty;
  homes = record { here = λ es is. homes_none c.args.ring.now c.args.algorithm c.args.round.now.info c.args.notes.now (has_later c.args.notes.now c.args.last.now) c.args.round.now.from es c.args.pool.now };
  same = refl;
  long = c.requires.long;
  calls = omega arith;
  faults = refl;
  memory = refl;
  later = g.met.D.Disk.is_later_reflexive c.args.disk.now;
}

pub loop-page-preserved : goal.loop-page-preserved
loop-page-preserved g c =
    let r = c.args.round.now in
    let p = c.loop-page.page in
    let has = has_later c.args.notes.now c.args.last.now in
    let low = c.loop-page.invariant.begins in
    let high : p < r.end = omega (arith, c.loop-page-test.true, c.loop-page.auto.page-end) in
    let past = g.D.Disk.past c.loop-page.disk in
    let loaded = subst (λ (o : Option OpenRefuse). IfNone o (MatchBool (has p) (IsPageLoaded c.args.ring.now c.args.algorithm r.info (slice_index_or c.args.notes.now p no_note) p c.loop-page.pool c.load_later.new.pool past) (c.load_later.new.pool ≡ c.loop-page.pool))) c.in_default.is c.in_ok-fault.ensures.held in
    let more = count_next has r.from p low in
    record {
      begins = omega (arith, low);
      holds = holds_next has r.info.space r.from p c.loop-page.pool low c.loop-page.invariant.holds c.args.ring.now c.args.algorithm r.info (slice_index_or c.args.notes.now p no_note) c.load_later.new.pool past refl loaded r.end high c.requires.few;
      homes = record {
        here = λ es now. homes_next c.args.ring.now c.args.algorithm r.info c.args.notes.now has r.from es p c.loop-page.pool (c.loop-page.invariant.homes.here es now) (slice_index_or c.args.notes.now p no_note) c.load_later.new.pool past refl (c.loop-page.invariant.same ∙ now) loaded;
      };
      same = c.load_later.ensures.same ∙ c.loop-page.invariant.same;
      long = c.load_later.ensures.long;
      calls = omega (arith, c.loop-page.invariant.calls, c.load_later.ensures.calls, more);
      faults = search rules;
      memory = c.in_ok-fault.ensures.no_refusal ∙ c.loop-page.invariant.memory;
      later = g.met.D.Disk.is_later_transitive _ _ _ c.loop-page.invariant.later c.load_later.ensures.later;
    }

pub returns-clause-homes : goal.returns-clause-homes
returns-clause-homes g c =
    let r = c.args.round.now in
    let ended : c.loop-page.page ≡ r.end = omega (arith, c.loop-page-test.false, c.loop-page.auto.page-end, c.requires.order, c.loop-page.invariant.begins) in
    at_each (λ es homes. subst (λ (q : ℕ). HoldsHomes c.args.ring.now c.args.algorithm r.info c.args.notes.now (has_later c.args.notes.now c.args.last.now) r.from q c.loop-page.pool es) ended homes) c.loop-page.invariant.homes
