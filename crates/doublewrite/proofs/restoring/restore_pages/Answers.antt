use Rattle.std.proofs.Common.{◌≡◌, ◌+◌, ◌++◌, ◌∙◌, Ok, Some, List, length, true, if◌then◌else◌, ap, sym, refl, subst, arith, true≢false}
use Rattle.disk_model.specs.Event.{Event}
use Rattle.disk_model.proofs.Moments.{at_each}
use Rattle.disk_model.proofs.Layers.{does_err, so_far_none, so_far_more, so_far_then, so_far_done}
use Rattle.places.specs.Batches.{From}
use Rattle.doublewrite.specs.Restore.{PagesFilled, PagesStay}
use Rattle.doublewrite.specs.Events.{page_writes, is_any}
use Rattle.doublewrite.proofs.EventSteps.{at_error, at_behind, pages_none, next_calls, next_page, next_part, next_told, pages_calls}
use Rattle.doublewrite.proofs.RestoreSteps.{pages_begin, pages_now, stays_begin}
use Rattle.doublewrite.proofs.restoring.restore_pages.Goals as goal
use Rattle.doublewrite.proofs.restoring.restore_pages.Goals.{then-branch, else-branch}

pub loop-number-init : goal.loop-number-init
loop-number-init g c =
    let copies = c.args.copies.now in
    let info = c.args.info.now in
    let first = g.D.Disk.past c.args.disk.now in
    record {
      so_far = λ has. so_far_none (pages_now copies info 0 (omega arith) first) (pages_begin copies info first has);
      stays = stays_begin info first c.requires.places;
      untold = λ none. none;
      exact = record { here = λ s is. is ∙ ap (λ (l : List Event). Some (l ++ s)) (sym (pages_none copies info.space s)) };
      told = record { here = λ s is. sym (ap is_any (pages_none copies info.space s)) };
      calls = omega arith;
      told_calls = record { here = λ s is. omega arith };
      clean = λ is. refl;
      size = c.requires.size;
      faults = refl;
      memory = refl;
      later = g.met.D.Disk.is_later_reflexive c.args.disk.now;
    }

pub restore_page-requires-clause-places : goal.restore_page-requires-clause-places
restore_page-requires-clause-places g c = at_behind (λ s m (w : PagesStay c.args.info.now c.loop-number.number s m). w.file) c.loop-number.invariant.untold c.loop-number.invariant.stays

pub returns-in_err-restore_page-clause-does : goal.returns-in_err-restore_page-clause-does
returns-in_err-restore_page-clause-does g c = λ has.
    let first = g.D.Disk.past c.args.disk.now in
    let so_far = c.loop-number.invariant.so_far has in
    does_err _ _ c.from_residual.ensures.1 (so_far_then so_far (c.in_err-restore_page.ensures.does first so_far.at))

pub returns-in_err-restore_page-clause-part : goal.returns-in_err-restore_page-clause-part
returns-in_err-restore_page-clause-part g c =
    let first = g.D.Disk.past c.args.disk.now in
    let info = c.args.info.now in
    at_error c.from_residual.result
    (next_part c.args.copies.now info c.loop-number.number first (g.D.Disk.past c.loop-number.disk) c.loop-number.invariant.exact c.loop-number.invariant.stays (g.D.Disk.past c.restore_page.new.disk) info.pages
    (omega (arith, c.loop-number-test.true)) c.in_err-restore_page.ensures.part)

pub loop-number-preserved : goal.loop-number-preserved
loop-number-preserved g c =
    let first = g.D.Disk.past c.args.disk.now in
    let copies = c.args.copies.now in
    let info = c.args.info.now in
    let k = c.loop-number.number in
    let mid = g.D.Disk.past c.loop-number.disk in
    let before = c.loop-number.is_written in
    let told = next_told copies info k first mid c.loop-number.invariant.exact c.loop-number.invariant.stays in
    record {
      exact = next_page copies info k first mid c.loop-number.invariant.exact c.loop-number.invariant.stays (g.D.Disk.past c.restore_page.new.disk) c.in_ok-restore_page.ensures.exact;
      told = elim c.if-branch.branch [
        | then-branch w ↦ told _ before _ (w.is_written-is ∙ ap (λ b. if b then true else before) (sym w.if-branch.true)) c.loop-number.invariant.told c.in_ok-restore_page.ensures.told
        | else-branch w ↦ told _ before _ (w.is_written-is ∙ ap (λ b. if b then true else before) (sym w.if-branch.false)) c.loop-number.invariant.told c.in_ok-restore_page.ensures.told
      ];
      calls = omega (arith, c.loop-number.invariant.calls, c.in_ok-restore_page.ensures.calls);
      told_calls = next_calls copies info k first mid c.loop-number.invariant.exact c.loop-number.invariant.stays _ _ _ c.loop-number.invariant.told_calls c.in_ok-restore_page.ensures.told_calls;
      so_far = λ has. let so_far = c.loop-number.invariant.so_far has in so_far_more so_far (c.in_ok-restore_page.ensures.does first so_far.at);
      stays = c.in_ok-restore_page.ensures.stays first c.loop-number.invariant.stays;
      untold = λ none. c.in_ok-restore_page.ensures.untold (c.loop-number.invariant.untold none);
      clean = λ is. elim c.if-branch.branch [
        | then-branch w ↦ absurd (true≢false (sym w.is_written-is ∙ is))
        | else-branch w ↦ c.in_ok-restore_page.ensures.same (ap Ok w.if-branch.false) ∙ c.loop-number.invariant.clean (sym w.is_written-is ∙ is)
      ];
      size = c.in_ok-restore_page.ensures.size;
      faults = c.in_ok-restore_page.ensures.no_fault ∙ c.loop-number.invariant.faults;
      memory = c.in_ok-restore_page.ensures.no_refusal ∙ c.loop-number.invariant.memory;
      later = g.met.D.Disk.is_later_transitive _ _ _ c.loop-number.invariant.later c.in_ok-restore_page.ensures.later;
    }

pub returns-clause-does : goal.returns-clause-does
returns-clause-does g c = λ has.
    let copies = c.args.copies.now in
    let info = c.args.info.now in
    let all : c.loop-number.number ≡ info.pages = omega (arith, c.loop-number.auto.number-end, c.loop-number-test.false) in
    so_far_done (λ es r. subst (λ n. From (PagesFilled copies info n) (g.D.Disk.past c.args.disk.now) es) all r) (c.loop-number.invariant.so_far has)

pub returns-clause-exact : goal.returns-clause-exact
returns-clause-exact g c =
    let copies = c.args.copies.now in
    let info = c.args.info.now in
    let all : c.loop-number.number ≡ info.pages = omega (arith, c.loop-number.auto.number-end, c.loop-number-test.false) in
    at_each (λ s is. is ∙ ap (λ n. Some (page_writes copies s info.space n ++ s)) all) c.loop-number.invariant.exact

pub returns-clause-told : goal.returns-clause-told
returns-clause-told g c =
    let copies = c.args.copies.now in
    let info = c.args.info.now in
    let all : c.loop-number.number ≡ info.pages = omega (arith, c.loop-number.auto.number-end, c.loop-number-test.false) in
    at_each (λ s is. is ∙ ap (λ n. is_any (page_writes copies s info.space n)) all) c.loop-number.invariant.told

-- ---- the calls

pub returns-in_err-restore_page-clause-told_calls : goal.returns-in_err-restore_page-clause-told_calls
returns-in_err-restore_page-clause-told_calls g c =
    let copies = c.args.copies.now in
    let info = c.args.info.now in
    let k = c.loop-number.number in
    at_each (λ s sum. omega (arith, sum, pages_calls copies info.space (k + 1) info.pages s (omega (arith, c.loop-number-test.true)), c.loop-number-test.true))
    (next_calls copies info k (g.D.Disk.past c.args.disk.now) (g.D.Disk.past c.loop-number.disk) c.loop-number.invariant.exact c.loop-number.invariant.stays _ _ _ c.loop-number.invariant.told_calls
    c.restore_page.ensures.told_calls)

pub returns-clause-told_calls : goal.returns-clause-told_calls
returns-clause-told_calls g c =
    let copies = c.args.copies.now in
    let info = c.args.info.now in
    let all : c.loop-number.number ≡ info.pages = omega (arith, c.loop-number.auto.number-end, c.loop-number-test.false) in
    at_each (λ s sum. omega (arith, sum, all, ap (λ n. length (page_writes copies s info.space n)) all)) c.loop-number.invariant.told_calls
