use Rattle.std.proofs.Common.{◌≡◌, ℕ, List, subst, arith, rules}
use Rattle.std.specs.Prelude.{IsErrAnd}
use Rattle.store_files.specs.Pages.{page_held}
use Rattle.image_reader.specs.PageRefusals.{IsPageRefusal, IsPagesRefusal}
use Rattle.image_reader.specs.Spaces.{PageHolds}
use Rattle.image_reader.specs.declared.refusal.Refusal.TheVariants.{OutOfMemory}
use Rattle.image_reader.proofs.PageAnswers.{pages_memory, pages_more}
use Rattle.image_reader.proofs.recovering.pages_of.Goals as goal
use Rattle.cause_core.proofs.Causes.{handed}

pub returns-in_err-push-clause-fault : goal.returns-in_err-push-clause-fault
returns-in_err-push-clause-fault c =
    let is : IsErrAnd c.from_residual-in_err-push.result (λ e. e ≡ OutOfMemory) = search rules in
    handed (IsPagesRefusal c.args.keys.now.header.now c.args.keys.now.ring.now c.args.log.now c.args.bytes.now c.args.double.now c.args.keys.now.salt.now c.args.space c.args.pages) c.from_residual-in_err-push.result OutOfMemory is
    (pages_memory c.args.keys.now.header.now c.args.keys.now.ring.now c.args.log.now c.args.bytes.now c.args.double.now c.args.keys.now.salt.now c.args.space c.loop-number.list.items c.args.pages c.loop-number.number c.loop-number.invariant.1 c.loop-number-test.true c.loop-number.invariant.0)

pub returns-in_err-page-clause-fault : goal.returns-in_err-page-clause-fault
returns-in_err-page-clause-fault c =
    let is : IsErrAnd c.from_residual.result (λ e. e ≡ c.in_err-page.field-0.0) = search rules in
    let long = c.loop-number.invariant.1 in
    let fault : IsPageRefusal c.args.keys.now.header.now c.args.keys.now.ring.now c.args.log.now c.place-home.result.now c.args.double.now c.args.keys.now.salt.now c.args.space c.loop-number.number c.in_err-page.field-0.0 = c.in_err-page.ensures.fault in
    handed (IsPagesRefusal c.args.keys.now.header.now c.args.keys.now.ring.now c.args.log.now c.args.bytes.now c.args.double.now c.args.keys.now.salt.now c.args.space c.args.pages) c.from_residual.result c.in_err-page.field-0.0 is
    (record {
      page = c.loop-number.number;
      some = omega (arith, long);
      within = c.loop-number-test.true;
      held = c.loop-number.list.items;
      long = long;
      before = c.loop-number.invariant.0;
      is = subst (λ (b : List ℕ). IsPageRefusal c.args.keys.now.header.now c.args.keys.now.ring.now c.args.log.now b c.args.double.now c.args.keys.now.salt.now c.args.space c.loop-number.number c.in_err-page.field-0.0) c.place-home.ensures.bytes fault;
    })

pub loop-number-preserved : goal.loop-number-preserved
loop-number-preserved c =
    let home = c.place-home.ensures.bytes in
    let page : PageHolds c.args.keys.now.header.now c.args.keys.now.ring.now c.args.log.now c.place-home.result.now c.args.double.now c.args.keys.now.salt.now c.args.space c.loop-number.number (page_held c.in_ok-page.page) = c.in_ok-page.ensures.ok in
    let held = subst (λ (b : List ℕ). PageHolds c.args.keys.now.header.now c.args.keys.now.ring.now c.args.log.now b c.args.double.now c.args.keys.now.salt.now c.args.space c.loop-number.number (page_held c.in_ok-page.page)) home page in
    pages_more c.args.keys.now.header.now c.args.keys.now.ring.now c.args.log.now c.args.bytes.now c.args.double.now c.args.keys.now.salt.now c.args.space c.loop-number.list.items c.push.new.self.items c.in_ok-page.page c.loop-number.number c.loop-number.invariant.1 c.loop-number.invariant.0 held c.in_ok-push.ensures.items
