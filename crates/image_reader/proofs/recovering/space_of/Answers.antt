use Rattle.std.proofs.Common.{◌≡◌, ℕ, List, ap, subst, ◌∙◌, rules}
use Rattle.std.specs.Prelude.{IsErrAnd}
use Rattle.places.specs.Places.{place}
use Rattle.image_reader.specs.PageRefusals.{IsHeadRefusal, IsPagesRefusal, IsSpaceRefusal, AtHead, AtInfo, AtPage}
use Rattle.image_reader.specs.Spaces.{HeadHolds, PagesHold}
use Rattle.image_reader.specs.declared.refusal.Refusal.TheVariants.{Head}
use Rattle.image_reader.proofs.PageAnswers.{space_holds}
use Rattle.image_reader.proofs.recovering.space_of.Goals as goal
use Rattle.cause_core.proofs.Causes.{handed}

pub returns-in_err-info-clause-fault : goal.returns-in_err-info-clause-fault
returns-in_err-info-clause-fault c =
    let is : IsErrAnd c.from_residual.result (λ e. e ≡ c.in_err-info.field-0.0) = search rules in
    let fault : IsHeadRefusal c.args.log.now c.place.result.now c.args.double.now c.space-id.result c.in_err-info.field-0.0 = c.in_err-info.ensures.fault in
    let moved = subst (λ (n : ℕ). IsHeadRefusal c.args.log.now (place 16384 0 c.args.bytes.now) c.args.double.now n c.in_err-info.field-0.0) c.space-id.ensures (subst (λ (b : List ℕ). IsHeadRefusal c.args.log.now b c.args.double.now c.space-id.result c.in_err-info.field-0.0) c.place.ensures.bytes fault) in
    handed (IsSpaceRefusal c.args.header.now c.args.keys.now c.args.log.now c.args.bytes.now c.args.double.now c.args.space.now) c.from_residual.result c.in_err-info.field-0.0 is
    (AtHead moved)

pub returns-then-not-is_space-clause-fault : goal.returns-then-not-is_space-clause-fault
returns-then-not-is_space-clause-fault c =
    let head : HeadHolds c.args.log.now c.place.result.now c.args.double.now c.space-id.result c.in_ok-info.info = c.in_ok-info.ensures.ok in
    let moved = subst (λ (n : ℕ). HeadHolds c.args.log.now (place 16384 0 c.args.bytes.now) c.args.double.now n c.in_ok-info.info) c.space-id.ensures (subst (λ (b : List ℕ). HeadHolds c.args.log.now b c.args.double.now c.space-id.result c.in_ok-info.info) c.place.ensures.bytes head) in
    AtInfo c.in_ok-info.info moved (c.is_space.ensures.no c.if-not-is_space.true) (ap Head c.space-id.ensures)

pub returns-in_err-pages-clause-fault : goal.returns-in_err-pages-clause-fault
returns-in_err-pages-clause-fault c =
    let is : IsErrAnd c.from_residual-in_err-pages.result (λ e. e ≡ c.in_err-pages.field-0.0) = search rules in
    let head : HeadHolds c.args.log.now c.place.result.now c.args.double.now c.space-id.result c.in_ok-info.info = c.in_ok-info.ensures.ok in
    let moved = subst (λ (n : ℕ). HeadHolds c.args.log.now (place 16384 0 c.args.bytes.now) c.args.double.now n c.in_ok-info.info) c.space-id.ensures (subst (λ (b : List ℕ). HeadHolds c.args.log.now b c.args.double.now c.space-id.result c.in_ok-info.info) c.place.ensures.bytes head) in
    let fault : IsPagesRefusal c.args.header.now c.args.keys.now c.args.log.now c.args.bytes.now c.args.double.now c.in_ok-info.info.salt c.space-id.result c.pages.result c.in_err-pages.field-0.0 = c.in_err-pages.ensures.fault in
    let pages = subst (λ (n : ℕ). IsPagesRefusal c.args.header.now c.args.keys.now c.args.log.now c.args.bytes.now c.args.double.now c.in_ok-info.info.salt c.args.space.now.space n c.in_err-pages.field-0.0) c.pages.ensures
    (subst (λ (n : ℕ). IsPagesRefusal c.args.header.now c.args.keys.now c.args.log.now c.args.bytes.now c.args.double.now c.in_ok-info.info.salt n c.pages.result c.in_err-pages.field-0.0) c.space-id.ensures fault) in
    handed (IsSpaceRefusal c.args.header.now c.args.keys.now c.args.log.now c.args.bytes.now c.args.double.now c.args.space.now) c.from_residual-in_err-pages.result c.in_err-pages.field-0.0 is
    (AtPage c.in_ok-info.info moved (c.is_space.ensures.yes c.if-not-is_space.false) pages)

pub returns-clause-ok : goal.returns-clause-ok
returns-clause-ok c =
    let head : HeadHolds c.args.log.now c.place.result.now c.args.double.now c.space-id.result c.in_ok-info.info = c.in_ok-info.ensures.ok in
    let moved = subst (λ (n : ℕ). HeadHolds c.args.log.now (place 16384 0 c.args.bytes.now) c.args.double.now n c.in_ok-info.info) c.space-id.ensures (subst (λ (b : List ℕ). HeadHolds c.args.log.now b c.args.double.now c.space-id.result c.in_ok-info.info) c.place.ensures.bytes head) in
    let pages = c.in_ok-pages.pages in
    let each = subst (λ (n : ℕ). PagesHold c.args.header.now c.args.keys.now c.args.log.now c.args.bytes.now c.args.double.now c.in_ok-info.info.salt n pages) c.space-id.ensures c.in_ok-pages.ensures.ok in
    space_holds c.args.header.now c.args.keys.now c.args.log.now c.args.bytes.now c.args.double.now c.args.space.now c.in_ok-info.info moved (c.is_space.ensures.yes c.if-not-is_space.false) pages (c.in_ok-pages.ensures.long ∙ c.pages.ensures) each
