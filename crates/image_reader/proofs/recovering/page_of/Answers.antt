use Rattle.std.proofs.Common.{ℕ, Option, sym, subst}
use Rattle.std.specs.Prelude.{IfSome}
use Rattle.store_files.specs.Pages.{page_held}
use Rattle.image_pages.specs.Recovering.{AgreeBelow, SlotDiffers, bound_of}
use Rattle.image_reader.specs.PageRefusals.{IsPageRefusal}
use Rattle.image_reader.specs.declared.refusal.Refusal.{Refusal}
use Rattle.image_reader.proofs.PageAnswers.{fault_refusal, slot_refusal}
use Rattle.image_reader.proofs.recovering.page_of.Goals as goal

pub returns-in-Err-clause-fault : goal.returns-in-Err-clause-fault
returns-in-Err-clause-fault c =
    subst (λ (r : Refusal). IsPageRefusal c.args.keys.now.header.now c.args.keys.now.ring.now c.args.log.now c.args.source.now.home.now c.args.source.now.double.now c.args.keys.now.salt.now c.args.source.now.space c.args.source.now.number r) (sym c.refused.ensures)
    (fault_refusal c.args.keys.now.header.now c.args.keys.now.ring.now c.args.log.now c.args.source.now.home.now c.args.source.now.double.now c.args.source.now.space c.args.source.now.number c.args.keys.now.salt.now c.in-Err.fault c.in-Err.ensures.fault)

pub returns-in-Some-clause-fault : goal.returns-in-Some-clause-fault
returns-in-Some-clause-fault c =
    let header = c.args.keys.now.header.now in
    let keys = c.args.keys.now.ring.now in
    let log = c.args.log.now in
    let home = c.args.source.now.home.now in
    let double = c.args.source.now.double.now in
    let salt = c.args.keys.now.salt.now in
    let x = page_held c.in-Ok.page in
    slot_refusal header keys log home double c.args.source.now.space c.args.source.now.number salt x c.in-Some.slot c.in-Ok.ensures.ok
    (subst (λ (o : Option ℕ). AgreeBelow header keys log home double c.args.source.now.space c.args.source.now.number salt x (bound_of o)) c.in-Some.is c.in_ok-slot-in-Ok.ensures.agree)
    (subst (λ (o : Option ℕ). IfSome o (SlotDiffers header keys log home double c.args.source.now.space c.args.source.now.number salt x)) c.in-Some.is c.in_ok-slot-in-Ok.ensures.differs)
