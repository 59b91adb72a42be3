use Rattle.std.proofs.Common.{ℕ, List, Option, sym, subst, refl}
use Rattle.std.specs.Prelude.{IfSome}
use Rattle.key_ring.specs.Ring.{RingEntry}
use Rattle.store_files.specs.Header.{HeldHeader}
use Rattle.store_files.specs.Pages.{Head}
use Rattle.image_pages.specs.Recovering.{AgreeBelow, SlotDiffers, bound_of}
use Rattle.image_reader.specs.PageRefusals.{IsPageRefusal}
use Rattle.image_reader.specs.declared.refusal.Refusal.{Refusal}
use Rattle.image_reader.proofs.PageAnswers.{fault_refusal, slot_refusal}
use Rattle.image_reader.proofs.recovering.head_of.Goals as goal

pub returns-in-Err-clause-fault : goal.returns-in-Err-clause-fault
returns-in-Err-clause-fault c = λ header keys salt.
    subst (λ (r : Refusal). IsPageRefusal header keys c.args.log.now c.args.home.now c.args.double.now salt c.args.space 0 r) (sym c.refused.ensures)
    (fault_refusal header keys c.args.log.now c.args.home.now c.args.double.now c.args.space 0 salt c.in-Err.fault (c.in-Err.ensures.fault header keys salt))

pub returns-in-Some-clause-fault : goal.returns-in-Some-clause-fault
returns-in-Some-clause-fault c = λ header keys salt.
    let log = c.args.log.now in
    let home = c.args.home.now in
    let double = c.args.double.now in
    let x = Head c.in-Ok.info in
    slot_refusal header keys log home double c.args.space 0 salt x c.in-Some.slot (c.in-Ok.ensures.ok header keys salt)
    (subst (λ (o : Option ℕ). AgreeBelow header keys log home double c.args.space 0 salt x (bound_of o)) c.in-Some.is (c.in_ok-other_head_slot-in-Ok.ensures.agree header keys salt))
    ((subst (λ (o : Option ℕ). IfSome o (λ index. (header : HeldHeader) (keys : List RingEntry) (salt : List ℕ) → SlotDiffers header keys log home double c.args.space 0 salt x index)) c.in-Some.is c.in_ok-other_head_slot-in-Ok.ensures.differs) header keys salt)
