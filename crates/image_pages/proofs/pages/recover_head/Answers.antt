use Rattle.std.proofs.Common.{◌∙◌, subst, refl, Option, arith}
use Rattle.space_head.specs.declared.space.SpaceInfo.{SpaceInfo}
use Rattle.store_files.specs.Pages.{Head, mtr_acts}
use Rattle.image_pages.specs.Meaning.{IsHeadText}
use Rattle.image_pages.proofs.Recovered.{text_recovers, no_chosen, no_head, no_head_meaning, head_means, no_head_means, late_text, chosen_some, chosen_none}
use Rattle.image_pages.proofs.pages.recover_head.Goals as goal
use Rattle.store_image.specs.Recovers.{later_by}

pub returns-in_default-clause-fault : goal.returns-in_default-clause-fault
returns-in_default-clause-fault c = λ header keys salt salts same. no_chosen header keys c.args.log.now c.args.home.now c.args.double.now c.args.space 0 salts c.in_default.ensures

pub returns-in_default-chosen-clause-fault : goal.returns-in_default-chosen-clause-fault
returns-in_default-chosen-clause-fault c = λ header keys salt salts same.
    no_head header keys c.args.log.now c.args.home.now c.args.double.now c.args.space 0 salts refl
    (chosen_none c.args.home.now c.args.double.now c.args.space 0 c.chosen_bytes.result c.in-Some.chosen c.chosen_bytes.ensures c.in-Some.is c.in_default-chosen.is)

pub returns-then-end-lsn-clause-fault : goal.returns-then-end-lsn-clause-fault
returns-then-end-lsn-clause-fault c = λ header keys salt salts same.
    let end = c.end.ensures.value in
    let lsn = c.be64_at-lsn.ensures in
    let late = c.if-end-lsn.true in
    late_text header keys c.args.log.now c.args.home.now c.args.double.now c.args.space 0 salts c.in-Some-chosen.text.now
    (chosen_some c.args.home.now c.args.double.now c.args.space 0 c.chosen_bytes.result c.in-Some.chosen c.in-Some-chosen.text c.chosen_bytes.ensures c.in-Some.is c.in-Some-chosen.is) (omega (arith, end, lsn, late))

pub returns-in_default-2-clause-fault : goal.returns-in_default-2-clause-fault
returns-in_default-2-clause-fault c = λ header keys salt salts same.
    let none = subst (λ (o : Option SpaceInfo). IsHeadText c.args.space c.in-Some-chosen.text.now o) c.in_default-2.is c.in_ok-info.ensures in
    let end = c.end.ensures.value in
    let lsn = c.be64_at-lsn.ensures in
    let within = c.if-end-lsn.false in
    no_head_meaning header keys c.args.log.now c.args.home.now c.args.double.now c.args.space 0 salts c.in-Some-chosen.text.now refl
    (chosen_some c.args.home.now c.args.double.now c.args.space 0 c.chosen_bytes.result c.in-Some.chosen c.in-Some-chosen.text c.chosen_bytes.ensures c.in-Some.is c.in-Some-chosen.is)
    (omega (arith, end, lsn, within)) (no_head_means header keys salts c.args.space c.in-Some-chosen.text.now none)

pub returns-clause-ok : goal.returns-clause-ok
returns-clause-ok c = λ header keys salt salts same.
    let head = subst (λ (o : Option SpaceInfo). IsHeadText c.args.space c.in-Some-chosen.text.now o) c.in-Some-2.is c.in_ok-info.ensures in
    let end = c.end.ensures.value in
    let lsn = c.be64_at-lsn.ensures in
    let within = c.if-end-lsn.false in
    text_recovers header keys c.args.log.now c.args.home.now c.args.double.now c.args.space 0 salts c.in-Some-chosen.text.now (Head c.in-Some-2.info) (Head c.later_head.result)
    (chosen_some c.args.home.now c.args.double.now c.args.space 0 c.chosen_bytes.result c.in-Some.chosen c.in-Some-chosen.text c.chosen_bytes.ensures c.in-Some.is c.in-Some-chosen.is)
    (head_means header keys salts c.args.space c.in-Some-chosen.text.now c.in-Some-2.info head) (omega (arith, end, lsn, within))
    (c.later_head.ensures ∙ (λ i. later_by mtr_acts (lsn i) (c.run.ensures i) c.args.space 0 (Head c.in-Some-2.info)))
