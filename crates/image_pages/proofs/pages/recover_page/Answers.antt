use Rattle.std.proofs.Common.{◌≢◌, ◌∙◌, ◌<◌, ap, subst, ℕ, List, Option, arith}
use Rattle.redo_text.specs.declared.change.Change.{Change}
use Rattle.store_image.specs.View.{Logged}
use Rattle.store_model.specs.declared.contents.PlainPage.{PlainPage}
use Rattle.store_files.specs.Pages.{Used, Unused, page_held, mtr_acts}
use Rattle.image_pages.specs.Meaning.{IsUsedPage}
use Rattle.image_pages.proofs.Recovered.{text_recovers, unused_recovers, no_chosen, no_meaning, late_text, chosen_some, chosen_none}
use Rattle.image_pages.proofs.pages.recover_page.Goals as goal
use Rattle.store_image.specs.Recovers.{later_by}

other_page : (p : ℕ) → 0 < p → p ≢ 0
other_page p some z = omega (arith, z, some)

pub returns-in_default-clause-fault : goal.returns-in_default-clause-fault
returns-in_default-clause-fault c = λ salts same. no_chosen c.args.keys.now.header.now c.args.keys.now.ring.now c.args.log.now c.args.source.now.home.now c.args.source.now.double.now c.args.source.now.space c.args.source.now.number salts c.in_default.ensures

pub returns-in_default-chosen-clause-ok : goal.returns-in_default-chosen-clause-ok
returns-in_default-chosen-clause-ok c = λ salts same.
    unused_recovers c.args.keys.now.header.now c.args.keys.now.ring.now c.args.log.now c.args.source.now.home.now c.args.source.now.double.now c.args.source.now.space c.args.source.now.number salts (page_held c.in_ok-later_page.field-0) (other_page c.args.source.now.number c.requires.number)
    (chosen_none c.args.source.now.home.now c.args.source.now.double.now c.args.source.now.space c.args.source.now.number c.chosen_bytes.result c.in-Some.chosen c.chosen_bytes.ensures c.in-Some.is c.in_default-chosen.is)
    (c.in_ok-later_page.ensures ∙ ap (λ (run : List (Logged (List Change))). later_by mtr_acts 0 run c.args.source.now.space c.args.source.now.number Unused) c.run.ensures)

pub returns-then-end-lsn-clause-fault : goal.returns-then-end-lsn-clause-fault
returns-then-end-lsn-clause-fault c = λ salts same.
    let end = c.end.ensures.value in
    let lsn = c.be64_at-lsn.ensures in
    let late = c.if-end-lsn.true in
    late_text c.args.keys.now.header.now c.args.keys.now.ring.now c.args.log.now c.args.source.now.home.now c.args.source.now.double.now c.args.source.now.space c.args.source.now.number salts c.in-Some-chosen.text.now
    (chosen_some c.args.source.now.home.now c.args.source.now.double.now c.args.source.now.space c.args.source.now.number c.chosen_bytes.result c.in-Some.chosen c.in-Some-chosen.text c.chosen_bytes.ensures c.in-Some.is c.in-Some-chosen.is) (omega (arith, end, lsn, late))

pub returns-in_default-2-clause-fault : goal.returns-in_default-2-clause-fault
returns-in_default-2-clause-fault c = λ salts same.
    let none = subst (λ (o : Option PlainPage). IsUsedPage c.args.keys.now.header.now c.args.keys.now.ring.now c.args.source.now.space c.args.source.now.number c.args.keys.now.salt.now c.in-Some-chosen.text.now o) c.in_default-2.is c.in_ok-page.ensures in
    let end = c.end.ensures.value in
    let lsn = c.be64_at-lsn.ensures in
    let within = c.if-end-lsn.false in
    no_meaning c.args.keys.now.header.now c.args.keys.now.ring.now c.args.log.now c.args.source.now.home.now c.args.source.now.double.now c.args.source.now.space c.args.source.now.number salts c.in-Some-chosen.text.now c.args.keys.now.key_id c.args.keys.now.salt.now c.text_fault-fault.result
    (other_page c.args.source.now.number c.requires.number) c.requires.key_id same
    (chosen_some c.args.source.now.home.now c.args.source.now.double.now c.args.source.now.space c.args.source.now.number c.chosen_bytes.result c.in-Some.chosen c.in-Some-chosen.text c.chosen_bytes.ensures c.in-Some.is c.in-Some-chosen.is)
    (omega (arith, end, lsn, within)) (none salts same) c.text_fault-fault.ensures

pub returns-clause-ok : goal.returns-clause-ok
returns-clause-ok c = λ salts same.
    let means = subst (λ (o : Option PlainPage). IsUsedPage c.args.keys.now.header.now c.args.keys.now.ring.now c.args.source.now.space c.args.source.now.number c.args.keys.now.salt.now c.in-Some-chosen.text.now o) c.in-Some-2.is c.in_ok-page.ensures in
    let end = c.end.ensures.value in
    let lsn = c.be64_at-lsn.ensures in
    let within = c.if-end-lsn.false in
    text_recovers c.args.keys.now.header.now c.args.keys.now.ring.now c.args.log.now c.args.source.now.home.now c.args.source.now.double.now c.args.source.now.space c.args.source.now.number salts c.in-Some-chosen.text.now (Used c.in-Some-2.page) (page_held c.in_ok-later_page-2.field-0)
    (chosen_some c.args.source.now.home.now c.args.source.now.double.now c.args.source.now.space c.args.source.now.number c.chosen_bytes.result c.in-Some.chosen c.in-Some-chosen.text c.chosen_bytes.ensures c.in-Some.is c.in-Some-chosen.is)
    (means salts same) (omega (arith, end, lsn, within))
    (c.in_ok-later_page-2.ensures ∙ (λ i. later_by mtr_acts (lsn i) (c.run-2.ensures i) c.args.source.now.space c.args.source.now.number (Used c.in-Some-2.page)))
