use Rattle.std.proofs.Common.{◌∙◌, ℕ, List, Option, ap, subst}
use Rattle.byte_list.specs.Fields.{be64_at}
use Rattle.redo_text.specs.declared.change.Change.{Change}
use Rattle.store_image.specs.View.{Logged}
use Rattle.store_model.specs.declared.contents.PlainPage.{PlainPage}
use Rattle.store_files.specs.Pages.{Used, page_held, mtr_acts, mtr_names}
use Rattle.image_pages.specs.Meaning.{IsUsedPage}
use Rattle.image_pages.proofs.SlotLaws.{gives_page}
use Rattle.image_pages.proofs.slots.text_gives.Goals as goal
use Rattle.store_files.proofs.ContentsOnce.{one_held}
use Rattle.store_image.specs.Recovers.{later_by, IsNamedBy}

pub returns : goal.returns
returns c =
    let lsn = c.be64_at-lsn.ensures in
    let means = subst (λ (o : Option PlainPage). IsUsedPage c.args.keys.now.header.now c.args.keys.now.ring.now c.args.space c.args.number c.args.keys.now.salt.now c.args.text.now o) c.in-Some.is c.in_ok-page.ensures in
    let named : IsNamedBy mtr_names c.args.log.now.run c.args.space c.args.number (be64_at c.args.text.now 16) =
    subst (λ (n : ℕ). IsNamedBy mtr_names c.args.log.now.run c.args.space c.args.number n) lsn (subst (λ (run : List (Logged (List Change))). IsNamedBy mtr_names run c.args.space c.args.number c.be64_at-lsn.result) c.run.ensures (c.is_named.ensures.yes c.if-not-is_named.false)) in
    gives_page c.args.keys.now.header.now c.args.keys.now.ring.now c.args.log.now c.args.space c.args.number c.args.keys.now.salt.now c.args.text.now (Used c.in-Some.page) (page_held c.args.wanted.now) (page_held c.in_ok-page-2.page) c.is_same.result means named
    (c.in_ok-page-2.ensures ∙ (λ i. later_by mtr_acts (lsn i) (c.run-2.ensures i) c.args.space c.args.number (Used c.in-Some.page)))
    (λ yes. ap page_held (c.is_same.ensures.yes yes)) (λ other same. c.is_same.ensures.no other (one_held c.in_ok-page-2.page c.args.wanted.now same))
