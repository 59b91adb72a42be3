use Rattle.std.proofs.Common.{◌∙◌, ℕ, List, Option, ap, subst}
use Rattle.byte_list.specs.Fields.{be64_at}
use Rattle.redo_text.specs.declared.change.Change.{Change}
use Rattle.space_head.specs.declared.space.SpaceInfo.{SpaceInfo}
use Rattle.store_image.specs.View.{Logged}
use Rattle.store_files.specs.Pages.{Head, mtr_acts, mtr_names}
use Rattle.image_pages.specs.Meaning.{IsHeadText}
use Rattle.image_pages.proofs.Recovered.{head_means, no_head_means}
use Rattle.image_pages.proofs.SlotLaws.{gives_none, gives_page}
use Rattle.image_pages.proofs.slots.text_gives_head.Goals as goal
use Rattle.store_files.proofs.ContentsOnce.{one_head}
use Rattle.store_image.specs.Recovers.{later_by, IsNamedBy}

pub returns-in_default : goal.returns-in_default
returns-in_default c = λ header keys salt.
    let none = subst (λ (o : Option SpaceInfo). IsHeadText c.args.space c.args.text.now o) c.in_default.is c.in_ok-info.ensures in
    gives_none header keys c.args.log.now c.args.space 0 salt c.args.text.now (Head c.args.wanted.now) (λ salts same h. no_head_means header keys salts c.args.space c.args.text.now none h)

pub returns : goal.returns
returns c = λ header keys salt.
    let lsn = c.be64_at-lsn.ensures in
    let head = subst (λ (o : Option SpaceInfo). IsHeadText c.args.space c.args.text.now o) c.in-Some.is c.in_ok-info.ensures in
    let named : IsNamedBy mtr_names c.args.log.now.run c.args.space 0 (be64_at c.args.text.now 16) =
    subst (λ (n : ℕ). IsNamedBy mtr_names c.args.log.now.run c.args.space 0 n) lsn (subst (λ (run : List (Logged (List Change))). IsNamedBy mtr_names run c.args.space 0 c.be64_at-lsn.result) c.run.ensures (c.is_named.ensures.yes c.if-not-is_named.false)) in
    gives_page header keys c.args.log.now c.args.space 0 salt c.args.text.now (Head c.in-Some.info) (Head c.args.wanted.now) (Head c.later_head-info.result) c.same_info.result (λ salts same. head_means header keys salts c.args.space c.args.text.now c.in-Some.info head) named
    (c.later_head-info.ensures ∙ (λ i. later_by mtr_acts (lsn i) (c.run-2.ensures i) c.args.space 0 (Head c.in-Some.info)))
    (λ yes. ap Head (c.same_info.ensures.yes yes)) (λ other same. c.same_info.ensures.no other (one_head c.later_head-info.result c.args.wanted.now same))
