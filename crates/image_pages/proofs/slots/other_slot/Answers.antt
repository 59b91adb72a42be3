use Rattle.std.proofs.Common.{Bool, subst}
use Rattle.store_files.specs.Pages.{page_held}
use Rattle.image_pages.specs.Recovering.{GivesPage}
use Rattle.image_pages.proofs.SlotLaws.{differs, agrees, no_live, agree_more}
use Rattle.image_pages.proofs.slots.other_slot.Goals as goal
use Rattle.image_pages.proofs.slots.other_slot.Goals.{in-Some+in_ok-text_gives+else-not-branch, in_default}

pub returns-then-not-branch-clause-differs : goal.returns-then-not-branch-clause-differs
returns-then-not-branch-clause-differs c =
    differs c.args.keys.now.header.now c.args.keys.now.ring.now c.args.log.now c.args.source.now.home.now c.args.source.now.double.now c.args.source.now.space c.args.source.now.number c.args.keys.now.salt.now (page_held c.args.wanted.now) c.loop-index.index c.in-Some.text.now c.in-Some.ensures.1
    (subst (λ (b : Bool). GivesPage c.args.keys.now.header.now c.args.keys.now.ring.now c.args.log.now c.args.source.now.space c.args.source.now.number c.args.keys.now.salt.now c.in-Some.text.now (page_held c.args.wanted.now) b) c.if-not-branch.true c.in_ok-text_gives.ensures)

pub loop-index-preserved : goal.loop-index-preserved
loop-index-preserved c =
    agree_more c.args.keys.now.header.now c.args.keys.now.ring.now c.args.log.now c.args.source.now.home.now c.args.source.now.double.now c.args.source.now.space c.args.source.now.number c.args.keys.now.salt.now (page_held c.args.wanted.now) c.loop-index.index c.loop-index.invariant
    (elim c.match-live_text.branch [
      | in-Some+in_ok-text_gives+else-not-branch w ↦
          agrees c.args.keys.now.header.now c.args.keys.now.ring.now c.args.log.now c.args.source.now.home.now c.args.source.now.double.now c.args.source.now.space c.args.source.now.number c.args.keys.now.salt.now (page_held c.args.wanted.now) c.loop-index.index w.in-Some.text.now w.in-Some.ensures.1
          (subst (λ (b : Bool). GivesPage c.args.keys.now.header.now c.args.keys.now.ring.now c.args.log.now c.args.source.now.space c.args.source.now.number c.args.keys.now.salt.now w.in-Some.text.now (page_held c.args.wanted.now) b) w.if-not-branch.false w.in_ok-text_gives.ensures)
      | in_default w ↦ no_live c.args.keys.now.header.now c.args.keys.now.ring.now c.args.log.now c.args.source.now.home.now c.args.source.now.double.now c.args.source.now.space c.args.source.now.number c.args.keys.now.salt.now (page_held c.args.wanted.now) c.loop-index.index w.in_default.ensures
    ])
