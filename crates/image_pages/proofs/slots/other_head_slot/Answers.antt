use Rattle.std.proofs.Common.{Bool, subst}
use Rattle.store_files.specs.Pages.{Head}
use Rattle.image_pages.specs.Recovering.{GivesPage}
use Rattle.image_pages.proofs.SlotLaws.{differs, agrees, no_live, agree_more}
use Rattle.image_pages.proofs.slots.other_head_slot.Goals as goal
use Rattle.image_pages.proofs.slots.other_head_slot.Goals.{in-Some+in_ok-text_gives_head+else-not-branch, in_default}

pub returns-then-not-branch-clause-differs : goal.returns-then-not-branch-clause-differs
returns-then-not-branch-clause-differs c = λ header keys salt.
    differs header keys c.args.log.now c.args.home.now c.args.double.now c.args.space 0 salt (Head c.args.wanted.now) c.loop-index.index c.in-Some.text.now c.in-Some.ensures.1
    (subst (λ (b : Bool). GivesPage header keys c.args.log.now c.args.space 0 salt c.in-Some.text.now (Head c.args.wanted.now) b) c.if-not-branch.true (c.in_ok-text_gives_head.ensures header keys salt))

pub loop-index-preserved : goal.loop-index-preserved
loop-index-preserved c = λ header keys salt.
    agree_more header keys c.args.log.now c.args.home.now c.args.double.now c.args.space 0 salt (Head c.args.wanted.now) c.loop-index.index (c.loop-index.invariant header keys salt)
    (elim c.match-live_text.branch [
      | in-Some+in_ok-text_gives_head+else-not-branch w ↦
          agrees header keys c.args.log.now c.args.home.now c.args.double.now c.args.space 0 salt (Head c.args.wanted.now) c.loop-index.index w.in-Some.text.now w.in-Some.ensures.1
          (subst (λ (b : Bool). GivesPage header keys c.args.log.now c.args.space 0 salt w.in-Some.text.now (Head c.args.wanted.now) b) w.if-not-branch.false (w.in_ok-text_gives_head.ensures header keys salt))
      | in_default w ↦ no_live header keys c.args.log.now c.args.home.now c.args.double.now c.args.space 0 salt (Head c.args.wanted.now) c.loop-index.index w.in_default.ensures
    ])
