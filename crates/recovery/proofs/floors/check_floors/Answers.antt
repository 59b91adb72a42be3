use Rattle.std.proofs.Common.{◌≤◌, refl, arith, length}
use Rattle.std.proofs.lemmas.List.{drop_more}
use Rattle.doublewrite.specs.Restore.{no_space}
use Rattle.space_head.specs.declared.space.SpaceInfo.{SpaceInfo}
use Rattle.recovery.specs.Stages.{IsAbove}
use Rattle.recovery.proofs.WalkSteps.{all_more, all_whole, first_at}
use Rattle.recovery.proofs.floors.check_floors.Goals as goal

pub returns-then-active-space-clause-refused : goal.returns-then-active-space-clause-refused
returns-then-active-space-clause-refused c =
    let xs = c.args.spaces.now in
    let i = c.loop-space.space-index in (
      refl,
      first_at (λ (info : SpaceInfo). info.floor ≤ c.args.active) (IsAbove c.args.active _ _) xs i _ _ c.loop-space.invariant (drop_more xs i no_space (omega (arith, c.loop-space-test.true)))
          (record { space_is = refl; floor_is = refl; above = c.if-active-space.true }),
    )

pub loop-space-preserved : goal.loop-space-preserved
loop-space-preserved c =
    let xs = c.args.spaces.now in
    let i = c.loop-space.space-index in
    all_more (λ (info : SpaceInfo). info.floor ≤ c.args.active) xs i _ _ c.loop-space.invariant (drop_more xs i no_space (omega (arith, c.loop-space-test.true))) (omega (arith, c.if-active-space.false))

pub returns-clause-ok : goal.returns-clause-ok
returns-clause-ok c = all_whole (λ (info : SpaceInfo). info.floor ≤ c.args.active) c.args.spaces.now c.loop-space.space-index (omega (arith, c.loop-space-test.false)) c.loop-space.invariant
