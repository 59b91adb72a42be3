use Rattle.std.proofs.Common.{sym, ◌∙◌, refl, arith, length-set}
use Rattle.store_form.proofs.SpaceLists.{spaces_none, spaces_filled}
use Rattle.store_form.proofs.space_list.read_spaces.Goals as goal

pub loop-i-init : goal.loop-i-init
loop-i-init c = (sym (spaces_none c.args.block.now 40), refl)

pub loop-i-preserved : goal.loop-i-preserved
loop-i-preserved c =
    let e = c.read_space.ensures in (
      spaces_filled c.args.block.now c.loop-i.spaces c.loop-i.i c.read_space.result (omega (arith, c.loop-i.invariant.1, c.loop-i-test.true, c.requires.few)) c.loop-i.invariant.0
          (λ j. record { space = e.space j; pages = e.pages j; key_id = e.key_id j }),
      length-set c.loop-i.spaces c.loop-i.i c.read_space.result ∙ c.loop-i.invariant.1,
    )
