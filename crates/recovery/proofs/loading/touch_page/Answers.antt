use Rattle.recovery.proofs.PoolSteps.{touched}
use Rattle.recovery.proofs.loading.touch_page.Goals as goal

pub returns-in-Ok : goal.returns-in-Ok
returns-in-Ok c = touched c.args.space c.args.page c.args.pool.now c.apply.new.self c.requires.fresh c.requires.alone c.in-Ok.ensures.changed c.in-Ok.ensures.holds
