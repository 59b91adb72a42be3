use Rattle.std.proofs.Common.{◌≡◌, IsErrAnd, arith, rules}
use Rattle.keyd_cli.specs.Ends.{IsInputEnd}
use Rattle.keyd_cli.proofs.Endings.{handed}
use Rattle.keyd_cli.proofs.Runnable.{schedule-runnable}
use Rattle.keyd_cli.proofs.command.drill_input.Goals as goal

pub drill-requires-clause-small : goal.drill-requires-clause-small
drill-requires-clause-small g c =
    (schedule-runnable c.args.plan.now.space.space c.args.plan.now.space.pages c.deref.result.now c.in_ok-statements.statements.items (omega (arith, c.requires.fits.id_to)) (omega (arith, c.requires.fits.pages_to)) c.in_ok-statements.ensures.ok).0

pub drill-requires-clause-room : goal.drill-requires-clause-room
drill-requires-clause-room g c =
    (schedule-runnable c.args.plan.now.space.space c.args.plan.now.space.pages c.deref.result.now c.in_ok-statements.statements.items (omega (arith, c.requires.fits.id_to)) (omega (arith, c.requires.fits.pages_to)) c.in_ok-statements.ensures.ok).1

pub returns-in_err-text-clause-err : goal.returns-in_err-text-clause-err
returns-in_err-text-clause-err g c =
    let is : IsErrAnd c.from_residual.result (λ e. e ≡ c.in_err-text.field-0.0) = search rules in
    handed (IsInputEnd c.args.plan.now (g.S.Source.left c.args.input.now) (g.S.Source.faults c.args.input.now) (g.S.Source.faults c.read_input.new.input)) c.from_residual.result c.in_err-text.field-0.0 is (c.in_err-text.ensures.err c.args.plan.now)
