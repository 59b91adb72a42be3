use Rattle.std.proofs.Common.{rules, ◌≡◌, length, ◌∙◌, ap, arith, [], ◌∷◌}
use Rattle.redo_text.specs.declared.change.Change.TheVariants.{Put}
use Rattle.keyd_cli.proofs.Schedules.{put_fits, put_is}
use Rattle.keyd_cli.proofs.schedule.put_act.Goals as goal

pub returns-then-not-is_fitting : goal.returns-then-not-is_fitting
returns-then-not-is_fitting c session page at bytes is =
    let plan = c.args.plan.now in
    let n = c.in-Some.numbers in
    let read = c.in-Ok.bytes.items in
    let fits = put_fits plan.space plan.pages c.args.line.now n.session n.page n.at n.hex.now read session page at bytes c.in-Some.ensures c.in-Ok.ensures.ok is in
    let size : c.len.result ≡ length read = search (rules, c.len.ensures, c.in-Ok.bytes.ok) in
    let fit = c.is_fitting.ensures.1 (omega (arith, size, fits.0), omega (arith, size, fits.1), omega (arith, size, fits.2)) in
    search (rules, fit)

pub returns : goal.returns
returns c =
    let plan = c.args.plan.now in
    let n = c.in-Some.numbers in
    let read = c.in-Ok.bytes.items in
    let size : c.len.result ≡ length read = search (rules, c.len.ensures, c.in-Ok.bytes.ok) in
    let fit = c.is_fitting.ensures.0 (search rules) in
    put_is plan.space plan.pages c.args.line.now n.session n.page n.at n.hex.now read c.of-mtr.result c.in-Some.ensures c.in-Ok.ensures.ok
    (omega (arith, size, fit.0), omega (arith, size, fit.1), omega (arith, size, fit.2)) (c.of-mtr.ensures ∙ c.in_ok-vec.ensures.items ∙ ap (λ b. Put plan.space n.page n.at b ∷ []) c.of.ensures)
