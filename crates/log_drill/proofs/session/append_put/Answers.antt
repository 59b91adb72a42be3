use Rattle.std.proofs.Common.{sym, ap, subst}
use Rattle.redo_text.specs.declared.key.RedoKey.{RedoKey}
use Rattle.redo_log.specs.State.{LogState}
use Rattle.redo_log.specs.Blocks.{IsStoreKey}
use Rattle.log_drill.proofs.Sessions.{append_keeps}
use Rattle.log_drill.proofs.session.append_put.Goals as goal

pub returns-in-Ok-append-clause-journal : goal.returns-in-Ok-append-clause-journal
returns-in-Ok-append-clause-journal c = λ keys count es has k.
    let e = c.in-Ok-append.ensures in
    append_keeps keys count es c.args.log.now k c.append.new.self c.in-Ok.mtr c.session_key.result (subst (λ (key : RedoKey). IsStoreKey keys key) (sym c.session_key.ensures.is) has) (ap (λ (w : LogState). w.blocks) (sym e.added)) e.open e.fits e.ready e.journal e.recorded
