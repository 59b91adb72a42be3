use Rattle.std.proofs.Common.{◌≡◌, ◌<◌, ◌∙◌, length, ap, sym, subst, arith}
use Rattle.std.specs.List.{All}
use Rattle.page_pool.specs.Pages.{PoolState, held_page, is_dirty}
use Rattle.page_pool.specs.declared.names.PageName.{PageName}
use Rattle.session_core.specs.Dirty.{IsInRun, name_of_page}
use Rattle.session_core.proofs.CleanedLaws.{cleaned_dirty, cleaned_held, cleaned_within}
use Rattle.session_core.proofs.CurrentLaws.{cleaned_more}
use Rattle.session_core.proofs.cleaning.clean_pages.Goals as goal

pub loop-i-preserved : goal.loop-i-preserved
loop-i-preserved c =
    let name : PageName = name_of_page c.args.space c.number.result in
    let kept = c.dirty-kept.ensures.kept in
    let before = c.loop-i.invariant in
    let is = c.clean.ensures in
    let lt : c.loop-i.i < length c.args.texts.now = omega arith in
    record {
      cleaned = cleaned_more c.args.space c.args.texts.now c.loop-i.i c.number.result c.lsn_of.result c.get-text.result.now c.loop-i.pool c.clean.new.self _ lt c.get-text.ensures c.number.ensures c.lsn_of.ensures is before.cleaned;
      held = λ other page at. before.held other page (cleaned_held name c.lsn_of.result c.loop-i.pool kept other page (ap (λ (p : PoolState). held_page other p) (sym is) ∙ at));
      dirty = λ other at. before.dirty other (cleaned_dirty name c.lsn_of.result c.loop-i.pool kept other (ap (λ (p : PoolState). is_dirty other p.dirty) (sym is) ∙ at));
      within = λ log all. subst (λ (p : PoolState). All (IsInRun log) p.dirty.entries) (sym is) (cleaned_within name c.lsn_of.result c.loop-i.pool kept log (before.within log all));
    }
