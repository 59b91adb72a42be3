use Rattle.std.proofs.Common.{◌≡◌, ◌∙◌, true, true≢false, sym}
use Rattle.page_pool.specs.Pages.{is_dirty}
use Rattle.page_pool.specs.declared.names.PageName.{PageName}
use Rattle.session_core.specs.Dirty.{name_of_page}
use Rattle.session_core.proofs.CopyLaws.{dirty_held, found_dirty}
use Rattle.session_core.proofs.CurrentLaws.{dirty_listed}
use Rattle.session_core.proofs.current.is_current.Goals as goal

pub unreachable-requires : goal.unreachable-requires
unreachable-requires c =
    let name : PageName = name_of_page c.args.space c.page.result in
    let dirty : is_dirty name c.args.pool.now.dirty ≡ true = dirty_listed name c.lsn.result c.args.pool.now c.dirty.result.now c.dirty.ensures.entries c.if-not-is_dirty_at.ensures in
    true≢false (sym (dirty_held name c.args.pool.now dirty) ∙ sym c.in_default.ensures.held)

pub returns-clause-pool : goal.returns-clause-pool
returns-clause-pool c =
    let name : PageName = name_of_page c.args.space c.page.result in
    let dirty : is_dirty name c.args.pool.now.dirty ≡ true = dirty_listed name c.lsn.result c.args.pool.now c.dirty.result.now c.dirty.ensures.entries c.if-not-is_dirty_at.ensures in
    c.copy_held.ensures.pool ∙ found_dirty name c.args.pool.now c.dirty-kept.ensures.kept dirty
