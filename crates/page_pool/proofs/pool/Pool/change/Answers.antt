use Rattle.std.proofs.Common.{List, ◌∙◌, ap}
use Rattle.redo_text.specs.declared.change.Change.{Change}
use Rattle.page_pool.specs.Pages.{held_page}
use Rattle.page_pool.specs.Changes.{held_after}
use Rattle.page_pool.proofs.FoldLaws.{held_folds}
use Rattle.page_pool.proofs.HeldLaws.{held_behind}
use Rattle.page_pool.proofs.pool.Pool.change.Goals as goal

pub returns-clause-holds : goal.returns-clause-holds
returns-clause-holds c name =
    ap (held_page name) c.change_all.ensures
    ∙ held_behind c.args.lsn c.args.first c.changes-changes.result.now c.args.self.now name c.check_room.ensures.kept.one_each
    ∙ ap (λ (cs : List Change). held_after cs name (held_page name c.args.self.now)) c.changes-changes.ensures

pub returns-clause-folded : goal.returns-clause-folded
returns-clause-folded c spaces name has held =
    returns-clause-holds c name ∙ held_folds c.args.mtr.now name spaces (held_page name c.args.self.now) c.requires has held
