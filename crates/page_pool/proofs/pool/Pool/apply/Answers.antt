use Rattle.std.proofs.Common.{[], ◌∷◌, ◌∙◌, ap}
use Rattle.redo_text.specs.Changes.{change_of}
use Rattle.page_pool.specs.Pages.{held_page}
use Rattle.page_pool.proofs.FoldLaws.{held_folds}
use Rattle.page_pool.proofs.HeldLaws.{held_changed}
use Rattle.page_pool.proofs.pool.Pool.apply.Goals as goal

pub returns-clause-holds : goal.returns-clause-holds
returns-clause-holds c name = ap (held_page name) c.change_page.ensures.changed ∙ held_changed c.args.lsn c.args.first (change_of c.args.change.now) c.args.self.now name c.check_room.ensures.kept.one_each

pub returns-clause-folded : goal.returns-clause-folded
returns-clause-folded c spaces name has held =
    returns-clause-holds c name ∙ held_folds (change_of c.args.change.now ∷ []) name spaces (held_page name c.args.self.now) (c.requires, tt) has held
