use Rattle.std.proofs.Common.{List, [], ◌∷◌, ◌++◌, rules}
use Rattle.redo_text.specs.Text.{AreAllowed, IsAllowed}
use Rattle.redo_text.specs.declared.change.Change.{Change}
use Rattle.redo_text.specs.declared.change.Change.TheVariants.{Kind}
use Rattle.page_pool.proofs.tests.kinds.Goals as goal

one_more : (cs : List Change) (c : Change) → AreAllowed cs → IsAllowed c → AreAllowed (cs ++ c ∷ [])
one_more [] c are is = (is, tt)
one_more (d ∷ ds) c are is = (are.0, one_more ds c are.1 is)

pub loop-page-preserved : goal.loop-page-preserved
loop-page-preserved c =
    let allowed : IsAllowed (Kind 5 c.loop-page.page 6) = search rules in
    rw c.in_ok-push.ensures.items (one_more c.loop-page.changes.items (Kind 5 c.loop-page.page 6) c.loop-page.invariant allowed)
