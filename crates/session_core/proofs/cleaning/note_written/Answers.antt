use Rattle.std.proofs.Common.{◌≡◌, ◌∙◌, sym, subst}
use Rattle.page_pool.specs.Pages.{PoolState}
use Rattle.session_core.specs.Dirty.{AreMarked, HasPendingPage}
use Rattle.session_core.specs.Putting.{homes_after_put}
use Rattle.session_core.specs.Spaces.{StoreSpaces}
use Rattle.session_core.proofs.MarkLaws.{marked_all, pending_all}
use Rattle.session_core.proofs.cleaning.note_written.Goals as goal

pub returns-clause-marks : goal.returns-clause-marks
returns-clause-marks c =
    let store = c.args.store.now in
    let need = c.requires.within in
    let all = marked_all store.header.spaces c.args.space c.args.version need.0 c.args.texts.now store c.args.pool.now c.spaces-spaces.ensures.kept.have need.1 need.2 c.dirty-listed.ensures.once c.requires.dirty c.requires.marks in
    subst (λ (s : StoreSpaces). AreMarked s c.clean_pages.new.pool.dirty) (sym c.set_homes.ensures) (subst (λ (q : PoolState). AreMarked (homes_after_put c.args.space c.args.version c.args.texts.now store) q.dirty) (sym c.clean_pages.ensures.cleaned) all)

pub returns-clause-typed : goal.returns-clause-typed
returns-clause-typed c = λ typed name page is. typed name page (c.clean_pages.ensures.held name page is)

pub returns-clause-pending : goal.returns-clause-pending
returns-clause-pending c = λ log none need.
    subst (λ (q : PoolState). HasPendingPage log q.dirty.entries) (sym c.clean_pages.ensures.cleaned) (pending_all c.args.space log c.args.texts.now c.args.pool.now none need)
