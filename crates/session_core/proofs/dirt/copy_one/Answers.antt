use Rattle.std.proofs.Common.{◌≡◌, Result, ◌∙◌, sym, subst, ◌++◌, ◌∷◌, [], OnOk, List}
use Rattle.page_batch.specs.Batch.{BatchState, CopiedPage}
use Rattle.page_pool.specs.Pages.{name_of_dirty}
use Rattle.session_core.specs.Taking.{copied_of}
use Rattle.session_core.proofs.CopyLaws.{copied_is, found_dirty, typed_copy}
use Rattle.session_core.proofs.dirt.copy_one.Goals as goal

pub push-requires-clause-typed : goal.push-requires-clause-typed
push-requires-clause-typed c = typed_copy c.args.pool.now c.args.entry c.copy_held.new.into c.requires.typed (c.copy_held.ensures.page c.in-true.is)

pub returns-clause-added : goal.returns-clause-added
returns-clause-added c =
    subst (λ (copy : CopiedPage). OnOk c.push.result (c.push.new.self ≡ record (c.args.batch.now) { pages = c.args.batch.now.pages ++ copy ∷ [] }))
    (copied_is c.args.pool.now c.args.entry c.copy_held.new.into c.copy_held.ensures.long (c.copy_held.ensures.page c.in-true.is)) c.push.ensures.added

pub returns-clause-pool : goal.returns-clause-pool
returns-clause-pool c = c.copy_held.ensures.pool ∙ found_dirty (name_of_dirty c.args.entry) c.args.pool.now c.dirty-kept.ensures.kept c.requires.dirty
