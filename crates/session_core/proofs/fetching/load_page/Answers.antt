use Rattle.std.proofs.Common.{◌≡◌, ◌∙◌, true≢false, Ok, Some, sym, subst}
use Rattle.aes_core.specs.declared.algorithm.Algorithm.{Algorithm}
use Rattle.disk_model.proofs.Moments.{at_each}
use Rattle.page_pool.specs.Pages.{plain_page}
use Rattle.session_core.specs.Reading.{FromHome, Held, IsHomeRead, NotUsed}
use Rattle.session_core.specs.Spaces.{space_with_id}
use Rattle.session_core.proofs.PoolLaws.{held_found, pool_after}
use Rattle.session_core.proofs.SpaceLaws.{below_found, file_of, page_within}
use Rattle.session_core.proofs.fetching.load_page.Goals as goal

pub returns-then-copy_held-clause-page : goal.returns-then-copy_held-clause-page
returns-then-copy_held-clause-page g c = Held _ (c.copy_held.ensures.page c.if-copy_held.true)

pub returns-then-is_unused-clause-page : goal.returns-then-is_unused-clause-page
returns-then-is_unused-clause-page g c = NotUsed (sym c.copy_held.ensures.held ∙ c.if-copy_held.false) (sym c.home.ensures ∙ c.is_unused.ensures.yes c.if-is_unused.true)

pub fetch_page-requires-clause-inside : goal.fetch_page-requires-clause-inside
fetch_page-requires-clause-inside g c =
    let found : space_with_id c.args.store.now.spaces c.args.name.space ≡ Some c.in-Some.info = sym c.info.ensures.value ∙ c.in-Some.is in
    at_each (λ es files. page_within c.in-Some.info c.args.name.page es (file_of c.args.store.now.spaces c.args.name.space c.in-Some.info es found files.spaces_there) (below_found c.args.store.now.spaces c.args.name.space c.args.name.page c.in-Some.info c.requires.page found)) c.requires.files

pub hold_read-requires-clause-apart : goal.hold_read-requires-clause-apart
hold_read-requires-clause-apart g c = held_found c.args.name c.args.pool.now c.copy_held.new.pool c.copy_held.ensures.pool ∙ sym c.copy_held.ensures.held ∙ c.if-copy_held.false

pub returns-in-Ok-clause-page : goal.returns-in-Ok-clause-page
returns-in-Ok-clause-page g c =
    let found : space_with_id c.args.store.now.spaces c.args.name.space ≡ Some c.in-Some.info = sym c.info.ensures.value ∙ c.in-Some.is in
    let read = c.in-Ok.ensures.fetched in
    FromHome c.in-Some.info c.fetch_page.new.into read.0 (sym c.copy_held.ensures.held ∙ c.if-copy_held.false)
    (λ unused. true≢false (sym (c.is_unused.ensures.no (c.home.ensures ∙ unused)) ∙ c.if-is_unused.false)) found
    (subst (λ (a : Algorithm). IsHomeRead c.args.keys.now a c.in-Some.info c.args.name.page (g.D.Disk.past c.args.disk.now.disk) c.fetch_page.new.into (Ok read.0)) c.algorithm.ensures read.1)

pub returns-in-Ok-clause-pool : goal.returns-in-Ok-clause-pool
returns-in-Ok-clause-pool g c =
    let found : space_with_id c.args.store.now.spaces c.args.name.space ≡ Some c.in-Some.info = sym c.info.ensures.value ∙ c.in-Some.is in
    let apart = sym c.copy_held.ensures.held ∙ c.if-copy_held.false in
    let read = c.in-Ok.ensures.fetched in
    let page = FromHome c.in-Some.info c.fetch_page.new.into read.0 apart
    (λ unused. true≢false (sym (c.is_unused.ensures.no (c.home.ensures ∙ unused)) ∙ c.if-is_unused.false)) found
    (subst (λ (a : Algorithm). IsHomeRead c.args.keys.now a c.in-Some.info c.args.name.page (g.D.Disk.past c.args.disk.now.disk) c.fetch_page.new.into (Ok read.0)) c.algorithm.ensures read.1) in
    pool_after c.args.keys.now c.args.store.now (g.D.Disk.past c.args.disk.now.disk) c.args.name (plain_page c.fetch_page.new.into) c.args.pool.now c.copy_held.new.pool c.hold_read.new.pool apart c.copy_held.ensures.pool page c.hold_read.ensures
