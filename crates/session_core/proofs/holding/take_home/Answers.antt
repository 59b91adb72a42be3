use Rattle.std.proofs.Common.{◌≡◌, ◌∙◌, Ok, Some, sym, subst}
use Rattle.aes_core.specs.declared.algorithm.Algorithm.{Algorithm}
use Rattle.disk_model.proofs.Moments.{at_each}
use Rattle.session_core.specs.Reading.{IsFetchFault, IsHomeRead}
use Rattle.session_core.specs.Holding.{Unread}
use Rattle.session_core.specs.Spaces.{space_with_id}
use Rattle.session_core.proofs.HoldLaws.{head_refused, taken_home}
use Rattle.session_core.proofs.SpaceLaws.{below_found, file_of, page_within}
use Rattle.session_core.proofs.holding.take_home.Goals as goal

pub fetch_page-requires-clause-inside : goal.fetch_page-requires-clause-inside
fetch_page-requires-clause-inside g c =
    let found : space_with_id c.args.store.now.spaces c.args.name.space ≡ Some c.in-Some.info = sym c.info.ensures.value ∙ c.in-Some.is in
    at_each (λ es files. page_within c.in-Some.info c.args.name.page es (file_of c.args.store.now.spaces c.args.name.space c.in-Some.info es found files.spaces_there) (below_found c.args.store.now.spaces c.args.name.space c.args.name.page c.in-Some.info c.requires.page found)) c.requires.files

pub returns-in-Ok-clause-taken : goal.returns-in-Ok-clause-taken
returns-in-Ok-clause-taken g c =
    let found : space_with_id c.args.store.now.spaces c.args.name.space ≡ Some c.in-Some.info = sym c.info.ensures.value ∙ c.in-Some.is in
    let read = c.in-Ok.ensures.fetched in
    taken_home c.args.keys.now c.args.store.now (g.D.Disk.past c.args.disk.now.disk) c.args.name c.in-Some.info c.fetch_page.new.into read.0 c.check_head.result found
    (subst (λ (a : Algorithm). IsHomeRead c.args.keys.now a c.in-Some.info c.args.name.page (g.D.Disk.past c.args.disk.now.disk) c.fetch_page.new.into (Ok read.0)) c.algorithm.ensures read.1) c.check_head.ensures.head

pub returns-in-Ok-clause-refused : goal.returns-in-Ok-clause-refused
returns-in-Ok-clause-refused g c =
    let found : space_with_id c.args.store.now.spaces c.args.name.space ≡ Some c.in-Some.info = sym c.info.ensures.value ∙ c.in-Some.is in
    let read = c.in-Ok.ensures.fetched in
    head_refused c.args.keys.now c.args.store.now (g.D.Disk.past c.args.disk.now.disk) c.args.name c.in-Some.info c.fetch_page.new.into read.0 c.check_head.result c.fetch_page.new.disk c.in-Ok.ensures.up found
    (subst (λ (a : Algorithm). IsHomeRead c.args.keys.now a c.in-Some.info c.args.name.page (g.D.Disk.past c.args.disk.now.disk) c.fetch_page.new.into (Ok read.0)) c.algorithm.ensures read.1) c.check_head.ensures.refused

pub returns-in-Err-clause-refused : goal.returns-in-Err-clause-refused
returns-in-Err-clause-refused g c =
    let found : space_with_id c.args.store.now.spaces c.args.name.space ≡ Some c.in-Some.info = sym c.info.ensures.value ∙ c.in-Some.is in
    Unread c.in-Some.info c.fetch_page.new.into c.in-Err.fault found
    (subst (λ (a : Algorithm). IsFetchFault c.args.keys.now a c.in-Some.info c.args.name.page (g.D.Disk.past c.args.disk.now.disk) c.fetch_page.new.disk c.fetch_page.new.into c.in-Err.fault) c.algorithm.ensures c.in-Err.ensures.fetched)
