use Rattle.std.proofs.Common.{◌≡◌, ◌∙◌, ℕ, ◌+◌, ◌*◌, ◌<◌, List, [], ◌∷◌, length, drop, slice_index_or, refl, sym, ap, subst, false, arith, inl, inr}
use Rattle.std.proofs.lemmas.List.{drop_more}
use Rattle.std.proofs.lemmas.Result.{on_ok_weaker, on_err_weaker}
use Rattle.disk_model.specs.Event.{Event, Make, Sync, Write}
use Rattle.disk_model.specs.Past.{Is, MayGrow, Past, grow}
use Rattle.disk_model.specs.declared.names.FileName.TheVariants.{Log, Double, Space}
use Rattle.disk_model.proofs.Moments.{at_grow, at_is}
use Rattle.space_head.specs.declared.space.SpaceInfo.{SpaceInfo}
use Rattle.store_form.specs.Creation.{files_begun, first_pages_written, past_after}
use Rattle.store_form.specs.Said.{header_said}
use Rattle.store_form.proofs.CreationLoops.{all_done, at_err, files_have_places, header_inside, log_is_fresh, stop_in_check, stop_in_files, stop_in_header, stop_in_pages}
use Rattle.store_form.proofs.making.write_store.Goals as goal

pub returns-in_err-begin_files-clause-err : goal.returns-in_err-begin_files-clause-err
returns-in_err-begin_files-clause-err g c =
    let old : Past = g.D.Disk.past c.args.disk.now in
    at_err c.from_residual.result (stop_in_files (header_said c.args.header.now) c.args.spaces.now old old old old (g.D.Disk.past c.begin_files.new.disk) c.in_err-begin_files.ensures.err)

pub write_first_pages-requires-clause-places : goal.write_first_pages-requires-clause-places
write_first_pages-requires-clause-places g c = at_is c.in_ok-begin_files.ensures.ok (files_have_places (header_said c.args.header.now) c.args.spaces.now (g.D.Disk.past c.args.disk.now) c.requires.can c.requires.absent)

pub returns-in_err-write_first_pages-clause-err : goal.returns-in_err-write_first_pages-clause-err
returns-in_err-write_first_pages-clause-err g c =
    let old : Past = g.D.Disk.past c.args.disk.now in
    at_err c.from_residual-in_err-write_first_pages.result
    (stop_in_pages (header_said c.args.header.now) c.args.spaces.now old (g.D.Disk.past c.begin_files.new.disk) old old (g.D.Disk.past c.write_first_pages.new.disk) c.in_ok-begin_files.ensures.ok c.in_err-write_first_pages.ensures.err)

pub write_front_block-requires-clause-made : goal.write_front_block-requires-clause-made
write_front_block-requires-clause-made g c = λ is.
    let h = header_said c.args.header.now in
    let ss = c.args.spaces.now in
    at_is (c.in_ok-write_first_pages.ensures.ok ∙ ap (past_after (first_pages_written ss)) c.in_ok-begin_files.ensures.ok) (log_is_fresh h ss (g.D.Disk.past c.args.disk.now) c.requires.can c.requires.absent)

pub returns-in_err-write_front_block-clause-err : goal.returns-in_err-write_front_block-clause-err
returns-in_err-write_front_block-clause-err g c =
    let old : Past = g.D.Disk.past c.args.disk.now in
    let m2 : Past = g.D.Disk.past c.write_first_pages.new.disk in
    let new : Past = g.D.Disk.past c.write_front_block.new.disk in
    at_err c.from_residual-in_err-write_front_block.result
    (stop_in_check (header_said c.args.header.now) c.args.spaces.now old (g.D.Disk.past c.begin_files.new.disk) m2 old new c.in_ok-begin_files.ensures.ok c.in_ok-write_first_pages.ensures.ok
    c.in_err-write_front_block.ensures.err)

pub write_front_block-requires-2-clause-inside : goal.write_front_block-requires-2-clause-inside
write_front_block-requires-2-clause-inside g c = λ is. header_inside c.args.header.now.blocks (g.D.Disk.past c.write_front_block.new.disk) (c.in_ok-write_front_block.ensures.places refl)

pub returns-clause-ok : goal.returns-clause-ok
returns-clause-ok g c =
    let old : Past = g.D.Disk.past c.args.disk.now in
    on_ok_weaker c.write_front_block-2.result
    (λ e. all_done (header_said c.args.header.now) c.args.spaces.now old (g.D.Disk.past c.begin_files.new.disk) (g.D.Disk.past c.write_first_pages.new.disk) (g.D.Disk.past c.write_front_block.new.disk) (g.D.Disk.past c.write_front_block-2.new.disk)
    c.in_ok-begin_files.ensures.ok c.in_ok-write_first_pages.ensures.ok c.in_ok-write_front_block.ensures.ok e) c.write_front_block-2.ensures.ok

pub returns-clause-err : goal.returns-clause-err
returns-clause-err g c =
    let old : Past = g.D.Disk.past c.args.disk.now in
    on_err_weaker c.write_front_block-2.result
    (λ stop. stop_in_header (header_said c.args.header.now) c.args.spaces.now old (g.D.Disk.past c.begin_files.new.disk) (g.D.Disk.past c.write_first_pages.new.disk) (g.D.Disk.past c.write_front_block.new.disk) (g.D.Disk.past c.write_front_block-2.new.disk)
    c.in_ok-begin_files.ensures.ok c.in_ok-write_first_pages.ensures.ok c.in_ok-write_front_block.ensures.ok stop) c.write_front_block-2.ensures.err
