use Rattle.std.proofs.Common.{◌≡◌, ◌∙◌, ℕ, ◌+◌, ◌*◌, ◌<◌, List, [], ◌∷◌, length, drop, slice_index_or, sym, ap, subst, false, arith, inl, inr}
use Rattle.std.proofs.lemmas.List.{drop_more}
use Rattle.std.proofs.lemmas.Result.{on_ok_weaker, on_err_weaker}
use Rattle.disk_model.specs.Event.{Event, Make, Sync, Write}
use Rattle.disk_model.specs.Past.{Is, MayGrow, Past, grow}
use Rattle.disk_model.specs.declared.names.FileName.TheVariants.{Log, Double, Space}
use Rattle.disk_model.proofs.Moments.{at_grow, at_is}
use Rattle.space_head.specs.declared.space.SpaceInfo.{SpaceInfo}
use Rattle.store_form.specs.Creation.{IsStopped, past_after, spaces_begun}
use Rattle.store_form.proofs.CreationLoops.{absent_double, absent_log, at_err}
use Rattle.store_form.proofs.CreationSteps.{make_stopped}
use Rattle.store_form.proofs.making.begin_files.Goals as goal

pub returns-in_err-make-2-clause-err : goal.returns-in_err-make-2-clause-err
returns-in_err-make-2-clause-err g c =
    let ss = c.args.spaces.now in
    let mid : Past = g.D.Disk.past c.make.new.self in
    let new : Past = g.D.Disk.past c.make-2.new.self in
    at_err c.from_residual-in_err-make-2.result
    (inr (inr (subst (λ (h : Past). IsStopped (Make Double (64 * 16896) ∷ spaces_begun ss) h new) c.in_ok-make.ensures.ok (make_stopped Double (64 * 16896) (spaces_begun ss) mid new c.in_err-make-2.ensures.err))))

pub begin_spaces-requires-clause-absent : goal.begin_spaces-requires-clause-absent
begin_spaces-requires-clause-absent g c =
    let ss = c.args.spaces.now in
    let n = (3 + c.args.header.now.blocks) * 4096 in
    at_is c.in_ok-make-2.ensures.ok (at_grow (Make Double (64 * 16896)) (λ es was. absent_double (64 * 16896) ss es was)
    (at_is c.in_ok-make.ensures.ok (at_grow (Make Log n) (λ es none. absent_log n ss es none.absent) c.requires.absent)))

pub returns-clause-ok : goal.returns-clause-ok
returns-clause-ok g c =
    let ss = c.args.spaces.now in
    on_ok_weaker c.begin_spaces.result (λ e. e ∙ ap (past_after (spaces_begun ss)) (c.in_ok-make-2.ensures.ok ∙ ap (grow (Make Double (64 * 16896))) c.in_ok-make.ensures.ok)) c.begin_spaces.ensures.ok

pub returns-clause-err : goal.returns-clause-err
returns-clause-err g c =
    let ss = c.args.spaces.now in
    let new : Past = g.D.Disk.past c.begin_spaces.new.disk in
    on_err_weaker c.begin_spaces.result
    (λ stop. inr (inr (inr (inr (subst (λ (h : Past). IsStopped (spaces_begun ss) h new) (c.in_ok-make-2.ensures.ok ∙ ap (grow (Make Double (64 * 16896))) c.in_ok-make.ensures.ok) stop))))) c.begin_spaces.ensures.err
