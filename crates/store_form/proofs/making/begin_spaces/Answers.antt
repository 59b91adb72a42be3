use Rattle.std.proofs.Common.{◌≡◌, ◌∙◌, ℕ, ◌+◌, ◌*◌, ◌<◌, List, [], ◌∷◌, length, drop, slice_index_or, sym, ap, subst, false, arith, inl, inr}
use Rattle.std.proofs.lemmas.List.{drop_more}
use Rattle.std.proofs.lemmas.Result.{on_ok_weaker, on_err_weaker}
use Rattle.disk_model.specs.Event.{Event, Make, Sync, Write}
use Rattle.disk_model.specs.Past.{Is, MayGrow, Past, grow}
use Rattle.disk_model.specs.declared.names.FileName.TheVariants.{Log, Double, Space}
use Rattle.disk_model.proofs.Moments.{at_grow, at_is}
use Rattle.space_head.specs.declared.space.SpaceInfo.{SpaceInfo}
use Rattle.store_form.specs.Creation.{spaces_begun}
use Rattle.store_form.proofs.CreationLoops.{absent_next, at_err, begun_ends, begun_next, begun_stops, differ_next, space_absent}
use Rattle.store_form.proofs.CreationSteps.{make_stopped}
use Rattle.store_form.proofs.making.begin_spaces.Goals as goal

abbrev zero_space : SpaceInfo
zero_space = record { space = 0; pages = 0; key_id = 0; salt = []; ciphered = false; floor = 0 }

pub make-requires : goal.make-requires
make-requires g c =
    let xs = c.args.spaces.now in
    let i = c.loop-i.i in
    let old : Past = g.D.Disk.past c.loop-i.disk in
    space_absent (drop i xs) (slice_index_or xs i zero_space) (drop (i + 1) xs) old old old xs (drop_more xs i zero_space (omega (arith, c.loop-i-test.true))) c.loop-i.invariant.absent

pub returns-in_err-make-clause-err : goal.returns-in_err-make-clause-err
returns-in_err-make-clause-err g c =
    let xs = c.args.spaces.now in
    let i = c.loop-i.i in
    let s = slice_index_or xs i zero_space in
    let old : Past = g.D.Disk.past c.loop-i.disk in
    let new : Past = g.D.Disk.past c.make.new.self in
    let may : MayGrow (Is (Make (Space s.space) (s.pages * 16384))) old new = subst (λ (n : ℕ). MayGrow (Is (Make (Space s.space) (n * 16384))) old new) c.from-bytes.ensures c.in_err-make.ensures.err in
    at_err c.from_residual.result
    (begun_ends (drop i xs) s (drop (i + 1) xs) old new (g.D.Disk.past c.args.disk.now) xs (drop_more xs i zero_space (omega (arith, c.loop-i-test.true)))
    (make_stopped (Space s.space) (s.pages * 16384) (spaces_begun (drop (i + 1) xs)) old new may) c.loop-i.invariant.stopped)

pub loop-i-preserved : goal.loop-i-preserved
loop-i-preserved g c =
    let xs = c.args.spaces.now in
    let i = c.loop-i.i in
    let s = slice_index_or xs i zero_space in
    let ss = drop (i + 1) xs in
    let old : Past = g.D.Disk.past c.loop-i.disk in
    let new : Past = g.D.Disk.past c.make.new.self in
    let first : Past = g.D.Disk.past c.args.disk.now in
    let inv = c.loop-i.invariant in
    let ok = c.in_ok-make.ensures in
    let rest : drop i xs ≡ s ∷ ss = drop_more xs i zero_space (omega (arith, c.loop-i-test.true)) in
    let is : new ≡ grow (Make (Space s.space) (s.pages * 16384)) old = ok.ok ∙ ap (λ (n : ℕ). grow (Make (Space s.space) (n * 16384)) old) c.from-bytes.ensures in
    record {
      absent = absent_next (drop i xs) s ss old new first xs rest inv.absent inv.differ is;
      differ = differ_next (drop i xs) s ss old new first xs rest inv.differ;
      done = begun_next (drop i xs) s ss old new first xs rest is inv.done;
      stopped = begun_stops (drop i xs) s ss old new first xs rest is inv.stopped;
      later = g.met.D.Disk.is_later_transitive _ _ _ inv.later ok.later;
      calls = omega (arith, inv.calls, ok.once);
      faults = ok.no_fault ∙ inv.faults;
      refusals = ok.no_refusal ∙ inv.refusals;
    }
