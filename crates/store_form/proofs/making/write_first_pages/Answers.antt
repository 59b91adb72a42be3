use Rattle.std.proofs.Common.{◌≡◌, ◌∙◌, ℕ, ◌+◌, ◌*◌, ◌<◌, List, [], ◌∷◌, length, drop, slice_index_or, sym, ap, subst, false, arith, inl, inr}
use Rattle.std.proofs.lemmas.List.{drop_more}
use Rattle.std.proofs.lemmas.Result.{on_ok_weaker, on_err_weaker}
use Rattle.disk_model.specs.Event.{Event, Make, Sync, Write}
use Rattle.disk_model.specs.Past.{Is, MayGrow, Past, grow}
use Rattle.disk_model.specs.declared.names.FileName.TheVariants.{Log, Double, Space}
use Rattle.disk_model.proofs.Moments.{at_grow, at_is}
use Rattle.space_head.specs.declared.space.SpaceInfo.{SpaceInfo}
use Rattle.store_form.proofs.CreationLoops.{at_err, pages_differ, pages_end, pages_next, pages_stop, place_there, places_next}
use Rattle.store_form.proofs.making.write_first_pages.Goals as goal

abbrev zero_space : SpaceInfo
zero_space = record { space = 0; pages = 0; key_id = 0; salt = []; ciphered = false; floor = 0 }

pub write_first_page-requires-clause-inside : goal.write_first_page-requires-clause-inside
write_first_page-requires-clause-inside g c =
    let xs = c.args.spaces.now in
    let i = c.loop-i.i in
    let old : Past = g.D.Disk.past c.loop-i.disk in
    place_there (drop i xs) (slice_index_or xs i zero_space) (drop (i + 1) xs) old old old xs (drop_more xs i zero_space (omega (arith, c.loop-i-test.true))) c.loop-i.invariant.places

pub returns-in_err-write_first_page-clause-err : goal.returns-in_err-write_first_page-clause-err
returns-in_err-write_first_page-clause-err g c =
    let xs = c.args.spaces.now in
    let i = c.loop-i.i in
    at_err c.from_residual.result
    (pages_end (drop i xs) (slice_index_or xs i zero_space) (drop (i + 1) xs) (g.D.Disk.past c.loop-i.disk) (g.D.Disk.past c.write_first_page.new.disk) (g.D.Disk.past c.args.disk.now) xs (drop_more xs i zero_space (omega (arith, c.loop-i-test.true)))
    c.in_err-write_first_page.ensures.err c.loop-i.invariant.stopped)

pub loop-i-preserved : goal.loop-i-preserved
loop-i-preserved g c =
    let xs = c.args.spaces.now in
    let i = c.loop-i.i in
    let s = slice_index_or xs i zero_space in
    let ss = drop (i + 1) xs in
    let old : Past = g.D.Disk.past c.loop-i.disk in
    let new : Past = g.D.Disk.past c.write_first_page.new.disk in
    let first : Past = g.D.Disk.past c.args.disk.now in
    let inv = c.loop-i.invariant in
    let ok = c.in_ok-write_first_page.ensures in
    let rest : drop i xs ≡ s ∷ ss = drop_more xs i zero_space (omega (arith, c.loop-i-test.true)) in
    record {
      places = places_next (drop i xs) s ss old new first xs rest inv.places inv.differ ok.ok;
      differ = pages_differ (drop i xs) s ss old new first xs rest inv.differ;
      done = pages_next (drop i xs) s ss old new first xs rest ok.ok inv.done;
      stopped = pages_stop (drop i xs) s ss old new first xs rest ok.ok inv.stopped;
      long = ok.long;
      later = g.met.D.Disk.is_later_transitive _ _ _ inv.later ok.later;
      calls = omega (arith, inv.calls, ok.calls);
      faults = ok.no_fault ∙ inv.faults;
      refusals = ok.no_refusal ∙ inv.refusals;
    }
