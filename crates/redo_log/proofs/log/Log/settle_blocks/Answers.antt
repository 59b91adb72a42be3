use Rattle.std.proofs.Common.{◌≡◌, ℕ, suc, zero, ◌∷◌, refl, sym, ap, ◌∙◌, arith, List}
use Rattle.std.proofs.lemmas.Result.{on_ok_weaker, on_err_weaker}
use Rattle.disk_model.specs.Event.{Event, Sync}
use Rattle.disk_model.specs.declared.names.FileName.TheVariants.{Log as LogFile}
use Rattle.disk_model.proofs.Layers.{does_err, does_then, does_sync}
use Rattle.disk_model.proofs.Moments.{at_each, begins}
use Rattle.places.specs.Batches.{Syncs}
use Rattle.places.proofs.Batches.{does_stay}
use Rattle.redo_log.specs.State.{LogState}
use Rattle.redo_log.specs.Log.{pending_count, handed_over}
use Rattle.redo_log.specs.Recorded.{BlocksOnce, IsRecordOnce}
use Rattle.redo_log.proofs.RecordSteps.{out_once, out_record}
use Rattle.places.specs.Writes.{writes_of, grows, Done}
use Rattle.redo_log.specs.Events.{block_batch, IsAny, IsBlockEvent, out_events}
use Rattle.redo_log.proofs.BlockSteps.{ring_out, ready_none, ringed_none, places_after, file_after_sync, blocks_now, blocks_then, blocks_sync}
use Rattle.places.proofs.WriteLemmas.{grows_none, sync_more, part_same}
use Rattle.redo_log.proofs.log.Log.settle_blocks.Goals as goal

-- where something is pending a write out is its writes and a sync
out_some : (log : LogState) (k : ℕ) → (k ≡ 0 → ⊥) → Sync LogFile ∷ writes_of LogFile 4096 (block_batch log) k ≡ out_events k log
out_some log zero some = absurd (some refl)
out_some log (suc k) some = refl

pub returns-in_err-write_blocks-clause-does : goal.returns-in_err-write_blocks-clause-does
returns-in_err-write_blocks-clause-does g c = λ keys r fits at.
    ring_out c.args.self.now keys r c.pending_count.ensures.open fits at (does_err _ _ c.from_residual.ensures.1 (c.in_err-write_blocks.ensures.does (at_each (λ es ready. ready.ringed.places) at)))

pub returns-in_err-write_blocks-clause-part : goal.returns-in_err-write_blocks-clause-part
returns-in_err-write_blocks-clause-part g c =
    let log = c.args.self.now in
    part_same LogFile 4096 (block_batch log) (pending_count log) (g.D.Disk.past c.args.disk.now) _ _ c.in_err-write_blocks.ensures.part

pub returns-in_err-write_blocks-clause-places : goal.returns-in_err-write_blocks-clause-places
returns-in_err-write_blocks-clause-places g c = λ has.
    let log = c.args.self.now in
    places_after {b = block_batch log} {k = pending_count log} log.blocks has (c.in_err-write_blocks.ensures.does has)

pub returns-clause-does : goal.returns-clause-does
returns-clause-does g c = λ keys r fits at.
    let log = c.args.self.now in
    let first = g.D.Disk.past c.args.disk.now in
    let wrote = c.in_ok-write_blocks.ensures.does (at_each (λ es ready. ready.ringed.places) at) in
    ring_out log keys r c.pending_count.ensures.open fits at
    (does_then wrote
    (does_sync (IsBlockEvent log) (Sync LogFile) wrote.next (blocks_now log (pending_count log) (omega arith) first) (blocks_then log first) (Syncs refl) (blocks_sync log first) c.sync.ensures.ok c.sync.ensures.err))

pub returns-clause-places : goal.returns-clause-places
returns-clause-places g c = λ has.
    let log = c.args.self.now in
    let first = g.D.Disk.past c.args.disk.now in
    let wrote = c.in_ok-write_blocks.ensures.does has in
    places_after {b = block_batch log} {k = pending_count log} log.blocks has
    (does_then wrote
    (does_sync (IsBlockEvent log) (Sync LogFile) wrote.next (blocks_now log (pending_count log) (omega arith) first) (blocks_then log first) (Syncs refl) (blocks_sync log first) c.sync.ensures.ok c.sync.ensures.err))

pub returns-clause-exact : goal.returns-clause-exact
returns-clause-exact g c =
    let log = c.args.self.now in
    let first = g.D.Disk.past c.args.disk.now in
    let some : pending_count log ≡ 0 → ⊥ = λ none. c.if-pending_count-eq0.false (c.pending_count.ensures.count ∙ none) in
    on_ok_weaker c.sync.result (λ e. sync_more LogFile 4096 (block_batch log) (pending_count log) first (g.D.Disk.past c.write_blocks.new.disk) _ c.in_ok-write_blocks.ensures.exact e ∙ ap (λ (l : List Event). grows l first) (out_some log (pending_count log) some)) c.sync.ensures.ok

pub returns-clause-part : goal.returns-clause-part
returns-clause-part g c =
    let log = c.args.self.now in
    let first = g.D.Disk.past c.args.disk.now in
    on_err_weaker c.sync.result (λ e. Done (pending_count log) (omega arith) (e ∙ c.in_ok-write_blocks.ensures.exact)) c.sync.ensures.err

pub returns-then-pending_count-eq0-clause-does : goal.returns-then-pending_count-eq0-clause-does
returns-then-pending_count-eq0-clause-does g c = λ keys r fits at.
    let log = c.args.self.now in
    let none : pending_count log ≡ 0 = sym c.pending_count.ensures.count ∙ c.if-pending_count-eq0.true in
    does_stay _ at (λ s ready. ringed_none log keys r c.pending_count.ensures.open fits none s ready) (at_each (λ s ready. ready_none log keys r c.pending_count.ensures.open fits none s ready) at) refl

pub returns-then-pending_count-eq0-clause-exact : goal.returns-then-pending_count-eq0-clause-exact
returns-then-pending_count-eq0-clause-exact g c =
    let log = c.args.self.now in
    let first = g.D.Disk.past c.args.disk.now in
    let none : pending_count log ≡ 0 = sym c.pending_count.ensures.count ∙ c.if-pending_count-eq0.true in
    sym (ap (λ (k : ℕ). grows (out_events k log) first) none ∙ grows_none first)

-- ---- the record of writes

pub returns-in_err-write_blocks-clause-recorded : goal.returns-in_err-write_blocks-clause-recorded
returns-in_err-write_blocks-clause-recorded g c = λ once.
    let does = c.in_err-write_blocks.ensures.adds in
    out_once c.args.self.now c.pending_count.ensures.open does.moments.later does.adds once

pub returns-in_err-write_blocks-clause-record : goal.returns-in_err-write_blocks-clause-record
returns-in_err-write_blocks-clause-record g c = λ header keys salts once is.
    let does = c.in_err-write_blocks.ensures.adds in
    out_record c.args.self.now c.pending_count.ensures.open header keys salts does.moments.later does.adds once is

pub returns-clause-recorded : goal.returns-clause-recorded
returns-clause-recorded g c = λ once.
    let log = c.args.self.now in
    let wrote = c.in_ok-write_blocks.ensures.adds in
    let does = does_then wrote (does_sync {A = IsAny} {P = IsAny} {Q = IsAny} (IsBlockEvent log) (Sync LogFile) wrote.next (λ es a. tt) (λ es a. tt) (Syncs refl) (λ es a. tt) c.sync.ensures.ok c.sync.ensures.err) in
    out_once log c.pending_count.ensures.open does.moments.later does.adds once

pub returns-clause-record : goal.returns-clause-record
returns-clause-record g c = λ header keys salts once is.
    let log = c.args.self.now in
    let wrote = c.in_ok-write_blocks.ensures.adds in
    let does = does_then wrote (does_sync {A = IsAny} {P = IsAny} {Q = IsAny} (IsBlockEvent log) (Sync LogFile) wrote.next (λ es a. tt) (λ es a. tt) (Syncs refl) (λ es a. tt) c.sync.ensures.ok c.sync.ensures.err) in
    out_record log c.pending_count.ensures.open header keys salts does.moments.later does.adds once is

pub returns-then-pending_count-eq0-clause-recorded : goal.returns-then-pending_count-eq0-clause-recorded
returns-then-pending_count-eq0-clause-recorded g c = λ once. begins (BlocksOnce (handed_over c.args.self.now)) (g.D.Disk.past c.args.disk.now) once

pub returns-then-pending_count-eq0-clause-record : goal.returns-then-pending_count-eq0-clause-record
returns-then-pending_count-eq0-clause-record g c = λ header keys salts once is. begins (IsRecordOnce header keys salts) (g.D.Disk.past c.args.disk.now) is

-- ---- the file

pub returns-clause-file : goal.returns-clause-file
returns-clause-file g c = file_after_sync c.sync.result c.args.self.now.blocks c.in_ok-write_blocks.ensures.file c.sync.ensures.ok c.sync.ensures.err

pub returns-then-pending_count-eq0-clause-places : goal.returns-then-pending_count-eq0-clause-places
returns-then-pending_count-eq0-clause-places g c = λ has. has
