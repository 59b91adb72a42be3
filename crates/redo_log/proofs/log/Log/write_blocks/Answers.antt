use Rattle.std.proofs.Common.{◌≡◌, refl, subst, sym, ap, ◌∙◌, arith}
use Rattle.disk_model.proofs.Layers.{does_err, so_far_none, so_far_more, so_far_then, so_far_done}
use Rattle.places.specs.Batches.{From}
use Rattle.redo_log.specs.Log.{pending_count}
use Rattle.disk_model.specs.declared.names.FileName.TheVariants.{Log as LogFile}
use Rattle.places.specs.Writes.{writes_of, grows}
use Rattle.redo_log.specs.Events.{IsAny, BlocksWrote, block_batch}
use Rattle.redo_log.proofs.BlockSteps.{blocks_begin, blocks_now}
use Rattle.places.proofs.WriteLemmas.{grows_none, write_more, write_failed}
use Rattle.redo_log.proofs.log.Log.write_blocks.Goals as goal

pub loop-i-init : goal.loop-i-init
loop-i-init g c =
    let log = c.args.self.now in
    let first = g.D.Disk.past c.args.disk.now in
    record {
      so_far = λ has. so_far_none (blocks_now log 0 (omega arith) first) (blocks_begin log first has);
      adds = so_far_none {A = IsAny} (λ es a. tt) (record { here = λ es is. tt });
      file = c.requires.file;
      exact = sym (grows_none first);
      calls = omega arith;
      faults = refl;
      memory_refusals = refl;
      later = g.met.D.Disk.is_later_reflexive c.args.disk.now;
    }

pub returns-in_err-write_block-clause-does : goal.returns-in_err-write_block-clause-does
returns-in_err-write_block-clause-does g c = λ has.
    let first = g.D.Disk.past c.args.disk.now in
    let so_far = c.loop-i.invariant.so_far has in
    does_err _ _ c.from_residual.ensures.1 (so_far_then so_far (c.in_err-write_block.ensures.does first so_far.at))

pub returns-in_err-write_block-clause-adds : goal.returns-in_err-write_block-clause-adds
returns-in_err-write_block-clause-adds g c = does_err _ _ c.from_residual.ensures.1 (so_far_then c.loop-i.invariant.adds c.in_err-write_block.ensures.adds)

pub returns-in_err-write_block-clause-part : goal.returns-in_err-write_block-clause-part
returns-in_err-write_block-clause-part g c =
    let log = c.args.self.now in
    write_failed LogFile 4096 (block_batch log) c.loop-i.i (pending_count log) (g.D.Disk.past c.args.disk.now) (g.D.Disk.past c.loop-i.disk) (g.D.Disk.past c.write_block.new.disk) c.from_residual.result
    (omega (arith, c.loop-i-test.true, c.pending_count-i-end.ensures.count)) c.loop-i.invariant.exact c.in_err-write_block.ensures.err

pub loop-i-preserved : goal.loop-i-preserved
loop-i-preserved g c =
    let log = c.args.self.now in
    let first = g.D.Disk.past c.args.disk.now in
    record {
      so_far = λ has. let so_far = c.loop-i.invariant.so_far has in so_far_more so_far (c.in_ok-write_block.ensures.does first so_far.at);
      adds = so_far_more c.loop-i.invariant.adds c.in_ok-write_block.ensures.adds;
      file = c.in_ok-write_block.ensures.file;
      exact = write_more LogFile 4096 (block_batch log) c.loop-i.i first (g.D.Disk.past c.loop-i.disk) (g.D.Disk.past c.write_block.new.disk) c.loop-i.invariant.exact c.in_ok-write_block.ensures.ok;
      calls = omega (arith, c.loop-i.invariant.calls, c.in_ok-write_block.ensures.calls);
      faults = c.in_ok-write_block.ensures.no_fault ∙ c.loop-i.invariant.faults;
      memory_refusals = c.in_ok-write_block.ensures.no_refusal ∙ c.loop-i.invariant.memory_refusals;
      later = g.met.D.Disk.is_later_transitive _ _ _ c.loop-i.invariant.later c.in_ok-write_block.ensures.later;
    }

pub returns-clause-does : goal.returns-clause-does
returns-clause-does g c = λ has.
    let log = c.args.self.now in
    let all : c.loop-i.i ≡ pending_count log = omega (arith, c.loop-i.auto.i-end, c.loop-i-test.false, c.pending_count-i-end.ensures.count) in
    so_far_done (λ es r. subst (λ n. From (BlocksWrote log n) (g.D.Disk.past c.args.disk.now) es) all r) (c.loop-i.invariant.so_far has)

pub returns-clause-adds : goal.returns-clause-adds
returns-clause-adds g c = so_far_done (λ es a. tt) c.loop-i.invariant.adds

pub returns-clause-exact : goal.returns-clause-exact
returns-clause-exact g c =
    let log = c.args.self.now in
    let all : c.loop-i.i ≡ pending_count log = omega (arith, c.loop-i.auto.i-end, c.loop-i-test.false, c.pending_count-i-end.ensures.count) in
    c.loop-i.invariant.exact ∙ ap (λ n. grows (writes_of LogFile 4096 (block_batch log) n) (g.D.Disk.past c.args.disk.now)) all

pub returns-in_err-write_block-clause-calls : goal.returns-in_err-write_block-clause-calls
returns-in_err-write_block-clause-calls g c =
    omega (arith, c.loop-i.invariant.calls, c.in_err-write_block.ensures.calls, c.loop-i-test.true, c.pending_count-i-end.ensures.count)

pub returns-clause-calls : goal.returns-clause-calls
returns-clause-calls g c = omega (arith, c.loop-i.invariant.calls, c.loop-i.auto.i-end, c.loop-i-test.false, c.pending_count-i-end.ensures.count)
