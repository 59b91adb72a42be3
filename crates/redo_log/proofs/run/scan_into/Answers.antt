use Rattle.std.proofs.Common.{◌≡◌, ℕ, List, [], ◌∷◌, ◌++◌, ◌+◌, length, refl, sym, ap, subst, ◌∙◌, arith, length-append}
use Rattle.disk_model.specs.Event.{reads}
use Rattle.disk_model.specs.declared.names.FileName.TheVariants.{Log as LogFile}
use Rattle.disk_model.proofs.Moments.{at_is, at_both, at_each}
use Rattle.ring_log.specs.Scans.{IsScanned, Goes, Stops}
use Rattle.ring_log.proofs.ScanSteps.{read_none, read_more, read_stops, read_all}
use Rattle.redo_text.specs.Reading.{block_version}
use Rattle.ring_log.specs.Blocks.{block_at}
use Rattle.redo_log.specs.Blocks.{redo_form}
use Rattle.redo_log.specs.Runs.{versions_up}
use Rattle.redo_log.proofs.RunSteps.{versions_more}
use Rattle.redo_log.proofs.run.scan_into.Goals as goal

pub loop-i-init : goal.loop-i-init
loop-i-init g c =
    let e : c.args.from ≡ c.args.from + 0 = omega arith in
    record {
      same = refl;
      size = c.requires.size;
      low = omega arith;
      high = omega arith;
      count = ap length c.requires.none;
      few = omega arith;
      calls = omega arith;
      read = record { here = λ es is keys. subst (λ (n : ℕ). IsScanned c.args.blocks (redo_form keys) (block_at c.args.blocks (reads LogFile es)) c.args.from c.args.from n) e (read_none c.args.blocks (redo_form keys) (block_at c.args.blocks (reads LogFile es)) c.args.from) };
      named = record { here = λ es is. c.requires.none };
      faults = refl;
      memory_refusals = refl;
      later = g.met.D.Disk.is_later_reflexive c.args.disk.now;
    }

pub returns-in_default-clause-run : goal.returns-in_default-clause-run
returns-in_default-clause-run g c =
    let n = c.args.from + c.loop-i.i in
    at_both (λ es r is keys. read_stops c.args.blocks (redo_form keys) (block_at c.args.blocks (reads LogFile es)) c.args.from c.loop-i.end n (omega (arith, c.loop-i-test.true)) (r keys)
    (subst (λ (b : List ℕ). Stops c.args.blocks (redo_form keys) n c.loop-i.end b) is (c.in_default.ensures.none keys c.args.blocks)))
    c.loop-i.invariant.read (at_is (sym c.loop-i.invariant.same) c.in_ok-read_number.ensures.block)

pub loop-i-preserved : goal.loop-i-preserved
loop-i-preserved g c =
    let n = c.args.from + c.loop-i.i in
    let on : n + 1 ≡ c.args.from + (c.loop-i.i + 1) = omega arith in
    let block = at_is (sym c.loop-i.invariant.same) c.in_ok-read_number.ensures.block in
    record {
      same = c.in_ok-read_number.ensures.same ∙ c.loop-i.invariant.same;
      size = omega (arith, c.read_number.auto.buffer, c.loop-i.invariant.size);
      low = omega (arith, c.loop-i.invariant.low, c.in-Some.ensures.bounds);
      high = omega (arith, c.in-Some.ensures.bounds);
      count = ap length c.in-Ok.ensures.items ∙ length-append c.loop-i.versions.items (c.in-Some.next.version ∷ []) ∙ omega (arith, c.loop-i.invariant.count);
      few = omega (arith, c.in-Some.ensures.bounds, c.if-number-end-ge-MOST_BLOCKS.false, c.loop-i.invariant.high);
      calls = omega (arith, c.loop-i.invariant.calls, c.in_ok-read_number.ensures.once);
      read = at_both (λ es r is keys. subst (λ (m : ℕ). IsScanned c.args.blocks (redo_form keys) (block_at c.args.blocks (reads LogFile es)) c.args.from c.in-Some.next.end m) on
          (read_more c.args.blocks (redo_form keys) (block_at c.args.blocks (reads LogFile es)) c.args.from c.loop-i.end n c.in-Some.next.end (r keys)
          (subst (λ (b : List ℕ). Goes c.args.blocks (redo_form keys) n c.loop-i.end b c.in-Some.next.end) is (c.in-Some.ensures.some keys c.args.blocks))))
          c.loop-i.invariant.read block;
      named = at_both (λ es named is. c.in-Ok.ensures.items
          ∙ ap (λ (l : List ℕ). l ++ c.in-Some.next.version ∷ []) named
          ∙ ap (λ (v : ℕ). versions_up (block_at c.args.blocks (reads LogFile es)) c.args.from c.loop-i.i ++ v ∷ []) (c.in-Some.ensures.version ∙ ap block_version is)
          ∙ sym (versions_more (block_at c.args.blocks (reads LogFile es)) c.args.from c.loop-i.i))
          c.loop-i.invariant.named block;
      faults = c.in_ok-read_number.ensures.no_fault ∙ c.loop-i.invariant.faults;
      memory_refusals = c.in_ok-read_number.ensures.no_refusal ∙ c.loop-i.invariant.memory_refusals;
      later = g.met.D.Disk.is_later_transitive _ _ _ c.loop-i.invariant.later c.in_ok-read_number.ensures.later;
    }

pub returns-clause-run : goal.returns-clause-run
returns-clause-run g c =
    let all : c.args.from + c.loop-i.i ≡ c.args.from + c.args.blocks = omega (arith, c.loop-i.auto.i-end, c.loop-i-test.false) in
    at_each (λ es r keys. read_all c.args.blocks (redo_form keys) (block_at c.args.blocks (reads LogFile es)) c.args.from c.loop-i.end (c.args.from + c.loop-i.i) all (r keys)) c.loop-i.invariant.read

-- sixteen blocks behind the run are none that is whole
pub returns-then-number-end-ge-MOST_BLOCKS-clause-run : goal.returns-then-number-end-ge-MOST_BLOCKS-clause-run
returns-then-number-end-ge-MOST_BLOCKS-clause-run g c =
    let n = c.args.from + c.loop-i.i in
    at_each (λ es r keys. read_stops c.args.blocks (redo_form keys) (block_at c.args.blocks (reads LogFile es)) c.args.from c.loop-i.end n (omega (arith, c.loop-i-test.true)) (r keys)
    (λ few valid starts. absurd (omega (arith, few, c.if-number-end-ge-MOST_BLOCKS.true)))) c.loop-i.invariant.read

pub returns-then-number-end-ge-MOST_BLOCKS-clause-once : goal.returns-then-number-end-ge-MOST_BLOCKS-clause-once
returns-then-number-end-ge-MOST_BLOCKS-clause-once g c =
    let calls = c.loop-i.invariant.calls in
    let few = c.loop-i.invariant.few in
    at_each (λ es r. record { stop = c.args.from + c.loop-i.i; scanned = r; calls = omega (arith, calls); few = omega (arith, calls, few) }) c.loop-i.invariant.read

pub returns-in_default-clause-once : goal.returns-in_default-clause-once
returns-in_default-clause-once g c =
    let calls = c.loop-i.invariant.calls in
    let once = c.in_ok-read_number.ensures.once in
    let few = c.if-number-end-ge-MOST_BLOCKS.false in
    let high = c.loop-i.invariant.high in
    at_each (λ es r. record { stop = c.args.from + c.loop-i.i; scanned = r; calls = omega (arith, calls, once); few = omega (arith, calls, once, few, high) }) c.loop-i.invariant.read

pub returns-clause-once : goal.returns-clause-once
returns-clause-once g c =
    let calls = c.loop-i.invariant.calls in
    let few = c.loop-i.invariant.few in
    at_each (λ es r. record { stop = c.args.from + c.loop-i.i; scanned = r; calls = omega (arith, calls); few = omega (arith, calls, few) }) c.loop-i.invariant.read
