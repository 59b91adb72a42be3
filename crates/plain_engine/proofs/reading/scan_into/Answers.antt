use Rattle.std.proofs.Common.{◌≡◌, ◌+◌, [], ◌∷◌, length, ap, sym, ◌∙◌, arith, length-append}
use Rattle.disk_model.proofs.Moments.{at_is, at_both, at_each}
use Rattle.disk_model.specs.Event.{reads}
use Rattle.disk_model.specs.declared.names.FileName.TheVariants.{Log}
use Rattle.plain_engine.specs.Block.{IsLogBlock}
use Rattle.plain_engine.proofs.BlocksRead.{scan_ends, scan_more, has_full}
use Rattle.plain_engine.proofs.reading.scan_into.Goals as goal

pub read_ring_block-requires-clause-inside : goal.read_ring_block-requires-clause-inside
read_ring_block-requires-clause-inside g c = at_is c.loop-i.invariant.same c.requires.inside

pub returns-in_default-clause-run : goal.returns-in_default-clause-run
returns-in_default-clause-run g c =
    at_both (λ es has is. scan_ends c.loop-i.texts.items c.loop-i.i c.read_ring_block.new.buffer c.loop-i.invariant.count (reads Log es) has is c.in_default.ensures.none)
    c.loop-i.invariant.texts (at_is (sym c.loop-i.invariant.same) c.in_ok-read_ring_block.ensures.block)

pub loop-i-preserved : goal.loop-i-preserved
loop-i-preserved g c =
    let block : IsLogBlock (c.loop-i.i + 2) c.in_ok-piece.piece c.read_ring_block.new.buffer = rw c.in_ok-piece.ensures c.in-Some.ensures.found in
    record {
      same = c.in_ok-read_ring_block.ensures.same ∙ c.loop-i.invariant.same;
      count = omega (arith, ap length c.in-Ok.ensures.items, length-append c.loop-i.texts.items (c.in_ok-piece.piece ∷ []), c.loop-i.invariant.count);
      texts = rw c.in-Ok.ensures.items
          (at_both (λ es has is. scan_more c.loop-i.texts.items c.loop-i.i c.read_ring_block.new.buffer c.loop-i.invariant.count (reads Log es) has is c.in_ok-piece.piece block)
          c.loop-i.invariant.texts (at_is (sym c.loop-i.invariant.same) c.in_ok-read_ring_block.ensures.block));
      faults = omega (arith, c.loop-i.invariant.faults, c.in_ok-read_ring_block.ensures.cause.later);
      later = g.met.D.Disk.is_later_transitive _ _ _ c.loop-i.invariant.later c.in_ok-read_ring_block.ensures.later;
    }

pub returns-clause-run : goal.returns-clause-run
returns-clause-run g c =
    let full : length c.loop-i.texts.items ≡ 256 = omega (arith, c.loop-i.invariant.count) in
    at_each (λ es has. has_full _ c.loop-i.texts.items has full) c.loop-i.invariant.texts
