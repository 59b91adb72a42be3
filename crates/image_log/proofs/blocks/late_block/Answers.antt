use Rattle.std.proofs.Common.{◌≡◌, ◌∙◌, ◌+◌, ◌≤◌, ap, sym, subst, true, false, ℕ, List, arith}
use Rattle.byte_list.specs.Fields.{be64_at}
use Rattle.places.specs.Places.{place}
use Rattle.store_files.specs.RingBlock.{is_ring_block}
use Rattle.image_log.proofs.Clear.{clear_more, other_number, lower_number}
use Rattle.image_log.proofs.blocks.late_block.Goals as goal
use Rattle.image_log.proofs.blocks.late_block.Goals.{else-number-found-via-then-number-found+else-is_ring_block, else-number-found-via-else-number-found}

pub loop-i-preserved : goal.loop-i-preserved
loop-i-preserved c =
    let file = c.args.log.now in
    let x = place 4096 (3 + c.loop-i.i) file in
    let bytes : c.place-block.result.now ≡ x = c.place-block.ensures.bytes in
    let found : c.be64_at-found.result ≡ be64_at x 0 = c.be64_at-found.ensures ∙ ap (λ (l : List ℕ). be64_at l 0) bytes in
    clear_more file c.args.number c.loop-i.i c.loop-i.invariant
    (elim c.else-number-found.branch [
      | else-number-found-via-then-number-found+else-is_ring_block w ↦
          λ m le valid. other_number x c.be64_at-found.result found (ap (λ (l : List ℕ). is_ring_block c.be64_at-found.result l) (sym bytes) ∙ sym w.is_ring_block.ensures ∙ w.if-is_ring_block.false) m valid
      | else-number-found-via-else-number-found w ↦ λ m le valid. lower_number x c.be64_at-found.result c.args.number found w.if-number-found.false m le valid
    ])
