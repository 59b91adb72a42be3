use Rattle.std.proofs.Common.{◌≡◌, ℕ, ◌+◌, ◌<◌, ◌≤◌, true}
use Rattle.places.specs.Places.{place}
use Rattle.store_files.specs.RingBlock.{is_ring_block}
use Rattle.image_log.proofs.blocks.late_block.Given as goal

abbrev pub invariant-loop-i : goal.invariant-loop-i
invariant-loop-i l = (j m : ℕ) → j < l.i → l.number ≤ m → is_ring_block m (place 4096 (3 + j) l.log) ≡ true → ⊥
