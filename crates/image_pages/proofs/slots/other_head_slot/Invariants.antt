use Rattle.std.proofs.Common.{ℕ, List}
use Rattle.key_ring.specs.Ring.{RingEntry}
use Rattle.store_files.specs.Header.{HeldHeader}
use Rattle.store_files.specs.Pages.{Head}
use Rattle.image_pages.specs.Recovering.{AgreeBelow}
use Rattle.image_pages.proofs.slots.other_head_slot.Given as goal

abbrev pub invariant-loop-index : goal.invariant-loop-index
invariant-loop-index l = (header : HeldHeader) (keys : List RingEntry) (salt : List ℕ) → AgreeBelow header keys l.log l.home l.double l.space 0 salt (Head l.wanted) l.index
