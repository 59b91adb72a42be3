use Rattle.std.proofs.Common.{◌≡◌, ℕ, ◌-◌, ◌*◌, List, ◌++◌, length, map, take}
use Rattle.byte_list.specs.Bytes.{zeros}
use Rattle.store_files.specs.Header.{space_words}
use Rattle.store_form.specs.Said.{space_said}
use Rattle.store_form.proofs.header_block.fill_spaces.Given as goal

abbrev pub invariant-loop-i : goal.invariant-loop-i
invariant-loop-i l =
    (length l.block ≡ 4096)
    × ((w : List ℕ) → length w ≡ 40 → l.fn.block ≡ w ++ zeros 4056 → l.block ≡ (w ++ space_words (map space_said (take l.i l.fn.spaces))) ++ zeros (4056 - 12 * l.i))
