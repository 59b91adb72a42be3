use Rattle.std.proofs.Common.{◌≡◌, ℕ, ◌+◌, List, drop, map}
use Rattle.std.specs.Ordering.{nat_cmp}
use Rattle.std.specs.BTreeMap.{get}
use Rattle.key_file.specs.Plain.{first_fault, first_some, last_key}
use Rattle.key_file.proofs.plain.gather.Given as goal

-- the rest of the lines has the first fault, and the last keys are those of the rest or the gathered
abbrev pub invariant-loop-i : goal.invariant-loop-i
invariant-loop-i l =
    let lines : List (List ℕ) = map (λ line. line.now) l.line-items in
    (first_fault (l.i + 1) (drop l.i lines) ≡ first_fault 1 lines)
    × ((id : ℕ) → first_some (last_key (l.i + 1) (drop l.i lines) id) (get nat_cmp l.keys id) ≡ last_key 1 lines id)
