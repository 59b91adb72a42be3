-- Counts of turns.
use Rattle.std.proofs.Common.{◌≡◌, ℕ, ◌+◌, ◌^◌, ◌<◌, ◌≤◌, nat_eq, Bool, false, if◌then◌else◌, ap, arith}
use Rattle.std.proofs.lemmas.Bool.Decides.{nat_tests}
use Rattle.plain_engine.specs.Turns.{turns_after, sync_turns, IsTurnOf}

pub turns_more : (n a b : ℕ) → turns_after (turns_after n a) b ≡ turns_after n (a + b)
turns_more n a b = omega arith

pub turns_same : (n k : ℕ) → n < 2 ^ 64 → k ≡ 0 → n ≡ turns_after n k
turns_same n k small none = omega (arith, small, none)

pub none_of : (k : ℕ) → k ≡ 0 → sync_turns k ≡ 0
none_of k none = ap sync_turns none

pub some_of : (k : ℕ) → 0 < k → sync_turns k ≡ k + 1
some_of k some = let no : nat_eq k 0 ≡ false = grind (arith, nat_tests) in ap (λ (b : Bool). if b then 0 else k + 1) no

-- one turn after some of them
pub turn_later : (n a count turn : ℕ) → turn ≡ turns_after (turns_after n a) 1 → a + 1 ≤ count → IsTurnOf count n turn
turn_later n a count turn is le = record { first = omega (arith, is); last = omega (arith, is) }

pub turn_within : (n less count turn : ℕ) → less ≤ count → IsTurnOf less n turn → IsTurnOf count n turn
turn_within n less count turn le t = record { first = t.first; last = omega (arith, t.last) }
