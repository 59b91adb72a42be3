-- The first bytes of the rest of a file, kept and read anew.
use Rattle.std.proofs.Common.{◌≡◌, ℕ, ◌+◌, ◌<◌, ◌≤◌, ⊎_elim, min, List, [], length, take, drop, sym, ap, ◌∙◌, arith, length-take, length-drop}
use Rattle.std.proofs.lemmas.List.{take-take, take_min, drop-take, drop_all}
use Rattle.std.proofs.lemmas.Bool.{cases_lt}
use Rattle.io_core.specs.Files.{IsFilled}
use Rattle.io_core.proofs.Fills.{take-filled}
use Rattle.binlog_text.specs.Held.{IsFront}

-- no bytes are the first ones
pub front_none : (bytes all : List ℕ) → bytes ≡ [] → IsFront bytes all
front_none bytes all none = record { front = none ∙ ap (λ (l : List ℕ). take (length l) all) (sym none) }

-- as many as wanted
pub front_take : (n : ℕ) (all : List ℕ) → IsFront (take n all) all
front_take n all = record { front = sym (ap (λ (k : ℕ). take k all) (length-take n all) ∙ cut n all) }
  where
    cut : (n : ℕ) (l : List ℕ) → take (min n (length l)) l ≡ take n l
    cut n l = take_min n l

pub front_same : (a b all : List ℕ) → a ≡ b → IsFront b all → IsFront a all
front_same a b all same is = record { front = same ∙ is.front ∙ ap (λ (l : List ℕ). take (length l) all) (sym same) }

-- some of the first ones
pub front_fewer : (n : ℕ) (bytes all : List ℕ) → IsFront bytes all → IsFront (take n bytes) all
front_fewer n bytes all is =
    let m : ℕ = min n (length bytes) in
    let fewer : take n bytes ≡ take m all =
    sym (take_min n bytes) ∙ ap (take m) is.front ∙ take-take m (length bytes) all (omega arith) in
    front_same (take n bytes) (take m all) all fewer (front_take m all)

-- they are no more than all
pub front_within : (bytes all : List ℕ) → IsFront bytes all → length bytes ≤ length all
front_within bytes all is = omega (arith, ap length is.front, length-take (length bytes) all)

-- the first ones without the very first
pub front_behind : (n : ℕ) (bytes all : List ℕ) → IsFront bytes all → IsFront (drop n bytes) (drop n all)
front_behind n bytes all is =
    ⊎_elim
    (λ (past : length bytes < n). front_none (drop n bytes) (drop n all) (drop_all n bytes (omega arith)))
    (λ (within : n ≤ length bytes).
    let split : length bytes ≡ n + length (drop n bytes) = omega (arith, length-drop n bytes) in
    record { front = ap (drop n) (is.front ∙ ap (λ (k : ℕ). take k all) split) ∙ drop-take n (length (drop n bytes)) all })
    (cases_lt (length bytes) n)

-- what was read into the front of a buffer
pub front_filled : (all before after : List ℕ) (n : ℕ) → IsFilled all before n after → IsFront (take n after) all
front_filled all before after n is = front_same (take n after) (take n all) all (take-filled all before after n is) (front_take n all)
