-- A ring with other pending blocks behind its written ones.
use Rattle.std.proofs.Common.{◌≡◌, ℕ, ◌+◌, ◌-◌, ◌<◌, ◌≤◌, true, false, nat_lt, sym, ap, ◌∙◌, arith}
use Rattle.std.proofs.lemmas.Bool.Decides.{nat_tests}
use Rattle.std.proofs.lemmas.Bool.{cond-true, cond-false}
use Rattle.disk_model.specs.Past.{Past, At}
use Rattle.disk_model.proofs.Moments.{at_each}
use Rattle.ring_log.specs.Ring.{RingState, RingReady}
use Rattle.ring_log.proofs.Journals.{ready_blocks}
use Rattle.redo_log.specs.State.{LogState}
use Rattle.redo_log.specs.Blocks.{Keys, redo_form}
use Rattle.redo_log.specs.Log.{pending_at}
use Rattle.redo_log.specs.Append.{with_pending}

is_below : (a b : ℕ) → a < b → nat_lt a b ≡ true
is_below a b lt = grind (arith, nat_tests)

is_behind : (a b : ℕ) → b ≤ a → nat_lt a b ≡ false
is_behind a b ge = grind (arith, nat_tests)

pub pending_front : (r : RingState) (log : LogState) (n : ℕ) → n < r.written → (with_pending r log).block n ≡ r.block n
pending_front r log n lt = cond-true (nat_lt n r.written) (r.block n) (pending_at log (n - r.written)) (is_below n r.written lt)

pub pending_back : (r : RingState) (log : LogState) (j : ℕ) → (with_pending r log).block (r.written + j) ≡ pending_at log j
pending_back r log j =
    let e : r.written + j - r.written ≡ j = omega arith in
    cond-false (nat_lt (r.written + j) r.written) (r.block (r.written + j)) (pending_at log (r.written + j - r.written)) (is_behind (r.written + j) r.written (omega arith)) ∙ ap (λ (i : ℕ). pending_at log i) e

-- it is ready where it was
pub pending_ready : (N : ℕ) (log : LogState) (keys : Keys) (r : RingState) (past : Past) → At (RingReady N (redo_form keys) r) past → At (RingReady N (redo_form keys) (with_pending r log)) past
pending_ready N log keys r past at = at_each (λ es ready. ready_blocks N (redo_form keys) r (with_pending r log).block es (λ n low lt. sym (pending_front r log n lt)) ready) at
