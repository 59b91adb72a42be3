-- The faults of a disk in memory where no turn is listed to fail: they come from its stop alone.
use Rattle.std.proofs.Common.{◌≡◌, ℕ, ◌+◌, ◌≤◌, Bool, true, false, true≢false, ◌&&◌, nat_le, if◌then◌else◌, List, [], ◌∷◌, zero, suc, Option, None, Some, refl, sym, ◌∙◌, arith}
use Rattle.std.proofs.Math.Bool.{or-false}
use Rattle.std.proofs.lemmas.Bool.{and_parts}
use Rattle.std.proofs.lemmas.Bool.Decides.{nat_tests}
use Rattle.disk_model.specs.Turns.{is_turn, turns_of, turns_in, faults_of, faults_in, is_failing, fits, is_to_fail, are_planned}
use Rattle.disk_model.specs.declared.calls.DiskCall.{DiskCall}
use Rattle.disk_model.specs.declared.calls.DiskAct.{DiskAct}
use Rattle.disk_model.specs.declared.calls.DiskAnswer.{DiskAnswer}
use Rattle.disk_model.specs.declared.calls.DiskAnswer.TheVariants as answer

first_planned : (stop : Option ℕ) (n : ℕ) (c : DiskCall) (cs : List DiskCall) → are_planned [] stop n (c ∷ cs) ≡ true
    → (fits (is_to_fail [] stop n c.act) c.answer ≡ true) × (are_planned [] stop (n + turns_of c.act) cs ≡ true)
first_planned stop n c cs planned = and_parts (fits (is_to_fail [] stop n c.act) c.answer) (are_planned [] stop (n + turns_of c.act) cs) planned

-- with no stop, a call that is answered as planned doesn't fail
no_fault : (n : ℕ) (x : DiskAct) (w : DiskAnswer) → fits (is_to_fail [] None n x) w ≡ true → faults_of w ≡ 0
no_fault n x answer.Ok fit = refl
no_fault n x answer.Failed fit = absurd (true≢false (sym (and_parts (is_turn x) (is_failing [] None (n + 1)) fit).1))
no_fault n x answer.NoMemory fit = refl

pub none-fails : (n : ℕ) (cs : List DiskCall) → are_planned [] None n cs ≡ true → faults_in cs ≡ 0
none-fails n [] planned = refl
none-fails n (c ∷ cs) planned =
    let first = first_planned None n c cs planned in
    omega (arith, no_fault n c.act c.answer first.0, none-fails (n + turns_of c.act) cs first.1)

failing_turn : (s n : ℕ) (is_one : Bool) → (is_one && is_failing [] (Some s) (n + 1)) ≡ true → s ≤ n + (if is_one then 1 else 0)
failing_turn s n true failing =
    let reached : nat_le s (n + 1) ≡ true = sym (or-false (nat_le s (n + 1))) ∙ failing in grind (arith, nat_tests, reached)
failing_turn s n false failing = absurd (true≢false (sym failing))

-- a call that fails as planned is a turn from the stop on
fault_late : (s n : ℕ) (x : DiskAct) (w : DiskAnswer) → fits (is_to_fail [] (Some s) n x) w ≡ true → 1 ≤ faults_of w → s ≤ n + turns_of x
fault_late s n x answer.Ok fit failed = absurd (omega (arith, failed))
fault_late s n x answer.Failed fit failed = failing_turn s n (is_turn x) fit
fault_late s n x answer.NoMemory fit failed = absurd (omega (arith, failed))

first_or_later : (a b : ℕ) {G : Type 0} → 1 ≤ a + b → (1 ≤ a → G) → (1 ≤ b → G) → G
first_or_later zero b some first later = later (omega (arith, some))
first_or_later (suc a) b some first later = first (omega arith)

-- where a call failed, the calls reach the stop's turn
pub fails-late : (s n : ℕ) (cs : List DiskCall) → are_planned [] (Some s) n cs ≡ true → 1 ≤ faults_in cs → s ≤ n + turns_in cs
fails-late s n [] planned failed = absurd (omega (arith, failed))
fails-late s n (c ∷ cs) planned failed =
    let first = first_planned (Some s) n c cs planned in
    first_or_later (faults_of c.answer) (faults_in cs) failed (λ here. omega (arith, fault_late s n c.act c.answer first.0 here))
    (λ later. omega (arith, fails-late s (n + turns_of c.act) cs first.1 later))
