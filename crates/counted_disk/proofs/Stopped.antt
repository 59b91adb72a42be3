-- What stopped a disk, by the answer of a stretch of calls that were made over it.
use Rattle.std.proofs.Common.{◌≡◌, ℕ, ◌+◌, Option, Some, None, Result, Ok, Err, OnOk, IfErr, refl, sym, ap, ◌∙◌, arith}
use Rattle.std.proofs.lemmas.Option.{none-some}
use Rattle.disk_model.specs.Past.{HasDiskCause, HasDiskMemoryCause}
use Rattle.disk_model.specs.declared.names.DiskError.{DiskError}
use Rattle.disk_model.specs.declared.names.DiskError.TheVariants.{Failed, NoMemory}
use Rattle.counted_disk.specs.Counting.{answers_of, faults_told, refusals_told}
use Rattle.counted_disk.specs.declared.counted.Stop.{Stop}

-- Where a disk that ran answers an error, that error has stopped it, whatever the disk inside counts.
pub stopped_by : {T : Type 0} (old new : Option Stop) (f g r q : ℕ) (result : Result T DiskError) → old ≡ None → HasDiskCause (faults_told old f) (faults_told new g) result
    → HasDiskMemoryCause (refusals_told old r) (refusals_told new q) result → IfErr result (λ e. (s : Stop) × (new ≡ Some s) × (s.error ≡ e))
stopped_by old new f g r q (Ok v) none cause memory = tt
stopped_by (Some x) new f g r q (Err e) none cause memory = absurd (none-some x (sym none))
stopped_by None None f g r q (Err Failed) none cause memory = absurd (let rose = cause.rose refl in omega (arith, rose))
stopped_by None None f g r q (Err NoMemory) none cause memory = absurd (let rose = memory.rose refl in omega (arith, rose))
stopped_by None (Some s) f g r q (Err e) none cause memory = (s, refl, by s.error e refl refl)
  where
    by : (x y : DiskError) → s.error ≡ x → e ≡ y → s.error ≡ e
    by Failed Failed is same = is ∙ sym same
    by NoMemory NoMemory is same = is ∙ sym same
    by Failed NoMemory is same = absurd (let rose = memory.rose (ap Err same) in let none : answers_of s.error NoMemory q ≡ 0 = ap (λ x. answers_of x NoMemory q) is in omega (arith, rose, none))
    by NoMemory Failed is same = absurd (let rose = cause.rose (ap Err same) in let none : answers_of s.error Failed g ≡ 0 = ap (λ x. answers_of x Failed g) is in omega (arith, rose, none))

runs_on : (old new : Option Stop) (f g r q : ℕ) → old ≡ None → faults_told new g ≡ faults_told old f → refusals_told new q ≡ refusals_told old r → new ≡ None
runs_on old None f g r q none fault refusal = refl
runs_on (Some x) (Some s) f g r q none fault refusal = absurd (none-some x (sym none))
runs_on None (Some s) f g r q none fault refusal = absurd (by s.error refl)
  where
    by : (x : DiskError) → s.error ≡ x → ⊥
    by Failed is = let some : answers_of s.error Failed g ≡ g + 1 = ap (λ x. answers_of x Failed g) is in omega (arith, fault, some)
    by NoMemory is = let some : answers_of s.error NoMemory q ≡ q + 1 = ap (λ x. answers_of x NoMemory q) is in omega (arith, refusal, some)

-- And where it answers Ok, with no fault and no refusal, it runs on.
pub still_runs : {T X : Type 0} (old new : Option Stop) (f g r q : ℕ) (result : Result T X) → old ≡ None → OnOk result (faults_told new g ≡ faults_told old f) → OnOk result (refusals_told new q ≡ refusals_told old r) → OnOk result (new ≡ None)
still_runs old new f g r q (Ok v) none fault refusal = runs_on old new f g r q none fault refusal
still_runs old new f g r q (Err e) none fault refusal = tt
