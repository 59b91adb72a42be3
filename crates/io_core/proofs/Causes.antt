-- What the counts of an object of the outside tell a caller.
use Rattle.std.proofs.Common.{◌≡◌, ℕ, Option, Err, refl, sym, ◌∙◌}
use Rattle.cause_core.specs.Counts.{Rose}
use Rattle.io_core.specs.Told.{Told}
use Rattle.io_core.specs.Cause.{HasIoCause}
use Rattle.io_core.specs.declared.error.IoError.{IoError}
use Rattle.io_core.specs.declared.error.IoError.TheVariants.{Failed, NoMemory}

-- where the count of faults didn't rise, an error is want of memory
pub only_memory : {T : Type 0} (before now : ℕ) (e : IoError) → HasIoCause {T = T} before now (Err e) → (Rose before now → ⊥) → e ≡ NoMemory
only_memory before now Failed cause still = absurd (still (cause.rose refl))
only_memory before now NoMemory cause still = refl

-- what is told has each fact that follows
pub told_each : {X : Type 0} {P Q : X → Type 0} {held : Option X} → ((x : X) → P x → Q x) → Told P held → Told Q held
told_each goes told = record { here = λ x is. goes x (told.here x is) }

-- what holds of what is told holds of it where it is the same
pub told_same : {X : Type 0} {P : X → Type 0} {before now : Option X} → now ≡ before → Told P before → Told P now
told_same same told = record { here = λ x is. told.here x (sym same ∙ is) }
