-- What one call of the disk inside leaves.
use Rattle.std.proofs.Common.{◌≡◌, ℕ, ◌+◌, ◌-◌, ◌^◌, ◌<◌, inl, inr, min, Bool, if◌then◌else◌, [], ◌∷◌, Option, Some, None, Result, Ok, Err, OnOk, OnErr, IfErr, IsErrOf, refl, sym, ap, ◌∙◌, subst, arith}
use Rattle.cause_core.specs.Cause.{HasCauseOf}
use Rattle.disk_model.specs.Event.{Event}
use Rattle.disk_model.specs.Past.{Past, grow, MayGrow, HasDiskCause, HasDiskMemoryCause}
use Rattle.disk_model.specs.declared.names.DiskError.{DiskError}
use Rattle.disk_model.specs.declared.names.DiskError.TheVariants.{Failed, NoMemory}
use Rattle.counted_disk.specs.Counting.{answers_of, capped, faults_after, faults_told, refusals_after, refusals_told, turns_of_event, CountState, GoesOn, Untold, Told, AddsTurns, IsCounted, RunsOn, Runs, Stops}
use Rattle.counted_disk.specs.declared.counted.Stop.{Stop}

-- nothing more was done
pub went_none : (a b : Past) → b ≡ a → GoesOn 0 a b
went_none None b is = Untold refl is
went_none (Some es) b is = Told es [] refl is refl

-- one event more
pub went_one : (e : Event) (n : ℕ) → turns_of_event e ≡ n → (a b : Past) → b ≡ grow e a → GoesOn n a b
went_one e n turns None b is = Untold refl is
went_one e n turns (Some es) b is = Told es (e ∷ []) refl is (omega (arith, turns))

pub adds_same : (turns new : ℕ) → new ≡ turns → AddsTurns 0 turns new
adds_same turns new same k is = omega (arith, same, is)

pub adds_one : (turns new : ℕ) → new ≡ min (turns + 1) (2 ^ 64 - 1) → AddsTurns 1 turns new
adds_one turns new is k at = omega (arith, is, at)

pub on_ok : {T E : Type 0} {A B : Type 0} (result : Result T E) → (A → B) → OnOk result A → OnOk result B
on_ok (Ok v) f a = f a
on_ok (Err e) f a = tt

pub on_err : {T E : Type 0} {A B : Type 0} (result : Result T E) → (A → B) → OnErr result A → OnErr result B
on_err (Ok v) f a = tt
on_err (Err e) f a = f a

pub always_ok : {T E : Type 0} {A : Type 0} (result : Result T E) → A → OnOk result A
always_ok (Ok v) a = a
always_ok (Err e) a = tt

pub always_err : {T E : Type 0} {A : Type 0} (result : Result T E) → A → OnErr result A
always_err (Ok v) a = tt
always_err (Err e) a = a

pub may_event : (E : Event → Type 0) (n : ℕ) → ((e : Event) → E e → turns_of_event e ≡ n) → (a b : Past) → MayGrow E a b → MayGrow (λ e. turns_of_event e ≡ n) a b
may_event E n turns a b (inl same) = inl same
may_event E n turns a b (inr (e, kind, more)) = inr (e, turns e kind, more)

abbrev error_or : {T E : Type 0} → E → Result T E → E
error_or e (Ok v) = e
error_or e (Err x) = x

-- the cause of an error, whatever a value would have been
pub cause_as : {T X E : Type 0} {error e : E} {before now : ℕ} → HasCauseOf {T = T} error before now (Err e) → HasCauseOf {T = X} error before now (Err e)
cause_as {e = e} cause = record { later = cause.later; rose = λ is. cause.rose (ap (λ r. Err (error_or e r)) is) }

-- the counts that such a disk tells, behind a call of one that wasn't stopped
module _ {T : Type 0} (in_turn : Bool) (old new : Option Stop) (f g : ℕ) (result : Result T DiskError) (running : old ≡ None) (stays : OnOk result (new ≡ old)) (stop : IfErr result (λ e. new ≡ Some (record { error = e; in_turn = in_turn }))) where
  none_told : faults_told old f ≡ 0
  none_told = ap (λ o. faults_told o f) running

  none_refused : refusals_told old f ≡ 0
  none_refused = ap (λ o. refusals_told o f) running

  pub told_cause : HasDiskCause (faults_told old f) (faults_told new g) result
  told_cause = by result stays stop
    where
      by : (r : Result T DiskError) → OnOk r (new ≡ old) → IfErr r (λ e. new ≡ Some (record { error = e; in_turn = in_turn })) → HasDiskCause (faults_told old f) (faults_told new g) r
      by (Ok v) same is = record { later = omega (arith, none_told); rose = λ e. absurd (cc) }
      by (Err Failed) same is =
          let told : faults_told new g ≡ g + 1 = ap (λ o. faults_told o g) is in
          record { later = omega (arith, none_told); rose = λ e. omega (arith, none_told, told) }
      by (Err NoMemory) same is = record { later = omega (arith, none_told); rose = λ e. absurd (cc) }

  pub told_memory : HasDiskMemoryCause (refusals_told old f) (refusals_told new g) result
  told_memory = by result stays stop
    where
      by : (r : Result T DiskError) → OnOk r (new ≡ old) → IfErr r (λ e. new ≡ Some (record { error = e; in_turn = in_turn })) → HasDiskMemoryCause (refusals_told old f) (refusals_told new g) r
      by (Ok v) same is = record { later = omega (arith, none_refused); rose = λ e. absurd (cc) }
      by (Err Failed) same is = record { later = omega (arith, none_refused); rose = λ e. absurd (cc) }
      by (Err NoMemory) same is =
          let told : refusals_told new g ≡ g + 1 = ap (λ o. refusals_told o g) is in
          record { later = omega (arith, none_refused); rose = λ e. omega (arith, none_refused, told) }

  pub told_no_fault : OnOk result (faults_told new g ≡ faults_told old f)
  told_no_fault = on_ok result (λ same. ap (λ o. faults_told o g) (same ∙ running) ∙ sym none_told) stays

  pub told_no_refusal : OnOk result (refusals_told new g ≡ refusals_told old f)
  told_no_refusal = on_ok result (λ same. ap (λ o. refusals_told o g) (same ∙ running) ∙ sym none_refused) stays

  pub told_at_want : IsErrOf result NoMemory → faults_told new g ≡ faults_told old f
  told_at_want = by result stop
    where
      by : (r : Result T DiskError) → IfErr r (λ e. new ≡ Some (record { error = e; in_turn = in_turn })) → IsErrOf r NoMemory → faults_told new g ≡ faults_told old f
      by (Ok v) is e = absurd (cc)
      by (Err Failed) is e = absurd (cc)
      by (Err NoMemory) is e = ap (λ o. faults_told o g) is ∙ sym none_told

-- and behind one that was
module _ (s : Stop) (old : Option Stop) (f : ℕ) (is : old ≡ Some s) (fits : f < 2 ^ 64) where
  pub fault_more : s.error ≡ Failed → HasDiskCause {T = Unit {0}} (faults_told old f) (faults_told old (faults_after Failed f)) (Err Failed)
  fault_more e =
      let told : faults_told old f ≡ f + 1 = ap (λ o. faults_told o f) is ∙ ap (λ x. answers_of x Failed f) e in
      let more : faults_told old (faults_after Failed f) ≡ capped (f + 1) + 1 = ap (λ o. faults_told o (faults_after Failed f)) is ∙ ap (λ x. answers_of x Failed (faults_after Failed f)) e in
      record { later = omega (arith, told, more, fits); rose = λ r. omega (arith, told, more, fits) }

  pub refusal_more : s.error ≡ NoMemory → HasDiskMemoryCause {T = Unit {0}} (refusals_told old f) (refusals_told old (refusals_after NoMemory f)) (Err NoMemory)
  refusal_more e =
      let told : refusals_told old f ≡ f + 1 = ap (λ o. refusals_told o f) is ∙ ap (λ x. answers_of x NoMemory f) e in
      let more : refusals_told old (refusals_after NoMemory f) ≡ capped (f + 1) + 1 = ap (λ o. refusals_told o (refusals_after NoMemory f)) is ∙ ap (λ x. answers_of x NoMemory (refusals_after NoMemory f)) e in
      record { later = omega (arith, told, more, fits); rose = λ r. omega (arith, told, more, fits) }

-- a call of a disk that wasn't stopped, which is a turn or isn't
pub called : {T : Type 0} (in_turn : Bool) (n : ℕ) (old new : CountState) (result : Result T DiskError)
    → (if in_turn then 1 else 0) ≡ n
    → old.stop ≡ None
    → OnOk result (new.stop ≡ old.stop) → IfErr result (λ e. new.stop ≡ Some (record { error = e; in_turn = in_turn }))
    → OnOk result (GoesOn n old.past new.past) → OnErr result (MayGrow (λ e. turns_of_event e ≡ n) old.past new.past)
    → AddsTurns n old.turns new.turns
    → HasDiskCause old.faults new.faults result → HasDiskMemoryCause old.refusals new.refusals result
    → OnOk result (new.faults ≡ old.faults) → (IsErrOf result NoMemory → new.faults ≡ old.faults) → OnOk result (new.refusals ≡ old.refusals)
    → IsCounted old new
called in_turn n old new (Ok v) turns running stays stop goes may adds cause memory no_fault no_fault_at_want no_refusal =
    Runs n goes adds running (stays ∙ running) no_fault no_refusal
called in_turn n old new (Err e) turns running stays stop goes may adds cause memory no_fault no_fault_at_want no_refusal =
    Stops 0 old.past (record { error = e; in_turn = in_turn }) (went_none old.past old.past refl)
    (subst (λ k. MayGrow (λ x. turns_of_event x ≡ k) old.past new.past) (sym turns) may)
    (λ k is. adds k is ∙ ap capped (omega (arith, turns)))
    running stop
    (record { failed = λ is. cause.rose (ap Err is); refused = λ is. memory.rose (ap Err is); no_fault = λ is. no_fault_at_want (ap Err is) })

-- what such a call says of itself
pub runs_on_call : {T : Type 0} (in_turn : Bool) (turns new : ℕ) (stop before : Option Stop) (done result : Result T DiskError) → result ≡ done → AddsTurns (if in_turn then 1 else 0) turns new → before ≡ None → OnOk done (stop ≡ before)
    → IfErr done (λ e. stop ≡ Some (record { error = e; in_turn = in_turn })) → RunsOn in_turn turns new stop result
runs_on_call in_turn turns new stop before done result same adds running stays err =
    subst (λ r. RunsOn in_turn turns new stop r) (sym same) (record { turn = adds; ok = on_ok done (λ e. e ∙ running) stays; err = err })
