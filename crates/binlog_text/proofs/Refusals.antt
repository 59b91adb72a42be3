-- What a refusal of an event that is there isn't, and what is known of a step.
use Rattle.std.proofs.Common.{◌≡◌, ℕ, false, rules, refl, subst, Option, Some, None, Result, Ok, Err, IfOk, IfErr, IfSome}
use Rattle.binlog_text.specs.Faults.{HasBinlogCauses, IsBinlogRefusal, is_outside, is_outside_fault}
use Rattle.binlog_text.specs.declared.fault.BinlogFault.{BinlogFault}
use Rattle.binlog_text.specs.declared.fault.BinlogFault.TheVariants.{Algorithm, BadLength, BadMagic, Checksum, FileFault, Missing, MissingKey, NoFormat, OutOfMemory, Scheme, ShortEvent}

refusal_inside : (fault : BinlogFault) → IsBinlogRefusal fault → is_outside fault ≡ false
refusal_inside Missing h = absurd h
refusal_inside BadMagic h = absurd h
refusal_inside FileFault h = absurd h
refusal_inside OutOfMemory h = absurd h
refusal_inside (ShortEvent at wanted found) h = refl
refusal_inside (BadLength at length) h = refl
refusal_inside (NoFormat kind) h = refl
refusal_inside (Algorithm n) h = refl
refusal_inside (Scheme n) h = refl
refusal_inside (MissingKey version) h = refl
refusal_inside (Checksum at stored computed) h = refl

-- it doesn't come from outside
pub refused_inside : {T : Type 0} (r : Result T BinlogFault) → IfErr r IsBinlogRefusal → is_outside_fault r ≡ false
refused_inside (Ok x) h = refl
refused_inside (Err fault) h = refusal_inside fault h

-- the causes of a call with none of its own, after others
pub inside_causes : {S T : Type 0} (faults faults' absences absences' : ℕ) (before : Result S BinlogFault) (r : Result T BinlogFault)
    → HasBinlogCauses faults faults' absences absences' before → IfErr r IsBinlogRefusal → HasBinlogCauses faults faults' absences absences' r
inside_causes faults faults' absences absences' before r causes h = record {
  faults_later = causes.faults_later;
  absences_later = causes.absences_later;
  failed = λ is. absurd (subst (λ x. IfErr x IsBinlogRefusal) is h);
  missing = λ is. absurd (subst (λ x. IfErr x IsBinlogRefusal) is h);
}

-- what holds of a step has each fact that follows
pub step_each : {S : Type 0} {P Q : S → Type 0} (r : Result (Option S) BinlogFault) → ((s : S) → P s → Q s) → IfOk r (λ step. IfSome step P) → IfOk r (λ step. IfSome step Q)
step_each (Ok (Some s)) goes h = goes s h
step_each (Ok None) goes h = search rules
step_each (Err fault) goes h = search rules
