-- What a fault of the key files or of the log stops with.
use Rattle.std.proofs.Common.{◌≡◌, ◌≤◌, ◌⊎◌, inl, inr, ℕ, List, [], refl, sym, ap, subst, ◌∙◌, arith, Option, Result, Err, IfErr}
use Rattle.io_core.specs.Files.{Files}
use Rattle.key_file.specs.Cause.{HasCauses}
use Rattle.key_file.specs.Load.{IsOutside}
use Rattle.key_file.specs.Loaded.{IsTheAnswer, LoadsFrom}
use Rattle.key_file.specs.declared.derivation.KeyDigest.{KeyDigest}
use Rattle.key_file.specs.declared.load_fault.LoadFault.{LoadFault}
use Rattle.key_file.specs.declared.load_fault.LoadFault.TheVariants as key
use Rattle.binlog_text.specs.Advances.{ReaderCauses}
use Rattle.binlog_text.specs.Reading.{StandsAt}
use Rattle.binlog_text.specs.declared.fault.BinlogFault.{BinlogFault}
use Rattle.binlog_text.specs.declared.fault.BinlogFault.TheVariants as log
use Rattle.binlog_text.specs.declared.stage.Stage.{Stage}
use Rattle.binlog_text.specs.declared.stage.Stage.TheVariants.{Refused}
use Rattle.binlog_cli.specs.Keys.{IsOneLoad}
use Rattle.binlog_cli.specs.Stops.{FileCauses, IsKeyStop, IsListStop, key_stop, log_stop}
use Rattle.binlog_cli.specs.declared.status.ListStatus.{ListStatus}
use Rattle.binlog_cli.specs.declared.status.ListStatus.TheVariants.{FileFault, Key, Log, OutFault, OutOfMemory}
use Rattle.cause_core.proofs.Counts.{rose_before}

-- ---- key files

pub key_stopped : (files : Files) (filekey : Option (List ℕ)) (digest : KeyDigest) (names : List (List ℕ)) (fault : LoadFault)
    → IsOutside fault ⊎ LoadsFrom files filekey digest 0 names [] (Err fault) → IsOutside fault ⊎ IsTheAnswer files filekey digest names (Err fault)
    → IsListStop (key_stop fault) ⊎ ((f : LoadFault) × (key_stop fault ≡ Key f) × IsOneLoad files filekey digest names (Err f))
key_stopped files filekey digest names key.FileFault loads only = inl tt
key_stopped files filekey digest names key.OutOfMemory loads only = inl tt
key_stopped files filekey digest names (key.Missing name) (inl out) only = absurd out
key_stopped files filekey digest names (key.Missing name) (inr loads) (inl out) = absurd out
key_stopped files filekey digest names (key.Missing name) (inr loads) (inr only) = inr (key.Missing name, refl, record { loads = loads; only = only })
key_stopped files filekey digest names (key.KeyFile index fault) (inl out) only = absurd out
key_stopped files filekey digest names (key.KeyFile index fault) (inr loads) (inl out) = absurd out
key_stopped files filekey digest names (key.KeyFile index fault) (inr loads) (inr only) = inr (key.KeyFile index fault, refl, record { loads = loads; only = only })

pub is_key_stop : (fault : LoadFault) → IsKeyStop (key_stop fault)
is_key_stop key.FileFault = tt
is_key_stop key.OutOfMemory = tt
is_key_stop (key.Missing name) = tt
is_key_stop (key.KeyFile index fault) = tt

-- a fault of the library is one
pub key_file_fault : {T : Type 0} (fault : LoadFault) → ◌≡◌ {A = Result T ListStatus} (Err (key_stop fault)) (Err FileFault) → fault ≡ key.FileFault
key_file_fault key.FileFault e = refl
key_file_fault key.OutOfMemory e = absurd (cc)
key_file_fault (key.Missing name) e = absurd (cc)
key_file_fault (key.KeyFile index fault) e = absurd (cc)

key_missing : {T : Type 0} (fault : LoadFault) (name : List ℕ) → ◌≡◌ {A = Result T ListStatus} (Err (key_stop fault)) (Err (Key (key.Missing name))) → fault ≡ key.Missing name
key_missing key.FileFault name e = absurd (cc)
key_missing key.OutOfMemory name e = absurd (cc)
key_missing (key.Missing other) name e = cc
key_missing (key.KeyFile index fault) name e = absurd (cc)

key_no_log : {T : Type 0} (fault : LoadFault) (other : BinlogFault) → ◌≡◌ {A = Result T ListStatus} (Err (key_stop fault)) (Err (Log other)) → ⊥
key_no_log key.FileFault other e = cc
key_no_log key.OutOfMemory other e = cc
key_no_log (key.Missing name) other e = cc
key_no_log (key.KeyFile index fault) other e = cc

pub key_causes : {S T : Type 0} (fault : LoadFault) (faults faults' absences absences' : ℕ) → HasCauses {T = S} faults faults' absences absences' (Err fault)
    → FileCauses {T = T} faults faults' absences absences' (Err (key_stop fault))
key_causes fault faults faults' absences absences' causes = record {
  faults_later = causes.later_faults;
  absences_later = causes.later_absences;
  fault = λ e. causes.failed (ap Err (key_file_fault fault e));
  missing = λ e. absurd (key_no_log fault log.Missing e);
  missing_key = λ name e. causes.missing name (ap Err (key_missing fault name e));
}

-- ---- the log

pub log_file_fault : (fault : BinlogFault) → log_stop fault ≡ FileFault → fault ≡ log.FileFault
log_file_fault log.FileFault e = refl
log_file_fault log.OutOfMemory e = absurd (cc)
log_file_fault log.Missing e = absurd (cc)
log_file_fault log.BadMagic e = absurd (cc)
log_file_fault (log.ShortEvent at wanted found) e = absurd (cc)
log_file_fault (log.BadLength at length) e = absurd (cc)
log_file_fault (log.NoFormat kind) e = absurd (cc)
log_file_fault (log.Algorithm number) e = absurd (cc)
log_file_fault (log.Scheme number) e = absurd (cc)
log_file_fault (log.MissingKey version) e = absurd (cc)
log_file_fault (log.Checksum at stored computed) e = absurd (cc)

pub log_missing : (fault : BinlogFault) → log_stop fault ≡ Log log.Missing → fault ≡ log.Missing
log_missing log.Missing e = refl
log_missing log.FileFault e = absurd (cc)
log_missing log.OutOfMemory e = absurd (cc)
log_missing log.BadMagic e = absurd (cc)
log_missing (log.ShortEvent at wanted found) e = absurd (cc)
log_missing (log.BadLength at length) e = absurd (cc)
log_missing (log.NoFormat kind) e = absurd (cc)
log_missing (log.Algorithm number) e = absurd (cc)
log_missing (log.Scheme number) e = absurd (cc)
log_missing (log.MissingKey version) e = absurd (cc)
log_missing (log.Checksum at stored computed) e = absurd (cc)

pub log_no_key : (fault : BinlogFault) (other : LoadFault) → log_stop fault ≡ Key other → ⊥
log_no_key log.FileFault other e = cc
log_no_key log.OutOfMemory other e = cc
log_no_key log.Missing other e = cc
log_no_key log.BadMagic other e = cc
log_no_key (log.ShortEvent at wanted found) other e = cc
log_no_key (log.BadLength at length) other e = cc
log_no_key (log.NoFormat kind) other e = cc
log_no_key (log.Algorithm number) other e = cc
log_no_key (log.Scheme number) other e = cc
log_no_key (log.MissingKey version) other e = cc
log_no_key (log.Checksum at stored computed) other e = cc

not_refused : (stage : Stage) (fault : BinlogFault) (end : ℕ) → stage ≡ Refused fault → StandsAt stage end → ⊥
not_refused stage fault end is stands = subst (λ (s : Stage). StandsAt s end) is stands

status_in : {T : Type 0} (a b : ListStatus) → ◌≡◌ {A = Result T ListStatus} (Err a) (Err b) → a ≡ b
status_in a b e = cc

-- a reader that stands at an event answered a fault, and what is answered is that, or the sink's
pub log_causes : {S T : Type 0} (stage : Stage) (end : ℕ) (fault : BinlogFault) (r : Result T ListStatus) (f0 f1 f2 a0 a1 a2 : ℕ) → StandsAt stage end → f0 ≤ f1 → a0 ≤ a1
    → ReaderCauses {T = S} stage f1 f2 a1 a2 (Err fault) → (r ≡ Err (log_stop fault)) ⊎ ((r ≡ Err OutFault) ⊎ (r ≡ Err OutOfMemory)) → FileCauses {T = T} f0 f2 a0 a2 r
log_causes stage end fault r f0 f1 f2 a0 a1 a2 stands faults absences causes (inl is) = record {
  faults_later = omega (arith, faults, causes.faults_later);
  absences_later = omega (arith, absences, causes.absences_later);
  fault = λ e. rose_before f0 f1 f2 faults (causes.failed (ap Err (log_file_fault fault (status_in _ _ (sym is ∙ e)))));
  missing = λ e.
      elim (causes.missing (ap Err (log_missing fault (status_in _ _ (sym is ∙ e))))) [
        | inl refused ↦ absurd (not_refused stage log.Missing end refused stands)
        | inr rose ↦ rose_before a0 a1 a2 absences rose
      ];
  missing_key = λ name e. absurd (log_no_key fault (key.Missing name) (status_in _ _ (sym is ∙ e)));
}
log_causes stage end fault r f0 f1 f2 a0 a1 a2 stands faults absences causes (inr (inl is)) = record {
  faults_later = omega (arith, faults, causes.faults_later);
  absences_later = omega (arith, absences, causes.absences_later);
  fault = λ e. let two = sym is ∙ e in absurd (cc);
  missing = λ e. let two = sym is ∙ e in absurd (cc);
  missing_key = λ name e. let two = sym is ∙ e in absurd (cc);
}
log_causes stage end fault r f0 f1 f2 a0 a1 a2 stands faults absences causes (inr (inr is)) = record {
  faults_later = omega (arith, faults, causes.faults_later);
  absences_later = omega (arith, absences, causes.absences_later);
  fault = λ e. let two = sym is ∙ e in absurd (cc);
  missing = λ e. let two = sym is ∙ e in absurd (cc);
  missing_key = λ name e. let two = sym is ∙ e in absurd (cc);
}

-- want of memory, or an answer of the sink
pub stop_causes : {T : Type 0} (r : Result T ListStatus) (f0 f2 a0 a2 : ℕ) → IfErr r IsListStop → (r ≡ Err FileFault → ⊥) → f0 ≤ f2 → a0 ≤ a2 → FileCauses f0 f2 a0 a2 r
stop_causes r f0 f2 a0 a2 stop inside faults absences = record {
  faults_later = faults;
  absences_later = absences;
  fault = λ e. absurd (inside e);
  missing = λ e. absurd (subst (λ x. IfErr x IsListStop) e stop);
  missing_key = λ name e. absurd (subst (λ x. IfErr x IsListStop) e stop);
}
