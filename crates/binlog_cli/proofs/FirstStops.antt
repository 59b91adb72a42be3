-- Which fault of a listing came first, and which counts the others leave.
use Rattle.std.proofs.Common.{◌≡◌, ◌⊎◌, inl, inr, ℕ, List, [], refl, sym, ap, subst, ◌∙◌, false, Result, Ok, Err, IsErrAnd, IsErrOf}
use Rattle.io_core.specs.declared.error.IoError.{IoError}
use Rattle.io_core.specs.declared.error.IoError.TheVariants.{Failed, NoMemory}
use Rattle.key_file.specs.declared.load_fault.LoadFault.{LoadFault}
use Rattle.key_file.specs.declared.load_fault.LoadFault.TheVariants as key
use Rattle.binlog_text.specs.Faults.{is_outside_fault}
use Rattle.binlog_text.specs.declared.fault.BinlogFault.{BinlogFault}
use Rattle.binlog_text.specs.declared.fault.BinlogFault.TheVariants as log
use Rattle.binlog_cli.specs.Listing.{refused_place}
use Rattle.binlog_cli.specs.Stops.{IsListStop, PrintCauses, first_stop, key_stop, list_status_of, log_stop, print_stop}
use Rattle.binlog_cli.specs.declared.status.ListStatus.{ListStatus}
use Rattle.binlog_cli.specs.declared.status.ListStatus.TheVariants.{Done, FileFault, Key, Log, OutFault, OutOfMemory, Usage}

-- ---- what is so unless the count rose

-- want of memory of a sink
pub print_still : {A T : Type 0} (e : IoError) → (IsErrOf {T = T} (Err e) NoMemory → A) → (print_stop e ≡ OutFault → ⊥) → A
print_still Failed still other = absurd (other refl)
print_still NoMemory still other = still refl

-- a fault of the key files that is none of the library
pub key_still : {A : Type 0} (fault : LoadFault) → ((fault ≡ key.FileFault → ⊥) → A) → (key_stop fault ≡ FileFault → ⊥) → A
key_still key.FileFault still other = absurd (other refl)
key_still key.OutOfMemory still other = still (λ e. cc)
key_still (key.Missing name) still other = still (λ e. cc)
key_still (key.KeyFile index fault) still other = still (λ e. cc)

-- a fault of the log that is none of the library
pub log_still : {A T : Type 0} (fault : BinlogFault) → (is_outside_fault {T = T} (Err fault) ≡ false → A) → (IsErrOf {T = T} (Err fault) log.OutOfMemory → A) → (fault ≡ log.FileFault → ⊥) → A
log_still log.FileFault inside want other = absurd (other refl)
log_still log.OutOfMemory inside want other = want refl
log_still log.Missing inside want other = inside refl
log_still log.BadMagic inside want other = inside refl
log_still (log.ShortEvent at wanted found) inside want other = inside refl
log_still (log.BadLength at length) inside want other = inside refl
log_still (log.NoFormat kind) inside want other = inside refl
log_still (log.Algorithm number) inside want other = inside refl
log_still (log.Scheme number) inside want other = inside refl
log_still (log.MissingKey version) inside want other = inside refl
log_still (log.Checksum at stored computed) inside want other = inside refl

-- ---- a fault of the log, and then one at giving the text

-- the file's is answered, and of any other fault what stopped the text
first_by : (P : ListStatus → Type 0) (fault : BinlogFault) (stop : ListStatus) → (fault ≡ log.FileFault → P FileFault) → P stop → P (first_stop fault stop)
first_by P log.FileFault stop file text = file refl
first_by P log.OutOfMemory stop file text = text
first_by P log.Missing stop file text = text
first_by P log.BadMagic stop file text = text
first_by P (log.ShortEvent at wanted found) stop file text = text
first_by P (log.BadLength at length) stop file text = text
first_by P (log.NoFormat kind) stop file text = text
first_by P (log.Algorithm number) stop file text = text
first_by P (log.Scheme number) stop file text = text
first_by P (log.MissingKey version) stop file text = text
first_by P (log.Checksum at stored computed) stop file text = text

pub file_first : (fault : BinlogFault) (stop : ListStatus) → fault ≡ log.FileFault → first_stop fault stop ≡ FileFault
file_first fault stop is = ap (λ (f : BinlogFault). first_stop f stop) is

-- it is a fault or want of memory
pub first_stops : (fault : BinlogFault) (stop : ListStatus) → IsListStop stop → IsListStop (first_stop fault stop)
first_stops fault stop stops = first_by IsListStop fault stop (λ file. tt) stops

-- the output's is answered only where it stopped the text
first_out : (fault : BinlogFault) (stop : ListStatus) → first_stop fault stop ≡ OutFault → stop ≡ OutFault
first_out fault stop = first_by (λ (s : ListStatus). s ≡ OutFault → stop ≡ OutFault) fault stop (λ file e. absurd (cc)) (λ e. e)

-- where neither is answered, the text wasn't stopped by the output
pub first_still : {A : Type 0} (fault : BinlogFault) (stop : ListStatus) → ((stop ≡ OutFault → ⊥) → A) → (first_stop fault stop ≡ OutFault → ⊥) → (first_stop fault stop ≡ FileFault → ⊥) → A
first_still {A} fault stop still =
    first_by (λ (s : ListStatus). (s ≡ OutFault → ⊥) → (s ≡ FileFault → ⊥) → A) fault stop (λ file out no_file. absurd (no_file refl)) (λ out no_file. still out)

-- the count of the output tells the same of both
pub first_cause : {S T : Type 0} (fault : BinlogFault) (stop answer : ListStatus) (faults faults' : ℕ) → answer ≡ first_stop fault stop
    → PrintCauses {T = S} faults faults' (Err stop) → PrintCauses {T = T} faults faults' (Err answer)
first_cause fault stop answer faults faults' is cause = record {
  later = cause.later;
  fault = λ e. let out : answer ≡ OutFault = cc in cause.fault (ap Err (first_out fault stop (sym is ∙ out)));
}

-- what is answered where the text was stopped, and the place that was reached
abbrev pub IsFirst : BinlogFault → Result (Unit {0}) ListStatus → ℕ → List ℕ → Type 0
IsFirst fault r place text =
    ((r ≡ Err (log_stop fault)) × (place ≡ refused_place place fault))
    ⊎ (((r ≡ Err OutFault) × (text ≡ [] → ⊥) × (place ≡ place)) ⊎ ((r ≡ Err OutOfMemory) × (place ≡ place)))

out_first : (fault : BinlogFault) (stop : ListStatus) (place : ℕ) (text : List ℕ) → IsListStop stop → (stop ≡ FileFault → ⊥) → (stop ≡ OutFault → text ≡ [] → ⊥)
    → IsFirst fault (Err stop) place text
out_first fault FileFault place text stops inside some = absurd (inside refl)
out_first fault OutFault place text stops inside some = inr (inl (refl, some refl, refl))
out_first fault OutOfMemory place text stops inside some = inr (inr (refl, refl))
out_first fault Done place text stops inside some = absurd stops
out_first fault (Log other) place text stops inside some = absurd stops
out_first fault Usage place text stops inside some = absurd stops
out_first fault (Key other) place text stops inside some = absurd stops

first_place : (fault : BinlogFault) (stop : ListStatus) (place : ℕ) (text : List ℕ) → IsFirst fault (Err stop) place text → IsFirst fault (Err (first_stop fault stop)) place text
first_place fault stop place text =
    first_by (λ (s : ListStatus). IsFirst fault (Err s) place text) fault stop
    (λ file. inl (ap (λ (f : BinlogFault). Err (log_stop f)) (sym file), ap (λ (f : BinlogFault). refused_place place f) (sym file)))

pub first_answer : (fault : BinlogFault) (stop answer : ListStatus) (place : ℕ) (text : List ℕ) → answer ≡ first_stop fault stop → IsListStop stop → (stop ≡ FileFault → ⊥)
    → (stop ≡ OutFault → text ≡ [] → ⊥) → IsFirst fault (Err answer) place text
first_answer fault stop answer place text is stops inside some =
    subst (λ (s : ListStatus). IsFirst fault (Err s) place text) (sym is) (first_place fault stop place text (out_first fault stop place text stops inside some))

-- what stopped the text is handed on
pub handed_still : {A : Type 0} (r : Result (Unit {0}) ListStatus) (stop : ListStatus) → IsErrAnd r (λ s. s ≡ stop) → ((stop ≡ OutFault → ⊥) → A) → (list_status_of r ≡ OutFault → ⊥) → A
handed_still (Ok u) stop own still other = absurd own
handed_still (Err s) stop own still other = still (λ e. other (own ∙ e))
