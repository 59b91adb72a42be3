-- How `drill` ends, by its words, the library's files, the input's bytes and what the output is given.
use Rattle.std.specs.Prelude.{◌≡◌, ◌⊎◌, ◌≤◌, ◌<◌, ℕ, List, [], ◌∷◌, ◌++◌, length, drop, Option, Some, Ok, Err}
use Rattle.cause_core.specs.Counts.{Rose}
use Rattle.io_core.specs.Files.{Files}
use Rattle.io_core.specs.Told.{Told}
use Rattle.io_core.specs.Stream.{extended, IsPartlyGiven}
use Rattle.key_file.specs.declared.load_fault.LoadFault.{LoadFault}
use Rattle.key_file.specs.declared.load_fault.LoadFault.TheVariants as load
use Rattle.key_ring.specs.Ring as ring
use Rattle.plain_engine.specs.declared.journal.Entry.{Entry}
use Rattle.plain_engine.specs.Stands.{contents_after}
use Rattle.store_model.specs.Fold.{empty}
use Rattle.store_model.specs.Report.{report_text}
use Rattle.keyd_cli.specs.declared.plan.DrillPlan.{DrillPlan}
use Rattle.keyd_cli.specs.declared.act.DrillStatement.{DrillStatement}
use Rattle.keyd_cli.specs.declared.drill.Drilled.{Drilled}
use Rattle.keyd_cli.specs.declared.outcome.Reply.{Reply}
use Rattle.keyd_cli.specs.declared.outcome.DrillEnd.{DrillEnd}
use Rattle.keyd_cli.specs.declared.status.Status.{Status}
use Rattle.keyd_cli.specs.declared.status.Status.TheVariants as status
use Rattle.keyd_cli.specs.Words.{CommandWord, IsDrill, IsUsage}
use Rattle.keyd_cli.specs.PlanOf.{IsPlan}
use Rattle.keyd_cli.specs.Keys.{IsLoaded}
use Rattle.keyd_cli.specs.Reads.{IsSchedule, IsNotBuilt}
use Rattle.keyd_cli.specs.Drill.{info_of, IsDrilled}
use Rattle.keyd_cli.specs.Printed.{session_text}
use Rattle.keyd_cli.specs.Schedule.{schedule_bytes}

-- ---- the key files

-- Where the library tells its files, those that the options name load.
abbrev pub IsKeyed : List CommandWord → Option Files → Type 0
IsKeyed options files = Told (λ fs. (keys : List ring.RingEntry) × IsLoaded fs options (Ok keys)) files

-- the status of key files that don't load
abbrev pub load_status : LoadFault → Status
load_status (load.Missing name) = status.Missing name
load_status load.FileFault = status.FileFault
load_status (load.KeyFile index fault) = status.KeyFile index fault
load_status load.OutOfMemory = status.OutOfMemory

-- The first fault of the key files, or a fault of the library, whose counts of faults and of absences were and are these.
abbrev pub IsKeyEnd : List CommandWord → Option Files → ℕ → ℕ → ℕ → ℕ → Status → Type 0
IsKeyEnd options files faults faults' absences absences' (status.KeyFile index fault) = Told (λ fs. IsLoaded fs options (Err (load.KeyFile index fault))) files
IsKeyEnd options files faults faults' absences absences' (status.Missing name) = Told (λ fs. IsLoaded fs options (Err (load.Missing name))) files × Rose absences absences'
IsKeyEnd options files faults faults' absences absences' status.FileFault = Rose faults faults'
IsKeyEnd options files faults faults' absences absences' status.OutOfMemory = Unit {0}
IsKeyEnd options files faults faults' absences absences' _ = ⊥

-- ---- the input

-- Where the source tells its bytes, these are all, and they are no more than a schedule may have.
pub record IsInput (left : Option (List ℕ)) (text : List ℕ) : Type 0 where
  pub size : length text ≤ schedule_bytes
  pub read : Told (λ bytes. bytes ≡ text) left

-- The input has more bytes than a schedule may have, or a line that isn't built, or it failed; its count of faults was and is this.
abbrev pub IsInputEnd : DrillPlan → Option (List ℕ) → ℕ → ℕ → Status → Type 0
IsInputEnd plan left faults faults' status.ScriptTooLarge = Told (λ bytes. schedule_bytes < length bytes) left
IsInputEnd plan left faults faults' (status.NotBuilt line) = (text : List ℕ) × IsInput left text × IsNotBuilt plan.space.space plan.space.pages text line
IsInputEnd plan left faults faults' status.InputFault = Rose faults faults'
IsInputEnd plan left faults faults' status.OutOfMemory = Unit {0}
IsInputEnd plan left faults faults' _ = ⊥

-- The input is a schedule, and it was drilled.
pub record IsInputDrilled (plan : DrillPlan) (left : Option (List ℕ)) (d : Drilled) : Type 0 where
  pub text : List ℕ
  pub input : IsInput left text
  pub statements : List DrillStatement
  pub schedule : IsSchedule plan.space.space plan.space.pages text statements
  pub is : IsDrilled plan statements d

-- ---- the output

-- the lines of the session, and the report of the pages after the entries that its crash keeps
abbrev pub drill_text : DrillPlan → Drilled → List ℕ
drill_text plan d =
    session_text d.end.stopped plan.choices.items d.end.journal d.end.acked d.end.kept
    ++ report_text (contents_after d.end.kept d.journal (empty (info_of plan.space ∷ [])))

-- ---- the command

-- The words are a list of `drill`, its key files load, its schedule was drilled.
pub record IsCommandDrilled (words : List CommandWord) (files : Option Files) (left : Option (List ℕ)) (plan : DrillPlan) (d : Drilled) : Type 0 where
  pub words_are : IsDrill words
  pub asked : IsPlan (drop 1 words) plan
  pub keyed : IsKeyed (drop 1 words) files
  pub drilled : IsInputDrilled plan left d

-- It was drilled, the output was given exactly its text, and this is the session's journal, its replies and its end.
pub record IsDrillDone (words : List CommandWord) (files : Option Files) (left given given' : Option (List ℕ)) (journal : List Entry) (replies : List Reply) (drill : List DrillEnd) : Type 0 where
  pub plan : DrillPlan
  pub drilled : Drilled
  pub ready : IsCommandDrilled words files left plan drilled
  pub printed : given' ≡ extended (drill_text plan drilled) given
  pub journal_is : journal ≡ drilled.journal
  pub replies_are : replies ≡ drilled.replies.items
  pub drill_is : drill ≡ drilled.end ∷ []

-- It was drilled, and the output was given a front of its text.
pub record IsCutShort (words : List CommandWord) (files : Option Files) (left given given' : Option (List ℕ)) : Type 0 where
  pub plan : DrillPlan
  pub drilled : Drilled
  pub ready : IsCommandDrilled words files left plan drilled
  pub partly : IsPartlyGiven (drill_text plan drilled) given given'

-- The counts of faults of the library, the input and the output, and the library's count of absences.
pub record OutsideCounts : Type 0 where
  pub library : ℕ
  pub absences : ℕ
  pub input : ℕ
  pub output : ℕ

-- a status of the input comes after words and key files that are right
abbrev pub IsPastKeys : List CommandWord → Option Files → (DrillPlan → Type 0) → Type 0
IsPastKeys words files P = IsDrill words × IsKeyed (drop 1 words) files × ((plan : DrillPlan) × IsPlan (drop 1 words) plan × P plan)

-- Why the command isn't done. But for a fault of the output, or where it was refused memory, the output was given nothing.
abbrev pub IsEnd : List CommandWord → Option Files → Option (List ℕ) → Option (List ℕ) → Option (List ℕ) → OutsideCounts → OutsideCounts → Status → Type 0
IsEnd words files left given given' before now (status.Usage i) = IsUsage words i × (given' ≡ given)
IsEnd words files left given given' before now (status.KeyFile index fault) = IsDrill words × IsKeyEnd (drop 1 words) files before.library now.library before.absences now.absences (status.KeyFile index fault) × (given' ≡ given)
IsEnd words files left given given' before now (status.Missing name) = IsDrill words × IsKeyEnd (drop 1 words) files before.library now.library before.absences now.absences (status.Missing name) × (given' ≡ given)
IsEnd words files left given given' before now status.FileFault = IsDrill words × IsKeyEnd (drop 1 words) files before.library now.library before.absences now.absences status.FileFault × (given' ≡ given)
IsEnd words files left given given' before now status.ScriptTooLarge = IsPastKeys words files (λ plan. IsInputEnd plan left before.input now.input status.ScriptTooLarge) × (given' ≡ given)
IsEnd words files left given given' before now status.InputFault = IsPastKeys words files (λ plan. IsInputEnd plan left before.input now.input status.InputFault) × (given' ≡ given)
IsEnd words files left given given' before now (status.NotBuilt line) = IsPastKeys words files (λ plan. IsInputEnd plan left before.input now.input (status.NotBuilt line)) × (given' ≡ given)
IsEnd words files left given given' before now status.OutFault = IsCutShort words files left given given' × Rose before.output now.output
IsEnd words files left given given' before now status.OutOfMemory = (given' ≡ given) ⊎ IsCutShort words files left given given'
IsEnd words files left given given' before now status.Done = ⊥

-- ---- what is enough to be done

-- no count rose from the one to the other
pub record NoneRose (before now : OutsideCounts) : Type 0 where
  pub library : Rose before.library now.library → ⊥
  pub absences : Rose before.absences now.absences → ⊥
  pub input : Rose before.input now.input → ⊥
  pub output : Rose before.output now.output → ⊥

-- The words are a list of `drill`, no key file has a fault, and the input is a schedule of no more bytes than it may have.
pub record IsComplete (words : List CommandWord) (files : Option Files) (left : Option (List ℕ)) : Type 0 where
  pub words_are : IsDrill words
  pub plan : DrillPlan
  pub asked : IsPlan (drop 1 words) plan
  pub fs : Files
  pub told : files ≡ Some fs
  pub faultless : (fault : LoadFault) → IsLoaded fs (drop 1 words) (Err fault) → ⊥
  pub text : List ℕ
  pub read : left ≡ Some text
  pub size : length text ≤ schedule_bytes
  pub statements : List DrillStatement
  pub schedule : IsSchedule plan.space.space plan.space.pages text statements
