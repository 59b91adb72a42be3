-- A schedule read line by line.
use Rattle.std.specs.Prelude.{◌≡◌, ℕ, ◌+◌, ◌≤◌, Bool, true, false, List, [], ◌∷◌, ◌++◌, length, count_by}
use Rattle.keyd_cli.specs.declared.act.DrillAct.{DrillAct}
use Rattle.keyd_cli.specs.declared.act.DrillAct.TheVariants.{Mtr, Sync}
use Rattle.keyd_cli.specs.declared.act.DrillStatement.{DrillStatement}
use Rattle.keyd_cli.specs.Schedule.{schedule_lines, IsNoStatement, IsAct}

abbrev pub is_mtr : DrillAct → Bool
is_mtr (Mtr session mtr) = true
is_mtr Sync = false

-- how many mini-transactions there are among the statements
abbrev pub mtr_count : List DrillStatement → ℕ
mtr_count statements = count_by (λ s. is_mtr s.act) statements

-- the log holds 256 mini-transactions
abbrev pub HasRoom : ℕ → DrillAct → Type 0
HasRoom mtrs act = is_mtr act ≡ true → mtrs ≤ 255

-- These lines are these statements, each with its line's number, from 1 on.
pub data ReadsLines (space pages : ℕ) : List (List ℕ) → List DrillStatement → Type 0 where
  ReadNone : ReadsLines space pages [] []
  ReadSkipped : (lines : List (List ℕ)) (statements : List DrillStatement) (line : List ℕ) → ReadsLines space pages lines statements → IsNoStatement line → ReadsLines space pages (lines ++ (line ∷ [])) statements
  ReadAct : (lines : List (List ℕ)) (statements : List DrillStatement) (line : List ℕ) (act : DrillAct) → ReadsLines space pages lines statements → IsAct space pages line act → HasRoom (mtr_count statements) act
      → ReadsLines space pages (lines ++ (line ∷ [])) (statements ++ (record { line = length lines + 1; act = act } ∷ []))

-- the text is a schedule of these statements
abbrev pub IsSchedule : ℕ → ℕ → List ℕ → List DrillStatement → Type 0
IsSchedule space pages text statements = ReadsLines space pages (schedule_lines text) statements

-- The first line that isn't skipped and is no statement that there is room for has this number.
pub record IsNotBuilt (space pages : ℕ) (text : List ℕ) (number : ℕ) : Type 0 where
  pub before : List (List ℕ)
  pub line : List ℕ
  pub behind : List (List ℕ)
  pub statements : List DrillStatement
  pub lines : schedule_lines text ≡ before ++ (line ∷ behind)
  pub place : number ≡ length before + 1
  pub reads : ReadsLines space pages before statements
  pub kept : IsNoStatement line → ⊥
  pub refused : (act : DrillAct) → IsAct space pages line act → HasRoom (mtr_count statements) act → ⊥
