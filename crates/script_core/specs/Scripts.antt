-- A text as a script: its lines one after another.
use Rattle.std.specs.Prelude.{◌≡◌, ◌⊎◌, ℕ, ◌+◌, ◌≤◌, ◌<◌, List, [], ◌∷◌, length, Option, MatchOption}
use Rattle.script_core.specs.Words.{script_lines, words_of}
use Rattle.script_core.specs.Statements.{IsStatement, IsLineFault}
use Rattle.script_core.specs.declared.act.Act.{Act}
use Rattle.script_core.specs.declared.script.Statement.{Statement}
use Rattle.script_core.specs.declared.fault.LineFault.{LineFault}
use Rattle.script_core.specs.declared.fault.ScriptFault.{ScriptFault}
use Rattle.script_core.specs.declared.fault.ScriptFault.TheVariants.{BadLine, TooMany, OutOfMemory}

-- an empty line, or a comment
abbrev pub IsSkipped : List ℕ → Type 0
IsSkipped line = (line ≡ []) ⊎ ((rest : List ℕ) × (line ≡ 35 ∷ rest))

-- These lines, the first of which has this number, are these statements, behind those before (the newest first).
pub data Reads : ℕ → List Act → List (List ℕ) → List Statement → Type 0 where
  NoLine : (number : ℕ) (before : List Act) → Reads number before [] []
  Skipped : (number : ℕ) (before : List Act) (line : List ℕ) (lines : List (List ℕ)) (statements : List Statement) → IsSkipped line
      → Reads (number + 1) before lines statements → Reads number before (line ∷ lines) statements
  Said : (number : ℕ) (before : List Act) (line : List ℕ) (act : Act) (lines : List (List ℕ)) (statements : List Statement) → (IsSkipped line → ⊥) → IsStatement before (words_of line) act
      → Reads (number + 1) (act ∷ before) lines statements → Reads number before (line ∷ lines) (record { line = number; act = act } ∷ statements)

-- The first of these lines that is neither skipped nor a statement has this number and this fault.
pub data BadAt : ℕ → List Act → List (List ℕ) → ℕ → LineFault → Type 0 where
  Bad : (number : ℕ) (before : List Act) (line : List ℕ) (lines : List (List ℕ)) (kind : LineFault) → (IsSkipped line → ⊥) → IsLineFault before (words_of line) kind
      → BadAt number before (line ∷ lines) number kind
  PastSkipped : (number : ℕ) (before : List Act) (line : List ℕ) (lines : List (List ℕ)) (at : ℕ) (kind : LineFault) → IsSkipped line
      → BadAt (number + 1) before lines at kind → BadAt number before (line ∷ lines) at kind
  PastSaid : (number : ℕ) (before : List Act) (line : List ℕ) (act : Act) (lines : List (List ℕ)) (at : ℕ) (kind : LineFault) → (IsSkipped line → ⊥) → IsStatement before (words_of line) act
      → BadAt (number + 1) (act ∷ before) lines at kind → BadAt number before (line ∷ lines) at kind

-- the text is these statements, 10,000 at most
pub record IsScript (text : List ℕ) (statements : List Statement) : Type 0 where
  pub reads : Reads 1 [] (script_lines text) statements
  pub few : length statements ≤ 10000

-- the first bad line of the text, and what is wrong with it
abbrev pub IsFirstBad : List ℕ → ℕ → LineFault → Type 0
IsFirstBad text line kind = BadAt 1 [] (script_lines text) line kind

-- no line is bad, and there are more statements
pub record HasTooMany (text : List ℕ) : Type 0 where
  pub statements : List Statement
  pub reads : Reads 1 [] (script_lines text) statements
  pub many : 10000 < length statements

-- why a text isn't read; want of memory alone is free
abbrev pub IsScriptRefusal : List ℕ → ScriptFault → Type 0
IsScriptRefusal text (BadLine line kind) = IsFirstBad text line kind
IsScriptRefusal text TooMany = HasTooMany text
IsScriptRefusal text OutOfMemory = Unit {0}

-- no other statements are the text
abbrev pub IsOnlyScript : List ℕ → List Statement → Type 0
IsOnlyScript text statements = (others : List Statement) → IsScript text others → others ≡ statements

-- the text is no script
abbrev pub HasNoScript : List ℕ → Type 0
HasNoScript text = (statements : List Statement) → IsScript text statements → ⊥

-- no line of the text is bad
abbrev pub HasNoBadLine : List ℕ → Type 0
HasNoBadLine text = (line : ℕ) (kind : LineFault) → IsFirstBad text line kind → ⊥

-- no other line is the first bad one, and no other fault its first
abbrev pub IsOnlyBad : List ℕ → ℕ → LineFault → Type 0
IsOnlyBad text line kind = (other : ℕ) (fault : LineFault) → IsFirstBad text other fault → (other ≡ line) × (fault ≡ kind)

-- what can't be said of a text beside its refusal
abbrev pub Excludes : List ℕ → ScriptFault → Type 0
Excludes text (BadLine line kind) = HasNoScript text × IsOnlyBad text line kind
Excludes text TooMany = HasNoScript text × HasNoBadLine text
Excludes text OutOfMemory = Unit {0}

-- what one line is, behind these statements
abbrev pub IsLine : List Act → ℕ → List ℕ → Option Statement → Type 0
IsLine before number line found = MatchOption found (IsSkipped line) (λ s. (s.line ≡ number) × (IsSkipped line → ⊥) × IsStatement before (words_of line) s.act)

-- why one line isn't read
abbrev pub IsLineRefusal : List Act → ℕ → List ℕ → ScriptFault → Type 0
IsLineRefusal before number line (BadLine at kind) = (at ≡ number) × (IsSkipped line → ⊥) × IsLineFault before (words_of line) kind
IsLineRefusal before number line TooMany = ⊥
IsLineRefusal before number line OutOfMemory = Unit {0}
