-- What the words of a line say, and what is wrong with them.
use Rattle.std.specs.Prelude.{◌≡◌, ◌≢◌, ◌⊎◌, ℕ, ◌+◌, ◌≤◌, ◌<◌, List, [], ◌∷◌, length, codes}
use Rattle.redo_text.specs.Text.{page_body_bytes}
use Rattle.script_core.specs.Words.{Word, IsNumber, IsPageType, IsHex}
use Rattle.script_core.specs.Batches.{IsOut}
use Rattle.script_core.specs.Fields.{Field, Numeral, FaultAt, Passes, FaultIn}
use Rattle.script_core.specs.Names.{name_of, change_name_of, fields_of, change_fields_of}
use Rattle.script_core.specs.declared.names.StatementName.{StatementName}
use Rattle.script_core.specs.declared.names.StatementName.TheVariants as name
use Rattle.script_core.specs.declared.names.ChangeName.{ChangeName}
use Rattle.script_core.specs.declared.names.ChangeName.TheVariants as kind_of
use Rattle.script_core.specs.declared.act.Act.{Act}
use Rattle.script_core.specs.declared.act.Act.TheVariants.{Mtr, Read, Sync, Flush, Check, Take, Put, Activate, Encrypt, Rotate, Report}
use Rattle.script_core.specs.declared.act.ScriptChange.{ScriptChange}
use Rattle.script_core.specs.declared.act.ScriptChange.TheVariants as change
use Rattle.script_core.specs.declared.fault.LineFault.{LineFault}
use Rattle.script_core.specs.declared.fault.LineFault.TheVariants as fault

-- the word writes this number of a u32
abbrev pub IsU32 : Word → ℕ → Type 0
IsU32 word n = IsNumber word 0 4294967295 n

unfoldable pub change_name : ScriptChange → ChangeName
change_name (change.Put space page at bytes) = kind_of.Put
change_name (change.Fill space page at length byte) = kind_of.Fill
change_name (change.Kind space page kind) = kind_of.Kind

-- the words behind a change's name say what it is, and these words follow
unfoldable pub AreChangeArguments : ScriptChange → List Word → List Word → Type 0
AreChangeArguments (change.Put space page at bytes) words rest =
    (s : Word) × (p : Word) × (a : Word) × (h : Word) × (words ≡ s ∷ p ∷ a ∷ h ∷ rest) × IsU32 s space × IsU32 p page × IsU32 a at × IsHex h bytes
AreChangeArguments (change.Fill space page at length byte) words rest =
    (s : Word) × (p : Word) × (a : Word) × (l : Word) × (h : Word) × (words ≡ s ∷ p ∷ a ∷ l ∷ h ∷ rest) × IsU32 s space × IsU32 p page × IsU32 a at × IsU32 l length × IsHex h (byte ∷ [])
AreChangeArguments (change.Kind space page kind) words rest =
    (s : Word) × (p : Word) × (k : Word) × (words ≡ s ∷ p ∷ k ∷ rest) × IsU32 s space × IsU32 p page × IsPageType k kind

-- a change stands first, and these words follow
pub record IsChange (change : ScriptChange) (words rest : List Word) : Type 0 where
  pub arguments : List Word
  pub named : words ≡ change_name_of (change_name change) ∷ arguments
  pub are : AreChangeArguments change arguments rest

-- changes with a `;` between them, and no word more
unfoldable pub AreChanges : List ScriptChange → List Word → Type 0
AreChanges [] words = ⊥
AreChanges (change ∷ []) words = IsChange change words []
AreChanges (change ∷ next ∷ changes) words = (rest : List Word) × IsChange change words (codes ";" ∷ rest) × AreChanges (next ∷ changes) rest

-- the words behind a statement's name say what it is, behind these statements
unfoldable pub AreArguments : List Act → Act → List Word → Type 0
AreArguments before (Mtr session changes) words =
    (k : Word) × (rest : List Word) × (words ≡ k ∷ rest) × IsNumber k 1 16 session × AreChanges changes rest × (length changes ≤ 64)
AreArguments before (Read session space page at length) words =
    (k : Word) × (s : Word) × (p : Word) × (a : Word) × (l : Word) × (words ≡ k ∷ s ∷ p ∷ a ∷ l ∷ []) × IsNumber k 1 16 session × IsU32 s space × IsU32 p page × IsU32 a at × IsNumber l 1 page_body_bytes length
AreArguments before Sync words = words ≡ []
AreArguments before Flush words = words ≡ []
AreArguments before Check words = words ≡ []
AreArguments before (Take batch space count) words =
    (b : Word) × (s : Word) × (n : Word) × (words ≡ b ∷ s ∷ n ∷ []) × IsNumber b 1 16 batch × (IsOut batch before → ⊥) × IsU32 s space × IsNumber n 1 64 count
AreArguments before (Put batch) words = (b : Word) × (words ≡ b ∷ []) × IsNumber b 1 16 batch × IsOut batch before
AreArguments before (Activate version) words = (v : Word) × (words ≡ v ∷ []) × IsU32 v version
AreArguments before (Encrypt space) words = (s : Word) × (words ≡ s ∷ []) × IsU32 s space
AreArguments before (Rotate space) words = (s : Word) × (words ≡ s ∷ []) × IsU32 s space
AreArguments before (Report space) words = (s : Word) × (words ≡ s ∷ []) × IsU32 s space

unfoldable pub statement_name : Act → StatementName
statement_name (Mtr session changes) = name.Mtr
statement_name (Read session space page at length) = name.Read
statement_name Sync = name.Sync
statement_name Flush = name.Flush
statement_name Check = name.Check
statement_name (Take batch space count) = name.Take
statement_name (Put batch) = name.Put
statement_name (Activate version) = name.Activate
statement_name (Encrypt space) = name.Encrypt
statement_name (Rotate space) = name.Rotate
statement_name (Report space) = name.Report

-- the words of a line are this statement, behind these
pub record IsStatement (before : List Act) (words : List Word) (act : Act) : Type 0 where
  pub arguments : List Word
  pub named : words ≡ name_of (statement_name act) ∷ arguments
  pub are : AreArguments before act arguments

-- the first fault of words that should begin with a change
unfoldable pub ChangeFault : List Word → LineFault → Type 0
ChangeFault [] kind = kind ≡ fault.Missing
ChangeFault (word ∷ words) kind = ((kind ≡ fault.Word) × ((n : ChangeName) → word ≢ change_name_of n)) ⊎ ((n : ChangeName) × (word ≡ change_name_of n) × FaultIn [] (change_fields_of n) words kind)

-- the first fault of words that should be changes, behind so many others
pub data ChangesFault : ℕ → List Word → LineFault → Type 0 where
  InChange : (count : ℕ) (words : List Word) (kind : LineFault) → ChangeFault words kind → ChangesFault count words kind
  NoSemicolon : (count : ℕ) (words rest : List Word) (change : ScriptChange) (word : Word) → IsChange change words (word ∷ rest) → word ≢ codes ";" → ChangesFault count words fault.Extra
  Full : (count : ℕ) (words rest : List Word) (change : ScriptChange) → IsChange change words (codes ";" ∷ rest) → 64 ≤ count + 1 → ChangesFault count words fault.TooMany
  InRest : (count : ℕ) (words rest : List Word) (change : ScriptChange) (kind : LineFault) → IsChange change words (codes ";" ∷ rest) → count + 1 < 64 → ChangesFault (count + 1) rest kind → ChangesFault count words kind

-- the first fault of the words behind a statement's name
unfoldable pub ArgumentFault : List Act → StatementName → List Word → LineFault → Type 0
ArgumentFault before name.Mtr words kind = FaultAt before (Numeral 1 16) words kind ⊎ ((rest : List Word) × Passes before (Numeral 1 16) words rest × ChangesFault 0 rest kind)
ArgumentFault before n words kind = FaultIn before (fields_of n) words kind

-- the first fault of a line's words, behind these statements
unfoldable pub IsLineFault : List Act → List Word → LineFault → Type 0
IsLineFault before [] kind = kind ≡ fault.Missing
IsLineFault before (word ∷ words) kind = ((kind ≡ fault.Word) × ((n : StatementName) → word ≢ name_of n)) ⊎ ((n : StatementName) × (word ≡ name_of n) × ArgumentFault before n words kind)
