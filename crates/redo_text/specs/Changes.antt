-- A text that is read change by change.
use Rattle.std.specs.Prelude.{◌≡◌, ◌≢◌, ℕ, ◌+◌, List, [], ◌++◌, length, Option, Some, None, Result, Ok, Err}
use Rattle.redo_text.specs.declared.change.Change.{Change}
use Rattle.redo_text.specs.declared.change.Change.TheVariants.{Put, Kind, Touch, Floor, Encrypt}
use Rattle.redo_text.specs.declared.changes.ChangeView.{ChangeView}
use Rattle.redo_text.specs.declared.changes.ChangeView.TheVariants.{Put as PutView, Kind as KindView, Touch as TouchView, Floor as FloorView, Encrypt as EncryptView}
use Rattle.redo_text.specs.declared.fault.BadRecord.{BadRecord}
use Rattle.redo_text.specs.Text.{change_text, IsAllowed}

-- a place in a text, and the bytes from there on
pub record ChangePlace : Type 0 where
  pub at : ℕ
  pub rest : List ℕ

-- the change that is lent
abbrev pub change_of : ChangeView → Change
change_of (PutView space page at bytes) = Put space page at bytes.now
change_of (KindView space page kind) = Kind space page kind
change_of (TouchView space page) = Touch space page
change_of (FloorView space version) = Floor space version
change_of (EncryptView space) = Encrypt space

-- a text begins with an allowed change, and goes on with the rest
pub record Begins (text : List ℕ) (change : Change) (rest : List ℕ) : Type 0 where
  pub allowed : IsAllowed change
  pub is : text ≡ change_text change ++ rest

-- a text that begins with none
abbrev pub BeginsWithNone : List ℕ → Type 0
BeginsWithNone text = (change : Change) (rest : List ℕ) → Begins text change rest → ⊥

-- What a reader answers, and where it stands then: the end and a place where no change begins leave it as it was.
abbrev pub IsNextChange : ChangePlace → ChangePlace → Result (Option ChangeView) BadRecord → Type 0
IsNextChange old new (Ok None) = (old.rest ≡ []) × (new ≡ old)
IsNextChange old new (Ok (Some view)) = Begins old.rest (change_of view) new.rest × (new.at ≡ old.at + length (change_text (change_of view)))
IsNextChange old new (Err bad) = (bad.at ≡ old.at) × (old.rest ≢ []) × BeginsWithNone old.rest × (new ≡ old)

-- this change is lent, and the rest is left
abbrev pub IsLent : Change → List ℕ → ChangePlace → Result (Option ChangeView) BadRecord → Type 0
IsLent change rest new (Ok (Some view)) = (change_of view ≡ change) × (new.rest ≡ rest)
IsLent change rest new (Ok None) = ⊥
IsLent change rest new (Err bad) = ⊥
