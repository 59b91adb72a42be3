-- A commit, and why there is none.
use Rattle.std.specs.Prelude.{◌≡◌, ◌≢◌, ℕ, ◌+◌, ◌<◌, ◌^◌, nat_le, nat_lt, ◌&&◌, if◌then◌else◌, Bool, true, List, [], ◌∷◌, length, Option, Some, None, Err}
use Rattle.disk_model.specs.Past.{Past}
use Rattle.page_pool.specs.declared.names.PageName.{PageName}
use Rattle.redo_text.specs.declared.change.Change.{Change}
use Rattle.redo_text.specs.declared.change.Change.TheVariants.{Put, Kind, Touch, Floor, Encrypt}
use Rattle.space_head.specs.declared.space.SpaceInfo.{SpaceInfo}
use Rattle.session_core.specs.Entering.{IsNotEntered}
use Rattle.session_core.specs.Reading.{name_of_page}
use Rattle.session_core.specs.Session.{Running}
use Rattle.session_core.specs.Spaces.{is_page}
use Rattle.session_core.specs.Stops.{up_or_refused}
use Rattle.session_core.specs.declared.fault.EngineFault.{EngineFault}
use Rattle.session_core.specs.declared.fault.EngineFault.TheVariants.{BadRange, NoSuchPage}

-- a change of a page's bytes, or of its type to one that no space's own page has
abbrev pub IsOfPage : Change → Type 0
IsOfPage (Put s page at bytes) = Unit {0}
IsOfPage (Kind s page kind) = (kind ≢ 8) × (kind ≢ 9)
IsOfPage (Touch s page) = ⊥
IsOfPage (Floor s version) = ⊥
IsOfPage (Encrypt s) = ⊥

-- what a caller may commit: changes of these two forms alone
abbrev pub AreOfPages : List Change → Type 0
AreOfPages [] = Unit {0}
AreOfPages (c ∷ cs) = IsOfPage c × AreOfPages cs

-- the first page that a Put or a Kind names and that the store hasn't, or that is page 0
abbrev pub first_missing_page : List SpaceInfo → List Change → Option PageName
first_missing_page spaces [] = None
first_missing_page spaces (Put s page at bytes ∷ cs) = if is_page spaces s page then first_missing_page spaces cs else Some (name_of_page s page)
first_missing_page spaces (Kind s page kind ∷ cs) = if is_page spaces s page then first_missing_page spaces cs else Some (name_of_page s page)
first_missing_page spaces (Touch s page ∷ cs) = first_missing_page spaces cs
first_missing_page spaces (Floor s version ∷ cs) = first_missing_page spaces cs
first_missing_page spaces (Encrypt s ∷ cs) = first_missing_page spaces cs

-- a range that isn't empty and lies in a page's body
abbrev pub is_body_range : ℕ → ℕ → Bool
is_body_range at size = nat_lt 0 size && (nat_le 38 at && nat_le (at + size) 16376)

-- the range of the first Put whose range is none
abbrev pub first_bad_range : List Change → Option (ℕ × ℕ)
first_bad_range [] = None
first_bad_range (Put s page at bytes ∷ cs) = if is_body_range at (length bytes) then first_bad_range cs else Some (at, length bytes)
first_bad_range (Kind s page kind ∷ cs) = first_bad_range cs
first_bad_range (Touch s page ∷ cs) = first_bad_range cs
first_bad_range (Floor s version ∷ cs) = first_bad_range cs
first_bad_range (Encrypt s ∷ cs) = first_bad_range cs

-- the numbers of a change have 32 bits, and its type 16
abbrev pub IsSized : Change → Type 0
IsSized (Put s page at bytes) = (s < 2 ^ 32) × (page < 2 ^ 32)
IsSized (Kind s page kind) = (s < 2 ^ 32) × (page < 2 ^ 32) × (kind < 2 ^ 16)
IsSized (Touch s page) = (s < 2 ^ 32) × (page < 2 ^ 32)
IsSized (Floor s version) = (s < 2 ^ 32) × (version < 2 ^ 32)
IsSized (Encrypt s) = s < 2 ^ 32

abbrev pub AreSized : List Change → Type 0
AreSized [] = Unit {0}
AreSized (c ∷ cs) = IsSized c × AreSized cs

-- Why changes aren't taken: the store hasn't a page that one names, or it is page 0; or all are there and a range isn't one.
pub data IsUnfit (spaces : List SpaceInfo) (mtr : List Change) : EngineFault → Type 0 where
  Missing : (name : PageName) → first_missing_page spaces mtr ≡ Some name → IsUnfit spaces mtr (NoSuchPage name.space name.page)
  NoRange : (at size : ℕ) → first_missing_page spaces mtr ≡ None → first_bad_range mtr ≡ Some (at, size) → IsUnfit spaces mtr (BadRange at size)

-- Why a mini-transaction isn't committed, in this order: the session was stopped; a change isn't taken; or all are and it isn't entered.
pub data IsCommitRefusal {D : Type 0} (past : D → Past) (mtr : List Change) (old new : Running D) : EngineFault → Type 0 where
  Stopped : (e : EngineFault) → up_or_refused old.disk.stop old.disk.turns ≡ Err e → new ≡ old → IsCommitRefusal past mtr old new e
  Unfit : (e : EngineFault) → old.disk.stop ≡ None → IsUnfit old.store.spaces mtr e → new ≡ old → IsCommitRefusal past mtr old new e
  NotEntered : (e : EngineFault) → old.disk.stop ≡ None → first_missing_page old.store.spaces mtr ≡ None → first_bad_range mtr ≡ None → IsNotEntered past mtr old new e → IsCommitRefusal past mtr old new e
