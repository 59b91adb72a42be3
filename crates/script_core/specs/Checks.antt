-- Which statement of a script a store refuses, and why.
use Rattle.std.specs.Prelude.{◌≡◌, ℕ, ◌+◌, Bool, ◌==◌, ◌&&◌, nat_lt, nat_le, if◌then◌else◌, List, [], ◌∷◌, length, map, replicate, Option, Some, None, is_some, option_map, Result, Ok, Err, MatchOption, IsTrue, ◌↔◌}
use Rattle.redo_text.specs.Block.{block_count}
use Rattle.redo_text.specs.Text.{text_of, IsRange, page_body_at, page_body_end}
use Rattle.redo_text.specs.declared.change.Change.{Change}
use Rattle.redo_text.specs.declared.change.Change.TheVariants as redo
use Rattle.space_head.specs.declared.space.SpaceInfo.{SpaceInfo}
use Rattle.script_core.specs.declared.act.Act.{Act}
use Rattle.script_core.specs.declared.act.Act.TheVariants.{Mtr, Read, Sync, Flush, Check, Take, Put, Activate, Encrypt, Rotate, Report}
use Rattle.script_core.specs.declared.act.ScriptChange.{ScriptChange}
use Rattle.script_core.specs.declared.act.ScriptChange.TheVariants as change
use Rattle.script_core.specs.declared.checking.ChangeCheck.{ChangeCheck}
use Rattle.script_core.specs.declared.checking.ChangeCheck.TheVariants.{Space, Page, Range}
use Rattle.script_core.specs.declared.script.Statement.{Statement}
use Rattle.script_core.specs.declared.fault.Why.{Why}
use Rattle.script_core.specs.declared.fault.Why.TheVariants.{NoSuchSpace, NoSuchPage, BadRange, TooLong, NotInRun}
use Rattle.script_core.specs.declared.fault.Refused.{Refused}

-- the first that is there
abbrev pub or_else : {X : Type 0} → Option X → Option X → Option X
or_else (Some x) later = Some x
or_else None later = later

-- the first answer that the elements of a list give
abbrev pub first_found : {X Y : Type 0} → (X → Option Y) → List X → Option Y
first_found f [] = None
first_found f (x ∷ xs) = or_else (f x) (first_found f xs)

-- the pages of a space among these
abbrev pub pages_if : ℕ → SpaceInfo → Option ℕ
pages_if space info = if info.space == space then Some info.pages else None

abbrev pub page_count_of : List SpaceInfo → ℕ → Option ℕ
page_count_of spaces space = first_found (pages_if space) spaces

-- the store has no such space
abbrev pub missing_space : List SpaceInfo → ℕ → Option Why
missing_space spaces space = if is_some (page_count_of spaces space) then None else Some (NoSuchSpace space)

-- page 0, or a page past the space's end
abbrev pub page_past : ℕ → ℕ → Option ℕ → Option Why
page_past space page None = None
page_past space page (Some pages) = if nat_le 1 page && nat_lt page pages then None else Some (NoSuchPage space page)

abbrev pub missing_page : List SpaceInfo → ℕ → ℕ → Option Why
missing_page spaces space page = page_past space page (page_count_of spaces space)

-- the range isn't empty, and lies in the body of a page
abbrev pub is_range : ℕ → ℕ → Bool
is_range at size = nat_le 1 size && (nat_le page_body_at at && nat_le (at + size) page_body_end)

-- the test is that of the log's ranges
abbrev pub TellsRange : ℕ → ℕ → Type 0
TellsRange at size = IsTrue (is_range at size) ↔ IsRange at size

abbrev pub bad_range : ℕ → ℕ → Option Why
bad_range at size = if is_range at size then None else Some (BadRange at size)

unfoldable pub changed_space : ScriptChange → ℕ
changed_space (change.Put space page at bytes) = space
changed_space (change.Fill space page at length byte) = space
changed_space (change.Kind space page kind) = space

unfoldable pub page_of : ScriptChange → ℕ
page_of (change.Put space page at bytes) = page
page_of (change.Fill space page at length byte) = page
page_of (change.Kind space page kind) = page

unfoldable pub range_refusal : ScriptChange → Option Why
range_refusal (change.Put space page at bytes) = bad_range at (length bytes)
range_refusal (change.Fill space page at length byte) = bad_range at length
range_refusal (change.Kind space page kind) = None

-- the refusal of a change by one of the checks
unfoldable pub change_refusal : List SpaceInfo → ChangeCheck → ScriptChange → Option Why
change_refusal spaces Space change = missing_space spaces (changed_space change)
change_refusal spaces Page change = missing_page spaces (changed_space change) (page_of change)
change_refusal spaces Range change = range_refusal change

-- the first refusal of changes by it
abbrev pub first_refusal : List SpaceInfo → ChangeCheck → List ScriptChange → Option Why
first_refusal spaces check changes = first_found (change_refusal spaces check) changes

-- what a change is to the log: a fill is a put of so many bytes of one value
unfoldable pub log_change : ScriptChange → Change
log_change (change.Put space page at bytes) = redo.Put space page at bytes
log_change (change.Fill space page at length byte) = redo.Put space page at (replicate length byte)
log_change (change.Kind space page kind) = redo.Kind space page kind

-- the text of changes in the log
abbrev pub log_text : List ScriptChange → List ℕ
log_text changes = text_of (map log_change changes)

-- the most blocks of a mini-transaction
abbrev pub mtr_blocks_allowed : ℕ
mtr_blocks_allowed = 16

-- the blocks of that text
abbrev pub blocks_of : List ScriptChange → ℕ
blocks_of changes = block_count (log_text changes)

abbrev pub too_long : List ScriptChange → Option Why
too_long changes = if nat_le (blocks_of changes) mtr_blocks_allowed then None else Some (TooLong (blocks_of changes))

-- each check over all changes, one check after another
abbrev pub mtr_refusal : List SpaceInfo → List ScriptChange → Option Why
mtr_refusal spaces changes = or_else (first_refusal spaces Space changes) (or_else (first_refusal spaces Page changes) (or_else (first_refusal spaces Range changes) (too_long changes)))

abbrev pub read_refusal : List SpaceInfo → ℕ → ℕ → ℕ → ℕ → Option Why
read_refusal spaces space page at size = or_else (missing_space spaces space) (or_else (missing_page spaces space page) (bad_range at size))

-- a run has no statements but mini-transactions and reads
abbrev pub not_in_run : Bool → Option Why
not_in_run running = if running then Some NotInRun else None

abbrev pub space_refusal : List SpaceInfo → ℕ → Bool → Option Why
space_refusal spaces space running = or_else (missing_space spaces space) (not_in_run running)

unfoldable pub refusal_of : List SpaceInfo → Bool → Act → Option Why
refusal_of spaces running (Mtr session changes) = mtr_refusal spaces changes
refusal_of spaces running (Read session space page at length) = read_refusal spaces space page at length
refusal_of spaces running (Take batch space count) = space_refusal spaces space running
refusal_of spaces running (Encrypt space) = space_refusal spaces space running
refusal_of spaces running (Rotate space) = space_refusal spaces space running
refusal_of spaces running (Report space) = space_refusal spaces space running
refusal_of spaces running _ = not_in_run running

-- the refusal of a statement, with its line
abbrev pub refused_at : List SpaceInfo → Bool → Statement → Option Refused
refused_at spaces running statement = option_map (λ why. record { line = statement.line; why = why }) (refusal_of spaces running statement.act)

-- the first statement that is refused
abbrev pub refused_in : List SpaceInfo → Bool → List Statement → Option Refused
refused_in spaces running statements = first_found (refused_at spaces running) statements

-- Ok where nothing is refused
abbrev pub unless_refused : Option Refused → Result (Unit {0}) Refused
unless_refused None = Ok tt
unless_refused (Some refused) = Err refused
