-- The text of a mini-transaction: its changes one after another. All numbers have their highest byte first.
use Rattle.std.specs.Prelude.{◌≢◌, ℕ, ◌+◌, ◌<◌, ◌≤◌, ◌^◌, List, [], ◌∷◌, ◌++◌, length}
use Rattle.std.specs.Int.{to_be_bytes, w16, w32}
use Rattle.redo_text.specs.declared.change.Change.{Change}
use Rattle.redo_text.specs.declared.change.Change.TheVariants.{Put, Kind, Touch, Floor, Encrypt}

-- the text of one change: its kind in one byte, and its fields
abbrev pub change_text : Change → List ℕ
change_text (Put space page at bytes) = 1 ∷ to_be_bytes w32 space ++ to_be_bytes w32 page ++ to_be_bytes w32 at ++ to_be_bytes w32 (length bytes) ++ bytes
change_text (Kind space page kind) = 2 ∷ to_be_bytes w32 space ++ to_be_bytes w32 page ++ to_be_bytes w16 kind
change_text (Touch space page) = 3 ∷ to_be_bytes w32 space ++ to_be_bytes w32 page
change_text (Floor space version) = 4 ∷ to_be_bytes w32 space ++ to_be_bytes w32 version
change_text (Encrypt space) = 5 ∷ to_be_bytes w32 space

-- the text of a mini-transaction
abbrev pub text_of : List Change → List ℕ
text_of [] = []
text_of (c ∷ cs) = change_text c ++ text_of cs

-- where the body of a page of a store begins and ends, in bytes, and its length
abbrev pub page_body_at : ℕ
page_body_at = 38

abbrev pub page_body_end : ℕ
page_body_end = 16376

abbrev pub page_body_bytes : ℕ
page_body_bytes = 16338

-- a range of a page that isn't empty and lies in its body
pub record IsRange (at size : ℕ) : Type 0 where
  pub some : 0 < size
  pub from : page_body_at ≤ at
  pub to : at + size ≤ page_body_end

-- A change that the format allows: numbers of 32 bits, types of 16, pages of a Put and a Kind from 1 on, and no type 8 or 9.
abbrev pub IsAllowed : Change → Type 0
IsAllowed (Put space page at bytes) = (space < 2 ^ 32) × (0 < page) × (page < 2 ^ 32) × IsRange at (length bytes)
IsAllowed (Kind space page kind) = (space < 2 ^ 32) × (0 < page) × (page < 2 ^ 32) × (kind < 2 ^ 16) × (kind ≢ 8) × (kind ≢ 9)
IsAllowed (Touch space page) = (space < 2 ^ 32) × (page < 2 ^ 32)
IsAllowed (Floor space version) = (space < 2 ^ 32) × (version < 2 ^ 32)
IsAllowed (Encrypt space) = (space < 2 ^ 32)

-- and a list of them
abbrev pub AreAllowed : List Change → Type 0
AreAllowed [] = Unit {0}
AreAllowed (c ∷ cs) = IsAllowed c × AreAllowed cs
