-- The schedule of a drill: lines that end with LF or at the end, each of words with one space between them.
use Rattle.std.specs.Prelude.{◌≡◌, ◌⊎◌, ℕ, ◌+◌, ◌≤◌, ◌<◌, List, [], ◌∷◌, length, codes, Ok}
use Rattle.std.specs.Fmt.{decimal}
use Rattle.hex.specs.Hex.{decode_of}
use Rattle.redo_text.specs.declared.change.Change.TheVariants.{Put}
use Rattle.keyd_cli.specs.declared.act.DrillAct.{DrillAct}
use Rattle.keyd_cli.specs.declared.act.DrillAct.TheVariants.{Mtr, Sync}
use Rattle.keyd_cli.specs.Parts.{drill_parts_of}

-- the most bytes that a schedule has
abbrev pub schedule_bytes : ℕ
schedule_bytes = 1048576

abbrev pub schedule_lines : List ℕ → List (List ℕ)
schedule_lines text = drill_parts_of 10 text

abbrev pub statement_words : List ℕ → List (List ℕ)
statement_words line = drill_parts_of 32 line

-- the session, the page, the place and the digits of a line `mtr K put SPACE PAGE AT HEX`
pub record AreNumbers (space pages : ℕ) (line : List ℕ) (session page at : ℕ) (hex : List ℕ) : Type 0 where
  pub words : statement_words line ≡ codes "mtr" ∷ decimal session ∷ codes "put" ∷ decimal space ∷ decimal page ∷ decimal at ∷ hex ∷ []
  pub session_from : 1 ≤ session
  pub session_to : session ≤ 16
  pub page_from : 1 ≤ page
  pub page_to : page < pages
  pub at_from : 38 ≤ at
  pub at_to : at < 16376

-- A line `mtr K put SPACE PAGE AT HEX` of a drill over one space: its session, its page, its place and the bytes that the digits write.
pub record IsPutLine (space pages : ℕ) (line : List ℕ) (session page at : ℕ) (bytes : List ℕ) : Type 0 where
  pub hex : List ℕ
  pub numbers : AreNumbers space pages line session page at hex
  pub digits : decode_of hex ≡ Ok bytes
  pub some : 1 ≤ length bytes
  pub within : at + length bytes ≤ 16376
  -- one block holds its change
  pub short : 17 + length bytes ≤ 4076

-- a line of a statement: `sync`, or a mini-transaction of one put
pub data IsAct (space pages : ℕ) (line : List ℕ) : DrillAct → Type 0 where
  IsSync : line ≡ codes "sync" → IsAct space pages line Sync
  IsMtr : (session page at : ℕ) (bytes : List ℕ) → IsPutLine space pages line session page at bytes → IsAct space pages line (Mtr session (Put space page at bytes ∷ []))

-- an empty line, or a comment
abbrev pub IsNoStatement : List ℕ → Type 0
IsNoStatement line = (line ≡ []) ⊎ ((rest : List ℕ) × (line ≡ 35 ∷ rest))
