-- The grammar's own spelling of a script: numbers in decimal digits, bytes in lower case, and an empty line for each line that is skipped.
use Rattle.std.specs.Prelude.{ℕ, ◌+◌, ◌-◌, List, [], ◌∷◌, ◌++◌, codes, replicate}
use Rattle.std.specs.Fmt.{decimal}
use Rattle.std.specs.List.{join_with_byte}
use Rattle.hex.specs.Hex.{encode_lower}
use Rattle.script_core.specs.Words.{Word}
use Rattle.script_core.specs.Names.{name_of, change_name_of}
use Rattle.script_core.specs.Statements.{change_name, statement_name}
use Rattle.script_core.specs.declared.act.Act.{Act}
use Rattle.script_core.specs.declared.act.Act.TheVariants.{Mtr, Read, Sync, Flush, Check, Take, Put, Activate, Encrypt, Rotate, Report}
use Rattle.script_core.specs.declared.act.ScriptChange.{ScriptChange}
use Rattle.script_core.specs.declared.act.ScriptChange.TheVariants as change
use Rattle.script_core.specs.declared.script.Statement.{Statement}

-- the words behind a change's name, and then these
unfoldable pub change_arguments : ScriptChange → List Word → List Word
change_arguments (change.Put space page at bytes) rest = decimal space ∷ decimal page ∷ decimal at ∷ encode_lower bytes ∷ rest
change_arguments (change.Fill space page at length byte) rest = decimal space ∷ decimal page ∷ decimal at ∷ decimal length ∷ encode_lower (byte ∷ []) ∷ rest
change_arguments (change.Kind space page kind) rest = decimal space ∷ decimal page ∷ decimal kind ∷ rest

abbrev pub change_spelling : ScriptChange → List Word → List Word
change_spelling change rest = change_name_of (change_name change) ∷ change_arguments change rest

unfoldable pub changes_spelling : List ScriptChange → List Word
changes_spelling [] = []
changes_spelling (change ∷ []) = change_spelling change []
changes_spelling (change ∷ next ∷ changes) = change_spelling change (codes ";" ∷ changes_spelling (next ∷ changes))

-- the words behind a statement's name
unfoldable pub arguments_of : Act → List Word
arguments_of (Mtr session changes) = decimal session ∷ changes_spelling changes
arguments_of (Read session space page at length) = decimal session ∷ decimal space ∷ decimal page ∷ decimal at ∷ decimal length ∷ []
arguments_of Sync = []
arguments_of Flush = []
arguments_of Check = []
arguments_of (Take batch space count) = decimal batch ∷ decimal space ∷ decimal count ∷ []
arguments_of (Put batch) = decimal batch ∷ []
arguments_of (Activate version) = decimal version ∷ []
arguments_of (Encrypt space) = decimal space ∷ []
arguments_of (Rotate space) = decimal space ∷ []
arguments_of (Report space) = decimal space ∷ []

abbrev pub spelling : Act → List Word
spelling act = name_of (statement_name act) ∷ arguments_of act

abbrev pub line_of : Act → List ℕ
line_of act = join_with_byte 32 (spelling act)

-- the lines of statements, the first of which has this number
unfoldable pub lines_from : ℕ → List Statement → List (List ℕ)
lines_from number [] = []
lines_from number (s ∷ statements) = replicate (s.line - number) [] ++ (line_of s.act ∷ lines_from (s.line + 1) statements)

abbrev pub printed : List Statement → List ℕ
printed statements = join_with_byte 10 (lines_from 1 statements)
