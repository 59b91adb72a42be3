-- What a drill prints.
use Rattle.std.specs.Prelude.{ℕ, List, ◌++◌, map, codes, Option, Some, None}
use Rattle.std.specs.Fmt.{decimal}
use Rattle.disk_model.specs.declared.calls.Choice.{Choice}
use Rattle.disk_model.specs.declared.calls.Choice.TheVariants.{Lost, Kept, Torn}

-- l lost, k kept, t torn
abbrev pub letter_of : Choice → ℕ
letter_of Lost = 108
letter_of Kept = 107
letter_of Torn = 116

-- the turn at which a session was stopped, or its end
abbrev pub stop_text : Option ℕ → List ℕ
stop_text None = codes "end"
stop_text (Some turn) = decimal turn

-- the lines of a session: where it was stopped, the choices of its crash, and what was left
abbrev pub session_text : Option ℕ → List Choice → ℕ → ℕ → ℕ → List ℕ
session_text stopped choices journal acked kept =
    codes "crash " ++ stop_text stopped ++ codes " choice " ++ map letter_of choices ++ codes "\n"
    ++ codes "journal " ++ decimal journal ++ codes " acked " ++ decimal acked ++ codes " kept " ++ decimal kept ++ codes "\n"
