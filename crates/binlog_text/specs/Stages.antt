-- The stages that a reader can stand at.
use Rattle.std.specs.Prelude.{◌-◌, ◌==◌, ℕ, Bool, true, not, List, length, nat_le}
use Rattle.binlog_text.specs.Faults.{is_outside}
use Rattle.binlog_text.specs.declared.stage.Stage.{Stage}
use Rattle.binlog_text.specs.declared.stage.Stage.TheVariants.{Events, Refused, Start}

-- no fault from outside is kept as a refusal
abbrev pub is_settled : Stage → Bool
is_settled Start = true
is_settled (Events position) = true
is_settled (Refused fault) = not (is_outside fault)

-- no more bytes are held than the file has behind the events before, and at the start none
abbrev pub holds_within : Stage → List ℕ → Bool
holds_within Start rest = length rest == 0
holds_within (Events position) rest = nat_le (length rest) (position.size - position.place)
holds_within (Refused fault) rest = true
