-- How a drill of one session ends.
use Rattle.std.specs.Prelude.{◌≡◌, ◌⊎◌, ℕ, ◌≤◌, Bool, true, false, nat_le, if◌then◌else◌, List, [], ◌∷◌, length, replicate, Option, Some, None}
use Rattle.std.specs.List.{All}
use Rattle.disk_model.specs.Event.{marks}
use Rattle.disk_model.specs.Image.{IsLucky}
use Rattle.disk_model.specs.Crash.{crash_image}
use Rattle.disk_model.specs.Contents.{events, calls_since}
use Rattle.disk_model.specs.Log.{IsLaterLog}
use Rattle.disk_model.specs.Turns.{later_turn, turns_in, are_planned}
use Rattle.disk_model.specs.Marks.{acked as acked_of}
use Rattle.disk_model.specs.declared.contents.DiskContents.{DiskContents}
use Rattle.disk_model.specs.declared.calls.Choice.{Choice}
use Rattle.disk_model.specs.declared.calls.Choice.TheVariants.{Lost}
use Rattle.space_head.specs.declared.space.SpaceInfo.{SpaceInfo}
use Rattle.plain_engine.specs.Layer.{LogReady}
use Rattle.plain_engine.specs.Made.{IsHeaded}
use Rattle.plain_engine.specs.Stands.{LogKeeps, passes}
use Rattle.keyd_cli.specs.declared.words.SpaceWords.{SpaceWords}
use Rattle.keyd_cli.specs.declared.plan.DrillPlan.{DrillPlan}
use Rattle.keyd_cli.specs.declared.act.DrillStatement.{DrillStatement}
use Rattle.keyd_cli.specs.declared.drill.Drilled.{Drilled}
use Rattle.keyd_cli.specs.Session.{HasRun, AreAckedWithin}

-- the space as it is made: plain, with floor 0 and a salt of zero bytes
abbrev pub info_of : SpaceWords → SpaceInfo
info_of s = record { space = s.space; pages = s.pages; key_id = s.key_id; salt = replicate 16 0; ciphered = false; floor = 0 }

-- the turn from which on the disk fails, of which so many were made before the session
abbrev pub stop_after : ℕ → Option ℕ → Option ℕ
stop_after begun None = None
stop_after begun (Some turn) = Some (later_turn begun turn)

-- the session's stop, where that turn was made
abbrev pub stopped_by : ℕ → ℕ → Option ℕ → Option ℕ
stopped_by begun turns None = None
stopped_by begun turns (Some turn) = if nat_le (later_turn begun turn) turns then Some turn else None

-- The disk as the session begins: the store has this space and no used page, and from the session's stop on each turn is to fail.
pub record DrillBegins (space : SpaceWords) (turn : Option ℕ) (first : DiskContents) : Type 0 where
  pub empty : LogReady [] 0 0 0 (events first)
  pub headed : IsHeaded (info_of space ∷ []) (events first)
  pub failing : first.log.failing.items ≡ []
  pub stop : first.log.stop ≡ stop_after first.log.turns turn

-- each of the choices loses its write
abbrev pub AreLost : List Choice → Type 0
AreLost choices = All (λ c. c ≡ Lost) choices

-- The session ran on the disk as it began, that disk's crash keeps so many entries of the journal, and no more than these were acknowledged.
pub record IsDrilled (plan : DrillPlan) (statements : List DrillStatement) (d : Drilled) : Type 0 where
  pub first : DiskContents
  pub begins : DrillBegins plan.space plan.stop first
  pub later : IsLaterLog first.log d.end.disk.contents.log
  -- no turn before the stop failed, and each from it on did, but where memory was refused
  pub planned : are_planned [] first.log.stop 0 (calls_since d.end.disk.contents) ≡ true
  pub stopped : d.end.stopped ≡ stopped_by first.log.turns (turns_in (calls_since d.end.disk.contents)) plan.stop
  pub is_whole : Bool
  pub run : HasRun statements is_whole d.journal d.replies.items
  pub whole : d.end.stopped ≡ None → is_whole ≡ true
  pub replied : AreAckedWithin d.end.acked d.replies.items
  pub count : d.end.journal ≡ length d.journal
  pub keeps : LogKeeps d.journal (crash_image plan.choices.items (events d.end.disk.contents)) d.end.kept
  pub lucky : IsLucky passes (crash_image plan.choices.items (events d.end.disk.contents))
  pub acked : acked_of (marks (events d.end.disk.contents)) ≡ d.end.acked
  pub order : d.end.acked ≤ d.end.kept
  pub within : d.end.kept ≤ d.end.journal
  pub kept_is_acked : (d.end.stopped ≡ None) ⊎ AreLost plan.choices.items → d.end.kept ≡ d.end.acked
  pub rest : d.end.rest ≡ None
