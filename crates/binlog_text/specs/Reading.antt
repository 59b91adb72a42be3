-- What a reader holds of the file, and what it answers.
use Rattle.std.specs.Prelude.{◌≡◌, ◌≤◌, ◌<◌, ◌⊎◌, ℕ, ◌+◌, ◌-◌, ◌^◌, min, List, [], length, drop, unwrap_or, if◌then◌else◌, IfOk}
use Rattle.std.specs.Prelude.{Option, Some, None, Result, Ok, Err}
use Rattle.std.specs.Option.{option_map}
use Rattle.binlog_text.specs.Events.{BinlogEvent, Found, placed}
use Rattle.binlog_text.specs.Faults.{is_outside}
use Rattle.binlog_text.specs.Header.{framed}
use Rattle.binlog_text.specs.Held.{IsFront}
use Rattle.binlog_text.specs.Views.{event_of}
use Rattle.binlog_text.specs.declared.fault.BinlogFault.{BinlogFault}
use Rattle.binlog_text.specs.declared.fault.BinlogFault.TheVariants.{Missing}
use Rattle.binlog_text.specs.declared.stage.Position.{Position}
use Rattle.binlog_text.specs.declared.stage.StageStep.{StageStep}
use Rattle.binlog_text.specs.declared.stage.Stage.{Stage}
use Rattle.binlog_text.specs.declared.stage.Stage.TheVariants.{Events, Refused, Start}
use Rattle.binlog_text.specs.declared.view.EventMark.{EventMark}
use Rattle.binlog_text.specs.declared.view.EventView.{EventView}

-- the position is one of the file, and the bytes are those that follow it there
pub record Holds (file : List ℕ) (position : Position) (rest : List ℕ) : Type 0 where
  pub size : position.size ≡ length file
  pub inside : position.place ≤ length file
  pub front : IsFront rest (drop position.place file)

-- what a reader rests on at a stage: once events were read, the file is there and as it was
abbrev pub Keeps : Option (List ℕ) → Stage → List ℕ → Type 0
Keeps file Start rest = Unit {0}
Keeps None (Events position) rest = ⊥
Keeps (Some file) (Events position) rest = Holds file position rest
Keeps file (Refused fault) rest = Unit {0}

-- the event and the position that a step and the event's bytes are
abbrev pub shown_step : List ℕ → Result (Option StageStep) BinlogFault → Result (Option Found) BinlogFault
shown_step event (Err fault) = Err fault
shown_step event (Ok None) = Ok None
shown_step event (Ok (Some step)) = Ok (Some (record { event = record { mark = step.mark; bytes = event }; next = step.next }))

-- enough of the bytes that are left is here: the header, and the event that the header speaks of
pub record Reaches (position : Position) (rest left : List ℕ) : Type 0 where
  pub front : IsFront rest left
  pub header : min 19 (length left) ≤ length rest
  pub event : (long : ℕ) → framed position.format position.place left ≡ Ok (Some long) → min long (length left) ≤ length rest

-- the bytes of the file that are still to come, at most: a count that falls with each event
abbrev pub left_at : Stage → ℕ
left_at Start = 2 ^ 64
left_at (Events position) = position.size - position.place
left_at (Refused fault) = 0

-- how many bytes of the event that begins these are here, its length being known
abbrev pub event_part : ℕ → Result (Option ℕ) BinlogFault → ℕ
event_part left (Err fault) = 0
event_part left (Ok None) = 0
event_part left (Ok (Some long)) = min long left

abbrev pub due_in : Position → List ℕ → ℕ
due_in position left = event_part (length left) (framed position.format position.place left)

abbrev pub due_placed : Option (List ℕ) → Result Position BinlogFault → ℕ
due_placed file (Err fault) = 0
due_placed file (Ok position) = due_in position (drop position.place (unwrap_or file []))

-- How many bytes the next event has, as far as the file has them: none where its header is refused.
abbrev pub due_at : Option (List ℕ) → Stage → ℕ
due_at file stage = due_placed file (placed file stage)

-- the length of a file
abbrev pub file_size : Option (List ℕ) → Option ℕ
file_size file = option_map length file

-- the length of the file of a name, or that there is none
abbrev pub IsSize : Option (List ℕ) → Result ℕ BinlogFault → Type 0
IsSize file (Ok size) = file_size file ≡ Some size
IsSize file (Err fault) = (fault ≡ Missing) × (file ≡ None)

-- the first position of a file, the bytes after it, or its first refusal
pub record Starts (file : Option (List ℕ)) (rest : List ℕ) (result : Result Position BinlogFault) : Type 0 where
  pub answer : placed file Start ≡ result
  pub keeps : IfOk result (λ position. Keeps file (Events position) rest)

-- an event that was read at a position: it has a header, a checksum where it ends with one, and lies within the file
pub record Moves (position : Position) (event : List ℕ) (step : StageStep) : Type 0 where
  pub place : step.mark.place ≡ position.place
  pub next : step.next.place ≡ position.place + length event
  pub size : step.next.size ≡ position.size
  pub inside : step.next.place ≤ position.size
  pub long : 19 + (if step.mark.has_sum then 4 else 0) ≤ length event

-- the event that is answered, from its mark and its bytes
abbrev pub marked : List ℕ → Result (Option EventMark) BinlogFault → Result (Option BinlogEvent) BinlogFault
marked bytes (Err fault) = Err fault
marked bytes (Ok None) = Ok None
marked bytes (Ok (Some mark)) = Ok (Some (record { mark = mark; bytes = bytes }))

-- the event that is answered, from its view
abbrev pub viewed : Result (Option EventView) BinlogFault → Result (Option BinlogEvent) BinlogFault
viewed (Err fault) = Err fault
viewed (Ok None) = Ok None
viewed (Ok (Some view)) = Ok (Some (event_of view))

-- An answer is the definition's, and the stage after an event is the position behind it.
abbrev pub IsAnswer : Result (Option Found) BinlogFault → Stage → Result (Option BinlogEvent) BinlogFault → Type 0
IsAnswer answer stage (Err fault) = answer ≡ Err fault
IsAnswer answer stage (Ok None) = answer ≡ Ok None
IsAnswer answer stage (Ok (Some event)) = (next : Position) × (stage ≡ Events next) × (answer ≡ Ok (Some (record { event = event; next = next })))

-- The stage stays after a fault from outside and at the file's end, and is the refusal after one; after an event fewer
-- bytes are to come.
abbrev pub IsStage : Stage → Stage → Result (Option BinlogEvent) BinlogFault → Type 0
IsStage old new (Err fault) = new ≡ (if is_outside fault then old else Refused fault)
IsStage old new (Ok None) = new ≡ old
IsStage old new (Ok (Some event)) = left_at new < left_at old

-- Bytes of the event at a position are to be read: fewer are held than its header has, or than the event whose header is held,
-- as far as the file has them.
abbrev pub WantsEvent : Position → List ℕ → Type 0
WantsEvent position rest =
    (length rest < min 19 (position.size - position.place))
    ⊎ (length rest < event_part (position.size - position.place) (framed position.format position.place rest))

-- At a stage the file is read on only where bytes of the next event are to be read; at the start none are held.
abbrev pub WantsFile : Stage → List ℕ → Type 0
WantsFile Start rest = Unit {0}
WantsFile (Events position) rest = WantsEvent position rest
WantsFile (Refused fault) rest = ⊥

-- where the next event of a stage begins
abbrev pub StandsAt : Stage → ℕ → Type 0
StandsAt Start place = place ≡ 4
StandsAt (Events position) place = place ≡ position.place
StandsAt (Refused fault) place = ⊥

-- an event from where a stage stands up to a position of the file
pub record PassesEvent (stage : Stage) (event : BinlogEvent) (next : Position) : Type 0 where
  pub begins : StandsAt stage event.mark.place
  pub ends : next.place ≡ event.mark.place + length event.bytes
  pub inside : next.place ≤ next.size

-- the stage behind an event
abbrev pub IsBehindEvent : Stage → BinlogEvent → Stage → Type 0
IsBehindEvent old event Start = ⊥
IsBehindEvent old event (Events next) = PassesEvent old event next
IsBehindEvent old event (Refused fault) = ⊥

-- an event can be viewed: it has its header and its checksum, and its end is a place
pub record FitsMark (mark : EventMark) (event : List ℕ) : Type 0 where
  pub long : 19 + (if mark.has_sum then 4 else 0) ≤ length event
  pub fits : mark.place + length event < 2 ^ 64
