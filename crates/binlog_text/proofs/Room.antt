-- How long a reader's buffer grows, and where an event stands.
use Rattle.std.proofs.Common.{◌≡◌, ℕ, ◌+◌, ◌-◌, ◌≤◌, min, max, rules, List, [], length, drop, sym, ap, ◌∙◌, subst, arith, length-drop, Option, Some, None, Result, Ok, Err, IfOk, unwrap_or}
use Rattle.binlog_text.specs.Held.{IsFront}
use Rattle.binlog_text.specs.Events.{first_position, placed}
use Rattle.binlog_text.specs.Header.{framed}
use Rattle.binlog_text.specs.Reading.{Keeps, Moves, PassesEvent, StandsAt, due_at, due_in, due_placed, event_part}
use Rattle.binlog_text.specs.declared.fault.BinlogFault.{BinlogFault}
use Rattle.binlog_text.specs.declared.stage.Position.{Position}
use Rattle.binlog_text.specs.declared.stage.Stage.{Stage}
use Rattle.binlog_text.specs.declared.stage.Stage.TheVariants.{Events, Start}
use Rattle.binlog_text.specs.declared.stage.StageStep.{StageStep}
use Rattle.binlog_text.proofs.FrontLaws.{framed-header}

-- a header needs no more than a piece
pub piece_room : (old new due need : ℕ) → need ≤ 65536 → new ≤ max old (max need 65536) → new ≤ max old (max 65536 due)
piece_room old new due need few is = omega (arith, few, is)

pub start_room : (old new due : ℕ) → new ≤ max old 65536 → new ≤ max old (max 65536 due)
start_room old new due is = omega (arith, is)

-- and then the event is read
pub event_room : (old middle new due need : ℕ) → middle ≤ max old 65536 → need ≤ due → new ≤ max middle (max need 65536) → new ≤ max old (max 65536 due)
event_room old middle new due need first most is = omega (arith, first, most, is)

-- of a header that is here
pub due_said : (position : Position) (before all : List ℕ) (long : ℕ) → IsFront before all → min 19 (length all) ≤ length before
    → framed position.format position.place before ≡ Ok (Some long) → due_in position all ≡ min long (length all)
due_said position before all long front header says =
    ap (event_part (length all)) (sym (framed-header position.format position.place before all front header) ∙ says)

-- at a stage
pub stage_room : (found : Option (List ℕ)) (stage : Stage) (position : Position) (rest : List ℕ) (old middle new : ℕ) → placed found stage ≡ Ok position → Keeps found (Events position) rest
    → middle ≤ max old 65536
    → (IsFront rest (drop position.place (unwrap_or found [])) → length (drop position.place (unwrap_or found [])) ≡ position.size - position.place
    → new ≤ max middle (max 65536 (due_in position (drop position.place (unwrap_or found [])))))
    → new ≤ max old (max 65536 (due_at found stage))
stage_room None stage position rest old middle new at keeps first grown = absurd keeps
stage_room (Some file) stage position rest old middle new at keeps first grown =
    let due : due_at (Some file) stage ≡ due_in position (drop position.place file) = ap (due_placed (Some file)) at in
    let room = grown keeps.front (length-drop position.place file ∙ ap (λ (n : ℕ). n - position.place) (sym keeps.size)) in
    subst (λ (n : ℕ). new ≤ max old (max 65536 n)) (sym due) (wider old middle new (due_in position (drop position.place file)) first room)
  where
    wider : (old middle new due : ℕ) → middle ≤ max old 65536 → new ≤ max middle (max 65536 due) → new ≤ max old (max 65536 due)
    wider old middle new due first is = omega (arith, first, is)

-- the first event stands behind the first four bytes
at_start : (r : Result Position BinlogFault) → IfOk r (λ position. position ≡ first_position position.size) → IfOk r (λ position. StandsAt Start position.place)
at_start (Ok position) first = ap (λ (p : Position). p.place) first
at_start (Err fault) first = search rules

pub start_stands : (stage : Stage) (r : Result Position BinlogFault) → stage ≡ Start → IfOk r (λ position. position ≡ first_position position.size)
    → IfOk r (λ position. StandsAt stage position.place)
start_stands stage r is first = subst (λ (s : Stage). IfOk r (λ position. StandsAt s position.place)) (sym is) (at_start r first)

-- an event that was read at a position
pub passes : (stage : Stage) (position : Position) (event : List ℕ) (step : StageStep) → StandsAt stage position.place → Moves position event step
    → PassesEvent stage (record { mark = step.mark; bytes = event }) step.next
passes stage position event step at moves = record {
  begins = subst (StandsAt stage) (sym moves.place) at;
  ends = moves.next ∙ ap (λ (n : ℕ). n + length event) (sym moves.place);
  inside = subst (λ (n : ℕ). step.next.place ≤ n) (sym moves.size) moves.inside;
}
