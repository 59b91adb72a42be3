-- What a reader answers at a stage, and what it rests on at the next.
use Rattle.std.proofs.Common.{◌≡◌, ℕ, ◌-◌, false, rules, List, [], length, take, drop, refl, sym, ap, ◌∙◌, subst, arith, length-drop, Option, Some, None, Result, Ok, Err, IfOk, IfSome, unwrap_or}
use Rattle.std.proofs.lemmas.List.{drop-drop}
use Rattle.io_core.specs.Files.{Files, bytes_from}
use Rattle.io_core.specs.Told.{Told}
use Rattle.key_ring.specs.Ring.{RingEntry}
use Rattle.binlog_text.specs.Held.{IsFront}
use Rattle.binlog_text.specs.Faults.{is_outside_fault}
use Rattle.binlog_text.specs.Events.{Found, answered, event_in, placed, placed_event}
use Rattle.binlog_text.specs.Reading.{Holds, Keeps, Moves, Starts}
use Rattle.binlog_text.specs.Sealed.{IsStoredEvent, StandsStored}
use Rattle.binlog_text.specs.declared.fault.BinlogFault.{BinlogFault}
use Rattle.binlog_text.specs.declared.stage.Position.{Position}
use Rattle.binlog_text.specs.declared.stage.Stage.{Stage}
use Rattle.binlog_text.specs.declared.stage.Stage.TheVariants.{Events, Refused, Start}
use Rattle.binlog_text.specs.declared.stage.StageStep.{StageStep}
use Rattle.binlog_text.proofs.Refusals.{step_each}

-- a start that was answered Ok
pub starts_keeps : (held : Option Files) (name rest : List ℕ) (r : Result Position BinlogFault)
    → Told (λ fs. is_outside_fault r ≡ false → Starts (fs name) rest r) held → IfOk r (λ position. Told (λ fs. Keeps (fs name) (Events position) rest) held)
starts_keeps held name rest (Ok position) told = record { here = λ fs is. (told.here fs is refl).keeps }
starts_keeps held name rest (Err fault) told = search rules

-- the answer at a position
pub answered_event : (ring : List RingEntry) (found : Option (List ℕ)) (stage : Stage) (position : Position) (rest : List ℕ) (answer : Result (Option Found) BinlogFault)
    → placed found stage ≡ Ok position → Keeps found (Events position) rest
    → (IsFront rest (drop position.place (unwrap_or found [])) → length (drop position.place (unwrap_or found [])) ≡ position.size - position.place → event_in ring (drop position.place (unwrap_or found [])) position ≡ answer)
    → answered ring found stage ≡ answer
answered_event ring None stage position rest answer at keeps event = absurd keeps
answered_event ring (Some file) stage position rest answer at keeps event =
    ap (placed_event ring (Some file)) at ∙ event keeps.front (length-drop position.place file ∙ ap (λ (n : ℕ). n - position.place) (sym keeps.size))

-- an event that was read stands in the file
pub stands_sealed : (ring : List RingEntry) (found : Option (List ℕ)) (stage : Stage) (position : Position) (rest event : List ℕ) (r : Result (Option StageStep) BinlogFault)
    → placed found stage ≡ Ok position → Keeps found (Events position) rest
    → (IsFront rest (drop position.place (unwrap_or found []))
    → IfOk r (λ found_step. IfSome found_step (λ s. IsStoredEvent ring position.format position.place event (take (length event) (drop position.place (unwrap_or found []))))))
    → IfOk r (λ found_step. IfSome found_step (λ s. StandsStored ring found (placed found stage) (record { mark = s.mark; bytes = event })))
stands_sealed ring None stage position rest event r at keeps sealed = absurd keeps
stands_sealed ring (Some file) stage position rest event r at keeps sealed =
    step_each r (λ s is. subst (λ (p : Result Position BinlogFault). StandsStored ring (Some file) p (record { mark = s.mark; bytes = event })) (sym at) is) (sealed keeps.front)

-- what holds behind an event
next_holds : (found : Option (List ℕ)) (position : Position) (before rest event : List ℕ) (step : StageStep) → Keeps found (Events position) before
    → (IsFront before (drop position.place (unwrap_or found [])) → length (drop position.place (unwrap_or found [])) ≡ position.size - position.place
    → IsFront rest (drop (length event) (drop position.place (unwrap_or found []))))
    → Moves position event step → Keeps found (Events step.next) rest
next_holds None position before rest event step keeps front moves = absurd keeps
next_holds (Some file) position before rest event step keeps front moves =
    let most : position.size ≡ length file = keeps.size in
    let behind : drop (length event) (drop position.place file) ≡ drop step.next.place file =
    drop-drop (length event) position.place file ∙ ap (λ (n : ℕ). drop n file) (sym moves.next) in
    record {
      size = moves.size ∙ keeps.size;
      inside = omega (arith, moves.inside, most);
      front = subst (IsFront rest) behind (front keeps.front (length-drop position.place file ∙ ap (λ (n : ℕ). n - position.place) (sym keeps.size)));
    }

pub keeps_next : (held : Option Files) (name : List ℕ) (position : Position) (before rest event : List ℕ) (r : Result (Option StageStep) BinlogFault)
    → Told (λ fs. Keeps (fs name) (Events position) before) held
    → Told (λ fs. IsFront before (bytes_from position.place name fs) → length (bytes_from position.place name fs) ≡ position.size - position.place
    → IfOk r (λ found. IfSome found (λ step. IsFront rest (drop (length event) (bytes_from position.place name fs))))) held
    → IfOk r (λ found. IfSome found (Moves position event))
    → IfOk r (λ found. IfSome found (λ step. Told (λ fs. Keeps (fs name) (Events step.next) rest) held))
keeps_next held name position before rest event (Ok (Some step)) keeps front moves =
    record { here = λ fs is. next_holds (fs name) position before rest event step (keeps.here fs is) (front.here fs is) moves }
keeps_next held name position before rest event (Ok None) keeps front moves = search rules
keeps_next held name position before rest event (Err fault) keeps front moves = search rules

position_of : Position → Result Position BinlogFault → Position
position_of other (Ok position) = position
position_of other (Err fault) = other

same_position : (p q : Position) → ◌≡◌ {A = Result Position BinlogFault} (Ok p) (Ok q) → p ≡ q
unfolding position_of
same_position p q e = ap (position_of p) e

refused_placed : (fault : BinlogFault) (q : Position) → ◌≡◌ {A = Result Position BinlogFault} (Err fault) (Ok q) → ⊥
refused_placed fault q e = cc

-- what holds where the reader stays
pub kept_stage : (found : Option (List ℕ)) (stage : Stage) (position : Position) (before rest : List ℕ) → placed found stage ≡ Ok position
    → Keeps found (Events position) before → (IsFront before (drop position.place (unwrap_or found [])) → IsFront rest (drop position.place (unwrap_or found [])))
    → Keeps found stage rest
kept_stage None stage position before rest at keeps front = absurd keeps
kept_stage (Some file) Start position before rest at keeps front = search rules
kept_stage (Some file) (Refused fault) position before rest at keeps front = absurd (refused_placed fault position at)
kept_stage (Some file) (Events p) position before rest at keeps front =
    subst (λ (q : Position). Holds file q rest) (sym (same_position p position at)) (record { size = keeps.size; inside = keeps.inside; front = front keeps.front })
