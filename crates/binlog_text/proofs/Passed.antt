-- What a reader does that passes an event, and what it holds where it passes none.
use Rattle.std.proofs.Common.{◌≡◌, ◌≤◌, ◌<◌, ℕ, max, false, true, List, [], ◌∷◌, length, ◌==◌, refl, sym, subst, ◌∙◌, arith, Option, Some, Result, Ok, IfOk, IfSome}
use Rattle.std.proofs.lemmas.Bool.Decides.{nat_tests}
use Rattle.io_core.specs.Files.{Files}
use Rattle.io_core.specs.Told.{Told}
use Rattle.key_ring.specs.Ring.{RingEntry}
use Rattle.binlog_text.specs.Advances.{Advances}
use Rattle.binlog_text.specs.Faults.{is_outside_fault}
use Rattle.binlog_text.specs.Events.{BinlogEvent, answered, placed}
use Rattle.binlog_text.specs.Reading.{IsBehindEvent, Keeps, due_at, left_at, shown_step}
use Rattle.binlog_text.specs.Sealed.{StandsStored}
use Rattle.binlog_text.specs.Stages.{holds_within}
use Rattle.binlog_text.specs.declared.fault.BinlogFault.{BinlogFault}
use Rattle.binlog_text.specs.declared.reader.LogReader.{LogReader}
use Rattle.binlog_text.specs.declared.stage.Stage.{Stage}
use Rattle.binlog_text.specs.declared.stage.Stage.TheVariants.{Events, Refused, Start}
use Rattle.binlog_text.specs.declared.stage.StageStep.{StageStep}

-- from what is answered of it before it is passed
pub advances_event : (ring : List RingEntry) (files : Option Files) (name : List ℕ) (old new : LogReader) (step : StageStep) (r : Result (Option StageStep) BinlogFault)
    → new.stage ≡ Events step.next → r ≡ Ok (Some step)
    → Told (λ fs. is_outside_fault r ≡ false → answered ring (fs name) old.stage ≡ shown_step new.buffer.event r) files
    → Told (λ fs. IfOk r (λ passed. IfSome passed (λ s. StandsStored ring (fs name) (placed (fs name) old.stage) (record { mark = s.mark; bytes = new.buffer.event })))) files
    → IfOk r (λ passed. IfSome passed (λ s. Told (λ fs. Keeps (fs name) (Events s.next) new.buffer.rest) files))
    → IfOk r (λ passed. IfSome passed (λ s. left_at (Events s.next) < left_at old.stage))
    → IfOk r (λ passed. IfSome passed (λ s. IsBehindEvent old.stage (record { mark = s.mark; bytes = new.buffer.event }) (Events s.next)))
    → new.buffer.room ≤ max old.buffer.room 16777216
    → Told (λ fs. new.buffer.room ≤ max old.buffer.room (max 65536 (due_at (fs name) old.stage))) files
    → Advances ring files name old new (Ok (Some (record { mark = step.mark; bytes = new.buffer.event })))
advances_event ring files name old new step r at is answer sealed keeps left behind room grown =
    let event : BinlogEvent = record { mark = step.mark; bytes = new.buffer.event } in
    record {
      answer = record {
        here = λ fs told inside.
            (step.next, at, subst (λ (x : Result (Option StageStep) BinlogFault). is_outside_fault x ≡ false → answered ring (fs name) old.stage ≡ shown_step new.buffer.event x) is (answer.here fs told) refl);
      };
      sealed = record {
        here = λ fs told.
            subst (λ (x : Result (Option StageStep) BinlogFault). IfOk x (λ passed. IfSome passed (λ s. StandsStored ring (fs name) (placed (fs name) old.stage) (record { mark = s.mark; bytes = new.buffer.event })))) is (sealed.here fs told);
      };
      keeps =
          subst (λ (s : Stage). Told (λ fs. Keeps (fs name) s new.buffer.rest) files) (sym at)
          (subst (λ (x : Result (Option StageStep) BinlogFault). IfOk x (λ passed. IfSome passed (λ s. Told (λ fs. Keeps (fs name) (Events s.next) new.buffer.rest) files))) is keeps);
      stage =
          subst (λ (s : Stage). left_at s < left_at old.stage) (sym at)
          (subst (λ (x : Result (Option StageStep) BinlogFault). IfOk x (λ passed. IfSome passed (λ s. left_at (Events s.next) < left_at old.stage))) is left);
      held = λ out. let two : false ≡ true = out in absurd (cc);
      behind =
          subst (IsBehindEvent old.stage event) (sym at)
          (subst (λ (x : Result (Option StageStep) BinlogFault). IfOk x (λ passed. IfSome passed (λ s. IsBehindEvent old.stage (record { mark = s.mark; bytes = new.buffer.event }) (Events s.next)))) is behind);
      room = room;
      grown = grown;
    }

-- ---- one that passes none: at the start the bytes that were read are forgotten

no_bytes : (bytes : List ℕ) → (length bytes == 0) ≡ true → bytes ≡ []
no_bytes [] none = refl
no_bytes (b ∷ bytes) none = let long : length (b ∷ bytes) ≡ 0 = grind (arith, nat_tests) in absurd (omega (arith, long))

pub held_again : (stage : Stage) (before middle now : List ℕ) → holds_within stage before ≡ true → (stage ≡ Start → now ≡ []) → ((stage ≡ Start → ⊥) → now ≡ middle) → ((stage ≡ Start → ⊥) → middle ≡ before) → now ≡ before
held_again Start before middle now within start same kept = start refl ∙ sym (no_bytes before within)
held_again (Events position) before middle now within start same kept = same (λ e. cc) ∙ kept (λ e. cc)
held_again (Refused fault) before middle now within start same kept = same (λ e. cc) ∙ kept (λ e. cc)

pub keeps_again : (files : Option Files) (name : List ℕ) (stage : Stage) (middle now : List ℕ) → ((stage ≡ Start → ⊥) → now ≡ middle)
    → Told (λ fs. Keeps (fs name) stage middle) files → Told (λ fs. Keeps (fs name) stage now) files
keeps_again files name Start middle now same keeps = record { here = λ fs is. tt }
keeps_again files name (Events position) middle now same keeps = subst (λ (rest : List ℕ). Told (λ fs. Keeps (fs name) (Events position) rest) files) (sym (same (λ e. cc))) keeps
keeps_again files name (Refused fault) middle now same keeps = subst (λ (rest : List ℕ). Told (λ fs. Keeps (fs name) (Refused fault) rest) files) (sym (same (λ e. cc))) keeps
