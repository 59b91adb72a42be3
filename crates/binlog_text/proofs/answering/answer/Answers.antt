use Rattle.std.proofs.Common.{◌∙◌, refl, sym}
use Rattle.io_core.proofs.Causes.{told_same}
use Rattle.binlog_text.proofs.Answered.{answered_event, keeps_next, kept_stage, stands_sealed}
use Rattle.binlog_text.specs.Reading.{due_at}
use Rattle.binlog_text.proofs.Refusals.{step_each}
use Rattle.binlog_text.proofs.Room.{passes, stage_room, start_room}
use Rattle.binlog_text.proofs.answering.answer.Goals as goal

pub returns-clause-answer : goal.returns-clause-answer
returns-clause-answer g c = record {
  here = λ fs is inside.
      answered_event c.args.ring.now (fs c.args.name.now) c.args.stage c.in_ok-position.position c.find_position.new.buffer.rest _
      (c.in_ok-position.ensures.position.here fs is refl) (c.in_ok-position.ensures.keeps.here fs is)
      (λ front size. c.read_event.ensures.event.here fs (c.in_ok-position.ensures.same ∙ is) front size inside);
}

pub returns-clause-keeps : goal.returns-clause-keeps
returns-clause-keeps g c =
    keeps_next _ c.args.name.now c.in_ok-position.position c.find_position.new.buffer.rest _ _ c.read_event.result
    c.in_ok-position.ensures.keeps (told_same (sym c.in_ok-position.ensures.same) c.read_event.ensures.rest) c.read_event.ensures.moves

pub returns-clause-kept : goal.returns-clause-kept
returns-clause-kept g c = λ how. record {
  here = λ fs is.
      kept_stage (fs c.args.name.now) c.args.stage c.in_ok-position.position c.find_position.new.buffer.rest _
      (c.in_ok-position.ensures.position.here fs is refl) (c.in_ok-position.ensures.keeps.here fs is)
      (λ front. c.read_event.ensures.stays.here fs (c.in_ok-position.ensures.same ∙ is) front how);
}

pub returns-clause-behind : goal.returns-clause-behind
returns-clause-behind g c =
    step_each c.read_event.result (λ s moves. passes c.args.stage c.in_ok-position.position _ s c.in_ok-position.ensures.at moves) c.read_event.ensures.moves

pub returns-in_err-position-clause-grown : goal.returns-in_err-position-clause-grown
returns-in_err-position-clause-grown g c = record {
  here = λ fs is. start_room c.args.buffer.now.room c.find_position.new.buffer.room (due_at (fs c.args.name.now) c.args.stage) c.find_position.ensures.room;
}

pub returns-clause-grown : goal.returns-clause-grown
returns-clause-grown g c = record {
  here = λ fs is.
      stage_room (fs c.args.name.now) c.args.stage c.in_ok-position.position c.find_position.new.buffer.rest
      c.args.buffer.now.room c.find_position.new.buffer.room c.read_event.new.buffer.room
      (c.in_ok-position.ensures.position.here fs is refl) (c.in_ok-position.ensures.keeps.here fs is) c.find_position.ensures.room
      (λ front size. c.read_event.ensures.grown.here fs (c.in_ok-position.ensures.same ∙ is) front size);
}

pub returns-clause-sealed : goal.returns-clause-sealed
returns-clause-sealed g c = record {
  here = λ fs is.
      stands_sealed c.args.ring.now (fs c.args.name.now) c.args.stage c.in_ok-position.position c.find_position.new.buffer.rest c.read_event.new.buffer.event c.read_event.result
      (c.in_ok-position.ensures.position.here fs is refl) (c.in_ok-position.ensures.keeps.here fs is) (c.read_event.ensures.sealed.here fs (c.in_ok-position.ensures.same ∙ is));
}
