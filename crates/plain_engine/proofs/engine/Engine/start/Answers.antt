use Rattle.std.proofs.Common.{[]}
use Rattle.disk_model.proofs.Moments.{weaker}
use Rattle.plain_engine.proofs.Journals.{all_stand}
use Rattle.plain_engine.proofs.Keeping.{sound_start}
use Rattle.plain_engine.proofs.engine.Engine.start.Goals as goal

pub invariant_of-result : goal.invariant_of-result
invariant_of-result g c =
    rw (c.new.ensures.items, c.new-in-Ok.ensures.items) (sound_start g.D.Disk.past g.D.Disk.may_fail_to_tell c.tell_started.new.disk c.of-first.result.value c.of-first.ensures c.in-Ok.ensures.step.next)

pub returns-in-Ok-clause-stands : goal.returns-in-Ok-clause-stands
returns-in-Ok-clause-stands g c =
    rw (c.new-in-Ok.ensures.items) (sound_start g.D.Disk.past g.D.Disk.may_fail_to_tell c.tell_started.new.disk c.of-first.result.value c.of-first.ensures c.in-Ok.ensures.step.next).since

pub returns-in-Ok-clause-begun : goal.returns-in-Ok-clause-begun
returns-in-Ok-clause-begun g c = weaker (λ m a. all_stand [] [] tt tt m a.runs) c.in-Ok.ensures.step.moments

pub returns-in-Err-Failed-clause-refused : goal.returns-in-Err-Failed-clause-refused
returns-in-Err-Failed-clause-refused g c = weaker (λ m a. all_stand [] [] tt tt m a.runs) c.in-Err-Failed.ensures.step.moments

pub returns-in-Err-NoMemory-clause-refused : goal.returns-in-Err-NoMemory-clause-refused
returns-in-Err-NoMemory-clause-refused g c = weaker (λ m a. all_stand [] [] tt tt m a.runs) c.in-Err-NoMemory.ensures.step.moments

pub returns-in-Ok-clause-begun_refusable : goal.returns-in-Ok-clause-begun_refusable
returns-in-Ok-clause-begun_refusable g c = weaker (λ m a. a.refusable) c.in-Ok.ensures.step.moments

pub returns-in-Err-Failed-clause-refused_refusable : goal.returns-in-Err-Failed-clause-refused_refusable
returns-in-Err-Failed-clause-refused_refusable g c = weaker (λ m a. a.refusable) c.in-Err-Failed.ensures.step.moments

pub returns-in-Err-NoMemory-clause-refused_refusable : goal.returns-in-Err-NoMemory-clause-refused_refusable
returns-in-Err-NoMemory-clause-refused_refusable g c = weaker (λ m a. a.refusable) c.in-Err-NoMemory.ensures.step.moments
