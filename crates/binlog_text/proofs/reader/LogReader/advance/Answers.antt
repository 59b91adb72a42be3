use Rattle.std.proofs.Common.{Ok, ap, refl, ◌∙◌}
use Rattle.binlog_text.proofs.Passed.{advances_event}
use Rattle.binlog_text.proofs.reader.LogReader.advance.Goals as goal

pub returns-in-Ok-Some-clause-advances : goal.returns-in-Ok-Some-clause-advances
returns-in-Ok-Some-clause-advances g c =
    advances_event c.args.ring.now _ c.args.name.now c.args.self.now _ c.in-Ok-Some.step c.answer.result refl (c.in-Ok-Some.is ∙ ap Ok c.in-Ok-Some.field-0-is)
    c.answer.ensures.answer c.answer.ensures.sealed c.answer.ensures.keeps c.answer.ensures.left c.answer.ensures.behind c.answer.ensures.room c.answer.ensures.grown
