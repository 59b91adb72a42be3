use Rattle.binlog_text.proofs.ReadOn.{filled_front}
use Rattle.binlog_text.proofs.buffer.EventBuffer.fill.Goals as goal

pub returns-clause-front : goal.returns-clause-front
returns-clause-front g c =
    filled_front c.args.self.now.rest c.load.new.self.rest _ c.args.name.now c.args.place c.rest-held.result.now c.min-want.result c.load.result c.rest-held.ensures c.load.ensures.more
    c.load.ensures.kept
