use Rattle.binlog_text.proofs.Answered.{starts_keeps}
use Rattle.binlog_text.proofs.Room.{start_stands}
use Rattle.binlog_text.proofs.answering.find_position.Goals as goal

pub returns-in-Start-clause-keeps : goal.returns-in-Start-clause-keeps
returns-in-Start-clause-keeps g c = starts_keeps _ c.args.name.now _ c.start.result c.start.ensures.position

pub returns-in-Start-clause-at : goal.returns-in-Start-clause-at
returns-in-Start-clause-at g c = start_stands c.args.stage c.start.result c.in-Start.is c.start.ensures.first
