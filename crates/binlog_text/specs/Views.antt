-- The event that a view lends.
use Rattle.binlog_text.specs.Events.{BinlogEvent}
use Rattle.binlog_text.specs.declared.view.EventView.{EventView}

-- where it stands, and its bytes
abbrev pub event_of : EventView → BinlogEvent
event_of view = record { mark = view.mark; bytes = view.bytes.now }
