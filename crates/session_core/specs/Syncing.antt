-- A sync: the log is written out, and the journal's length is told as acknowledged.
use Rattle.std.specs.Prelude.{◌≡◌, ℕ, zero, suc, ◌+◌, length, Some, None, Err, false}
use Rattle.counted_disk.specs.declared.counted.Counted.{Counted}
use Rattle.counted_disk.specs.declared.counted.Stop.{Stop}
use Rattle.disk_model.specs.Event.{Tell}
use Rattle.disk_model.specs.Past.{Past, Is, MayGrow, grow}
use Rattle.disk_model.specs.declared.names.FileName.TheVariants.{Log}
use Rattle.disk_model.specs.declared.names.Mark.{Mark}
use Rattle.disk_model.specs.declared.names.Mark.TheVariants.{Acked}
use Rattle.places.specs.Writes.{IsPart, grows}
use Rattle.redo_log.specs.Events.{block_batch, out_events}
use Rattle.redo_log.specs.Log.{handed_over, pending_count, written_out}
use Rattle.redo_log.specs.State.{LogState}
use Rattle.store_image.specs.View.{block_bytes}
use Rattle.session_core.specs.Files.{IsStopOf}
use Rattle.session_core.specs.Session.{Running}
use Rattle.session_core.specs.Stops.{device_fault, up_or_refused}
use Rattle.session_core.specs.declared.fault.EngineFault.{EngineFault}

-- the session with no pending block and all entries acknowledged
abbrev pub synced_session : {D : Type 0} → Running D → Counted D → Running D
synced_session r disk = record r { disk = disk; log = written_out r.log; acked = length r.journal }

-- the calls that write so many blocks and sync them, none where there is no block
abbrev pub write_calls : ℕ → ℕ
write_calls zero = 0
write_calls (suc k) = suc k + 1

-- the past once the pending blocks were written, in order, and the log was synced where there was one
abbrev pub written_past : LogState → Past → Past
written_past log past = grows (out_events (pending_count log) log) past

-- and once so many entries were told as acknowledged
abbrev pub synced_past : LogState → ℕ → Past → Past
synced_past log count past = grow (Tell (Acked count)) (written_past log past)

-- a call that is no turn was answered this error, which has stopped the disk
abbrev pub IsStopBesideTurns : {D : Type 0} → Counted D → EngineFault → Type 0
IsStopBesideTurns disk e = (s : Stop) × (disk.stop ≡ Some s) × (s.in_turn ≡ false) × (e ≡ device_fault s.error disk.turns)

-- What a sync has done where its disk was stopped in it: a part of the writes, whose blocks stay pending; or all of them, and maybe the mark.
pub data IsSyncedInPart {D : Type 0} (past : D → Past) (old new : Running D) (e : EngineFault) : Type 0 where
  Unwritten : IsStopOf new.disk e → new ≡ record old { disk = new.disk; log = handed_over old.log } → IsPart Log block_bytes (block_batch old.log) (pending_count old.log) (past old.disk.disk) (past new.disk.disk) → IsSyncedInPart past old new e
  Untold : IsStopBesideTurns new.disk e → new ≡ record old { disk = new.disk; log = written_out old.log } → MayGrow (Is (Tell (Acked (length old.journal)))) (written_past old.log (past old.disk.disk)) (past new.disk.disk) → IsSyncedInPart past old new e

-- Why a session isn't synced: it was stopped, and nothing was done; or its disk was stopped in the call.
pub data IsSyncRefusal {D : Type 0} (past : D → Past) (old new : Running D) (e : EngineFault) : Type 0 where
  Stopped : up_or_refused old.disk.stop old.disk.turns ≡ Err e → new ≡ old → IsSyncRefusal past old new e
  InPart : old.disk.stop ≡ None → IsSyncedInPart past old new e → IsSyncRefusal past old new e
