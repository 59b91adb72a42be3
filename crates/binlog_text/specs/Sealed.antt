-- How an event stands in the file of its log.
use Rattle.std.specs.Prelude.{◌≡◌, ℕ, ◌%◌, ◌^◌, List, length, Option, Some, None, Result, Ok, Err}
use Rattle.byte_list.specs.Bytes.{range}
use Rattle.key_ring.specs.Ring.{RingEntry, ring_key}
use Rattle.binlog_text.specs.Cipher.{enciphered_event}
use Rattle.binlog_text.specs.Events.{BinlogEvent}
use Rattle.binlog_text.specs.declared.fault.BinlogFault.{BinlogFault}
use Rattle.binlog_text.specs.declared.format.EventCipher.{EventCipher}
use Rattle.binlog_text.specs.declared.format.LogFormat.{LogFormat}
use Rattle.binlog_text.specs.declared.stage.Position.{Position}

-- as it is, or enciphered under the key of id 1 and the cipher's version, its nonce and the event's place modulo 2 ^ 32
abbrev pub IsStoredBy : Option EventCipher → List RingEntry → ℕ → List ℕ → List ℕ → Type 0
IsStoredBy None ring place plain stored = stored ≡ plain
IsStoredBy (Some cipher) ring place plain stored =
    (key : List ℕ) × (ring_key ring 1 cipher.version ≡ Some key) × (stored ≡ enciphered_event key cipher.nonce (place % 2 ^ 32) plain)

-- by what the events before it say
pub record IsStoredEvent (ring : List RingEntry) (format : LogFormat) (place : ℕ) (plain stored : List ℕ) : Type 0 where
  pub by : IsStoredBy format.cipher ring place plain stored

-- The bytes of the file at a position are an event so.
abbrev pub StandsStored : List RingEntry → Option (List ℕ) → Result Position BinlogFault → BinlogEvent → Type 0
StandsStored ring file (Err fault) event = ⊥
StandsStored ring None (Ok position) event = ⊥
StandsStored ring (Some file) (Ok position) event = IsStoredEvent ring position.format position.place event.bytes (range position.place (length event.bytes) file)
