-- The events of a binary log: what the bytes at a place of the file give, or why they are refused, first in order.
use Rattle.std.specs.Prelude.{ℕ, ◌≡◌, ◌+◌, ◌-◌, ◌%◌, ◌^◌, ◌==◌, ◌&&◌, Bool, List, [], ◌∷◌, length, take, drop, nat_le, nat_lt, bit_and, slice_index, slice_set, if◌then◌else◌}
use Rattle.std.specs.Prelude.{Option, Some, None, Result, Ok, Err}
use Rattle.byte_list.specs.Bytes.{range}
use Rattle.byte_list.specs.Fields.{le32_at}
use Rattle.bytes_core.specs.Crc.{crc32}
use Rattle.key_ring.specs.Ring.{RingEntry, ring_key}
use Rattle.binlog_text.specs.Cipher.{deciphered_event}
use Rattle.binlog_text.specs.Header.{has_sum, kind_of, least_of, length_of, whole}
use Rattle.binlog_text.specs.declared.fault.BinlogFault.{BinlogFault}
use Rattle.binlog_text.specs.declared.fault.BinlogFault.TheVariants.{Algorithm, BadLength, BadMagic, Checksum, Missing, MissingKey, NoFormat, Scheme}
use Rattle.binlog_text.specs.declared.format.ChecksumAlgorithm.{ChecksumAlgorithm}
use Rattle.binlog_text.specs.declared.format.ChecksumAlgorithm.TheVariants.{Crc32, Off}
use Rattle.binlog_text.specs.declared.format.EventCipher.{EventCipher}
use Rattle.binlog_text.specs.declared.format.LogFormat.{LogFormat}
use Rattle.binlog_text.specs.declared.stage.Position.{Position}
use Rattle.binlog_text.specs.declared.stage.StageStep.{StageStep}
use Rattle.binlog_text.specs.declared.stage.Stage.{Stage}
use Rattle.binlog_text.specs.declared.stage.Stage.TheVariants.{Events, Refused, Start}
use Rattle.binlog_text.specs.declared.view.EventMark.{EventMark}

-- a plain event: where it begins, the version under which it was ciphered, whether it ends with a checksum, and its bytes
pub record BinlogEvent : Type 0 where
  pub mark : EventMark
  pub bytes : List ℕ

-- ---- an event in clear

-- the key of id 1 is there, and the event's length is one that its plain type may have
abbrev pub plain_checked : LogFormat → ℕ → List ℕ → Result (List ℕ) BinlogFault
plain_checked format place plain =
    if nat_lt (length plain) (least_of format.checksum (kind_of plain)) then Err (BadLength place (length_of plain)) else Ok plain

-- an event deciphered under a key, if there is one
abbrev pub unlocked : Option (List ℕ) → EventCipher → LogFormat → ℕ → List ℕ → Result (List ℕ) BinlogFault
unlocked None cipher format place event = Err (MissingKey cipher.version)
unlocked (Some key) cipher format place event = plain_checked format place (deciphered_event key cipher.nonce (place % 2 ^ 32) event)

-- the plain event of one that is ciphered or in clear
abbrev pub opened_by : Option EventCipher → List RingEntry → LogFormat → ℕ → List ℕ → Result (List ℕ) BinlogFault
opened_by None ring format place event = Ok event
opened_by (Some cipher) ring format place event = unlocked (ring_key ring 1 cipher.version) cipher format place event

unfoldable pub opened : List RingEntry → LogFormat → ℕ → List ℕ → Result (List ℕ) BinlogFault
opened ring format place event = opened_by format.cipher ring format place event

-- ---- a plain event judged

-- the checksum algorithm that a format description names, 5 bytes before its end
abbrev pub algorithm_of : ℕ → Result ChecksumAlgorithm BinlogFault
algorithm_of number = if number == 0 then Ok Off else if number == 1 then Ok Crc32 else Err (Algorithm number)

-- the algorithm that counts for an event: once there is one it stays; else the event has to be a format description
abbrev pub algorithm_for : Option ChecksumAlgorithm → List ℕ → Result ChecksumAlgorithm BinlogFault
algorithm_for (Some algorithm) event = Ok algorithm
algorithm_for None event = if kind_of event == 15 then algorithm_of (slice_index event (length event - 5)) else Err (NoFormat (kind_of event))

-- the event with bit 0 of its flags, in bytes 17 and 18, taken as 0 where it is a format description
abbrev pub with_flag_clear : List ℕ → List ℕ
with_flag_clear event = if kind_of event == 15 then slice_set event 17 (bit_and (slice_index event 17) 254) else event

-- the checksum of all bytes but the last four
abbrev pub event_sum : List ℕ → ℕ
event_sum event = crc32 (take (length event - 4) (with_flag_clear event))

-- the last four bytes
abbrev pub stored_event_sum : List ℕ → ℕ
stored_event_sum event = le32_at event (length event - 4)

-- the checksum is the event's, where there is one
abbrev pub sum_checked : ChecksumAlgorithm → ℕ → List ℕ → Result (Unit {0}) BinlogFault
sum_checked Off place event = Ok tt
sum_checked Crc32 place event =
    if stored_event_sum event == event_sum event then Ok tt else Err (Checksum place (stored_event_sum event) (event_sum event))

-- what counts after an event: a start encryption of scheme 1 names a key version and a nonce
abbrev pub format_after : LogFormat → ChecksumAlgorithm → List ℕ → Result LogFormat BinlogFault
format_after format algorithm event =
    if kind_of event == 164 then
    (if slice_index event 19 == 1
    then Ok (record { checksum = Some algorithm; cipher = Some (record { version = le32_at event 20; nonce = range 24 12 event }) })
    else Err (Scheme (slice_index event 19)))
    else Ok (record { checksum = Some algorithm; cipher = format.cipher })

abbrev pub summed : Result (Unit {0}) BinlogFault → LogFormat → ChecksumAlgorithm → List ℕ → Result LogFormat BinlogFault
summed (Err fault) format algorithm event = Err fault
summed (Ok u) format algorithm event = format_after format algorithm event

abbrev pub named : Result ChecksumAlgorithm BinlogFault → LogFormat → ℕ → List ℕ → Result LogFormat BinlogFault
named (Err fault) format place event = Err fault
named (Ok algorithm) format place event = summed (sum_checked algorithm place event) format algorithm event

-- the format after a plain event: the first event's type, then its algorithm, then the checksum, then the scheme
unfoldable pub judged : LogFormat → ℕ → List ℕ → Result LogFormat BinlogFault
judged format place event = named (algorithm_for format.checksum event) format place event

-- ---- the event at a place of the file

-- an event that was read, and where the next one begins
pub record Found : Type 0 where
  pub event : BinlogEvent
  pub next : Position

-- the version of the cipher
abbrev pub cipher_version : Option EventCipher → Option ℕ
cipher_version None = None
cipher_version (Some cipher) = Some cipher.version

-- what stands at a position, the format after it being known
abbrev pub step_of : Position → ℕ → LogFormat → StageStep
step_of position long format = record {
  mark = record { place = position.place; key = cipher_version position.format.cipher; has_sum = has_sum format.checksum };
  next = record { place = position.place + long; size = position.size; format = format };
}

abbrev pub found : Position → List ℕ → LogFormat → Found
found position plain format =
    let step = step_of position (length plain) format in record { event = record { mark = step.mark; bytes = plain }; next = step.next }

abbrev pub judged_event : Position → List ℕ → Result LogFormat BinlogFault → Result (Option Found) BinlogFault
judged_event position plain (Err fault) = Err fault
judged_event position plain (Ok format) = Ok (Some (found position plain format))

abbrev pub opened_event : Position → Result (List ℕ) BinlogFault → Result (Option Found) BinlogFault
opened_event position (Err fault) = Err fault
opened_event position (Ok plain) = judged_event position plain (judged position.format position.place plain)

abbrev pub taken_event : List RingEntry → List ℕ → Position → Result (Option ℕ) BinlogFault → Result (Option Found) BinlogFault
taken_event ring left position (Err fault) = Err fault
taken_event ring left position (Ok None) = Ok None
taken_event ring left position (Ok (Some long)) = opened_event position (opened ring position.format position.place (take long left))

-- the event that begins the bytes that are left, None where there are none, or the first refusal
unfoldable pub event_in : List RingEntry → List ℕ → Position → Result (Option Found) BinlogFault
event_in ring left position = taken_event ring left position (whole position.format position.place left)

-- The event at a position of a file, None at the file's end, or the first refusal.
abbrev pub event_at : List RingEntry → List ℕ → Position → Result (Option Found) BinlogFault
event_at ring file position = event_in ring (drop position.place file) position

-- ---- what a reader answers

-- the file begins with fe 62 69 6e
unfoldable pub is_log : List ℕ → Bool
is_log file =
    nat_le 4 (length file)
    && ((slice_index file 0 == 254) && ((slice_index file 1 == 98) && ((slice_index file 2 == 105) && (slice_index file 3 == 110))))

-- the position of the first event
abbrev pub first_position : ℕ → Position
first_position size = record { place = 4; size = size; format = record { checksum = None; cipher = None } }

-- the position at a stage, of the file of a name where there is one
abbrev pub placed : Option (List ℕ) → Stage → Result Position BinlogFault
placed None Start = Err Missing
placed (Some file) Start = if is_log file then Ok (first_position (length file)) else Err BadMagic
placed file (Events position) = Ok position
placed file (Refused fault) = Err fault

abbrev pub placed_event : List RingEntry → Option (List ℕ) → Result Position BinlogFault → Result (Option Found) BinlogFault
placed_event ring file (Err fault) = Err fault
placed_event ring None (Ok position) = Err Missing
placed_event ring (Some file) (Ok position) = event_at ring file position

-- The answer at a stage: the next event, None at the file's end, or the first refusal.
abbrev pub answered : List RingEntry → Option (List ℕ) → Stage → Result (Option Found) BinlogFault
answered ring file stage = placed_event ring file (placed file stage)

-- The events of the file from a stage on are these, and then this is answered: None at the end, or a refusal.
abbrev pub Lists : List RingEntry → Option (List ℕ) → Stage → List BinlogEvent → Result (Unit {0}) BinlogFault → Type 0
Lists ring file stage [] (Ok u) = answered ring file stage ≡ Ok None
Lists ring file stage [] (Err fault) = answered ring file stage ≡ Err fault
Lists ring file stage (event ∷ events) end =
    (next : Position) × (answered ring file stage ≡ Ok (Some (record { event = event; next = next }))) × Lists ring file (Events next) events end
