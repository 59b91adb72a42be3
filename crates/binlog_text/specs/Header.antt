-- The header of an event, and the length that it may name. Numbers have their lowest byte first.
use Rattle.std.specs.Prelude.{ℕ, ◌+◌, ◌-◌, ◌==◌, ◌||◌, Bool, true, false, List, length, take, drop, nat_lt, slice_index, if◌then◌else◌}
use Rattle.std.specs.Prelude.{Option, Some, None, Result, Ok, Err}
use Rattle.byte_list.specs.Fields.{le16_at, le32_at}
use Rattle.binlog_text.specs.declared.fault.BinlogFault.{BinlogFault}
use Rattle.binlog_text.specs.declared.fault.BinlogFault.TheVariants.{BadLength, ShortEvent}
use Rattle.binlog_text.specs.declared.format.ChecksumAlgorithm.{ChecksumAlgorithm}
use Rattle.binlog_text.specs.declared.format.ChecksumAlgorithm.TheVariants.{Crc32, Off}
use Rattle.binlog_text.specs.declared.format.EventCipher.{EventCipher}
use Rattle.binlog_text.specs.declared.format.LogFormat.{LogFormat}

-- the fields: time in bytes 0 to 4, type in byte 4, server id in 5 to 9, length in 9 to 13, next position in 13 to 17, flags
-- in 17 to 19
abbrev pub time_of : List ℕ → ℕ
time_of event = le32_at event 0

abbrev pub kind_of : List ℕ → ℕ
kind_of event = slice_index event 4

abbrev pub server_of : List ℕ → ℕ
server_of event = le32_at event 5

abbrev pub length_of : List ℕ → ℕ
length_of event = le32_at event 9

abbrev pub next_of : List ℕ → ℕ
next_of event = le32_at event 13

abbrev pub event_flags : List ℕ → ℕ
event_flags event = le16_at event 17

-- the bytes after the header, without the checksum where there is one
abbrev pub event_body : Bool → List ℕ → List ℕ
event_body has_sum bytes = take (length bytes - (if has_sum then 4 else 0) - 19) (drop 19 bytes)

-- events end with a checksum; before the first format description there is none
abbrev pub has_sum : Option ChecksumAlgorithm → Bool
has_sum None = false
has_sum (Some Off) = false
has_sum (Some Crc32) = true

-- and its bytes
abbrev pub sum_length : Option ChecksumAlgorithm → ℕ
sum_length checksum = if has_sum checksum then 4 else 0

-- the least length of an event of a type: of a format description, of a start encryption, and of any other
abbrev pub least_of : Option ChecksumAlgorithm → ℕ → ℕ
least_of checksum kind =
    if kind == 15 then 81
    else if kind == 164 then 36 + sum_length checksum
    else 19 + sum_length checksum

-- the least length that is asked for as the event stands in the file; of one that is ciphered the type isn't known
abbrev pub least_for : Option EventCipher → Option ChecksumAlgorithm → ℕ → ℕ
least_for None checksum kind = least_of checksum kind
least_for (Some cipher) checksum kind = 19 + sum_length checksum

abbrev pub least_stored : LogFormat → ℕ → ℕ
least_stored format kind = least_for format.cipher format.checksum kind

-- a length below the least, or above the most that an event may have
abbrev pub is_bad_length : ℕ → ℕ → Bool
is_bad_length least long = nat_lt long least || nat_lt 16777216 long

-- the length of the event that begins the bytes, as its header says, or None where there are none
unfoldable pub framed : LogFormat → ℕ → List ℕ → Result (Option ℕ) BinlogFault
framed format place bytes =
    if length bytes == 0 then Ok None
    else if nat_lt (length bytes) 19 then Err (ShortEvent place 19 (length bytes))
    else if is_bad_length (least_stored format (kind_of bytes)) (length_of bytes) then Err (BadLength place (length_of bytes))
    else Ok (Some (length_of bytes))

-- the same, where all of the event is there
abbrev pub whole_of : ℕ → List ℕ → Result (Option ℕ) BinlogFault → Result (Option ℕ) BinlogFault
whole_of place bytes (Err fault) = Err fault
whole_of place bytes (Ok None) = Ok None
whole_of place bytes (Ok (Some long)) = if nat_lt (length bytes) long then Err (ShortEvent place long (length bytes)) else Ok (Some long)

abbrev pub whole : LogFormat → ℕ → List ℕ → Result (Option ℕ) BinlogFault
whole format place bytes = whole_of place bytes (framed format place bytes)
