-- The lines that a listing prints. Each ends with a line feed, 10.
use Rattle.std.specs.Prelude.{ℕ, ◌==◌, Bool, List, [], ◌++◌, codes, Option, Some, None, if◌then◌else◌}
use Rattle.std.specs.Fmt.{decimal}
use Rattle.hex.specs.Hex.{encode_lower}
use Rattle.binlog_text.specs.Header.{event_flags, kind_of, length_of, next_of, server_of, time_of}
use Rattle.binlog_text.specs.Events.{BinlogEvent}

-- the types that have a name here
abbrev pub known_type : ℕ → Option (List ℕ)
known_type kind =
    if kind == 2 then Some (codes "query")
    else if kind == 3 then Some (codes "stop")
    else if kind == 4 then Some (codes "rotate")
    else if kind == 15 then Some (codes "format_description")
    else if kind == 16 then Some (codes "xid")
    else if kind == 160 then Some (codes "annotate_rows")
    else if kind == 161 then Some (codes "checkpoint")
    else if kind == 162 then Some (codes "gtid")
    else if kind == 163 then Some (codes "gtid_list")
    else if kind == 164 then Some (codes "start_encryption")
    else None

-- another type is named by its number
abbrev pub named_type : ℕ → Option (List ℕ) → List ℕ
named_type kind None = codes "type_" ++ decimal kind
named_type kind (Some name) = name

unfoldable pub type_text : ℕ → List ℕ
type_text kind = named_type kind (known_type kind)

-- the version of the key under which the event was ciphered
abbrev pub cipher_label : Option ℕ → List ℕ
cipher_label None = codes "clear"
cipher_label (Some version) = codes "key " ++ decimal version

-- where the event begins, its type, and the fields of its header
unfoldable pub event_line : BinlogEvent → List ℕ
event_line event =
    decimal event.mark.place
    ++ (codes " " ++ (type_text (kind_of event.bytes) ++ (codes " time " ++ (decimal (time_of event.bytes)
    ++ (codes " server " ++ (decimal (server_of event.bytes) ++ (codes " length " ++ (decimal (length_of event.bytes)
    ++ (codes " next " ++ (decimal (next_of event.bytes) ++ (codes " flags " ++ (decimal (event_flags event.bytes)
    ++ (codes " " ++ (cipher_label event.mark.key ++ codes "\n"))))))))))))))

-- the bytes of the plain event, two hex digits of lower case each
abbrev pub hex_line : List ℕ → List ℕ
hex_line bytes = encode_lower bytes ++ codes "\n"

-- what is printed of an event
unfoldable pub event_lines : Bool → BinlogEvent → List ℕ
event_lines is_hex event = event_line event ++ (if is_hex then hex_line event.bytes else [])

-- the last line of a log of this length
abbrev pub end_line : ℕ → List ℕ
end_line length = codes "end " ++ (decimal length ++ codes "\n")
