-- The cipher of an event of a binary log, in this project's profile of MariaDB's.
use Rattle.std.specs.Prelude.{ℕ, List, ◌++◌, take, drop}
use Rattle.std.specs.Int.{to_le_bytes, w32}
use Rattle.aes_core.specs.Modes.{cbc_tail, uncbc_tail}
use Rattle.byte_list.specs.Bytes.{range}

-- the IV: the nonce, and the event's place in the file modulo 2 ^ 32
abbrev pub event_iv : List ℕ → ℕ → List ℕ
event_iv nonce place = nonce ++ to_le_bytes w32 place

-- bytes 4 to the end, with bytes 0 to 4 in place of bytes 9 to 13
abbrev pub without_length : List ℕ → List ℕ
without_length event = range 4 5 event ++ (take 4 event ++ drop 13 event)

-- an event whose bytes 4 to the end are these, but that what would stand in bytes 9 to 13 stands in bytes 0 to 4, and
-- in its place the length's bytes
abbrev pub with_length : List ℕ → List ℕ → List ℕ
with_length rest bytes = range 5 4 rest ++ (take 5 rest ++ (bytes ++ drop 9 rest))

-- The cipher text of an event: its time is copied over its length, bytes 4 to the end are in CBC with tail, what then
-- stands at the length's place moves to the front, and the length is in clear.
unfoldable pub enciphered_event : List ℕ → List ℕ → ℕ → List ℕ → List ℕ
enciphered_event key nonce place event =
    with_length (cbc_tail key (event_iv nonce place) (without_length event)) (range 9 4 event)

-- the same steps with the cipher undone
unfoldable pub deciphered_event : List ℕ → List ℕ → ℕ → List ℕ → List ℕ
deciphered_event key nonce place event =
    with_length (uncbc_tail key (event_iv nonce place) (without_length event)) (range 9 4 event)
