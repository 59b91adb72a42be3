-- What is listed of a binary log.
use Rattle.std.specs.Prelude.{◌≡◌, ◌≢◌, ◌<◌, ◌⊎◌, ℕ, ◌+◌, Bool, List, [], ◌∷◌, ◌++◌, length, unwrap_or, Option, Result, Ok, Err}
use Rattle.std.specs.List.{flat_map}
use Rattle.io_core.specs.Stream.{IsPartlyGiven, extended}
use Rattle.key_ring.specs.Ring.{RingEntry}
use Rattle.binlog_text.specs.Events.{BinlogEvent, Lists}
use Rattle.binlog_text.specs.declared.fault.BinlogFault.{BinlogFault}
use Rattle.binlog_text.specs.declared.fault.BinlogFault.TheVariants.{BadMagic, Missing}
use Rattle.binlog_text.specs.declared.stage.Stage.TheVariants.{Start}
use Rattle.binlog_cli.specs.EventLines.{end_line, event_lines}
use Rattle.binlog_cli.specs.Stops.{IsListStop}
use Rattle.binlog_cli.specs.declared.status.ListStatus.{ListStatus}
use Rattle.binlog_cli.specs.declared.status.ListStatus.TheVariants.{Done, FileFault, Key, Log, OutFault, OutOfMemory, Usage}

-- the text that is printed, and how it ends
pub record Listing : Type 0 where
  pub text : List ℕ
  pub status : ListStatus

-- the lines of events
abbrev pub lines_of_events : Bool → List BinlogEvent → List ℕ
lines_of_events is_hex events = flat_map (event_lines is_hex) events

-- what is listed of a log of a length, which has these events, and then its end or this refusal
abbrev pub listing_of : Bool → ℕ → List BinlogEvent → Result (Unit {0}) BinlogFault → Listing
listing_of is_hex size events (Ok u) = record { text = lines_of_events is_hex events ++ end_line size; status = Done }
listing_of is_hex size events (Err fault) = record { text = lines_of_events is_hex events; status = Log fault }

-- The listing of a log under the keys of a ring, over the list of all its events.
pub record IsLogListing (is_hex : Bool) (ring : List RingEntry) (file : Option (List ℕ)) (listing : Listing) : Type 0 where
  pub events : List BinlogEvent
  pub end : Result (Unit {0}) BinlogFault
  pub lists : Lists ring file Start events end
  pub is : listing ≡ listing_of is_hex (length (unwrap_or file [])) events end

-- where the event behind these begins, or the first one where there are none
abbrev pub place_behind : ℕ → List BinlogEvent → ℕ
place_behind first [] = first
place_behind first (event ∷ events) = place_behind (event.mark.place + length event.bytes) events

-- where a log is refused: at its first byte where it is none, and else where the event begins that is refused
abbrev pub refused_place : ℕ → BinlogFault → ℕ
refused_place begins Missing = 0
refused_place begins BadMagic = 0
refused_place begins fault = begins

-- The log has these events and then this refusal, which is one of this place.
pub record IsRefusedAt (ring : List RingEntry) (file : Option (List ℕ)) (fault : BinlogFault) (place : ℕ) : Type 0 where
  pub events : List BinlogEvent
  pub lists : Lists ring file Start events (Err fault)
  pub at : place ≡ refused_place (place_behind 4 events) fault

-- How far a log was reached: these are its events before the place, these the ones from there on, and this is its end.
pub record IsReached (ring : List RingEntry) (file : Option (List ℕ)) (place : ℕ) (Has : List BinlogEvent → List BinlogEvent → Result (Unit {0}) BinlogFault → Type 0) : Type 0 where
  pub before : List BinlogEvent
  pub behind : List BinlogEvent
  pub end : Result (Unit {0}) BinlogFault
  pub lists : Lists ring file Start (before ++ behind) end
  pub at : place ≡ place_behind 4 before
  pub has : Has before behind end

-- the log ends behind its last event
abbrev pub EndsThere : List BinlogEvent → List BinlogEvent → Result (Unit {0}) BinlogFault → Type 0
EndsThere before behind end = (behind ≡ []) × (end ≡ Ok tt)

-- there is text to give: the line of an event, or that of the end
abbrev pub IsTextDue : List BinlogEvent → List BinlogEvent → Result (Unit {0}) BinlogFault → Type 0
IsTextDue before behind end = (before ≢ []) ⊎ EndsThere before behind end

-- Bytes of the file are to be read: at its start, or where it has bytes of an event. Place 4 is that of the start and of the first
-- event both, so of a file of exactly 4 bytes this is also so behind its start, where it has no more.
abbrev pub HasBytesAt : Option (List ℕ) → ℕ → Type 0
HasBytesAt file place = (place ≡ 4) ⊎ (place < length (unwrap_or file []))

-- Where the listing of a log stopped. It is done at the file's end. A refusal has its place. A fault of the file comes only where
-- bytes of it are to be read, and one of the output only where there is text to give.
abbrev pub IsStoppedAt : List RingEntry → Option (List ℕ) → ListStatus → ℕ → Type 0
IsStoppedAt ring file Done place = IsReached ring file place EndsThere × (place ≡ length (unwrap_or file []))
IsStoppedAt ring file (Log fault) place = IsRefusedAt ring file fault place
IsStoppedAt ring file FileFault place = IsReached ring file place (λ before behind end. HasBytesAt file place)
IsStoppedAt ring file OutFault place = IsReached ring file place IsTextDue
IsStoppedAt ring file OutOfMemory place = IsReached ring file place (λ before behind end. Unit {0})
IsStoppedAt ring file Usage place = ⊥
IsStoppedAt ring file (Key fault) place = ⊥

-- A status, and what was given before it, agree with a listing: either they are its own, or a fault or want of memory came, and
-- a front of its text was given.
abbrev pub AgreesWith : Listing → Option (List ℕ) → Option (List ℕ) → ListStatus → Type 0
AgreesWith listing before now FileFault = IsPartlyGiven listing.text before now
AgreesWith listing before now OutFault = IsPartlyGiven listing.text before now
AgreesWith listing before now OutOfMemory = IsPartlyGiven listing.text before now
AgreesWith listing before now Done = (Done ≡ listing.status) × (now ≡ extended listing.text before)
AgreesWith listing before now (Log fault) = (Log fault ≡ listing.status) × (now ≡ extended listing.text before)
AgreesWith listing before now Usage = (Usage ≡ listing.status) × (now ≡ extended listing.text before)
AgreesWith listing before now (Key fault) = (Key fault ≡ listing.status) × (now ≡ extended listing.text before)

-- the log has a listing with which they agree
pub record HasLogListing (is_hex : Bool) (ring : List RingEntry) (file : Option (List ℕ)) (before now : Option (List ℕ)) (status : ListStatus) : Type 0 where
  pub listing : Listing
  pub is : IsLogListing is_hex ring file listing
  pub agrees : AgreesWith listing before now status

-- There is one listing of a kind.
pub record IsOnlyListing (Is : Listing → Type 0) (listing : Listing) : Type 0 where
  pub is : Is listing
  pub only : (other : Listing) → Is other → other ≡ listing

-- a status, and what was given before it, agree with the one listing of a kind
pub record HasOneListing (Is : Listing → Type 0) (before now : Option (List ℕ)) (status : ListStatus) : Type 0 where
  pub listing : Listing
  pub is : IsOnlyListing Is listing
  pub agrees : AgreesWith listing before now status

-- The same, unless a fault or want of memory came before anything was given.
abbrev pub ListsOne : (Listing → Type 0) → Option (List ℕ) → Option (List ℕ) → ListStatus → Type 0
ListsOne Is before now status = (IsListStop status × (now ≡ before)) ⊎ HasOneListing Is before now status
