-- Every log has a list of events, and then its end or a refusal.
use Rattle.std.proofs.Common.{◌≡◌, ℕ, zero, suc, ◌+◌, ◌-◌, ◌<◌, ◌≤◌, ◌==◌, nat_lt, Bool, true, false, cond, List, [], ◌∷◌, length, take, drop, refl, ap, ◌∙◌, arith, length-drop, length-take, Option, Some, None, Result, Ok, Err}
use Rattle.std.proofs.lemmas.Bool.{eqb-false, ltb-false, or_parts}
use Rattle.key_ring.specs.Ring.{RingEntry, ring_key}
use Rattle.binlog_text.specs.Header.{framed, is_bad_length, kind_of, least_for, least_of, least_stored, length_of, sum_length, whole_of}
use Rattle.binlog_text.specs.Events.{BinlogEvent, Found, Lists, answered, event_at, event_in, first_position, is_log, judged, judged_event, opened, opened_by, opened_event, placed_event, taken_event, unlocked}
use Rattle.binlog_text.specs.declared.fault.BinlogFault.{BinlogFault}
use Rattle.binlog_text.specs.declared.fault.BinlogFault.TheVariants.{BadLength, BadMagic, Missing, ShortEvent}
use Rattle.binlog_text.specs.declared.format.ChecksumAlgorithm.{ChecksumAlgorithm}
use Rattle.binlog_text.specs.declared.format.EventCipher.{EventCipher}
use Rattle.binlog_text.specs.declared.format.LogFormat.{LogFormat}
use Rattle.binlog_text.specs.declared.stage.Position.{Position}
use Rattle.binlog_text.specs.declared.stage.Stage.{Stage}
use Rattle.binlog_text.specs.declared.stage.Stage.TheVariants.{Events, Refused, Start}

-- ---- an event has a header at least

by_kind : (a b : Bool) (n : ℕ) → 19 ≤ cond a 81 (cond b (36 + n) (19 + n))
by_kind true b n = omega arith
by_kind false true n = omega arith
by_kind false false n = omega arith

least_of-least : (checksum : Option ChecksumAlgorithm) (kind : ℕ) → 19 ≤ least_of checksum kind
least_of-least checksum kind = by_kind (kind == 15) (kind == 164) (sum_length checksum)

least_for-least : (cipher : Option EventCipher) (checksum : Option ChecksumAlgorithm) (kind : ℕ) → 19 ≤ least_for cipher checksum kind
least_for-least None checksum kind = least_of-least checksum kind
least_for-least (Some cipher) checksum kind = omega arith

by_tests : (a b c : Bool) (e f : BinlogFault) (n long : ℕ)
    → cond {A = Result (Option ℕ) BinlogFault} a (Ok None) (cond b (Err e) (cond c (Err f) (Ok (Some n)))) ≡ Ok (Some long) → (a ≡ false) × (c ≡ false) × (n ≡ long)
by_tests true b c e f n long h = absurd (cc)
by_tests false true c e f n long h = absurd (cc)
by_tests false false true e f n long h = absurd (cc)
by_tests false false false e f n long h = (refl, refl, cc)

framed_some : (format : LogFormat) (place : ℕ) (bytes : List ℕ) (long : ℕ) → framed format place bytes ≡ Ok (Some long) → (0 < length bytes) × (19 ≤ long)
unfolding framed
framed_some format place bytes long h =
    let tests = by_tests (length bytes == 0) (nat_lt (length bytes) 19) (is_bad_length (least_stored format (kind_of bytes)) (length_of bytes))
    (ShortEvent place 19 (length bytes)) (BadLength place (length_of bytes)) (length_of bytes) long h in
    let some = eqb-false (length bytes) 0 tests.0 in
    let least = ltb-false (length_of bytes) (least_stored format (kind_of bytes)) (or_parts _ _ tests.1).0 in
    let header = least_for-least format.cipher format.checksum (kind_of bytes) in
    (omega (arith, some), omega (arith, least, header, tests.2))

-- ---- and the next one begins behind it

next_of_found : Result (Option Found) BinlogFault → ℕ
next_of_found (Ok (Some f)) = f.next.place
next_of_found (Ok None) = 0
next_of_found (Err fault) = 0

judged_moves : (position : Position) (plain : List ℕ) (r : Result LogFormat BinlogFault) (f : Found) → 19 ≤ length plain → judged_event position plain r ≡ Ok (Some f) → position.place < f.next.place
unfolding next_of_found
judged_moves position plain (Err fault) f long h = absurd (cc)
judged_moves position plain (Ok format) f long h =
    let next : position.place + length plain ≡ f.next.place = ap next_of_found h in omega (arith, next, long)

checked_moves : (position : Position) (plain : List ℕ) (b : Bool) (e : BinlogFault) (f : Found) → nat_lt (length plain) (least_of position.format.checksum (kind_of plain)) ≡ b
    → opened_event position (cond b (Err e) (Ok plain)) ≡ Ok (Some f) → position.place < f.next.place
checked_moves position plain true e f test h = absurd (cc)
checked_moves position plain false e f test h =
    let least = ltb-false (length plain) (least_of position.format.checksum (kind_of plain)) test in
    let header = least_of-least position.format.checksum (kind_of plain) in
    judged_moves position plain (judged position.format position.place plain) f (omega (arith, least, header)) h

unlocked_moves : (position : Position) (key : Option (List ℕ)) (cipher : EventCipher) (event : List ℕ) (f : Found)
    → opened_event position (unlocked key cipher position.format position.place event) ≡ Ok (Some f) → position.place < f.next.place
unlocked_moves position None cipher event f h = absurd (cc)
unlocked_moves position (Some key) cipher event f h = checked_moves position _ _ _ f refl h

opened_by_moves : (ring : List RingEntry) (position : Position) (cipher : Option EventCipher) (event : List ℕ) (f : Found) → 19 ≤ length event
    → opened_event position (opened_by cipher ring position.format position.place event) ≡ Ok (Some f) → position.place < f.next.place
opened_by_moves ring position None event f long h = judged_moves position event (judged position.format position.place event) f long h
opened_by_moves ring position (Some cipher) event f long h = unlocked_moves position (ring_key ring 1 cipher.version) cipher event f h

opened_moves : (ring : List RingEntry) (position : Position) (event : List ℕ) (f : Found) → 19 ≤ length event
    → opened_event position (opened ring position.format position.place event) ≡ Ok (Some f) → position.place < f.next.place
unfolding opened
opened_moves ring position event f long h = opened_by_moves ring position position.format.cipher event f long h

by_fit : (ring : List RingEntry) (left : List ℕ) (position : Position) (long : ℕ) (b : Bool) (f : Found) → 19 ≤ long → nat_lt (length left) long ≡ b
    → taken_event ring left position (cond b (Err (ShortEvent position.place long (length left))) (Ok (Some long))) ≡ Ok (Some f) → position.place < f.next.place
by_fit ring left position long true f header test h = absurd (cc)
by_fit ring left position long false f header test h =
    let within = ltb-false (length left) long test in
    opened_moves ring position (take long left) f (omega (arith, length-take long left, within, header)) h

by_frame : (ring : List RingEntry) (left : List ℕ) (position : Position) (frame : Result (Option ℕ) BinlogFault) (f : Found) → framed position.format position.place left ≡ frame
    → taken_event ring left position (whole_of position.place left frame) ≡ Ok (Some f) → (0 < length left) × (position.place < f.next.place)
by_frame ring left position (Err fault) f is h = absurd (cc)
by_frame ring left position (Ok None) f is h = absurd (cc)
by_frame ring left position (Ok (Some long)) f is h =
    let framed_so = framed_some position.format position.place left long is in
    (framed_so.0, by_fit ring left position long (nat_lt (length left) long) f framed_so.1 refl h)

pub event_moves : (ring : List RingEntry) (left : List ℕ) (position : Position) (f : Found) → event_in ring left position ≡ Ok (Some f) → (0 < length left) × (position.place < f.next.place)
unfolding event_in
event_moves ring left position f h = by_frame ring left position (framed position.format position.place left) f refl h

-- ---- so there is a list of them

pub record HasEvents (ring : List RingEntry) (file : Option (List ℕ)) (stage : Stage) : Type 0 where
  pub events : List BinlogEvent
  pub end : Result (Unit {0}) BinlogFault
  pub lists : Lists ring file stage events end

step : (ring : List RingEntry) (file : List ℕ) (position : Position) (r : Result (Option Found) BinlogFault) → event_at ring file position ≡ r
    → ((f : Found) → event_at ring file position ≡ Ok (Some f) → HasEvents ring (Some file) (Events f.next)) → HasEvents ring (Some file) (Events position)
step ring file position (Err fault) is rest = record { events = []; end = Err fault; lists = is }
step ring file position (Ok None) is rest = record { events = []; end = Ok tt; lists = is }
step ring file position (Ok (Some f)) is rest =
    let more = rest f is in record { events = f.event ∷ more.events; end = more.end; lists = (f.next, is, more.lists) }

events_at : (ring : List RingEntry) (file : List ℕ) (n : ℕ) (position : Position) → length file - position.place ≤ n → HasEvents ring (Some file) (Events position)
events_at ring file zero position few =
    step ring file position (event_at ring file position) refl
    (λ f is. let moves = event_moves ring (drop position.place file) position f is in absurd (omega (arith, moves.0, length-drop position.place file, few)))
events_at ring file (suc n) position few =
    step ring file position (event_at ring file position) refl
    (λ f is. let moves = event_moves ring (drop position.place file) position f is in events_at ring file n f.next (omega (arith, moves.0, moves.1, length-drop position.place file, few)))

-- two stages with the same answer have the same list
lists_at : (ring : List RingEntry) (file : Option (List ℕ)) (a b : Stage) (events : List BinlogEvent) (end : Result (Unit {0}) BinlogFault) → answered ring file a ≡ answered ring file b
    → Lists ring file b events end → Lists ring file a events end
lists_at ring file a b [] (Ok u) same h = same ∙ h
lists_at ring file a b [] (Err fault) same h = same ∙ h
lists_at ring file a b (event ∷ events) end same h = (h.0, same ∙ h.1, h.2)

at_start : (ring : List RingEntry) (file : List ℕ) (b : Bool) → is_log file ≡ b → HasEvents ring (Some file) Start
at_start ring file true is =
    let first = events_at ring file (length file) (first_position (length file)) (omega arith) in
    record {
      events = first.events;
      end = first.end;
      lists = lists_at ring (Some file) Start (Events (first_position (length file))) first.events first.end
          (ap (λ (b : Bool). placed_event ring (Some file) (cond b (Ok (first_position (length file))) (Err BadMagic))) is) first.lists;
    }
at_start ring file false is = record {
  events = [];
  end = Err BadMagic;
  lists = ap (λ (b : Bool). placed_event ring (Some file) (cond b (Ok (first_position (length file))) (Err BadMagic))) is;
}

pub log_events : (ring : List RingEntry) (file : Option (List ℕ)) (stage : Stage) → HasEvents ring file stage
log_events ring None Start = record { events = []; end = Err Missing; lists = refl }
log_events ring None (Events position) = record { events = []; end = Err Missing; lists = refl }
log_events ring None (Refused fault) = record { events = []; end = Err fault; lists = refl }
log_events ring (Some file) Start = at_start ring file (is_log file) refl
log_events ring (Some file) (Events position) = events_at ring file (length file - position.place) position (omega arith)
log_events ring (Some file) (Refused fault) = record { events = []; end = Err fault; lists = refl }
