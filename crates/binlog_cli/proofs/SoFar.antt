-- What was listed of a log so far, and what its listing comes to.
use Rattle.std.proofs.Common.{◌≡◌, ◌≢◌, ◌⊎◌, inl, inr, ℕ, ◌+◌, ◌≤◌, ◌==◌, nat_lt, nat_le, Bool, true, false, cond, List, [], ◌∷◌, ◌++◌, length, drop, take, refl, sym, ap, subst, ◌∙◌, append_assoc, arith, length-drop, unwrap_or, Option, Some, None, Result, Ok, Err, IfErr, IsErrAnd, MatchResult}
use Rattle.std.proofs.lemmas.Bool.{and_parts, cases_Bool, eqb-true, leb-true}
use Rattle.std.proofs.lemmas.List.{append-nil}
use Rattle.std.proofs.lemmas.List.Concat.{flat_map-append}
use Rattle.io_core.specs.Stream.{IsPartlyGiven, extended}
use Rattle.key_ring.specs.Ring.{RingEntry}
use Rattle.binlog_text.specs.Header.{framed, is_bad_length, kind_of, least_stored, length_of, whole_of}
use Rattle.binlog_text.specs.Events.{BinlogEvent, Lists, answered, event_in, first_position, is_log, judged, judged_event, opened, opened_event, placed_event, taken_event}
use Rattle.binlog_text.specs.Faults.{is_outside}
use Rattle.binlog_text.specs.Reading.{Keeps, StandsAt}
use Rattle.binlog_text.specs.declared.fault.BinlogFault.{BinlogFault}
use Rattle.binlog_text.specs.declared.fault.BinlogFault.TheVariants as log
use Rattle.binlog_text.specs.declared.format.LogFormat.{LogFormat}
use Rattle.binlog_text.specs.declared.stage.Position.{Position}
use Rattle.binlog_text.specs.declared.stage.Stage.{Stage}
use Rattle.binlog_text.specs.declared.stage.Stage.TheVariants.{Events, Refused, Start}
use Rattle.binlog_cli.specs.EventLines.{end_line, event_lines}
use Rattle.binlog_cli.specs.Printed.{IsPrinted}
use Rattle.binlog_cli.specs.Stops.{IsListStop, list_status_of, log_stop}
use Rattle.binlog_cli.specs.Listing.{AgreesWith, HasLogListing, IsReached, IsRefusedAt, Listing, lines_of_events, listing_of, place_behind, refused_place}
use Rattle.binlog_cli.specs.declared.status.ListStatus.{ListStatus}
use Rattle.binlog_cli.specs.declared.status.ListStatus.TheVariants.{Done, FileFault, Key, Log, OutFault, OutOfMemory, Usage}
use Rattle.binlog_cli.proofs.Gathered.{gathered_none, part_of_more}
use Rattle.binlog_cli.proofs.LogEvents.{log_events}
use Rattle.io_core.proofs.Streams.{extended-nil, front_given}

-- ---- the events up to a stage

-- whatever the rest lists, the whole lists behind these events
pub record ReadTo (ring : List RingEntry) (file : Option (List ℕ)) (stage : Stage) (events : List BinlogEvent) : Type 0 where
  pub followed : (rest : List BinlogEvent) (end : Result (Unit {0}) BinlogFault) → Lists ring file stage rest end → Lists ring file Start (events ++ rest) end

pub read_more : (ring : List RingEntry) (file : Option (List ℕ)) (stage : Stage) (events : List BinlogEvent) (event : BinlogEvent) (next : Position) → ReadTo ring file stage events
    → answered ring file stage ≡ Ok (Some (record { event = event; next = next })) → ReadTo ring file (Events next) (events ++ event ∷ [])
read_more ring file stage events event next read answer = record {
  followed = λ rest end h. subst (λ (es : List BinlogEvent). Lists ring file Start es end) (sym (append_assoc events (event ∷ []) rest)) (read.followed (event ∷ rest) end (next, answer, h));
}

pub lines_push : (is_hex : Bool) (events : List BinlogEvent) (event : BinlogEvent) → lines_of_events is_hex (events ++ event ∷ []) ≡ lines_of_events is_hex events ++ event_lines is_hex event
lines_push is_hex events event =
    flat_map-append (event_lines is_hex) events (event ∷ []) ∙ ap (λ (t : List ℕ). lines_of_events is_hex events ++ t) (append-nil (event_lines is_hex event))

-- the next event begins behind the last
pub place_push : (first : ℕ) (events : List BinlogEvent) (event : BinlogEvent) → place_behind first (events ++ event ∷ []) ≡ event.mark.place + length event.bytes
place_push first [] event = refl
place_push first (e ∷ events) event = place_push (e.mark.place + length e.bytes) events event

-- these events were read, the next one begins here, and their lines are gathered or given
pub record SoFar (is_hex : Bool) (ring : List RingEntry) (file : Option (List ℕ)) (stage : Stage) (begins : ℕ) (before now : Option (List ℕ)) (gathered : List ℕ) : Type 0 where
  pub events : List BinlogEvent
  pub behind : begins ≡ place_behind 4 events
  pub read : ReadTo ring file stage events
  pub printed : IsPrinted (lines_of_events is_hex events) before now gathered

pub so_far_none : (is_hex : Bool) (ring : List RingEntry) (file : Option (List ℕ)) (given : Option (List ℕ)) → SoFar is_hex ring file Start 4 given given []
so_far_none is_hex ring file given = record { events = []; behind = refl; read = record { followed = λ rest end h. h }; printed = gathered_none [] given given (extended-nil given) }

-- ---- how the listing ends

stop_agrees : (listing : Listing) (before now : Option (List ℕ)) (status : ListStatus) → IsListStop status → IsPartlyGiven listing.text before now → AgreesWith listing before now status
stop_agrees listing before now FileFault stop part = part
stop_agrees listing before now OutFault stop part = part
stop_agrees listing before now OutOfMemory stop part = part
stop_agrees listing before now Done stop part = absurd stop
stop_agrees listing before now (Log fault) stop part = absurd stop
stop_agrees listing before now Usage stop part = absurd stop
stop_agrees listing before now (Key fault) stop part = absurd stop

result_agrees : (listing : Listing) (before now : Option (List ℕ)) (r : Result (Unit {0}) ListStatus) → IsErrAnd r IsListStop → IsPartlyGiven listing.text before now
    → AgreesWith listing before now (list_status_of r)
result_agrees listing before now (Ok u) stop part = absurd stop
result_agrees listing before now (Err status) stop part = stop_agrees listing before now status stop part

text_goes_on : (is_hex : Bool) (size : ℕ) (events more : List BinlogEvent) (end : Result (Unit {0}) BinlogFault)
    → (t : List ℕ) × ((listing_of is_hex size (events ++ more) end).text ≡ lines_of_events is_hex events ++ t)
text_goes_on is_hex size events more (Ok u) = (
  lines_of_events is_hex more ++ end_line size,
  ap (λ (t : List ℕ). t ++ end_line size) (flat_map-append (event_lines is_hex) events more) ∙ append_assoc (lines_of_events is_hex events) (lines_of_events is_hex more) (end_line size),
)
text_goes_on is_hex size events more (Err fault) = (lines_of_events is_hex more, flat_map-append (event_lines is_hex) events more)

-- a fault or want of memory came behind these events
pub events_partly : (is_hex : Bool) (ring : List RingEntry) (file : Option (List ℕ)) (stage : Stage) (events : List BinlogEvent) (before now : Option (List ℕ)) (r : Result (Unit {0}) ListStatus)
    → ReadTo ring file stage events → IsPartlyGiven (lines_of_events is_hex events) before now → IsErrAnd r IsListStop → HasLogListing is_hex ring file before now (list_status_of r)
events_partly is_hex ring file stage events before now r read part stop =
    let rest = log_events ring file stage in
    let size = length (unwrap_or file []) in
    let listing : Listing = listing_of is_hex size (events ++ rest.events) rest.end in
    let behind = text_goes_on is_hex size events rest.events rest.end in
    record {
      listing = listing;
      is = record { events = events ++ rest.events; end = rest.end; lists = read.followed rest.events rest.end rest.lists; is = refl };
      agrees = result_agrees listing before now r stop (part_of_more (lines_of_events is_hex events) behind.0 listing.text before now behind.1 part);
    }

whole_list : (ring : List RingEntry) (file : Option (List ℕ)) (stage : Stage) (events : List BinlogEvent) (end : Result (Unit {0}) BinlogFault) → ReadTo ring file stage events
    → Lists ring file stage [] end → Lists ring file Start events end
whole_list ring file stage events end read is = subst (λ (es : List BinlogEvent). Lists ring file Start es end) (append-nil events) (read.followed [] end is)

end_agrees : (is_hex : Bool) (size : ℕ) (events : List BinlogEvent) (before now : Option (List ℕ)) (r : Result (Unit {0}) ListStatus)
    → MatchResult r (λ u. now ≡ extended (lines_of_events is_hex events ++ end_line size) before) (λ status. IsPartlyGiven (lines_of_events is_hex events ++ end_line size) before now)
    → IfErr r IsListStop → AgreesWith (listing_of is_hex size events (Ok tt)) before now (list_status_of r)
end_agrees is_hex size events before now (Ok u) given stop = (refl, given)
end_agrees is_hex size events before now (Err status) part stop = stop_agrees (listing_of is_hex size events (Ok tt)) before now status stop part

-- the log ends behind these events
pub events_end : (is_hex : Bool) (ring : List RingEntry) (file : Option (List ℕ)) (stage : Stage) (events : List BinlogEvent) (end : ℕ) (before now : Option (List ℕ)) (r : Result (Unit {0}) ListStatus)
    → ReadTo ring file stage events → answered ring file stage ≡ Ok None → end ≡ length (unwrap_or file [])
    → MatchResult r (λ u. now ≡ extended (lines_of_events is_hex events ++ end_line end) before) (λ status. IsPartlyGiven (lines_of_events is_hex events ++ end_line end) before now)
    → IfErr r IsListStop → HasLogListing is_hex ring file before now (list_status_of r)
events_end is_hex ring file stage events end before now r read answer size given stop =
    record {
      listing = listing_of is_hex (length (unwrap_or file [])) events (Ok tt);
      is = record { events = events; end = Ok tt; lists = whole_list ring file stage events (Ok tt) read answer; is = refl };
      agrees = subst (λ (n : ℕ). AgreesWith (listing_of is_hex n events (Ok tt)) before now (list_status_of r)) size (end_agrees is_hex end events before now r given stop);
    }

log_stop-refusal : (fault : BinlogFault) → is_outside fault ≡ false → log_stop fault ≡ Log fault
log_stop-refusal log.FileFault is = absurd (cc)
log_stop-refusal log.OutOfMemory is = absurd (cc)
log_stop-refusal log.Missing is = refl
log_stop-refusal log.BadMagic is = refl
log_stop-refusal (log.ShortEvent at wanted found) is = refl
log_stop-refusal (log.BadLength at length) is = refl
log_stop-refusal (log.NoFormat kind) is = refl
log_stop-refusal (log.Algorithm number) is = refl
log_stop-refusal (log.Scheme number) is = refl
log_stop-refusal (log.MissingKey version) is = refl
log_stop-refusal (log.Checksum at stored computed) is = refl

log_stop-outside : (fault : BinlogFault) → is_outside fault ≡ true → IsListStop (log_stop fault)
log_stop-outside log.FileFault is = tt
log_stop-outside log.OutOfMemory is = tt
log_stop-outside log.Missing is = absurd (cc)
log_stop-outside log.BadMagic is = absurd (cc)
log_stop-outside (log.ShortEvent at wanted found) is = absurd (cc)
log_stop-outside (log.BadLength at length) is = absurd (cc)
log_stop-outside (log.NoFormat kind) is = absurd (cc)
log_stop-outside (log.Algorithm number) is = absurd (cc)
log_stop-outside (log.Scheme number) is = absurd (cc)
log_stop-outside (log.MissingKey version) is = absurd (cc)
log_stop-outside (log.Checksum at stored computed) is = absurd (cc)

-- the log is refused behind these events
events_refused : (is_hex : Bool) (ring : List RingEntry) (file : Option (List ℕ)) (stage : Stage) (events : List BinlogEvent) (fault : BinlogFault) (before now : Option (List ℕ))
    → ReadTo ring file stage events → answered ring file stage ≡ Err fault → is_outside fault ≡ false → now ≡ extended (lines_of_events is_hex events) before
    → HasLogListing is_hex ring file before now (log_stop fault)
events_refused is_hex ring file stage events fault before now read answer inside given =
    let listing : Listing = listing_of is_hex (length (unwrap_or file [])) events (Err fault) in
    record {
      listing = listing;
      is = record { events = events; end = Err fault; lists = whole_list ring file stage events (Err fault) read answer; is = refl };
      agrees = subst (AgreesWith listing before now) (sym (log_stop-refusal fault inside)) (refl, given);
    }

-- a fault came behind these events
pub events_fault : (is_hex : Bool) (ring : List RingEntry) (file : Option (List ℕ)) (stage : Stage) (events : List BinlogEvent) (fault : BinlogFault) (before now : Option (List ℕ)) (r : Result (Unit {0}) ListStatus)
    → ReadTo ring file stage events → (is_outside fault ≡ false → answered ring file stage ≡ Err fault)
    → ((r ≡ Err (log_stop fault)) × (now ≡ extended (lines_of_events is_hex events) before)) ⊎ (IsErrAnd r IsListStop × IsPartlyGiven (lines_of_events is_hex events) before now)
    → HasLogListing is_hex ring file before now (list_status_of r)
events_fault is_hex ring file stage events fault before now r read answer (inr stopped) = events_partly is_hex ring file stage events before now r read stopped.1 stopped.0
events_fault is_hex ring file stage events fault before now r read answer (inl whole) =
    let lines = lines_of_events is_hex events in
    elim (cases_Bool (is_outside fault)) [
      | inl out ↦
          let stop : IsErrAnd r IsListStop = subst (λ (x : Result (Unit {0}) ListStatus). IsErrAnd x IsListStop) (sym whole.0) (log_stop-outside fault out) in
          events_partly is_hex ring file stage events before now r read (front_given lines [] lines before now (sym (append-nil lines)) whole.1) stop
      | inr inside ↦
          subst (λ (x : Result (Unit {0}) ListStatus). HasLogListing is_hex ring file before now (list_status_of x)) (sym whole.0)
          (events_refused is_hex ring file stage events fault before now read (answer inside) inside whole.1)
    ]

-- the log was reached behind these events
pub reached_behind : (ring : List RingEntry) (file : Option (List ℕ)) (stage : Stage) (events : List BinlogEvent) (place : ℕ) (Has : List BinlogEvent → List BinlogEvent → Result (Unit {0}) BinlogFault → Type 0)
    → ReadTo ring file stage events → place ≡ place_behind 4 events
    → ((behind : List BinlogEvent) (end : Result (Unit {0}) BinlogFault) → Has events behind end) → IsReached ring file place Has
reached_behind ring file stage events place Has read at has =
    let rest = log_events ring file stage in
    record { before = events; behind = rest.events; end = rest.end; lists = read.followed rest.events rest.end rest.lists; at = at; has = has rest.events rest.end }

-- and ends there
pub reached_end : (ring : List RingEntry) (file : Option (List ℕ)) (stage : Stage) (events : List BinlogEvent) (place : ℕ) (Has : List BinlogEvent → List BinlogEvent → Result (Unit {0}) BinlogFault → Type 0)
    → ReadTo ring file stage events → place ≡ place_behind 4 events → answered ring file stage ≡ Ok None → Has events [] (Ok tt) → IsReached ring file place Has
reached_end ring file stage events place Has read at answer has =
    record { before = events; behind = []; end = Ok tt; lists = read.followed [] (Ok tt) answer; at = at; has = has }

-- the place of a refusal behind these events
pub refused_behind : (ring : List RingEntry) (file : Option (List ℕ)) (stage : Stage) (events : List BinlogEvent) (begins place : ℕ) (fault : BinlogFault)
    → ReadTo ring file stage events → begins ≡ place_behind 4 events → place ≡ refused_place begins fault → answered ring file stage ≡ Err fault → IsRefusedAt ring file fault place
refused_behind ring file stage events begins place fault read behind is answer = record {
  events = events;
  lists = whole_list ring file stage events (Err fault) read answer;
  at = is ∙ ap (λ (n : ℕ). refused_place n fault) behind;
}

-- ---- text that is due

behind_some : (front more text : List ℕ) → text ≡ front ++ more → more ≢ [] → text ≢ []
behind_some [] more text is some = λ e. some (sym is ∙ e)
behind_some (x ∷ front) more text is some = λ e. let two = sym is ∙ e in cc

-- what was gathered is text
pub gathered_some : (text gathered : List ℕ) (before now : Option (List ℕ)) → IsPrinted text before now gathered → gathered ≢ [] → text ≢ []
gathered_some text gathered before now printed some = behind_some printed.front gathered text printed.is some

-- events whose lines are text
pub lines_some : (is_hex : Bool) (events : List BinlogEvent) → lines_of_events is_hex events ≢ [] → events ≢ []
lines_some is_hex events some = λ e. some (ap (lines_of_events is_hex) e)

pub pushed_some : (events : List BinlogEvent) (event : BinlogEvent) → events ++ event ∷ [] ≢ []
pushed_some [] event = λ e. cc
pushed_some (first ∷ events) event = λ e. cc

-- ---- where a log ends

by_tests : (a b c : Bool) (e f : BinlogFault) (n : ℕ) → cond {A = Result (Option ℕ) BinlogFault} a (Ok None) (cond b (Err e) (cond c (Err f) (Ok (Some n)))) ≡ Ok None → a ≡ true
by_tests true b c e f n h = refl
by_tests false true c e f n h = absurd (cc)
by_tests false false true e f n h = absurd (cc)
by_tests false false false e f n h = absurd (cc)

framed_none : (format : LogFormat) (place : ℕ) (bytes : List ℕ) → framed format place bytes ≡ Ok None → length bytes ≡ 0
unfolding framed
framed_none format place bytes h =
    eqb-true (length bytes) 0
    (by_tests (length bytes == 0) (nat_lt (length bytes) 19) (is_bad_length (least_stored format (kind_of bytes)) (length_of bytes))
    (log.ShortEvent place 19 (length bytes)) (log.BadLength place (length_of bytes)) (length_of bytes) h)

judged_some : (position : Position) (plain : List ℕ) (r : Result LogFormat BinlogFault) → judged_event position plain r ≡ Ok None → ⊥
judged_some position plain (Err fault) h = cc
judged_some position plain (Ok format) h = cc

opened_some : (position : Position) (r : Result (List ℕ) BinlogFault) → opened_event position r ≡ Ok None → ⊥
opened_some position (Err fault) h = cc
opened_some position (Ok plain) h = judged_some position plain (judged position.format position.place plain) h

by_fit : (ring : List RingEntry) (left : List ℕ) (position : Position) (long : ℕ) (b : Bool)
    → taken_event ring left position (cond b (Err (log.ShortEvent position.place long (length left))) (Ok (Some long))) ≡ Ok None → ⊥
by_fit ring left position long true h = cc
by_fit ring left position long false h = opened_some position (opened ring position.format position.place (take long left)) h

by_frame : (ring : List RingEntry) (left : List ℕ) (position : Position) (frame : Result (Option ℕ) BinlogFault) → framed position.format position.place left ≡ frame
    → taken_event ring left position (whole_of position.place left frame) ≡ Ok None → length left ≡ 0
by_frame ring left position (Err fault) is h = absurd (cc)
by_frame ring left position (Ok None) is h = framed_none position.format position.place left is
by_frame ring left position (Ok (Some long)) is h = absurd (by_fit ring left position long (nat_lt (length left) long) h)

event_none : (ring : List RingEntry) (left : List ℕ) (position : Position) → event_in ring left position ≡ Ok None → length left ≡ 0
unfolding event_in
event_none ring left position h = by_frame ring left position (framed position.format position.place left) refl h

is_log-long : (file : List ℕ) → is_log file ≡ true → 4 ≤ length file
unfolding is_log
is_log-long file is = let parts = and_parts (nat_le 4 (length file)) _ is in leb-true 4 (length file) parts.0

at_start : (ring : List RingEntry) (file : List ℕ) (b : Bool) → is_log file ≡ b → placed_event ring (Some file) (cond b (Ok (first_position (length file))) (Err log.BadMagic)) ≡ Ok None
    → length file ≡ 4
at_start ring file true is h =
    let none = event_none ring (drop 4 file) (first_position (length file)) h in
    let four = is_log-long file is in
    omega (arith, length-drop 4 file, none, four)
at_start ring file false is h = absurd (cc)

pub end_length : (ring : List RingEntry) (file : Option (List ℕ)) (stage : Stage) (end : ℕ) (rest : List ℕ) → StandsAt stage end → Keeps file stage rest → answered ring file stage ≡ Ok None
    → end ≡ length (unwrap_or file [])
end_length ring None Start end rest stands keeps h = absurd (cc)
end_length ring None (Events position) end rest stands keeps h = absurd keeps
end_length ring None (Refused fault) end rest stands keeps h = absurd stands
end_length ring (Some file) Start end rest stands keeps h = stands ∙ sym (at_start ring file (is_log file) refl h)
end_length ring (Some file) (Events position) end rest stands keeps h =
    let none = event_none ring (drop position.place file) position h in
    let inside : position.place ≤ length file = keeps.inside in
    omega (arith, length-drop position.place file, none, stands, inside)
end_length ring (Some file) (Refused fault) end rest stands keeps h = absurd stands
