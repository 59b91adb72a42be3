-- What the first bytes of the rest of a file say of it: its header, and its event.
use Rattle.std.proofs.Common.{◌≡◌, ℕ, ◌+◌, ◌<◌, ◌≤◌, ◌==◌, min, Bool, false, List, length, take, slice_index, zero-add, refl, sym, ap, ◌∙◌, arith, if◌then◌else◌, ⊎_elim, Option, Some, None, Result, Ok, Err}
use Rattle.std.proofs.lemmas.Bool.{cases_lt, le-ltb, le-leb, ne_eqb}
use Rattle.std.proofs.lemmas.List.{take-take, take_all, get_or-take}
use Rattle.byte_list.specs.Bytes.{range}
use Rattle.byte_list.specs.Fields.{le32_at}
use Rattle.byte_list.proofs.FieldLaws.{le32_at-same}
use Rattle.byte_list.proofs.RangeLaws.{range-range}
use Rattle.key_ring.specs.Ring.{RingEntry}
use Rattle.binlog_text.specs.Header.{framed, is_bad_length, kind_of, least_stored, length_of, whole, whole_of}
use Rattle.binlog_text.specs.Held.{IsFront}
use Rattle.binlog_text.specs.Events.{event_in, is_log, opened, opened_event, taken_event}
use Rattle.binlog_text.specs.Reading.{Reaches}
use Rattle.binlog_text.specs.declared.fault.BinlogFault.{BinlogFault}
use Rattle.binlog_text.specs.declared.fault.BinlogFault.TheVariants.{BadLength, ShortEvent}
use Rattle.binlog_text.specs.declared.format.LogFormat.{LogFormat}
use Rattle.binlog_text.specs.declared.stage.Position.{Position}

-- as many bytes as there are, or more, are all of them
pub all_of : (bytes all : List ℕ) → IsFront bytes all → length all ≤ length bytes → bytes ≡ all
all_of bytes all is long = is.front ∙ take_all (length bytes) all long

module _ (bytes all : List ℕ) (is : IsFront bytes all) where
  pub byte_in_front : (i : ℕ) → i < length bytes → slice_index bytes i ≡ slice_index all i
  byte_in_front i lt = ap (λ (l : List ℕ). slice_index l i) is.front ∙ get_or-take (length bytes) all i 0 lt

  pub word_in_front : (at : ℕ) → at + 4 ≤ length bytes → le32_at bytes at ≡ le32_at all at
  word_in_front at within =
      le32_at-same bytes all at at (ap (range at 4) is.front ∙ range-range at 4 0 (length bytes) all within ∙ ap (λ (n : ℕ). range n 4 all) (zero-add at))

-- a whole header
framed_long : (format : LogFormat) (place : ℕ) (bytes : List ℕ) → 19 ≤ length bytes
    → framed format place bytes ≡ (if is_bad_length (least_stored format (kind_of bytes)) (length_of bytes) then Err (BadLength place (length_of bytes)) else Ok (Some (length_of bytes)))
unfolding framed
framed_long format place bytes long =
    let some : (length bytes == 0) ≡ false = ne_eqb (length bytes) 0 (λ e. omega arith) in
    rw (some, le-ltb (length bytes) 19 long) refl

pub framed-front : (format : LogFormat) (place : ℕ) (bytes all : List ℕ) → IsFront bytes all → 19 ≤ length bytes → 19 ≤ length all
    → framed format place bytes ≡ framed format place all
framed-front format place bytes all is long most =
    framed_long format place bytes long
    ∙ (λ i. if is_bad_length (least_stored format (byte_in_front bytes all is 4 (omega arith) i)) (word_in_front bytes all is 9 (omega arith) i)
    then Err (BadLength place (word_in_front bytes all is 9 (omega arith) i)) else Ok (Some (word_in_front bytes all is 9 (omega arith) i)))
    ∙ sym (framed_long format place all most)

-- the event, where it is there
by_frame : (ring : List RingEntry) (position : Position) (bytes all : List ℕ) → IsFront bytes all → length bytes ≤ length all
    → (frame : Result (Option ℕ) BinlogFault) → ((long : ℕ) → frame ≡ Ok (Some long) → long ≤ length bytes)
    → taken_event ring bytes position (whole_of position.place bytes frame) ≡ taken_event ring all position (whole_of position.place all frame)
by_frame ring position bytes all is fewer (Err fault) there = refl
by_frame ring position bytes all is fewer (Ok None) there = refl
by_frame ring position bytes all is fewer (Ok (Some long)) there =
    let within : long ≤ length bytes = there long refl in
    let same : take long bytes ≡ take long all = ap (take long) is.front ∙ take-take long (length bytes) all within in
    ap (λ (b : Bool). taken_event ring bytes position (if b then Err (ShortEvent position.place long (length bytes)) else Ok (Some long))) (le-ltb (length bytes) long within)
    ∙ ap (λ (event : List ℕ). opened_event position (opened ring position.format position.place event)) same
    ∙ sym (ap (λ (b : Bool). taken_event ring all position (if b then Err (ShortEvent position.place long (length all)) else Ok (Some long))) (le-ltb (length all) long (omega arith)))

pub event_in-front : (ring : List RingEntry) (position : Position) (bytes all : List ℕ) → Reaches position bytes all → event_in ring bytes position ≡ event_in ring all position
unfolding event_in
event_in-front ring position bytes all is =
    ⊎_elim
    (λ (fewer : length bytes < length all).
    let long : 19 ≤ length bytes = omega (arith, is.header) in
    let same = framed-front position.format position.place bytes all is.front long (omega arith) in
    ap (λ (f : Result (Option ℕ) BinlogFault). taken_event ring bytes position (whole_of position.place bytes f)) same
    ∙ by_frame ring position bytes all is.front (omega arith) (framed position.format position.place all) (λ n e. omega (arith, is.event n e)))
    (λ (most : length all ≤ length bytes). ap (λ (l : List ℕ). taken_event ring l position (whole position.format position.place l)) (all_of bytes all is.front most))
    (cases_lt (length bytes) (length all))

-- what is there of the header says what all of it says
pub framed-header : (format : LogFormat) (place : ℕ) (bytes all : List ℕ) → IsFront bytes all → min 19 (length all) ≤ length bytes
    → framed format place bytes ≡ framed format place all
framed-header format place bytes all is header =
    ⊎_elim
    (λ (fewer : length bytes < length all). framed-front format place bytes all is (omega arith) (omega arith))
    (λ (most : length all ≤ length bytes). ap (framed format place) (all_of bytes all is most))
    (cases_lt (length bytes) (length all))

-- and so the first bytes of a file
pub is_log-front : (bytes all : List ℕ) → IsFront bytes all → min 4 (length all) ≤ length bytes → is_log bytes ≡ is_log all
unfolding is_log
is_log-front bytes all is header =
    ⊎_elim
    (λ (fewer : length bytes < length all).
    let four : 4 ≤ length bytes = omega arith in
    let at = byte_in_front bytes all is in
    rw (le-leb 4 (length bytes) four, le-leb 4 (length all) (omega arith), at 0 (omega arith), at 1 (omega arith), at 2 (omega arith), at 3 (omega arith)) refl)
    (λ (most : length all ≤ length bytes). ap is_log (all_of bytes all is most))
    (cases_lt (length bytes) (length all))

-- no event whose length the header says
pub reaches_header : (position : Position) (bytes all : List ℕ) → IsFront bytes all → min 19 (length all) ≤ length bytes
    → ((long : ℕ) → framed position.format position.place bytes ≡ Ok (Some long) → ⊥) → Reaches position bytes all
reaches_header position bytes all is header none = record {
  front = is;
  header = header;
  event = λ long e. absurd (none long (framed-header position.format position.place bytes all is header ∙ e));
}

long_of : Result (Option ℕ) BinlogFault → ℕ
long_of (Ok (Some n)) = n
long_of (Ok None) = 0
long_of (Err fault) = 0

same_long : {m n : ℕ} → ◌≡◌ {A = Result (Option ℕ) BinlogFault} (Ok (Some m)) (Ok (Some n)) → m ≡ n
unfolding long_of
same_long e = ap long_of e

-- an event whose length an earlier look at the header said
pub reaches_event : (position : Position) (before bytes all : List ℕ) (long : ℕ) → IsFront before all → min 19 (length all) ≤ length before
    → framed position.format position.place before ≡ Ok (Some long) → 19 ≤ long → IsFront bytes all → min long (length all) ≤ length bytes → Reaches position bytes all
reaches_event position before bytes all long first header says most is enough = record {
  front = is;
  header = omega arith;
  event = λ n e.
      let same : long ≡ n = same_long (sym says ∙ framed-header position.format position.place before all first header ∙ e) in
      omega arith;
}
