-- The log that was just made.
use Rattle.std.proofs.Common.{◌≡◌, ℕ, ◌+◌, ◌-◌, ◌*◌, ◌<◌, ◌≤◌, List, [], ◌∷◌, ◌++◌, length, take, drop, get_or, replicate, codes, refl, sym, ◌∙◌, ap, subst, arith, length-append}
use Rattle.std.proofs.lemmas.List.{length-replicate, take-replicate, drop-replicate, take-take, take-append-le}
use Rattle.std.proofs.lemmas.Nat.{from_be_bytes-to_be_bytes_8}
use Rattle.std.specs.Int.{to_be_bytes, from_be_bytes, w64}
use Rattle.byte_list.specs.Bytes.{zeros}
use Rattle.disk_model.specs.Event.{Event, Make, Write, Sync, put, range}
use Rattle.disk_model.specs.Image.{InFile}
use Rattle.disk_model.specs.declared.names.FileName.TheVariants.{Log}
use Rattle.disk_model.specs.Past.{Past, At, grow}
use Rattle.disk_model.proofs.Moments.{at_grow, at_is}
use Rattle.disk_model.proofs.Blocks.{length-put, range-put_same, range-put_before, range-put_after}
use Rattle.space_head.specs.declared.space.SpaceInfo.{SpaceInfo}
use Rattle.plain_engine.specs.Block.{log_bytes, checkpoint_head, header_head, space_fields, spaces_fields, IsLogBlock, IsCheckpoint, IsHeader}
use Rattle.plain_engine.specs.Log.{log_block, ring_place, IsFramed}
use Rattle.plain_engine.specs.Layer.{entry_at, HasNone, NoBlock, Spaced, IsLogFile, IsEmpty, LogReady}
use Rattle.disk_model.specs.Crash.{other_writes}
use Rattle.plain_engine.specs.Stands.{AreBlockWrites}
use Rattle.plain_engine.specs.Made.{IsNow, IsHeaded}
use Rattle.plain_engine.proofs.Places.{place_low, place_high}
use Rattle.plain_engine.proofs.Sums.{length-plain_sealed, take-plain_sealed, IsLogBlock-first}

pub length-zeros : (n : ℕ) → length (zeros n) ≡ n
unfolding zeros
length-zeros n = length-replicate n 0

eight_zeros : (n at size : ℕ) → 8 ≤ size → at + 8 ≤ n → take 8 (range at size (zeros n)) ≡ replicate 8 0
unfolding zeros
eight_zeros n at size le fits =
    take-take 8 size (drop at (replicate n 0)) le ∙ ap (λ (l : List ℕ). take 8 l) (drop-replicate at n 0) ∙ take-replicate 8 (n - at) 0 (omega arith)

-- zero bytes are no block of a number above 0
no_block : (block text : List ℕ) (number : ℕ) → take 8 block ≡ replicate 8 0 → 0 < number → IsLogBlock number text block → ⊥
no_block block text number none some is =
    let front : to_be_bytes w64 number ≡ replicate 8 0 = sym (IsLogBlock-first is) ∙ none in
    let same : number ≡ from_be_bytes w64 (replicate 8 0) = sym (from_be_bytes-to_be_bytes_8 number is.small) ∙ ap (from_be_bytes w64) front in
    let zero : from_be_bytes w64 (replicate 8 0) ≡ 0 = refl in
    omega (arith, same, zero)

length-checkpoint_head : (sequence from : ℕ) → length (checkpoint_head sequence from) ≡ 24
unfolding checkpoint_head
length-checkpoint_head sequence from = refl

checkpoint_first : (sequence from : ℕ) → take 8 (checkpoint_head sequence from) ≡ codes "KEYCHK01"
unfolding checkpoint_head
checkpoint_first sequence from = refl

IsCheckpoint-first : {sequence from : ℕ} {block : List ℕ} → IsCheckpoint sequence from block → take 8 block ≡ codes "KEYCHK01"
IsCheckpoint-first {sequence} {from} c =
    let head = checkpoint_head sequence from in
    let long = length-checkpoint_head sequence from in
    ap (λ (l : List ℕ). take 8 l) c.is
    ∙ take-plain_sealed 8 (head ++ c.rest) (omega (arith, long, length-append head c.rest))
    ∙ take-append-le 8 head c.rest (omega (arith, long))
    ∙ checkpoint_first sequence from

pub length-checkpoint : {sequence from : ℕ} {block : List ℕ} → IsCheckpoint sequence from block → length block ≡ 4096
length-checkpoint {sequence} {from} c =
    omega (arith, ap length c.is, length-plain_sealed (checkpoint_head sequence from ++ c.rest), length-append (checkpoint_head sequence from) c.rest, length-checkpoint_head sequence from, c.size)

pub length-header : {spaces : List SpaceInfo} {block : List ℕ} → IsHeader spaces block → length block ≡ 4096
length-header {spaces} h = omega (arith, ap length h.is, length-plain_sealed (header_head spaces ++ h.rest), length-append (header_head spaces) h.rest, h.size)

-- zero bytes are no checkpoint
no_checkpoint : (block : List ℕ) (sequence from : ℕ) → take 8 block ≡ replicate 8 0 → IsCheckpoint sequence from block → ⊥
no_checkpoint block sequence from none is =
    let same : codes "KEYCHK01" ≡ replicate 8 0 = sym (IsCheckpoint-first is) ∙ none in
    let first : 75 ≡ 0 = ap (λ (l : List ℕ). get_or l 0 0) same in
    omega (arith, first)

pub now_make : (es : List Event) → IsEmpty es → IsNow (zeros log_bytes) (Make Log log_bytes ∷ es)
now_make es e = record { there = refl; shows = refl; left = λ f torn l. l.0; synced = refl; pending = e.others; untold = e.untold }

-- a write and a sync
pub now_synced : (file : List ℕ) (at : ℕ) (block : List ℕ) (es : List Event) → IsNow file es → IsNow (put at block file) (Sync Log ∷ Write Log at block block ∷ es)
now_synced file at block es n = record {
  there = n.there;
  shows = ap (λ (l : List ℕ). put at block l) n.shows;
  left = λ f torn l. l.0 ∙ ap (λ (l : List ℕ). put at block l) n.shows;
  synced = ap (λ (l : List ℕ). put at block l) n.shows;
  pending = ap (other_writes Log) n.pending;
  untold = n.untold;
}

pub now_inside : (file : List ℕ) (at : ℕ) (block : List ℕ) → at + length block ≤ length file → (es : List Event) → IsNow file es → InFile Log at (length block) es
now_inside file at block fits es n = record { there = n.there; within = omega (arith, ap length n.shows, fits) }

-- the file with its checkpoint and its header
module _ (size : ℕ) (is_size : size ≡ log_bytes) (checkpoint header : List ℕ) (c : IsCheckpoint 1 2 checkpoint) (spaces : List SpaceInfo) (h : IsHeader spaces header) where
  abbrev one : List ℕ
  one = put 8192 checkpoint (zeros size)

  abbrev two : List ℕ
  two = put 0 header one

  long : length (zeros size) ≡ log_bytes
  long = length-zeros size ∙ is_size

  fits_one : 8192 + length checkpoint ≤ length (zeros size)
  fits_one = omega (arith, long, length-checkpoint c)

  long_one : length one ≡ log_bytes
  long_one = length-put 8192 checkpoint (zeros size) fits_one ∙ long

  fits_two : 0 + length header ≤ length one
  fits_two = omega (arith, long_one, length-header h)

  pub long_two : length two ≡ log_bytes
  long_two = length-put 0 header one fits_two ∙ long_one

  first : log_block 0 two ≡ header
  first = range-put_same 0 header one fits_two 4096 (sym (length-header h))

  framed : IsFramed two
  framed = record {
    spaces = spaces;
    header = subst (IsHeader spaces) (sym first) h;
    checkpoint = subst (IsCheckpoint 1 2)
        (sym (range-put_after 0 header one fits_two 8192 4096 (omega (arith, length-header h)) ∙ range-put_same 8192 checkpoint (zeros size) fits_one 4096 (sym (length-checkpoint c)))) c;
    newest = λ sequence from is. no_checkpoint (log_block 1 two) sequence from
        (ap (λ (l : List ℕ). take 8 l) (range-put_after 0 header one fits_two 4096 4096 (omega (arith, length-header h)) ∙ range-put_before 8192 checkpoint (zeros size) fits_one 4096 4096 (omega arith))
        ∙ eight_zeros size 4096 4096 (omega arith) (omega (arith, is_size))) is;
  }

  none : (i : ℕ) → HasNone i two
  none i text block =
      let at : ℕ = ring_place (i + 2) * 4096 in
      let low = place_low (i + 2) in
      let high = place_high (i + 2) in
      no_block (entry_at i two) text (i + 2)
      (ap (λ (l : List ℕ). take 8 l)
      (range-put_after 0 header one fits_two at 4096 (omega (arith, length-header h, low)) ∙ range-put_after 8192 checkpoint (zeros size) fits_one at 4096 (omega (arith, length-checkpoint c, low)))
      ∙ eight_zeros size at 4096 (omega arith) (omega (arith, is_size, high)))
      (omega arith) block

  filled : IsLogFile [] 0 two
  filled = record { size = long_two; framed = framed; whole = λ i below. absurd (omega arith); fresh = λ i after lt. none i }

  pub ready_made : (es : List Event) → IsNow two es → LogReady [] 0 0 0 es
  ready_made es n = record {
    holds = record {
      images = λ file torn left. subst (λ (f : List ℕ). Spaced [] 0 0 f torn) (sym (n.left file torn left))
          (record { size = long_two; framed = framed; front = λ i below. absurd (omega arith); rest = λ i after lt. NoBlock (none i) });
      synced = subst (IsLogFile [] 0) (sym n.synced) filled;
      pending = subst AreBlockWrites (sym n.pending) tt;
      acked = omega (arith, n.untold);
      order = omega arith;
      within = omega arith;
      room = omega arith;
      numbered = λ i below. absurd (omega arith);
    };
    least = omega arith;
    there = n.there;
    shows = subst (IsLogFile [] 0) (sym n.shows) filled;
  }

  pub headed_made : (es : List Event) → IsNow two es → IsHeaded spaces es
  headed_made es n = record { header = subst (λ (f : List ℕ). IsHeader spaces (log_block 0 f)) (sym n.shows) (subst (IsHeader spaces) (sym first) h) }

pub length_one : (checkpoint : List ℕ) → IsCheckpoint 1 2 checkpoint → length (put 8192 checkpoint (zeros log_bytes)) ≡ log_bytes
length_one checkpoint c =
    let long = length-zeros log_bytes in
    length-put 8192 checkpoint (zeros log_bytes) (omega (arith, long, length-checkpoint c)) ∙ long

-- a write, and then a sync
pub after_two : {P Q : List Event → Type 0} {old mid new : Past} (at : ℕ) (block : List ℕ) → ((es : List Event) → P es → Q (Sync Log ∷ Write Log at block block ∷ es)) → At P old
    → mid ≡ grow (Write Log at block block) old → new ≡ grow (Sync Log) mid → At Q new
after_two {Q = Q} at block goes here wrote synced =
    let written : At (λ es. Q (Sync Log ∷ es)) _ = at_is wrote (at_grow (Write Log at block block) goes here) in
    at_is synced (at_grow (Sync Log) (λ es q. q) written)

length-space_fields : (s : SpaceInfo) → length (space_fields s) ≡ 12
unfolding space_fields
length-space_fields s = refl

length-space_words : (spaces : List SpaceInfo) → length (spaces_fields spaces) ≡ 12 * length spaces
length-space_words [] = refl
length-space_words (s ∷ ss) = let rest = length-space_words ss in omega (arith, rest, length-space_fields s, length-append (space_fields s) (spaces_fields ss))

pub length-header_head : (spaces : List SpaceInfo) → length (header_head spaces) ≡ 40 + 12 * length spaces
unfolding header_head
length-header_head spaces = let rest = length-space_words spaces in omega (arith, rest)
