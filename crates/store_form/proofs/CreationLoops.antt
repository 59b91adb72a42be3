-- The device calls of a creation, one after another.
use Rattle.std.proofs.Common.{◌≡◌, ◌⊎◌, ℕ, zero, suc, ◌+◌, ◌*◌, ◌<◌, ◌≤◌, Bool, true, false, true≢false, nat_eq, List, [], ◌∷◌, ◌++◌, length, None, Some, refl, sym, ap, ◌∙◌, subst, inl, inr, arith, Result, Ok, Err}
use Rattle.std.specs.Prelude.{OnErr}
use Rattle.byte_list.specs.Bytes.{zeros}
use Rattle.byte_list.proofs.RangeLaws.{length-zeros}
use Rattle.disk_model.specs.Event.{Event, Make, Sync, Write, is_there, reads}
use Rattle.disk_model.specs.Image.{InFile}
use Rattle.disk_model.specs.Past.{Past, At, IsWrite, MayGrow, grow}
use Rattle.disk_model.specs.declared.names.FileName.TheVariants.{Log, Double, Space}
use Rattle.disk_model.proofs.Moments.{at_each, at_grow, at_is}
use Rattle.page_places.specs.Texts.{page_bytes}
use Rattle.page_text.specs.Text.{IsText}
use Rattle.places.specs.Beside.{LeavesFile}
use Rattle.places.specs.Places.{AreWhole, HasPlaces, Layout, place}
use Rattle.places.specs.Writes.{Done, Failed, IsPart, grows}
use Rattle.redo_log.specs.Events.{check_event, side_batch}
use Rattle.redo_log.specs.Fresh.{IsFresh}
use Rattle.redo_log.proofs.FreshLog.{fresh_make}
use Rattle.space_head.specs.declared.space.SpaceInfo.{SpaceInfo}
use Rattle.store_files.specs.Header.{HeldHeader, HeldSpace}
use Rattle.store_files.specs.Pages.{head_page}
use Rattle.store_form.specs.Created.{AreAbsent, HasNoFile, HaveFirstPlaces}
use Rattle.store_form.specs.Creation.{IsStopped, check_written, creation, events_after, files_begun, first_pages_written, first_text, header_written, past_after, spaces_begun}
use Rattle.store_form.specs.Made.{AreMadeSpaces, CanBeMade, DifferInId, HasNotId}
use Rattle.store_form.proofs.CreationFiles.{AreSettled, log_at_pages, log_zeros, m_files, m_pages, space_zeros, spaces_at_files}
use Rattle.store_form.proofs.CreationSteps.{at_after, past_after-append, stopped_first, stopped_here, stopped_then}
use Rattle.store_form.proofs.SettledFiles.{IsSettledAs, left_reads, left_there}
use Rattle.crash_image.specs.LogForm.{log_places}

-- a fact at an error
pub at_err : {T E : Type 0} {P : Type 0} (result : Result T E) → P → OnErr result P
at_err (Ok v) p = tt
at_err (Err e) p = p

pub text_is : (info : SpaceInfo) (page : List ℕ) → IsText 16384 info.space 0 8192 0 None (head_page info) page → page ≡ first_text info
unfolding first_text
text_is info page text = text.written

-- ---- files that aren't there yet

absent_more : (id n : ℕ) (ss : List SpaceInfo) (es : List Event) → HasNotId id ss → AreAbsent ss es → AreAbsent ss (Make (Space id) n ∷ es)
absent_more id n [] es apart was = tt
absent_more id n (s ∷ ss) es apart was = (left_there (Space s.space) [] es (Make (Space id) n) apart.1 ∙ was.0, absent_more id n ss es apart.2 was.1)

pub absent_log : (n : ℕ) (ss : List SpaceInfo) (es : List Event) → AreAbsent ss es → AreAbsent ss (Make Log n ∷ es)
absent_log n [] es was = tt
absent_log n (s ∷ ss) es was = (was.0, absent_log n ss es was.1)

pub absent_double : (n : ℕ) (ss : List SpaceInfo) (es : List Event) → AreAbsent ss es → AreAbsent ss (Make Double n ∷ es)
absent_double n [] es was = tt
absent_double n (s ∷ ss) es was = (was.0, absent_double n ss es was.1)

-- one file of a space more is made
module _ (xs : List SpaceInfo) (s : SpaceInfo) (ss : List SpaceInfo) (old new first : Past) (all : List SpaceInfo) (rest : xs ≡ s ∷ ss) where
  abbrev made : Event
  made = Make (Space s.space) (s.pages * 16384)

  pub space_absent : At (AreAbsent xs) old → At (λ es. is_there (Space s.space) es ≡ false) old
  space_absent at = at_each (λ es was. (subst (λ (l : List SpaceInfo). AreAbsent l es) rest was).0) at

  pub absent_next : At (AreAbsent xs) old → DifferInId xs → new ≡ grow (Make (Space s.space) (s.pages * 16384)) old → At (AreAbsent ss) new
  absent_next at differ is =
      let apart = subst DifferInId rest differ in
      at_is is (at_grow made (λ es was. absent_more s.space (s.pages * 16384) ss es apart.0 (subst (λ (l : List SpaceInfo). AreAbsent l es) rest was).1) at)

  pub differ_next : DifferInId xs → DifferInId ss
  differ_next differ = (subst DifferInId rest differ).1

  pub begun_next : new ≡ grow (Make (Space s.space) (s.pages * 16384)) old → past_after (spaces_begun xs) old ≡ past_after (spaces_begun all) first → past_after (spaces_begun ss) new ≡ past_after (spaces_begun all) first
  begun_next is so_far = ap (past_after (spaces_begun ss)) is ∙ ap (λ (l : List SpaceInfo). past_after (spaces_begun l) old) (sym rest) ∙ so_far

  pub begun_stops : new ≡ grow (Make (Space s.space) (s.pages * 16384)) old → ((end : Past) → IsStopped (spaces_begun xs) old end → IsStopped (spaces_begun all) first end) → (end : Past) → IsStopped (spaces_begun ss) new end → IsStopped (spaces_begun all) first end
  begun_stops is so_far end stop = so_far end (subst (λ (l : List SpaceInfo). IsStopped (spaces_begun l) old end) (sym rest) (inr (inr (subst (λ (h : Past). IsStopped (spaces_begun ss) h end) is stop))))

  pub begun_ends : IsStopped (made ∷ spaces_begun ss) old new → ((end : Past) → IsStopped (spaces_begun xs) old end → IsStopped (spaces_begun all) first end) → IsStopped (spaces_begun all) first new
  begun_ends stop so_far = so_far new (subst (λ (l : List SpaceInfo). IsStopped (spaces_begun l) old new) (sym rest) stop)

-- ---- pages 0

places_beside : (id : ℕ) (ss : List SpaceInfo) (e : Event) (es : List Event) → ((other : ℕ) → nat_eq other id ≡ false → LeavesFile (Space other) e) → HasNotId id ss → HaveFirstPlaces ss es → HaveFirstPlaces ss (e ∷ es)
places_beside id [] e es leaves apart was = tt
places_beside id (s ∷ ss) e es leaves apart was =
    let left = leaves s.space apart.1 in (
      record { there = left_there (Space s.space) [] es e left ∙ was.0.there; within = let w = was.0.within in let same = ap length (left_reads (Space s.space) [] es e left) in omega (arith, w, same) },
      places_beside id ss e es leaves apart.2 was.1,
    )

module _ (xs : List SpaceInfo) (s : SpaceInfo) (ss : List SpaceInfo) (old new first : Past) (all : List SpaceInfo) (rest : xs ≡ s ∷ ss) where
  abbrev wrote : Event
  wrote = Write (Space s.space) 0 (first_text s) (first_text s)

  abbrev synced : Event
  synced = Sync (Space s.space)

  pub place_there : At (HaveFirstPlaces xs) old → At (InFile (Space s.space) 0 page_bytes) old
  place_there at = at_each (λ es was. (subst (λ (l : List SpaceInfo). HaveFirstPlaces l es) rest was).0) at

  pub places_next : At (HaveFirstPlaces xs) old → DifferInId xs → new ≡ past_after (wrote ∷ synced ∷ []) old → At (HaveFirstPlaces ss) new
  places_next at differ is =
      let apart = (subst DifferInId rest differ).0 in
      at_is is (at_grow synced (λ es was. places_beside s.space ss synced es (λ other differs. differs) apart was)
      (at_grow wrote (λ es was. places_beside s.space ss wrote es (λ other differs. differs) apart (subst (λ (l : List SpaceInfo). HaveFirstPlaces l es) rest was).1) at))

  pub pages_differ : DifferInId xs → DifferInId ss
  pages_differ differ = (subst DifferInId rest differ).1

  pub pages_next : new ≡ past_after (wrote ∷ synced ∷ []) old → past_after (first_pages_written xs) old ≡ past_after (first_pages_written all) first → past_after (first_pages_written ss) new ≡ past_after (first_pages_written all) first
  pages_next is so_far = ap (past_after (first_pages_written ss)) is ∙ ap (λ (l : List SpaceInfo). past_after (first_pages_written l) old) (sym rest) ∙ so_far

  pub pages_stop : new ≡ past_after (wrote ∷ synced ∷ []) old → ((end : Past) → IsStopped (first_pages_written xs) old end → IsStopped (first_pages_written all) first end) → (end : Past) → IsStopped (first_pages_written ss) new end → IsStopped (first_pages_written all) first end
  pages_stop is so_far end stop =
      so_far end (subst (λ (l : List SpaceInfo). IsStopped (first_pages_written l) old end) (sym rest) (inr (inr (inr (inr (subst (λ (h : Past). IsStopped (first_pages_written ss) h end) is stop))))))

  -- one page that wasn't done
  more_behind : IsStopped (wrote ∷ synced ∷ []) old new → IsStopped (first_pages_written (s ∷ ss)) old new
  more_behind (inl same) = inl same
  more_behind (inr (inl attempt)) = inr (inl attempt)
  more_behind (inr (inr (inl same))) = inr (inr (inl same))
  more_behind (inr (inr (inr (inl none)))) = absurd none
  more_behind (inr (inr (inr (inr same)))) = inr (inr (inr (inr (stopped_here (first_pages_written ss) (grow synced (grow wrote old)) new same))))

  pub pages_end : IsStopped (wrote ∷ synced ∷ []) old new → ((end : Past) → IsStopped (first_pages_written xs) old end → IsStopped (first_pages_written all) first end) → IsStopped (first_pages_written all) first new
  pages_end stop so_far = so_far new (subst (λ (l : List SpaceInfo). IsStopped (first_pages_written l) old new) (sym rest) (more_behind stop))

-- ---- the checkpoint

grows_one : (e : Event) (old : Past) → grows (e ∷ []) old ≡ grow e old
grows_one e None = refl
grows_one e (Some es) = refl

grows_nothing : (old : Past) → grows [] old ≡ old
grows_nothing None = refl
grows_nothing (Some es) = refl

pub check_stopped : (old new : Past) → IsPart Log 4096 (side_batch 1 2) 1 old new → IsStopped check_written old new
check_stopped old new (Done zero le is) = inl (is ∙ grows_nothing old)
check_stopped old new (Done (suc zero) le is) = inr (inr (inl (is ∙ grows_one (check_event 1 2) old)))
check_stopped old new (Done (suc (suc j)) le is) = absurd (omega (arith, le))
check_stopped old new (Failed zero e lt kind is) = inr (inl (e, kind, is ∙ grows_one e old))
check_stopped old new (Failed (suc j) e lt kind is) = absurd (omega (arith, lt))

-- ---- what each part finds

settled_places : (hs : List HeldSpace) (spaces : List SpaceInfo) (m : List Event) → AreMadeSpaces hs spaces → AreSettled space_zeros spaces m → HaveFirstPlaces spaces m
settled_places [] [] m are was = tt
settled_places [] (s ∷ ss) m are was = absurd are
settled_places (h ∷ hs) [] m are was = absurd are
settled_places (h ∷ hs) (s ∷ ss) m (space, pages, key_id, some, made, rest) was =
    let size : length (reads (Space s.space) m) ≡ s.pages * 16384 = ap length was.0.reads_as ∙ length-zeros (s.pages * 16384) in
    (record { there = was.0.there; within = omega (arith, size, some) }, settled_places hs ss m rest was.1)

whole_spaces : (layout : Layout) (ss : List SpaceInfo) (m : List Event) → AreWhole Log layout m → AreWhole Log layout (events_after (spaces_begun ss) m)
whole_spaces layout [] m was = was
whole_spaces layout (s ∷ ss) m was = whole_spaces layout ss (Make (Space s.space) (s.pages * page_bytes) ∷ m) was

whole_pages : (layout : Layout) (ss : List SpaceInfo) (m : List Event) → AreWhole Log layout m → AreWhole Log layout (events_after (first_pages_written ss) m)
whole_pages layout [] m was = was
whole_pages layout (s ∷ ss) m was = whole_pages layout ss (Sync (Space s.space) ∷ Write (Space s.space) 0 (first_text s) (first_text s) ∷ m) ((λ e. absurd (true≢false (sym e))), was)

module _ (header : HeldHeader) (spaces : List SpaceInfo) (old : Past) (can : CanBeMade header spaces) (absent : At (HasNoFile spaces) old) where
  -- behind the making of the files
  pub files_have_places : At (HaveFirstPlaces spaces) (past_after (files_begun header spaces) old)
  files_have_places = at_after (files_begun header spaces) old (λ es none. settled_places header.spaces spaces (m_files header spaces es) can.spaces_are (spaces_at_files header spaces es can.differ)) absent

  -- behind the pages
  fresh : (es : List Event) → IsFresh header.blocks (m_pages header spaces es)
  fresh es =
      let log = log_at_pages header spaces es in
      record {
        shows = λ i. ap (place 4096 i) log.reads_as;
        places = record {
          some = omega arith;
          there = log.there;
          size = ap length log.reads_as ∙ length-zeros ((3 + header.blocks) * 4096);
          whole = whole_pages (log_places header.blocks) spaces (m_files header spaces es) (whole_spaces (log_places header.blocks) spaces (Make Double (64 * 16896) ∷ Make Log ((3 + header.blocks) * 4096) ∷ es) tt);
        };
      }

  pub log_is_fresh : At (IsFresh header.blocks) (past_after (first_pages_written spaces) (past_after (files_begun header spaces) old))
  log_is_fresh = at_after (first_pages_written spaces) (past_after (files_begun header spaces) old) (λ es is. is) (at_after {Q = λ es. IsFresh header.blocks (events_after (first_pages_written spaces) es)} (files_begun header spaces) old (λ es none. fresh es) absent)

pub header_inside : (blocks : ℕ) (h : Past) → At (HasPlaces Log (log_places blocks)) h → At (InFile Log 0 4096) h
header_inside blocks h at = at_each (λ es is. record { there = is.there; within = let size = is.size in omega (arith, size) }) at

-- ---- the whole

module _ (header : HeldHeader) (spaces : List SpaceInfo) (old m1 m2 m3 new : Past) where
  abbrev f : List Event
  f = files_begun header spaces

  abbrev p : List Event
  p = first_pages_written spaces

  abbrev c : List Event
  c = check_written

  abbrev h : List Event
  h = header_written header

  pub stop_in_files : IsStopped (files_begun header spaces) old new → IsStopped (creation header spaces) old new
  stop_in_files stop = stopped_first f (p ++ (c ++ h)) old new stop

  pub stop_in_pages : m1 ≡ past_after (files_begun header spaces) old → IsStopped (first_pages_written spaces) m1 new → IsStopped (creation header spaces) old new
  stop_in_pages files stop = stopped_then f (p ++ (c ++ h)) old m1 new files (stopped_first p (c ++ h) m1 new stop)

  pub stop_in_check : m1 ≡ past_after (files_begun header spaces) old → m2 ≡ past_after (first_pages_written spaces) m1 → IsStopped check_written m2 new → IsStopped (creation header spaces) old new
  stop_in_check files pages stop = stopped_then f (p ++ (c ++ h)) old m1 new files (stopped_then p (c ++ h) m1 m2 new pages (stopped_first c h m2 new stop))

  pub stop_in_header : m1 ≡ past_after (files_begun header spaces) old → m2 ≡ past_after (first_pages_written spaces) m1 → m3 ≡ past_after check_written m2 → IsStopped (header_written header) m3 new → IsStopped (creation header spaces) old new
  stop_in_header files pages check stop = stopped_then f (p ++ (c ++ h)) old m1 new files (stopped_then p (c ++ h) m1 m2 new pages (stopped_then c h m2 m3 new check stop))

  pub all_done : m1 ≡ past_after (files_begun header spaces) old → m2 ≡ past_after (first_pages_written spaces) m1 → m3 ≡ past_after check_written m2 → new ≡ past_after (header_written header) m3 → new ≡ past_after (creation header spaces) old
  all_done files pages check is =
      is ∙ ap (past_after h) check ∙ ap (λ (x : Past). past_after h (past_after c x)) pages ∙ ap (λ (x : Past). past_after h (past_after c (past_after p x))) files
      ∙ sym (past_after-append f (p ++ (c ++ h)) old ∙ past_after-append p (c ++ h) (past_after f old) ∙ past_after-append c h (past_after p (past_after f old)))
