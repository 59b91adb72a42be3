-- A store that was created is at rest: what its disk reads as, and that nothing is pending.
use Rattle.std.proofs.Common.{◌≡◌, ◌≢◌, ◌⊎◌, ℕ, zero, suc, ◌+◌, ◌-◌, ◌*◌, ◌^◌, ◌<◌, ◌≤◌, Bool, true, false, true≢false, nat_eq, if◌then◌else◌, List, [], ◌∷◌, ◌++◌, length, replicate, slice_index_or, Some, refl, sym, ap, ◌∙◌, subst, inl, inr, arith}
use Rattle.std.specs.Prelude.{All, Ok}
use Rattle.std.proofs.lemmas.Bool.{cond-true}
use Rattle.std.proofs.lemmas.Bool.Decides.{nat_tests}
use Rattle.std.proofs.lemmas.List.{length-replicate}
use Rattle.std.proofs.lemmas.List.Elements.{All-cons}
use Rattle.byte_list.specs.Bytes.{zeros}
use Rattle.byte_list.specs.Fields.{be32_at}
use Rattle.byte_list.proofs.RangeLaws.{length-zeros}
use Rattle.disk_model.specs.Does.{AllAre}
use Rattle.disk_model.specs.Event.{Event, Make, is_there, marks, reads, same_file}
use Rattle.disk_model.specs.Image.{Image, IsImage, Leaves}
use Rattle.disk_model.specs.declared.names.FileName.{FileName}
use Rattle.disk_model.specs.declared.names.FileName.TheVariants.{Log, Double, Space}
use Rattle.disk_model.proofs.FilesLemmas.{same_file-itself, same_file-≡}
use Rattle.key_ring.specs.Ring.{RingEntry}
use Rattle.page_places.specs.Texts.{are_zero, page_bytes}
use Rattle.places.specs.Beside.{LeavesFile}
use Rattle.places.specs.Places.{place}
use Rattle.places.proofs.NonePending.{lost_all}
use Rattle.space_head.specs.Head.{head_of}
use Rattle.space_head.specs.declared.space.Home.{Home}
use Rattle.space_head.specs.declared.space.Home.TheVariants.{Unused, Clean, Dirty}
use Rattle.space_head.specs.declared.space.SpaceInfo.{SpaceInfo}
use Rattle.store_model.specs.Fold.{empty}
use Rattle.store_files.specs.Checkpoint.{IsNewestCheckpoint}
use Rattle.store_files.specs.Header.{HeldHeader, HeldSpace, IsWritableHeader, are_allowed, header_in}
use Rattle.store_files.specs.Pages.{head_of_space}
use Rattle.store_files.specs.Run.{IsClear}
use Rattle.crash_image.specs.Rest.{HasNonePending, IsAtRest, read_image}
use Rattle.store_form.specs.Creation.{check_written, creation, events_after, files_begun, first_pages_written, first_text, header_written, spaces_begun}
use Rattle.store_form.specs.Plan.{homes_made}
use Rattle.store_form.specs.Rest.{AreNoneDirty, HaveHomes, IsRestForm, ReadsAtRest, SpaceReads, SpacesRead, home_told}
use Rattle.store_form.proofs.CreatedFiles.{length-made, length-space, log_made, made_clear, made_header, made_newest, space_first, space_made, space_other}
use Rattle.store_form.proofs.CreationFiles.{AreSettled, creation_ends, double_at_header, log_at_header, m_header, space_pages, space_spaces, spaces_at_header}
use Rattle.store_form.proofs.EmptyStore.{AreSpaceFiles, empty_log, empty_recovers, no_copy}
use Rattle.store_form.specs.Made.{AreMadeSpaces, DifferInId, HasNotId, IsMadeInfo}
use Rattle.store_form.proofs.FirstTexts.{first_head, first_told}
use Rattle.store_form.proofs.SettledFiles.{IsSettledAs, beside_append, left_leaves, left_reads}
use Rattle.store_form.proofs.ZeroPlaces.{zero_are_zero}

-- ---- what the homes tell

unused_at : (n i : ℕ) → slice_index_or (replicate n Unused) i Unused ≡ Unused
unused_at zero i = refl
unused_at (suc n) zero = refl
unused_at (suc n) (suc i) = unused_at n i

unused_clean : (n : ℕ) → AreNoneDirty (replicate n Unused)
unused_clean zero = λ k d lt. absurd (omega (arith, lt))
unused_clean (suc n) = All-cons (λ home. home ≢ Dirty) Unused (replicate n Unused) (λ e. cc) (unused_clean n)

pub have_homes : (hs : List HeldSpace) (spaces : List SpaceInfo) → AreMadeSpaces hs spaces → HaveHomes hs spaces (homes_made spaces)
have_homes [] [] are = tt
have_homes [] (s ∷ ss) are = absurd are
have_homes (h ∷ hs) [] are = absurd are
have_homes (h ∷ hs) (s ∷ ss) (space, pages, key_id, some, made, rest) =
    let long = length-replicate (s.pages - 1) Unused in
    (space, pages, key_id, omega (arith, long, some, pages), All-cons (λ home. home ≢ Dirty) (Clean 0) (replicate (s.pages - 1) Unused) (λ e. cc) (unused_clean (s.pages - 1)), have_homes hs ss rest)

pub created_form : (header : HeldHeader) (spaces : List SpaceInfo) → IsWritableHeader header → AreMadeSpaces header.spaces spaces → IsRestForm header spaces (homes_made spaces) 2 1
created_form header spaces w are = record {
  allowed = w.allowed;
  have = have_homes header.spaces spaces are;
  least = omega arith;
  most = omega arith;
  some = omega arith;
  below = omega arith;
}

zero_told : (n : ℕ) → home_told (zeros n) ≡ Unused
zero_told n = cond-true (are_zero (zeros n)) Unused (Clean (be32_at (zeros n) 0)) (zero_are_zero n)

space_reads_made : (s : SpaceInfo) (m : List Event) → 2 ≤ s.pages → IsMadeInfo s → IsSettledAs (Space s.space) (space_made s) m → SpaceReads s (Clean 0 ∷ replicate (s.pages - 1) Unused) m
space_reads_made s m some made was = record {
  there = was.there;
  long = ap length was.reads_as ∙ length-space s made some;
  head = (if s.ciphered then 1 else 2, ap (λ (x : List ℕ). head_of (place 16384 0 x)) was.reads_as ∙ ap head_of (space_first s made some) ∙ first_head s made);
  told = told;
}
  where
    told : (p : ℕ) → p < s.pages → slice_index_or (Clean 0 ∷ replicate (s.pages - 1) Unused) p Unused ≡ home_told (place 16384 p (reads (Space s.space) m))
    told zero below = sym (first_told s made) ∙ ap home_told (sym (space_first s made some) ∙ ap (place 16384 0) (sym was.reads_as))
    told (suc p) below =
        unused_at (s.pages - 1) p ∙ sym (zero_told 16384) ∙ ap home_told (sym (space_other s made some (suc p) (λ e. omega (arith, e)) below) ∙ ap (place 16384 (suc p)) (sym was.reads_as))

spaces_read_made : (hs : List HeldSpace) (spaces : List SpaceInfo) (m : List Event) → AreMadeSpaces hs spaces → AreSettled space_made spaces m → SpacesRead spaces (homes_made spaces) m
spaces_read_made [] [] m are was = tt
spaces_read_made [] (s ∷ ss) m are was = absurd are
spaces_read_made (h ∷ hs) [] m are was = absurd are
spaces_read_made (h ∷ hs) (s ∷ ss) m (space, pages, key_id, some, made, rest) was = (space_reads_made s m some made was.0, spaces_read_made hs ss m rest was.1)

files_read : (spaces : List SpaceInfo) (m : List Event) → AreSettled space_made spaces m → AreSpaceFiles (λ f. reads f m) spaces
files_read [] m was = tt
files_read (s ∷ ss) m was = (was.0.reads_as, files_read ss m was.1)

module _ (header : HeldHeader) (spaces : List SpaceInfo) (es : List Event) (w : IsWritableHeader header) (are : AreMadeSpaces header.spaces spaces) (differ : DifferInId spaces) where
  abbrev m : List Event
  m = m_header header spaces es

  log : IsSettledAs Log (log_made header) m
  log = log_at_header header spaces es

  double : IsSettledAs Double (zeros (64 * 16896)) m
  double = double_at_header header spaces es

  pub reads_created : ReadsAtRest header spaces (homes_made spaces) 2 1 (m_header header spaces es)
  reads_created = record {
    is_header = ap (λ (x : List ℕ). header_in (place 4096 0 x)) log.reads_as ∙ made_header header w;
    log_there = log.there;
    log = ap length log.reads_as ∙ length-made header w;
    double_there = double.there;
    double = ap length double.reads_as ∙ length-zeros (64 * 16896);
    checkpoint = subst (λ (x : List ℕ). IsNewestCheckpoint x (record { sequence = 1; from = 2 })) (sym log.reads_as) (made_newest header w);
    spaces_read = spaces_read_made header.spaces spaces m are (spaces_at_header header spaces es differ);
  }

  -- ---- nothing is pending

  -- a file of a space of the store, or none
  found_or : (id : ℕ) (ss : List SpaceInfo) (now : List Event) → AreSettled space_made ss now → ((file : List ℕ) × IsSettledAs (Space id) file now) ⊎ HasNotId id ss
  found_or id [] now was = inr tt
  found_or id (s ∷ ss) now was = by (nat_eq id s.space) refl (found_or id ss now was.1)
    where
      other : nat_eq id s.space ≡ false → nat_eq s.space id ≡ false
      other test = grind (arith, nat_tests)

      by : (b : Bool) → nat_eq id s.space ≡ b → ((file : List ℕ) × IsSettledAs (Space id) file now) ⊎ HasNotId id ss → ((file : List ℕ) × IsSettledAs (Space id) file now) ⊎ HasNotId id (s ∷ ss)
      by true test rest = let same : s.space ≡ id = grind (arith, nat_tests) in inl (space_made s, subst (λ (n : ℕ). IsSettledAs (Space n) (space_made s) now) same was.0)
      by false test (inl there) = inl there
      by false test (inr none) = inr (test, other test, none)

  leaves_after : (f : FileName) (steps before : List Event) → AllAre (LeavesFile f) steps → (x : List ℕ) (torn : List (ℕ × ℕ)) → Leaves f (events_after steps before) x torn → Leaves f before x torn
  leaves_after f [] before all x torn left = left
  leaves_after f (e ∷ steps) before all x torn left = left_leaves f x before e all.0 x torn (leaves_after f steps (e ∷ before) all.1 x torn left)

  reads_after : (f : FileName) (steps before : List Event) → AllAre (LeavesFile f) steps → reads f (events_after steps before) ≡ reads f before
  reads_after f [] before all = refl
  reads_after f (e ∷ steps) before all = reads_after f steps (e ∷ before) all.1 ∙ left_reads f [] before e all.0

  other_space_left : (id : ℕ) → HasNotId id spaces → AllAre (LeavesFile (Space id)) (creation header spaces)
  other_space_left id apart = (
    refl,
    (
      refl,
      beside_append (Space id) (spaces_begun spaces) (first_pages_written spaces ++ (check_written ++ header_written header)) (space_spaces id spaces apart)
          (beside_append (Space id) (first_pages_written spaces) (check_written ++ header_written header) (space_pages id spaces apart) (refl, (refl, (refl, (refl, tt))))),
    ),
  )

  -- what is left of a file where nothing was pending is what it read as
  module _ (none : HasNonePending es) (f : FileName) (x : List ℕ) (torn : List (ℕ × ℕ)) (left : Leaves f es x torn) where
    left_of : (g : FileName) (b : Bool) → same_file f g ≡ b → Leaves g es (if b then x else (lost_all g es).0) (if b then torn else (lost_all g es).1)
    left_of g true test = subst (λ (h : FileName). Leaves h es x torn) (same_file-≡ f g test) left
    left_of g false test = (lost_all g es).2

    abbrev with_file : Image
    with_file = record {
      is_made = λ g. is_there g es;
      bytes = λ g. if same_file f g then x else (lost_all g es).0;
      told = marks es;
      torn = λ g. if same_file f g then torn else (lost_all g es).1;
    }

    is_image : IsImage es with_file
    is_image = record { made = λ g. refl; left = λ g. left_of g (same_file f g) refl; told = refl }

    one_file : x ≡ reads f es
    one_file = sym (cond-true (same_file f f) x (lost_all f es).0 (same_file-itself f)) ∙ none with_file is_image f

  -- and so it is at the end
  settled_created : HasNonePending es → HasNonePending m
  settled_created none image is Log = (log.leaves (image.bytes Log) (image.torn Log) (is.left Log)).0 ∙ sym log.reads_as
  settled_created none image is Double = (double.leaves (image.bytes Double) (image.torn Double) (is.left Double)).0 ∙ sym double.reads_as
  settled_created none image is (Space id) = by (found_or id spaces m (spaces_at_header header spaces es differ))
    where
      by : ((file : List ℕ) × IsSettledAs (Space id) file m) ⊎ HasNotId id spaces → image.bytes (Space id) ≡ reads (Space id) m
      by (inl (file, was)) = (was.leaves (image.bytes (Space id)) (image.torn (Space id)) (is.left (Space id))).0 ∙ sym was.reads_as
      by (inr apart) =
          let all = other_space_left id apart in
          let same = creation_ends header spaces es in
          let before : Leaves (Space id) es (image.bytes (Space id)) (image.torn (Space id)) =
          leaves_after (Space id) (creation header spaces) es all (image.bytes (Space id)) (image.torn (Space id)) (subst (λ (now : List Event). Leaves (Space id) now (image.bytes (Space id)) (image.torn (Space id))) (sym same) (is.left (Space id))) in
          one_file none (Space id) (image.bytes (Space id)) (image.torn (Space id)) before ∙ sym (reads_after (Space id) (creation header spaces) es all) ∙ ap (λ (now : List Event). reads (Space id) now) same

  pub rests_created : HasNonePending es → (keys : List RingEntry) → IsAtRest (m_header header spaces es) keys (empty spaces) 2
  unfolding empty_recovers
  rests_created none keys = record {
    settled = settled_created none;
    last = 1;
    is_next = refl;
    recovers = empty_recovers header spaces w are (read_image m) log.reads_as double.reads_as (files_read spaces m (spaces_at_header header spaces es differ)) keys;
    empty = refl;
    none_live = λ s p i t has live. no_copy header spaces w are (read_image m) log.reads_as double.reads_as (files_read spaces m (spaces_at_header header spaces es differ)) s p i t live.copy;
    clear = subst (λ (x : List ℕ). IsClear header.blocks x 2) (sym log.reads_as) (made_clear header w 2 (omega arith));
  }
