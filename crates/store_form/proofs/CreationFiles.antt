-- What the files of a store are, step by step, while it is created.
use Rattle.std.proofs.Common.{◌≡◌, ℕ, ◌+◌, ◌*◌, ◌<◌, ◌≤◌, Bool, true, false, nat_eq, List, [], ◌∷◌, ◌++◌, length, refl, sym, ap, ◌∙◌, subst, arith}
use Rattle.std.proofs.lemmas.Bool.Decides.{nat_tests}
use Rattle.byte_list.specs.Bytes.{put, zeros}
use Rattle.disk_model.specs.Does.{AllAre}
use Rattle.disk_model.specs.Event.{Event, Make, Write, Sync}
use Rattle.disk_model.specs.Image.{Image, Leaves}
use Rattle.disk_model.specs.declared.names.FileName.TheVariants.{Log, Double, Space}
use Rattle.page_places.specs.Texts.{page_bytes}
use Rattle.places.specs.Beside.{LeavesFile}
use Rattle.redo_log.specs.Check.{check_bytes}
use Rattle.redo_log.specs.Events.{check_event}
use Rattle.space_head.specs.declared.space.SpaceInfo.{SpaceInfo}
use Rattle.store_files.specs.Header.{HeldHeader, HeldSpace, are_in_order, header_bytes}
use Rattle.store_files.proofs.SpacesInOrder.{Ordered, ordered}
use Rattle.store_form.specs.Creation.{check_written, creation, events_after, files_begun, first_pages_written, first_text, header_written, spaces_begun}
use Rattle.store_form.proofs.CreatedFiles.{log_begun, log_made, space_made}
use Rattle.store_form.proofs.CreationSteps.{events_after-append}
use Rattle.store_form.specs.Made.{AreMadeSpaces, DifferInId, HasNotId}
use Rattle.store_form.proofs.EmptyStore.{AreSpaceFiles}
use Rattle.store_form.proofs.SettledFiles.{IsSettledAs, settled_after, settled_beside, settled_make, settled_sync}

-- ---- spaces whose ids differ

not_id : (id low : ℕ) (hs : List HeldSpace) (ss : List SpaceInfo) → id ≤ low → are_in_order low hs ≡ true → AreMadeSpaces hs ss → HasNotId id ss
not_id id low [] [] le order are = tt
not_id id low [] (s ∷ ss) le order are = absurd are
not_id id low (h ∷ hs) [] le order are = absurd are
not_id id low (h ∷ hs) (s ∷ ss) le order are =
    let o = ordered low h hs order in
    let same : s.space ≡ h.space = are.0 in
    let above : low < h.space = o.lower in
    (grind (arith, nat_tests), grind (arith, nat_tests), not_id id h.space hs ss (omega (arith, above, le)) o.rest are.5)

pub differ_in_id : (low : ℕ) (hs : List HeldSpace) (ss : List SpaceInfo) → are_in_order low hs ≡ true → AreMadeSpaces hs ss → DifferInId ss
differ_in_id low [] [] order are = tt
differ_in_id low [] (s ∷ ss) order are = absurd are
differ_in_id low (h ∷ hs) [] order are = absurd are
differ_in_id low (h ∷ hs) (s ∷ ss) order are =
    let o = ordered low h hs order in
    let same : s.space ≡ h.space = are.0 in
    (not_id s.space h.space hs ss (omega (arith, same)) o.rest are.5, differ_in_id h.space hs ss o.rest are.5)

-- ---- which events leave which files

log_spaces : (ss : List SpaceInfo) → AllAre (LeavesFile Log) (spaces_begun ss)
log_spaces [] = tt
log_spaces (s ∷ ss) = (refl, log_spaces ss)

log_pages : (ss : List SpaceInfo) → AllAre (LeavesFile Log) (first_pages_written ss)
log_pages [] = tt
log_pages (s ∷ ss) = (refl, (refl, log_pages ss))

double_spaces : (ss : List SpaceInfo) → AllAre (LeavesFile Double) (spaces_begun ss)
double_spaces [] = tt
double_spaces (s ∷ ss) = (refl, double_spaces ss)

double_pages : (ss : List SpaceInfo) → AllAre (LeavesFile Double) (first_pages_written ss)
double_pages [] = tt
double_pages (s ∷ ss) = (refl, (refl, double_pages ss))

pub space_spaces : (id : ℕ) (ss : List SpaceInfo) → HasNotId id ss → AllAre (LeavesFile (Space id)) (spaces_begun ss)
space_spaces id [] apart = tt
space_spaces id (s ∷ ss) apart = (apart.0, space_spaces id ss apart.2)

pub space_pages : (id : ℕ) (ss : List SpaceInfo) → HasNotId id ss → AllAre (LeavesFile (Space id)) (first_pages_written ss)
space_pages id [] apart = tt
space_pages id (s ∷ ss) apart = (apart.0, (apart.0, space_pages id ss apart.2))

-- ---- the files of all spaces

abbrev pub AreSettled : (SpaceInfo → List ℕ) → List SpaceInfo → List Event → Type 0
AreSettled file [] m = Unit {0}
AreSettled file (s ∷ ss) m = IsSettledAs (Space s.space) (file s) m × AreSettled file ss m

abbrev pub space_zeros : SpaceInfo → List ℕ
space_zeros s = zeros (s.pages * page_bytes)

pub spaces_are_begun : (ss : List SpaceInfo) (m : List Event) → DifferInId ss → AreSettled space_zeros ss (events_after (spaces_begun ss) m)
spaces_are_begun [] m differ = tt
spaces_are_begun (s ∷ ss) m differ = (
  settled_after (Space s.space) (space_zeros s) (spaces_begun ss) (Make (Space s.space) (s.pages * page_bytes) ∷ m) (space_spaces s.space ss differ.0) (settled_make (Space s.space) m (s.pages * page_bytes)),
  spaces_are_begun ss (Make (Space s.space) (s.pages * page_bytes) ∷ m) differ.1,
)

-- those that an event leaves
pub all_beside : (file : SpaceInfo → List ℕ) (ss : List SpaceInfo) (e : Event) (m : List Event) → ((id : ℕ) → LeavesFile (Space id) e) → AreSettled file ss m → AreSettled file ss (e ∷ m)
all_beside file [] e m leaves are = tt
all_beside file (s ∷ ss) e m leaves are = (settled_beside (Space s.space) (file s) m e (leaves s.space) are.0, all_beside file ss e m leaves are.1)

-- the events of another space
others_beside : (file : SpaceInfo → List ℕ) (id : ℕ) (ss : List SpaceInfo) (e : Event) (m : List Event) → ((other : ℕ) → nat_eq other id ≡ false → LeavesFile (Space other) e) → HasNotId id ss → AreSettled file ss m → AreSettled file ss (e ∷ m)
others_beside file id [] e m leaves apart are = tt
others_beside file id (s ∷ ss) e m leaves apart are = (settled_beside (Space s.space) (file s) m e (leaves s.space apart.1) are.0, others_beside file id ss e m leaves apart.2 are.1)

pub pages_behind : (file : SpaceInfo → List ℕ) (s : SpaceInfo) (ss : List SpaceInfo) (m : List Event) (shows : List ℕ) → HasNotId s.space ss → AreSettled file ss m → AreSettled file ss (Sync (Space s.space) ∷ Write (Space s.space) 0 (first_text s) shows ∷ m)
pages_behind file s ss m shows apart are =
    others_beside file s.space ss (Sync (Space s.space)) (Write (Space s.space) 0 (first_text s) shows ∷ m) (λ other apart. apart) apart
    (others_beside file s.space ss (Write (Space s.space) 0 (first_text s) shows) m (λ other apart. apart) apart are)

written_one : (s : SpaceInfo) (m : List Event) → IsSettledAs (Space s.space) (space_zeros s) m → IsSettledAs (Space s.space) (space_made s) (Sync (Space s.space) ∷ Write (Space s.space) 0 (first_text s) (first_text s) ∷ m)
unfolding space_made
written_one s m was = settled_sync (Space s.space) m (space_zeros s) 0 (first_text s) was

pub pages_are_written : (ss : List SpaceInfo) (m : List Event) → DifferInId ss → AreSettled space_zeros ss m → AreSettled space_made ss (events_after (first_pages_written ss) m)
pages_are_written [] m differ are = tt
pages_are_written (s ∷ ss) m differ are = (
  settled_after (Space s.space) (space_made s) (first_pages_written ss) (Sync (Space s.space) ∷ Write (Space s.space) 0 (first_text s) (first_text s) ∷ m) (space_pages s.space ss differ.0) (written_one s m are.0),
  pages_are_written ss (Sync (Space s.space) ∷ Write (Space s.space) 0 (first_text s) (first_text s) ∷ m) differ.1 (pages_behind space_zeros s ss m (first_text s) differ.0 are.1),
)

-- what an image has of them
pub image_spaces : (ss : List SpaceInfo) (m : List Event) (image : Image) → ((id : ℕ) → Leaves (Space id) m (image.bytes (Space id)) (image.torn (Space id))) → AreSettled space_made ss m → AreSpaceFiles image.bytes ss
image_spaces [] m image is are = tt
image_spaces (s ∷ ss) m image is are = ((are.0.leaves (image.bytes (Space s.space)) (image.torn (Space s.space)) (is s.space)).0, image_spaces ss m image is are.1)

-- ---- the moments between the parts

module _ (header : HeldHeader) (spaces : List SpaceInfo) (es : List Event) where
  abbrev pub log_zeros : List ℕ
  log_zeros = zeros ((3 + header.blocks) * 4096)

  -- behind the files, the pages, the checkpoint, and the header
  abbrev pub m_files : List Event
  m_files = events_after (files_begun header spaces) es

  abbrev pub m_pages : List Event
  m_pages = events_after (first_pages_written spaces) m_files

  abbrev pub m_check : List Event
  m_check = events_after check_written m_pages

  abbrev pub m_header : List Event
  m_header = events_after (header_written header) m_check

  pub creation_ends : events_after (creation header spaces) es ≡ m_header
  creation_ends =
      events_after-append (files_begun header spaces) (first_pages_written spaces ++ (check_written ++ header_written header)) es
      ∙ events_after-append (first_pages_written spaces) (check_written ++ header_written header) m_files
      ∙ events_after-append check_written (header_written header) m_pages

  pub log_in_files : AllAre (LeavesFile Log) (Make Double (64 * 16896) ∷ spaces_begun spaces)
  log_in_files = (refl, log_spaces spaces)

  pub log_in_pages : AllAre (LeavesFile Log) (first_pages_written spaces)
  log_in_pages = log_pages spaces

  pub log_first : IsSettledAs Log log_zeros (Make Log ((3 + header.blocks) * 4096) ∷ es)
  log_first = settled_make Log es ((3 + header.blocks) * 4096)

  pub log_files : IsSettledAs Log log_zeros m_files
  log_files = settled_after Log log_zeros (Make Double (64 * 16896) ∷ spaces_begun spaces) (Make Log ((3 + header.blocks) * 4096) ∷ es) log_in_files log_first

  pub log_at_pages : IsSettledAs Log log_zeros m_pages
  log_at_pages = settled_after Log log_zeros (first_pages_written spaces) m_files log_in_pages log_files

  pub log_at_check : IsSettledAs Log (log_begun header.blocks) m_check
  unfolding log_begun
  log_at_check = settled_sync Log m_pages log_zeros 8192 (check_bytes 1 2) log_at_pages

  pub log_at_header : IsSettledAs Log (log_made header) m_header
  unfolding log_made
  log_at_header = settled_sync Log m_check (log_begun header.blocks) 0 (header_bytes header) log_at_check

  double_at_pages : IsSettledAs Double (zeros (64 * 16896)) m_pages
  double_at_pages =
      settled_after Double (zeros (64 * 16896)) (first_pages_written spaces) m_files (double_pages spaces)
      (settled_after Double (zeros (64 * 16896)) (spaces_begun spaces) (Make Double (64 * 16896) ∷ Make Log ((3 + header.blocks) * 4096) ∷ es) (double_spaces spaces) (settled_make Double (Make Log ((3 + header.blocks) * 4096) ∷ es) (64 * 16896)))

  pub double_at_check : IsSettledAs Double (zeros (64 * 16896)) m_check
  double_at_check = settled_after Double (zeros (64 * 16896)) check_written m_pages (refl, (refl, tt)) double_at_pages

  pub double_at_header : IsSettledAs Double (zeros (64 * 16896)) m_header
  double_at_header = settled_after Double (zeros (64 * 16896)) (header_written header) m_check (refl, (refl, tt)) double_at_check

  module _ (differ : DifferInId spaces) where
    pub spaces_at_files : AreSettled space_zeros spaces m_files
    spaces_at_files = spaces_are_begun spaces (Make Double (64 * 16896) ∷ Make Log ((3 + header.blocks) * 4096) ∷ es) differ

    spaces_at_pages : AreSettled space_made spaces m_pages
    spaces_at_pages = pages_are_written spaces m_files differ spaces_at_files

    pub spaces_at_check : AreSettled space_made spaces m_check
    spaces_at_check = all_beside space_made spaces (Sync Log) (check_event 1 2 ∷ m_pages) (λ id. refl) (all_beside space_made spaces (check_event 1 2) m_pages (λ id. refl) spaces_at_pages)

    pub spaces_at_header : AreSettled space_made spaces m_header
    spaces_at_header =
        all_beside space_made spaces (Sync Log) (Write Log 0 (header_bytes header) (header_bytes header) ∷ m_check) (λ id. refl)
        (all_beside space_made spaces (Write Log 0 (header_bytes header) (header_bytes header)) m_check (λ id. refl) spaces_at_check)
