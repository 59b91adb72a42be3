-- What is told of a store at rest: what its header, its spaces and the homes of their pages say, and what its disk then reads as.
use Rattle.std.specs.Prelude.{◌≡◌, ◌≢◌, ℕ, ◌+◌, ◌*◌, ◌<◌, ◌≤◌, ◌^◌, true, not, nat_eq, if◌then◌else◌, List, [], ◌∷◌, length, slice_index_or, refl, Some, Ok}
use Rattle.std.specs.Coded.{Coded, code_by, coded×, coded_ℕ, coded_list}
use Rattle.std.specs.List.{All, prefix_len}
use Rattle.aes_core.specs.declared.algorithm.Algorithm.{Algorithm}
use Rattle.byte_list.specs.Fields.{be32_at}
use Rattle.disk_model.specs.Event.{Event, is_there, reads}
use Rattle.disk_model.specs.Past.{Past, At}
use Rattle.disk_model.specs.declared.names.FileName.TheVariants.{Log, Double, Space}
use Rattle.places.specs.Places.{place}
use Rattle.page_places.specs.Texts.{page_bytes, are_zero, slot_size}
use Rattle.space_head.specs.Head.{head_of}
use Rattle.space_head.specs.declared.head.SpaceHead.{SpaceHead}
use Rattle.space_head.specs.declared.space.SpaceInfo.{SpaceInfo}
use Rattle.space_head.specs.declared.space.Home.{Home}
use Rattle.space_head.specs.declared.space.Home.TheVariants.{Unused, Clean, Dirty}
use Rattle.store_files.specs.Header.{HeldHeader, HeldSpace, header_in, are_allowed, most_spaces}
use Rattle.store_files.specs.Checkpoint.{IsNewestCheckpoint}
use Rattle.store_image.specs.Checkpoint.{front_blocks}
use Rattle.store_image.specs.View.{block_bytes, slot_count}
use Rattle.store_form.specs.declared.header.Header.{Header}

-- no page that was changed since it was written
abbrev pub AreNoneDirty : List Home → Type 0
AreNoneDirty homes = All (λ home. home ≢ Dirty) homes

-- for each space of the header one space of its id, pages and key id, and one list of a home for each page
abbrev pub HaveHomes : List HeldSpace → List SpaceInfo → List (List Home) → Type 0
HaveHomes [] [] [] = Unit {0}
HaveHomes [] [] (o ∷ os) = ⊥
HaveHomes [] (s ∷ ss) os = ⊥
HaveHomes (h ∷ hs) [] os = ⊥
HaveHomes (h ∷ hs) (s ∷ ss) [] = ⊥
HaveHomes (h ∷ hs) (s ∷ ss) (o ∷ os) = (s.space ≡ h.space) × (s.pages ≡ h.pages) × (s.key_id ≡ h.key_id) × (length o ≡ h.pages) × AreNoneDirty o × HaveHomes hs ss os

-- what a store at rest may be told to be
pub record IsRestForm (header : HeldHeader) (spaces : List SpaceInfo) (homes : List (List Home)) (next sequence : ℕ) : Type 0 where
  pub allowed : are_allowed header ≡ true
  pub have : HaveHomes header.spaces spaces homes
  pub least : 2 ≤ next
  pub most : next ≤ 2 ^ 50
  pub some : 1 ≤ sequence
  pub below : sequence < next

-- what the bytes of a home tell of its page: zero bytes are an unused page, and else the key version stands in clear
abbrev pub home_told : List ℕ → Home
home_told bytes = if are_zero bytes then Unused else Clean (be32_at bytes 0)

-- what page 0 says of a space, where its record has this mode
abbrev pub head_in_mode : ℕ → SpaceInfo → SpaceHead
head_in_mode mode info = record {
  space = info.space;
  pages = info.pages;
  flags = 21;
  crypt = Some (record { ciphered = info.ciphered; salt = info.salt; minimum = info.floor; key_id = info.key_id; mode = mode });
}

-- the file of a space is there and has its pages, page 0 says what is told of it, and each home tells what is told
pub record SpaceReads (info : SpaceInfo) (homes : List Home) (es : List Event) : Type 0 where
  pub there : is_there (Space info.space) es ≡ true
  pub long : length (reads (Space info.space) es) ≡ info.pages * page_bytes
  pub head : (mode : ℕ) × (head_of (place page_bytes 0 (reads (Space info.space) es)) ≡ Ok (head_in_mode mode info))
  pub told : (p : ℕ) → p < info.pages → slice_index_or homes p Unused ≡ home_told (place page_bytes p (reads (Space info.space) es))

abbrev pub SpacesRead : List SpaceInfo → List (List Home) → List Event → Type 0
SpacesRead [] os es = Unit {0}
SpacesRead (s ∷ ss) [] es = ⊥
SpacesRead (s ∷ ss) (o ∷ os) es = SpaceReads s o es × SpacesRead ss os es

-- the disk reads as the store that is told
pub record ReadsAtRest (header : HeldHeader) (spaces : List SpaceInfo) (homes : List (List Home)) (next sequence : ℕ) (es : List Event) : Type 0 where
  pub is_header : header_in (place block_bytes 0 (reads Log es)) ≡ Some header
  pub log_there : is_there Log es ≡ true
  pub log : length (reads Log es) ≡ (front_blocks + header.blocks) * block_bytes
  pub double_there : is_there Double es ≡ true
  pub double : length (reads Double es) ≡ slot_count * slot_size
  pub checkpoint : IsNewestCheckpoint (reads Log es) (record { sequence = sequence; from = next })
  pub spaces_read : SpacesRead spaces homes es

-- A store at rest as contracts see it: its disk, its header, its spaces in order of id, what is known of each page of them, the number of the log's next block, and the sequence of the newest checkpoint.
pub record StoreAtRest (D : Type 0) : Type 0 where
  pub disk : D
  pub header : HeldHeader
  pub spaces : List SpaceInfo
  pub homes : List (List Home)
  pub next : ℕ
  pub sequence : ℕ

-- codes of these records, which the type of a store at rest is to have
abbrev pub held_space_code : Coded HeldSpace
held_space_code = code_by (ℕ × (ℕ × ℕ)) (coded× coded_ℕ (coded× coded_ℕ coded_ℕ)) (λ s. (s.space, (s.pages, s.key_id))) (λ p. record { space = p.0; pages = p.1.0; key_id = p.1.1 }) (λ _. refl)

abbrev pub held_header_code : Coded Algorithm → Coded HeldHeader
held_header_code algorithm =
    code_by (Algorithm × (ℕ × (List ℕ × List HeldSpace))) (coded× algorithm (coded× coded_ℕ (coded× (coded_list coded_ℕ) (coded_list held_space_code))))
    (λ h. (h.algorithm, (h.blocks, (h.salt, h.spaces)))) (λ p. record { algorithm = p.0; blocks = p.1.0; salt = p.1.1.0; spaces = p.1.1.1 }) (λ _. refl)

abbrev pub store_at_rest_code : {D : Type 0} → Coded D → Coded Algorithm → Coded SpaceInfo → Coded Home → Coded (StoreAtRest D)
store_at_rest_code {D} disk algorithm space home =
    code_by (D × (HeldHeader × (List SpaceInfo × (List (List Home) × (ℕ × ℕ))))) (coded× disk (coded× (held_header_code algorithm) (coded× (coded_list space) (coded× (coded_list (coded_list home)) (coded× coded_ℕ coded_ℕ)))))
    (λ r. (r.disk, (r.header, (r.spaces, (r.homes, (r.next, r.sequence))))))
    (λ p. record { disk = p.0; header = p.1.0; spaces = p.1.1.0; homes = p.1.1.1.0; next = p.1.1.1.1.0; sequence = p.1.1.1.1.1 }) (λ _. refl)

-- The type of a store at rest keeps this of the header that it holds and of what it tells: the header is of format 2 and counts no more spaces than it has places for, and what is told fits together, and is what its disk reads as, where that is told.
pub record IsStoreAtRest {D : Type 0} (past : D → Past) (header : Header) (r : StoreAtRest D) : Type 0 where
  pub format : header.format ≡ 2
  pub count : header.count ≤ most_spaces
  pub form : IsRestForm r.header r.spaces r.homes r.next r.sequence
  pub reads : At (ReadsAtRest r.header r.spaces r.homes r.next r.sequence) (past r.disk)

-- the same store over a disk
abbrev pub with_disk : {D : Type 0} → StoreAtRest D → D → StoreAtRest D
with_disk r disk = record { disk = disk; header = r.header; spaces = r.spaces; homes = r.homes; next = r.next; sequence = r.sequence }

-- the place of a space: how many stand before the first one of its id
abbrev pub place_in : List SpaceInfo → ℕ → ℕ
place_in spaces s = prefix_len (λ x. not (nat_eq x.space s)) spaces

-- the salt of a space
abbrev pub salt_in : List SpaceInfo → ℕ → List ℕ
salt_in [] s = []
salt_in (x ∷ xs) s = if nat_eq x.space s then x.salt else salt_in xs s

-- what is known of the pages of a space
abbrev pub homes_of : List SpaceInfo → List (List Home) → ℕ → List Home
homes_of [] os s = []
homes_of (x ∷ xs) [] s = []
homes_of (x ∷ xs) (o ∷ os) s = if nat_eq x.space s then o else homes_of xs os s
