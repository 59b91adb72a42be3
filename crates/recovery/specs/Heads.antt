-- What page 0 of a space is to say, and what it says of its space.
use Rattle.std.specs.Prelude.{◌≡◌, ℕ, ◌+◌, ◌*◌, ◌≤◌, Bool, true, false, MatchBool, nat_eq, List, [], ◌∷◌, slice_index_or, Some}
use Rattle.byte_list.specs.Bytes.{range}
use Rattle.byte_list.specs.Fields.{be16_at, be32_at}
use Rattle.disk_model.specs.Event.{Event}
use Rattle.disk_model.specs.Past.{Past, At}
use Rattle.disk_model.specs.declared.names.FileName.TheVariants.{Space}
use Rattle.doublewrite.specs.declared.refuse.OpenRefuse.{OpenRefuse}
use Rattle.doublewrite.specs.declared.refuse.OpenRefuse.TheVariants.{Mixed, DiskFault, OutOfMemory}
use Rattle.page_places.specs.Texts.{page_type_at, page_version_at}
use Rattle.space_head.specs.Head.{head_flags_at, head_pages_at, head_space_at}
use Rattle.space_head.specs.Record.{record_key_at, record_length_at, record_minimum_at, record_mode_at, record_salt_at, record_type_at, salt_size}
use Rattle.space_head.specs.declared.space.SpaceInfo.{SpaceInfo}
use Rattle.store_image.specs.View.{Text, IsChosen}
use Rattle.store_files.specs.Header.{HeldSpace}
use Rattle.store_files.specs.Pages.{record_at}
use Rattle.recovery.specs.Notes.{disk_view}
use Rattle.recovery.specs.Walks.{AllHave, FirstHas, PairsHave}
use Rattle.recovery.specs.declared.heads.HeadField.{HeadField}
use Rattle.recovery.specs.declared.heads.Width.{Width}
use Rattle.recovery.specs.declared.heads.Width.TheVariants.{One, Two, Four, Six}

-- the number in so many bytes from a place on, the highest first
abbrev pub number_at : Width → ℕ → List ℕ → ℕ
number_at One at text = slice_index_or text at 0
number_at Two at text = be16_at text at
number_at Four at text = be32_at text at
number_at Six at text = be32_at text at * 65536 + be16_at text (at + 4)

abbrev pub found_in : HeadField → List ℕ → ℕ
found_in field text = number_at field.width field.at text

-- the number of the field is the wanted one, or at most that
abbrev pub IsRight : HeadField → List ℕ → Type 0
IsRight field text = MatchBool field.is_most (found_in field text ≤ field.wanted) (found_in field text ≡ field.wanted)

-- the number at this place is this one
abbrev pub exactly : ℕ → Width → ℕ → HeadField
exactly at width wanted = record { at = at; width = width; wanted = wanted; is_most = false }

-- or at most this one
abbrev pub at_most : ℕ → Width → ℕ → HeadField
at_most at width wanted = record { at = at; width = width; wanted = wanted; is_most = true }

-- the fields of page 0, in the order in which they are looked at: the key version, the page type, the space's id and size, the flags, and of the crypt record the magic, the type, the length of the salt, the id of the key and the mode
abbrev pub head_fields : HeldSpace → List HeadField
head_fields h =
    exactly page_version_at Four 0 ∷ exactly page_type_at Two 8 ∷ exactly head_space_at Four h.space ∷ exactly head_pages_at Four h.pages ∷ exactly head_flags_at Four 21
    ∷ exactly record_at Six 0x730E0C524574 ∷ at_most (record_at + record_type_at) One 1 ∷ exactly (record_at + record_length_at) One salt_size ∷ exactly (record_at + record_key_at) Four h.key_id ∷ at_most (record_at + record_mode_at) One 2 ∷ []

abbrev pub AreRight : List HeadField → List ℕ → Type 0
AreRight fields text = AllHave (λ f. IsRight f text) fields

-- this field isn't right
pub record IsWrong (field : HeadField) (text : List ℕ) (f : HeadField) : Type 0 where
  pub is : field ≡ f
  pub wrong : IsRight f text → ⊥

-- and is the first that isn't
abbrev pub IsFirstWrong : List HeadField → HeadField → List ℕ → Type 0
IsFirstWrong fields field text = FirstHas (λ f. IsRight f text) (IsWrong field text) fields

-- what page 0 says of a space, of which its header says the rest
abbrev pub info_in : HeldSpace → List ℕ → SpaceInfo
info_in h text = record { space = h.space; pages = h.pages; key_id = h.key_id; salt = range (record_at + record_salt_at) salt_size text; ciphered = nat_eq (slice_index_or text (record_at + record_type_at) 0) 1; floor = be32_at text (record_at + record_minimum_at) }

-- a field isn't right, and this is the first
abbrev pub IsFieldRefusal : HeldSpace → List ℕ → OpenRefuse → Type 0
IsFieldRefusal h text (Mixed file at wanted found) = (file ≡ Space h.space) × (field : HeadField) × IsFirstWrong (head_fields h) field text × (at ≡ field.at) × (wanted ≡ field.wanted) × (found ≡ found_in field text)
IsFieldRefusal h text r = ⊥

-- the chosen text of page 0 says this of its space
pub record IsHeadInfo (h : HeldSpace) (info : SpaceInfo) (es : List Event) : Type 0 where
  pub text : Text
  pub chosen : IsChosen (disk_view es) h.space 0 (Some text)
  pub right : AreRight (head_fields h) text.bytes
  pub info_is : info ≡ info_in h text.bytes

-- of each space
abbrev pub HaveHeads : List HeldSpace → List SpaceInfo → List Event → Type 0
HaveHeads spaces infos es = PairsHave (λ h info. IsHeadInfo h info es) spaces infos

-- a space of its header's id, pages and key id
pub record IsInfoFor (h : HeldSpace) (info : SpaceInfo) : Type 0 where
  pub space : info.space ≡ h.space
  pub pages : info.pages ≡ h.pages
  pub key_id : info.key_id ≡ h.key_id

abbrev pub AreInfosFor : List HeldSpace → List SpaceInfo → Type 0
AreInfosFor spaces infos = PairsHave IsInfoFor spaces infos

-- page 0 says something else
pub record HasWrongHead (h : HeldSpace) (why : OpenRefuse) (es : List Event) : Type 0 where
  pub text : Text
  pub chosen : IsChosen (disk_view es) h.space 0 (Some text)
  pub wrong : IsFieldRefusal h text.bytes why

-- a space whose page 0 is right
abbrev pub HasHeadInfo : List Event → HeldSpace → Type 0
HasHeadInfo es h = (info : SpaceInfo) × IsHeadInfo h info es

-- the first space of which page 0 says something else
abbrev pub HaveWrongHead : List HeldSpace → OpenRefuse → List Event → Type 0
HaveWrongHead spaces why es = FirstHas (HasHeadInfo es) (λ h. HasWrongHead h why es) spaces

-- a refusal by page 0 of a space, for whichever reason P, or by the disk
abbrev pub IsByHead : (OpenRefuse → List Event → Type 0) → Past → OpenRefuse → Type 0
IsByHead P past (Mixed file at wanted found) = At (P (Mixed file at wanted found)) past
IsByHead P past DiskFault = Unit {0}
IsByHead P past OutOfMemory = Unit {0}
IsByHead P past r = ⊥
