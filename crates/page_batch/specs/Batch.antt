-- A batch of pages of one space, and the texts of its pages.
use Rattle.std.specs.Prelude.{◌≡◌, ◌≢◌, ◌↔◌, ◌⊎◌, ℕ, ◌<◌, ◌≤◌, nat_eq, if◌then◌else◌, List, [], ◌∷◌, length, Option, None, IsSome}
use Rattle.byte_list.specs.Fields.{be16_at}
use Rattle.page_places.specs.Texts.{page_bytes, page_type_at}
use Rattle.page_text.specs.Text.{Plain, IsText, plain_of}
use Rattle.page_text.specs.declared.key.PageKey.{PageKey}

-- a page as it was copied: its number, the LSN of its last change, and its plain page
pub record CopiedPage : Type 0 where
  pub page : ℕ
  pub lsn : ℕ
  pub plain : Plain

-- its space, the version and the local key that its pages are sealed under, none for version 0, its pages in order, and how many it has room for
pub record BatchState : Type 0 where
  pub space : ℕ
  pub version : ℕ
  pub key : Option PageKey
  pub pages : List CopiedPage
  pub room : ℕ

-- a page together with its text
pub record TextOfPage : Type 0 where
  pub copied : CopiedPage
  pub text : List ℕ

-- a batch with the texts of its pages
pub record SealedState : Type 0 where
  pub space : ℕ
  pub version : ℕ
  pub key : Option PageKey
  pub pages : List TextOfPage

-- page 0 has type 8, and no other page has type 8 or 9
abbrev pub HasPageType : ℕ → ℕ → Type 0
HasPageType page kind = ((page ≡ 0) × (kind ≡ 8)) ⊎ ((page ≢ 0) × (kind ≢ 8) × (kind ≢ 9))

-- page 0 is sealed in clear
abbrev pub sealed_version : ℕ → ℕ → ℕ
sealed_version page version = if nat_eq page 0 then 0 else version

abbrev pub sealed_key : ℕ → Option PageKey → Option PageKey
sealed_key page key = if nat_eq page 0 then None else key

-- the text is that of the page in this space, under this version and key
abbrev pub IsTextOfPage : ℕ → ℕ → Option PageKey → TextOfPage → Type 0
IsTextOfPage space version key p =
    IsText page_bytes space p.copied.page p.copied.lsn (sealed_version p.copied.page version) (sealed_key p.copied.page key) p.copied.plain p.text

-- each page of the one list is in the other with its text
abbrev pub AreTextsOfPages : ℕ → ℕ → Option PageKey → List CopiedPage → List TextOfPage → Type 0
AreTextsOfPages space version key [] [] = Unit {0}
AreTextsOfPages space version key [] (t ∷ ts) = ⊥
AreTextsOfPages space version key (c ∷ cs) [] = ⊥
AreTextsOfPages space version key (c ∷ cs) (t ∷ ts) = (t.copied ≡ c) × IsTextOfPage space version key t × AreTextsOfPages space version key cs ts

-- What the type of a copied page keeps: a whole page of a type that its number may have, and a copy of it.
pub record IsCopiedPage (page : ℕ) (bytes copy : List ℕ) : Type 0 where
  pub long : length bytes ≡ page_bytes
  pub copied : copy ≡ bytes
  pub typed : HasPageType page (be16_at bytes page_type_at)

-- What that of a batch keeps: a key is there exactly where the version isn't 0, and there is room.
pub record IsPageBatch (b : BatchState) (sealed texts : ℕ) : Type 0 where
  pub keyed : IsSome b.key ↔ (b.version ≢ 0)
  pub within : length b.pages ≤ b.room
  pub sealed_room : b.room ≤ sealed
  pub text_room : b.room ≤ texts
