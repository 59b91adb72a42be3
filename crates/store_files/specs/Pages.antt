-- What the pages of a store hold, what a mini-transaction does to one page, and which bytes are the text of a page under the keys.
use Rattle.std.specs.Prelude.{◌≡◌, ◌≢◌, ℕ, zero, suc, ◌+◌, ◌^◌, ◌<◌, Bool, true, false, nat_eq, nat_lt, ◌&&◌, ◌||◌, if◌then◌else◌, List, [], ◌∷◌, length, slice_index_or, Option, Some, None, IfSome}
use Rattle.std.specs.Option.{option_map}
use Rattle.aes_core.specs.Cipher.{AreBytes}
use Rattle.byte_list.specs.Bytes.{zeros}
use Rattle.key_ring.specs.Ring.{RingEntry}
use Rattle.key_ring.specs.Local.{local_key}
use Rattle.page_text.specs.Text.{Plain, IsText}
use Rattle.page_text.specs.Parts.{body}
use Rattle.page_text.specs.declared.key.PageKey.{PageKey}
use Rattle.space_head.specs.Head.{with_head}
use Rattle.space_head.specs.Record.{salt_size}
use Rattle.space_head.specs.declared.head.SpaceHead.{SpaceHead}
use Rattle.store_image.specs.View.{Text}
use Rattle.store_model.specs.Fold.{used, plain_changed, floor_set, made_ciphered}
use Rattle.redo_text.specs.declared.change.Change.{Change}
use Rattle.redo_text.specs.declared.change.Change.TheVariants.{Put, Kind, Touch, Floor, Encrypt}
use Rattle.store_model.specs.declared.contents.PlainPage.{PlainPage}
use Rattle.space_head.specs.declared.space.SpaceInfo.{SpaceInfo}
use Rattle.store_model.specs.declared.contents.SpaceContents.{SpaceContents}
use Rattle.store_files.specs.Header.{HeldHeader, HeldSpace}
use Rattle.page_places.specs.Texts.{page_bytes}

-- what a page holds: page 0 the head of its space, any other page nothing yet, or a plain page
pub data Page : Type 0 where
  Head : SpaceInfo → Page
  Unused : Page
  Used : PlainPage → Page

-- ---- what a mini-transaction does to a page

-- the change names this page; a change of a space itself names page 0
abbrev pub change_names : Change → ℕ → ℕ → Bool
change_names (Put s page at bytes) space p = nat_eq s space && nat_eq page p
change_names (Kind s page kind) space p = nat_eq s space && nat_eq page p
change_names (Touch s page) space p = nat_eq s space && nat_eq page p
change_names (Floor s version) space p = nat_eq s space && nat_eq 0 p
change_names (Encrypt s) space p = nat_eq s space && nat_eq 0 p

-- the mini-transaction names this page
abbrev pub mtr_names : List Change → ℕ → ℕ → Bool
mtr_names [] space p = false
mtr_names (c ∷ cs) space p = change_names c space p || mtr_names cs space p

-- the plain page that a change finds
abbrev pub plain_in : Page → PlainPage
plain_in (Head info) = used None
plain_in Unused = used None
plain_in (Used page) = used (Some page)

-- a page as a change of it leaves it
abbrev pub page_after : Change → Page → Page
page_after (Floor s version) (Head info) = Head (floor_set version info)
page_after (Encrypt s) (Head info) = Head (made_ciphered info)
page_after (Put s page at bytes) (Head info) = Head info
page_after (Kind s page kind) (Head info) = Head info
page_after (Touch s page) (Head info) = Head info
page_after (Put s page at bytes) x = Used (plain_changed (Put s page at bytes) (plain_in x))
page_after (Kind s page kind) x = Used (plain_changed (Kind s page kind) (plain_in x))
page_after (Touch s page) x = Used (plain_changed (Touch s page) (plain_in x))
page_after (Floor s version) x = Used (plain_changed (Floor s version) (plain_in x))
page_after (Encrypt s) x = Used (plain_changed (Encrypt s) (plain_in x))

-- the page after the changes of a mini-transaction that name it, in order
abbrev pub mtr_acts : List Change → ℕ → ℕ → Page → Page
mtr_acts [] space p x = x
mtr_acts (c ∷ cs) space p x = mtr_acts cs space p (if change_names c space p then page_after c x else x)

-- any page but an unused one
abbrev pub is_used : Page → Bool
is_used (Head info) = true
is_used Unused = false
is_used (Used page) = true

-- the least key version that the head of a space allows
abbrev pub floor_of : Page → ℕ
floor_of (Head info) = info.floor
floor_of Unused = 0
floor_of (Used page) = 0

-- the head of a space says that it is ciphered
abbrev pub is_ciphered : Page → Bool
is_ciphered (Head info) = info.ciphered
is_ciphered Unused = false
is_ciphered (Used page) = false

-- ---- the pages of contents

-- a page from page 1 on
abbrev pub page_held : Option PlainPage → Page
page_held None = Unused
page_held (Some page) = Used page

-- page p of a space
abbrev pub page_in : SpaceContents → ℕ → Page
page_in space zero = Head space.info
page_in space (suc i) = page_held (slice_index_or space.pages i None)

-- the contents, page by page
abbrev pub pages_of : List SpaceContents → ℕ → ℕ → Page
pages_of [] s p = Unused
pages_of (x ∷ xs) s p = if nat_eq x.info.space s then page_in x p else pages_of xs s p

-- the salts of the spaces
abbrev pub salts_of : List SpaceContents → ℕ → List ℕ
salts_of [] s = []
salts_of (x ∷ xs) s = if nat_eq x.info.space s then x.info.salt else salts_of xs s

-- ---- the spaces of a header

-- the store has this page
abbrev pub has_page : List HeldSpace → ℕ → ℕ → Bool
has_page [] s p = false
has_page (x ∷ xs) s p = if nat_eq x.space s then nat_lt p x.pages else has_page xs s p

-- the id of the key of a space
abbrev pub key_id_of : List HeldSpace → ℕ → ℕ
key_id_of [] s = 0
key_id_of (x ∷ xs) s = if nat_eq x.space s then x.key_id else key_id_of xs s

-- the contents have the header's spaces, with their ids, pages and key ids
abbrev pub HaveSpaces : List HeldSpace → List SpaceContents → Type 0
HaveSpaces [] [] = Unit {0}
HaveSpaces [] (x ∷ xs) = ⊥
HaveSpaces (h ∷ hs) [] = ⊥
HaveSpaces (h ∷ hs) (x ∷ xs) = (x.info.space ≡ h.space) × (x.info.pages ≡ h.pages) × (x.info.key_id ≡ h.key_id) × (length x.pages + 1 ≡ h.pages) × HaveSpaces hs xs

-- ---- texts

-- what page 0 says of its space; a ciphered space has mode 1 (on), a plain one mode 2 (off)
abbrev pub head_of_space : SpaceInfo → SpaceHead
head_of_space info = record {
  space = info.space;
  pages = info.pages;
  flags = 21;
  crypt = Some (record { ciphered = info.ciphered; salt = info.salt; minimum = info.floor; key_id = info.key_id; mode = if info.ciphered then 1 else 2 });
}

-- where the crypt record of a page 0 stands, which is that place of space_head in pages of this size
abbrev pub record_at : ℕ
record_at = 10428

-- the plain page 0 of a space: type 8, the head, and zero bytes elsewhere
abbrev pub head_page : SpaceInfo → Plain
head_page info = record { kind = 8; bytes = body (with_head (head_of_space info) (zeros page_bytes)) }

-- a space whose numbers have their widths
pub record IsTypedInfo (info : SpaceInfo) : Type 0 where
  pub space_fits : info.space < 2 ^ 32
  pub pages_fit : info.pages < 2 ^ 32
  pub key_id_fits : info.key_id < 2 ^ 32
  pub floor_fits : info.floor < 2 ^ 32
  pub salt_long : length info.salt ≡ salt_size

-- a key that is there has 16 bytes
pub record HasKeyBytes (key : PageKey) : Type 0 where
  pub long : length key.local ≡ 16
  pub bytes : AreBytes key.local

module _ (header : HeldHeader) (keys : List RingEntry) (salts : ℕ → List ℕ) where
  -- the key of a space's pages at a version
  abbrev pub key_at : ℕ → ℕ → Option PageKey
  key_at s version = option_map (λ local. record { local = local; algorithm = header.algorithm }) (local_key keys (key_id_of header.spaces s) version (salts s))

  -- The text is that of page p of space s, holding this: page 0 in clear, any other page under the key of its version.
  abbrev pub MeansPage : ℕ → ℕ → Text → Page → Type 0
  MeansPage s p t (Head info) = (p ≡ 0) × (info.space ≡ s) × IsTypedInfo info × IsText page_bytes s 0 t.lsn t.version None (head_page info) t.bytes
  MeansPage s p t Unused = ⊥
  MeansPage s p t (Used page) = (p ≢ 0) × IfSome (key_at s t.version) HasKeyBytes × IsText page_bytes s p t.lsn t.version (key_at s t.version) (record { kind = page.kind; bytes = page.body }) t.bytes
