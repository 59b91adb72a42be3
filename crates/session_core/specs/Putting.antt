-- Which texts of a sealed batch are written to their homes, and what is left of the pool and of what is known of homes.
use Rattle.std.specs.Prelude.{◌≡◌, ℕ, ◌*◌, ◌<◌, Bool, true, false, nat_eq, nat_lt, ◌&&◌, ◌||◌, if◌then◌else◌, List, [], ◌∷◌, length, map, slice_index_or}
use Rattle.std.specs.Str.{bytes_eq}
use Rattle.byte_list.specs.Fields.{be64_at}
use Rattle.doublewrite.specs.Text.{page_number_of}
use Rattle.page_batch.specs.Batch.{CopiedPage, TextOfPage, sealed_version}
use Rattle.page_places.specs.Texts.{page_lsn_at}
use Rattle.page_pool.specs.Changes.{cleaned, is_dirty_at}
use Rattle.page_pool.specs.Pages.{PoolState, held_page}
use Rattle.page_pool.specs.declared.names.DirtyPage.{DirtyPage}
use Rattle.page_text.specs.Text.{Plain}
use Rattle.space_head.specs.declared.space.Home.TheVariants.{Clean}
use Rattle.store_form.specs.Rest.{home_told}
use Rattle.store_image.specs.View.{block_bytes}
use Rattle.store_model.specs.Fold.{used}
use Rattle.store_model.specs.declared.contents.PlainPage.{PlainPage}
use Rattle.session_core.specs.Dirty.{name_of_page}
use Rattle.session_core.specs.SpaceChanges.{with_home}
use Rattle.session_core.specs.Spaces.{StoreSpaces}

-- ---- which of them

-- two pages with the same type and body
abbrev pub is_same_page : PlainPage → Plain → Bool
is_same_page page plain = nat_eq page.kind plain.kind && bytes_eq page.body plain.bytes

-- the page is dirty at the LSN of the copy, and what is held of it is what was copied
abbrev pub is_current : PoolState → ℕ → CopiedPage → Bool
is_current pool s c = is_dirty_at (name_of_page s c.page) c.lsn pool.dirty.entries && is_same_page (used (held_page (name_of_page s c.page) pool)) c.plain

-- those of a batch of which that holds, in order
abbrev pub current_pages : PoolState → ℕ → List TextOfPage → List TextOfPage
current_pages pool s [] = []
current_pages pool s (p ∷ ps) = if is_current pool s p.copied then p ∷ current_pages pool s ps else current_pages pool s ps

-- their texts
abbrev pub texts_in : List TextOfPage → List (List ℕ)
texts_in pages = map (λ (p : TextOfPage). p.text) pages

-- ---- what a text says of its page in clear

abbrev pub lsn_of : List ℕ → ℕ
lsn_of text = be64_at text page_lsn_at

-- the page of a text is dirty at its LSN, and a home that reads as the text is clean: under this version, or in clear for page 0
pub record IsDirtyText (pool : PoolState) (s version : ℕ) (text : List ℕ) : Type 0 where
  pub dirty : is_dirty_at (name_of_page s (page_number_of text)) (lsn_of text) pool.dirty.entries ≡ true
  pub home : home_told text ≡ Clean (sealed_version (page_number_of text) version)

-- one of the texts has changes of blocks of the log behind this one
abbrev pub need_log : ℕ → List (List ℕ) → Bool
need_log number [] = false
need_log number (t ∷ ts) = nat_lt (number * block_bytes) (lsn_of t) || need_log number ts

-- ---- what is left

-- the pool with the page of each text clean, one after the other
abbrev pub cleaned_all : ℕ → List (List ℕ) → PoolState → PoolState
cleaned_all s [] pool = pool
cleaned_all s (t ∷ ts) pool = cleaned_all s ts (cleaned (name_of_page s (page_number_of t)) (lsn_of t) pool)

-- one of the texts is of the page of this number
abbrev pub name_number : ℕ → List (List ℕ) → Bool
name_number p [] = false
name_number p (t ∷ ts) = nat_eq (page_number_of t) p || name_number p ts

-- each text is of a page that is dirty at its LSN, and is of another page than those behind it
abbrev pub AreOfDirty : ℕ → List (List ℕ) → List DirtyPage → Type 0
AreOfDirty s [] ds = Unit {0}
AreOfDirty s (t ∷ ts) ds = (is_dirty_at (name_of_page s (page_number_of t)) (lsn_of t) ds ≡ true) × (name_number (page_number_of t) ts ≡ false) × AreOfDirty s ts ds

-- and what is known of homes: each of these pages is clean there, page 0 in clear and each other one under this version
abbrev pub homes_after_put : ℕ → ℕ → List (List ℕ) → StoreSpaces → StoreSpaces
homes_after_put s version [] store = store
homes_after_put s version (t ∷ ts) store = homes_after_put s version ts (record store { homes = with_home store.spaces store.homes s (page_number_of t) (Clean (sealed_version (page_number_of t) version)) })

-- the pages of the texts are pages of a space of so many
abbrev pub NameWithin : List (List ℕ) → ℕ → Type 0
NameWithin texts count = (i : ℕ) → i < length texts → page_number_of (slice_index_or texts i []) < count
