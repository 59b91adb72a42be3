-- The plain page of which bytes are the text, or that they are the text of none.
use Rattle.std.specs.Prelude.{◌≡◌, ℕ, List, Option, Some, None}
use Rattle.key_ring.specs.Ring.{RingEntry}
use Rattle.byte_list.specs.Bytes.{zeros}
use Rattle.byte_list.specs.Fields.{be32_at, be64_at}
use Rattle.page_text.specs.Parts.{body}
use Rattle.page_text.specs.Text.{Plain, IsText}
use Rattle.page_text.specs.declared.key.PageKey.{PageKey}
use Rattle.space_head.specs.Head.{with_head}
use Rattle.space_head.specs.declared.space.SpaceInfo.{SpaceInfo}
use Rattle.store_model.specs.declared.contents.PlainPage.{PlainPage}
use Rattle.page_places.specs.Texts.{text_in, page_bytes, page_lsn_at, page_version_at}
use Rattle.store_files.specs.Header.{HeldHeader}
use Rattle.store_files.specs.Pages.{Page, Used, IsTypedInfo, MeansPage, head_of_space, head_page}

-- under a key
abbrev pub IsPlainOf : ℕ → ℕ → Option PageKey → List ℕ → Option PlainPage → Type 0
IsPlainOf s p key text (Some page) = IsText page_bytes s p (be64_at text page_lsn_at) (be32_at text page_version_at) key (record { kind = page.kind; bytes = page.body }) text
IsPlainOf s p key text None = (plain : Plain) → IsText page_bytes s p (be64_at text page_lsn_at) (be32_at text page_version_at) key plain text → ⊥

-- of a page from page 1 on, under the keys of a store in which the space has this salt
abbrev pub IsUsedPage : HeldHeader → List RingEntry → ℕ → ℕ → List ℕ → List ℕ → Option PlainPage → Type 0
IsUsedPage header keys s p salt text (Some page) = (salts : ℕ → List ℕ) → salts s ≡ salt → MeansPage header keys salts s p (text_in text) (Used page)
IsUsedPage header keys s p salt text None = (salts : ℕ → List ℕ) → salts s ≡ salt → (x : Page) → MeansPage header keys salts s p (text_in text) x → ⊥

-- the body of the page 0 of a space, or of none
abbrev pub IsHeadPage : List ℕ → Option SpaceInfo → Type 0
IsHeadPage bytes (Some info) = IsTypedInfo info × (bytes ≡ body (with_head (head_of_space info) (zeros page_bytes)))
IsHeadPage bytes None = (info : SpaceInfo) → IsTypedInfo info → bytes ≡ body (with_head (head_of_space info) (zeros page_bytes)) → ⊥

-- the text is that of the page 0 of a space of this id
pub record IsHeadOf (s : ℕ) (text : List ℕ) (info : SpaceInfo) : Type 0 where
  pub space : info.space ≡ s
  pub typed : IsTypedInfo info
  pub is_text : IsText page_bytes s 0 (be64_at text page_lsn_at) (be32_at text page_version_at) None (head_page info) text

-- or of none
abbrev pub IsHeadText : ℕ → List ℕ → Option SpaceInfo → Type 0
IsHeadText s text (Some info) = IsHeadOf s text info
IsHeadText s text None = (info : SpaceInfo) → IsHeadOf s text info → ⊥
