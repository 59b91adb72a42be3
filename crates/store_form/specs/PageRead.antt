-- What reading a page of a store at rest tells, by the bytes of its home.
use Rattle.std.specs.Prelude.{◌≡◌, ◌≢◌, ℕ, false, MatchBool, List, Option, None, IsSome, Result, Ok, Err}
use Rattle.byte_list.specs.Fields.{be32_at, be64_at}
use Rattle.disk_model.specs.Past.{Past, At}
use Rattle.disk_model.specs.declared.names.FileName.TheVariants.{Space}
use Rattle.key_ring.specs.Ring.{RingEntry}
use Rattle.page_places.specs.Texts.{page_bytes, are_zero, page_lsn_at, page_version_at}
use Rattle.page_text.specs.Opening.{opening}
use Rattle.page_text.specs.Text.{IsText, Plain, plain_of}
use Rattle.page_text.specs.declared.key.PageKey.{PageKey}
use Rattle.places.specs.Places.{shown}
use Rattle.space_head.specs.declared.space.Home.{Home}
use Rattle.space_head.specs.declared.space.Home.TheVariants.{Unused, Clean, Dirty}
use Rattle.store_files.specs.Header.{HeldHeader}
use Rattle.store_files.specs.Pages.{key_at, key_id_of}
use Rattle.store_form.specs.declared.fault.RestFault.{RestFault}
use Rattle.store_form.specs.declared.fault.RestFault.TheVariants.{NoVersion, Damaged, DiskFault, OutOfMemory}

-- What the text of a page is answered as, with the key of its version, and what is left in its place. The key must be there, but for version 0, and the text is taken apart: the plain page is left, or the text's first fault is told.
abbrev pub IsTextOpened : ℕ → ℕ → ℕ → Option PageKey → List ℕ → List ℕ → Result Home RestFault → Type 0
IsTextOpened s p id key bytes left (Ok Unused) = ⊥
IsTextOpened s p id key bytes left (Ok (Clean version)) = (version ≡ be32_at bytes page_version_at) × IsText page_bytes s p (be64_at bytes page_lsn_at) version key (plain_of left) bytes
IsTextOpened s p id key bytes left (Ok Dirty) = ⊥
IsTextOpened s p id key bytes left (Err (NoVersion i version)) = (i ≡ id) × (version ≡ be32_at bytes page_version_at) × (version ≢ 0) × (key ≡ None)
IsTextOpened s p id key bytes left (Err (Damaged space page fault)) = (space ≡ s) × (page ≡ p) × (be32_at bytes 0 ≢ 0 → IsSome key) × (opening s p key bytes ≡ Err fault)
IsTextOpened s p id key bytes left (Err DiskFault) = ⊥
IsTextOpened s p id key bytes left (Err OutOfMemory) = ⊥

-- What a home of these bytes is answered as: a page of zero bytes is unused and left as it is, and any other is a text.
abbrev pub IsHomeOpened : ℕ → ℕ → ℕ → Option PageKey → List ℕ → List ℕ → Result Home RestFault → Type 0
IsHomeOpened s p id key bytes left result =
    MatchBool (are_zero bytes) ((result ≡ Ok Unused) × (left ≡ bytes)) (IsTextOpened s p id key bytes left result)

-- a text was taken: its plain page is left, and its version told
abbrev pub IsTextTaken : ℕ → Plain → List ℕ → Result Home RestFault → Type 0
IsTextTaken version plain left result = (result ≡ Ok (Clean version)) × (plain_of left ≡ plain)

-- each text of the page under the key is taken, where it isn't zero bytes
abbrev pub TakesTexts : ℕ → ℕ → Option PageKey → List ℕ → List ℕ → Result Home RestFault → Type 0
TakesTexts s p key bytes left result =
    are_zero bytes ≡ false → (lsn : ℕ) (plain : Plain) → IsText page_bytes s p lsn (be32_at bytes page_version_at) key plain bytes → IsTextTaken (be32_at bytes page_version_at) plain left result

-- The bytes of the page's home were read, those that the disk tells where it tells any, and this is what they are answered as.
pub record IsPageRead (header : HeldHeader) (keys : List RingEntry) (salts : ℕ → List ℕ) (s p : ℕ) (past : Past) (left : List ℕ) (result : Result Home RestFault) : Type 0 where
  pub bytes : List ℕ
  pub told : At (λ es. bytes ≡ shown (Space s) page_bytes p es) past
  pub opened : IsHomeOpened s p (key_id_of header.spaces s) (key_at header keys salts s (be32_at bytes page_version_at)) bytes left result

-- A page was read, or the disk refused.
abbrev pub ReadsPage : HeldHeader → List RingEntry → (ℕ → List ℕ) → ℕ → ℕ → Past → List ℕ → Result Home RestFault → Type 0
ReadsPage header keys salts s p past left (Err DiskFault) = Unit {0}
ReadsPage header keys salts s p past left (Err OutOfMemory) = Unit {0}
ReadsPage header keys salts s p past left (Ok home) = IsPageRead header keys salts s p past left (Ok home)
ReadsPage header keys salts s p past left (Err (NoVersion i version)) = IsPageRead header keys salts s p past left (Err (NoVersion i version))
ReadsPage header keys salts s p past left (Err (Damaged space page fault)) = IsPageRead header keys salts s p past left (Err (Damaged space page fault))
