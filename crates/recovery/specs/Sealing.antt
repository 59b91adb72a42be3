-- The texts that the pages of a range are sealed as.
use Rattle.std.specs.Prelude.{◌≡◌, ℕ, ◌-◌, ◌<◌, ◌≤◌, ◌^◌, Bool, true, nat_eq, if◌then◌else◌, List, [], ◌∷◌, length, slice_index_or, Option, None}
use Rattle.doublewrite.specs.Group.{pages_in}
use Rattle.doublewrite.specs.Text.{page_number_of}
use Rattle.page_places.specs.Texts.{page_bytes}
use Rattle.page_pool.specs.Pages.{PoolState, held_page}
use Rattle.page_text.specs.Text.{IsText, Plain}
use Rattle.page_text.specs.declared.key.PageKey.{PageKey}
use Rattle.store_image.specs.Groups.{IsAmong}
use Rattle.store_image.specs.View.{Text}
use Rattle.store_model.specs.Fold.{used}
use Rattle.store_model.specs.declared.contents.PlainPage.{PlainPage}
use Rattle.recovery.specs.Loading.{name_in}
use Rattle.recovery.specs.Rounds.{count_in}
use Rattle.recovery.specs.Walks.{AllHave}

-- page 0 is sealed in clear
abbrev pub version_under : ℕ → ℕ → ℕ
version_under p version = if nat_eq p 0 then 0 else version

abbrev pub key_under : ℕ → Option PageKey → Option PageKey
key_under p key = if nat_eq p 0 then None else key

abbrev pub plain_text : PlainPage → Plain
plain_text page = record { kind = page.kind; bytes = page.body }

-- the text of a page that a pool holds, with the LSN of its last change
pub record IsSealedPage (s : ℕ) (last : List ℕ) (version : ℕ) (key : Option PageKey) (pool : PoolState) (p : ℕ) (text : List ℕ) : Type 0 where
  pub small : p < 2 ^ 32
  pub is : IsText page_bytes s p (slice_index_or last p 0) (version_under p version) (key_under p key) (plain_text (used (held_page (name_in s p) pool))) text

-- it is that of a page of a range with a property
pub record IsTextIn (has : ℕ → Bool) (s : ℕ) (last : List ℕ) (version : ℕ) (key : Option PageKey) (pool : PoolState) (from end : ℕ) (text : List ℕ) : Type 0 where
  pub page : ℕ
  pub low : from ≤ page
  pub high : page < end
  pub later : has page ≡ true
  pub sealed : IsSealedPage s last version key pool page text

-- each text is of a page behind those of the texts before it
abbrev pub AreAscending : List (List ℕ) → Type 0
AreAscending [] = Unit {0}
AreAscending (x ∷ xs) = AllHave (λ y. page_number_of x < page_number_of y) xs × AreAscending xs

-- Of each page of a range with a property there is a text, in order, and no others are there.
pub record AreTextsIn (has : ℕ → Bool) (s : ℕ) (last : List ℕ) (version : ℕ) (key : Option PageKey) (pool : PoolState) (from end : ℕ) (texts : List (List ℕ)) : Type 0 where
  pub each : AllHave (IsTextIn has s last version key pool from end) texts
  pub every : (p : ℕ) → from ≤ p → p < end → has p ≡ true → (t : Text) × IsAmong p t (pages_in texts)
  pub ascending : AreAscending texts
  pub count : length texts ≡ count_in has from (end - from)
