-- What an engine reads of a page: the page of the contents after the journal.
use Rattle.std.specs.Prelude.{◌≡◌, ℕ, List, length, Option, option_map}
use Rattle.crash_image.specs.Stands.{mtrs_of}
use Rattle.session_core.specs.Reading.{part_of_page}
use Rattle.session_core.specs.Session.{Running}
use Rattle.session_image.specs.Kept.{SessionStore}
use Rattle.store_files.specs.Pages.{Page, page_held, pages_of}
use Rattle.store_model.specs.Fold.{fold}
use Rattle.store_model.specs.declared.contents.PlainPage.{PlainPage}
use Rattle.engine_core.specs.Journal.{journal_of}

-- the pages of the base contents after the journal
abbrev pub contents_now : {D : Type 0} → SessionStore → Running D → ℕ → ℕ → Page
contents_now store r = pages_of (fold (mtrs_of (journal_of r)) store.base)

-- these bytes are the page's from a place on, zero bytes where it is unused
pub record IsPartNow {D : Type 0} (store : SessionStore) (r : Running D) (s p at : ℕ) (bytes : List ℕ) : Type 0 where
  pub page : Option PlainPage
  pub is : contents_now store r s p ≡ page_held page
  pub part : bytes ≡ part_of_page at (length bytes) page

-- and this is its type, none where it is unused
pub record IsKindNow {D : Type 0} (store : SessionStore) (r : Running D) (s p : ℕ) (kind : Option ℕ) : Type 0 where
  pub page : Option PlainPage
  pub is : contents_now store r s p ≡ page_held page
  pub kind_is : kind ≡ option_map (λ x. x.kind) page
