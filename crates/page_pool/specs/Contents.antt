-- What a pool holds of the pages of a store.
use Rattle.std.specs.Prelude.{◌≡◌, ◌≢◌, ℕ, true, List, length, Option, Some, None}
use Rattle.store_files.specs.Header.{HeldSpace}
use Rattle.store_files.specs.Pages.{Page, Head, Unused, Used, HaveSpaces, has_page, head_page, pages_of}
use Rattle.redo_text.specs.declared.change.Change.{Change}
use Rattle.store_model.specs.Fold.{after}
use Rattle.store_model.specs.declared.contents.PlainPage.{PlainPage}
use Rattle.store_model.specs.declared.contents.SpaceContents.{SpaceContents}
use Rattle.page_pool.specs.declared.names.PageName.{PageName}
use Rattle.page_pool.specs.Pages.{PoolState, held_page}

-- the plain page in a page of a store: page 0 has type 8 and the head of its space, an unused page has none
abbrev pub plain_in_page : Page → Option PlainPage
plain_in_page (Head info) = Some (record { kind = (head_page info).kind; body = (head_page info).bytes })
plain_in_page Unused = None
plain_in_page (Used page) = Some page

-- page 0 is the head of a space with a salt of 16 bytes, and no other page is a head
abbrev pub MayStandAt : ℕ → Page → Type 0
MayStandAt p (Head info) = (p ≡ 0) × (length info.salt ≡ 16)
MayStandAt p Unused = p ≢ 0
MayStandAt p (Used page) = p ≢ 0

-- contents have this page: a store with these spaces does
pub record HasPage (name : PageName) (spaces : List SpaceContents) : Type 0 where
  pub header : List HeldSpace
  pub have : HaveSpaces header spaces
  pub there : has_page header name.space name.page ≡ true
  pub stands : MayStandAt name.page (pages_of spaces name.space name.page)

-- the pool holds the page as contents have it, or not at all where it is unused there
abbrev pub HoldsPage : PageName → List SpaceContents → PoolState → Type 0
HoldsPage name spaces s = held_page name s ≡ plain_in_page (pages_of spaces name.space name.page)

-- Each page that contents have, and that the pool holds so, it holds after the changes as the fold of them over the contents has it.
abbrev pub FoldsPages : List Change → PoolState → PoolState → Type 0
FoldsPages cs old new = (spaces : List SpaceContents) → (name : PageName) → HasPage name spaces → HoldsPage name spaces old → HoldsPage name (after cs spaces) new
