-- The spaces whose homes are restored while a store is opened.
use Rattle.std.specs.Prelude.{◌≡◌, ℕ, ◌<◌, true, List, length}
use Rattle.space_head.specs.declared.space.SpaceInfo.{SpaceInfo}
use Rattle.store_files.specs.Header.{HeldSpace}
use Rattle.store_files.specs.Pages.{has_page}
use Rattle.doublewrite.specs.Restore.{space_at}

-- each page of the store is one of a listed space
abbrev pub AreAllListed : List HeldSpace → List SpaceInfo → Type 0
AreAllListed held spaces = (z p : ℕ) → has_page held z p ≡ true → (i : ℕ) × (i < length spaces) × ((space_at spaces i).space ≡ z) × (p < (space_at spaces i).pages)
