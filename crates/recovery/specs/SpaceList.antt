-- The spaces of a store by their place in its header.
use Rattle.std.specs.Prelude.{◌≡◌, ℕ, ◌<◌, true, List, length, slice_index_or}
use Rattle.store_files.specs.Header.{HeldSpace}
use Rattle.store_files.specs.Pages.{has_page, key_id_of}

abbrev pub no_held : HeldSpace
no_held = record { space = 0; pages = 0; key_id = 0 }

-- the space at a place of a header
abbrev pub held_at : List HeldSpace → ℕ → HeldSpace
held_at hs i = slice_index_or hs i no_held

-- the space at this place has the page
pub record IsPlaceOf (hs : List HeldSpace) (s p i : ℕ) : Type 0 where
  pub below : i < length hs
  pub space : (held_at hs i).space ≡ s
  pub page : p < (held_at hs i).pages
  pub has : has_page hs s p ≡ true
  pub key_id : key_id_of hs s ≡ (held_at hs i).key_id
