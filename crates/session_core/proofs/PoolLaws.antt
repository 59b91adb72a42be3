-- What is held behind a read.
use Rattle.std.proofs.Common.{◌≡◌, ◌⊎◌, ℕ, Bool, false, List, refl, sym, ap, ◌∙◌, inl, inr, Some}
use Rattle.std.specs.Prelude.{◌||◌, is_some}
use Rattle.store_model.specs.declared.contents.PlainPage.{PlainPage}
use Rattle.disk_model.specs.Past.{Past}
use Rattle.key_ring.specs.Ring.{RingEntry}
use Rattle.page_pool.specs.declared.names.PageName.{PageName}
use Rattle.page_pool.specs.Changes.{admitted, found_page}
use Rattle.page_pool.specs.Pages.{PoolState, is_dirty, is_held}
use Rattle.page_pool.proofs.Cleans.{lookup_promoted}
use Rattle.session_core.specs.Reading.{IsPageOf, IsPoolAfter}
use Rattle.session_core.specs.Spaces.{StoreSpaces}

-- a page that isn't held isn't held where it was looked for
pub held_found : (name : PageName) (old mid : PoolState) → mid ≡ found_page name old → is_held name mid ≡ is_held name old
held_found name old mid is = ap (λ (s : PoolState). is_held name s) is ∙ ap (λ o. is_dirty name old.dirty || is_some o) (lookup_promoted name old.clean)

pub pool_after : (ring : List RingEntry) (store : StoreSpaces) (past : Past) (name : PageName) (page : PlainPage) (old mid new : PoolState) → is_held name old ≡ false → mid ≡ found_page name old
    → IsPageOf ring store old past name.space name.page (Some page) → (new ≡ mid) ⊎ (new ≡ record { dirty = mid.dirty; clean = admitted name page mid.clean })
    → IsPoolAfter ring store past name.space name.page old new
pool_after ring store past name page old mid new apart found read (inl is) = inl (is ∙ found)
pool_after ring store past name page old mid new apart found read (inr is) =
    inr (page, apart, read, is ∙ ap (λ (m : PoolState). record { dirty = m.dirty; clean = admitted name page m.clean }) found)
