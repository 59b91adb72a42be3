-- The very events of homes that are restored, the newest first.
use Rattle.std.specs.Prelude.{◌≡◌, ℕ, zero, suc, ◌+◌, ◌*◌, Bool, true, false, List, [], ◌∷◌, ◌++◌, length, Option, Some, None}
use Rattle.disk_model.specs.Event.{Event, Write, Sync}
use Rattle.disk_model.specs.Past.{Past, IsWrite}
use Rattle.disk_model.specs.declared.names.FileName.{FileName}
use Rattle.disk_model.specs.declared.names.FileName.TheVariants.{Space}
use Rattle.space_head.specs.declared.space.SpaceInfo.{SpaceInfo}
use Rattle.doublewrite.specs.Copies.{copies_to}
use Rattle.doublewrite.specs.Restore.{wanted, space_at}
use Rattle.doublewrite.specs.declared.listing.Copied.{Copied}
use Rattle.store_image.specs.View.{slot_count}
use Rattle.page_places.specs.Texts.{page_bytes}

-- the write of a page, where one is wanted
abbrev pub page_write : ℕ → ℕ → Option (List ℕ) → List Event
page_write space page None = []
page_write space page (Some text) = Write (Space space) (page * page_bytes) text text ∷ []

-- those of the first n pages of a space, in order of pages
unfoldable pub page_writes : List Copied → List Event → ℕ → ℕ → List Event
page_writes copies s space zero = []
page_writes copies s space (suc n) = page_write space n (wanted copies s space n) ++ page_writes copies s space n

-- writes with a sync of their file behind them, where there are any
abbrev pub synced : FileName → List Event → List Event
synced f [] = []
synced f (e ∷ es) = Sync f ∷ e ∷ es

abbrev pub is_any : List Event → Bool
is_any [] = false
is_any (e ∷ es) = true

abbrev pub space_events : List Copied → List Event → SpaceInfo → List Event
space_events copies s info = synced (Space info.space) (page_writes copies s info.space info.pages)

-- those of the first k spaces, one space after the other
unfoldable pub spaces_events : List Copied → List Event → List SpaceInfo → ℕ → List Event
spaces_events copies s spaces zero = []
spaces_events copies s spaces (suc k) = space_events copies s (space_at spaces k) ++ spaces_events copies s spaces k

-- of all spaces, from the copies that stand at s
abbrev pub restore_events : List SpaceInfo → List Event → List Event
restore_events spaces s = spaces_events (copies_to slot_count s) s spaces (length spaces)

-- how many calls the first k spaces take at most: a home is read once and written once, a space is synced once
unfoldable pub calls_to : List SpaceInfo → ℕ → ℕ
calls_to spaces zero = 0
calls_to spaces (suc k) = calls_to spaces k + ((space_at spaces k).pages * 2 + 1)

-- how many homes the first k spaces have
unfoldable pub homes_to : List SpaceInfo → ℕ → ℕ
homes_to spaces zero = 0
homes_to spaces (suc k) = homes_to spaces k + (space_at spaces k).pages

-- How many calls it takes to restore what stands at s: each slot and each home is read once, and each event is a call.
abbrev pub restore_calls : List SpaceInfo → List Event → ℕ
restore_calls spaces s = slot_count + (homes_to spaces (length spaces) + length (restore_events spaces s))

-- Of all these events those that come first were done since s, and no other. The one behind them, where it is a write, may have failed.
pub data AreFirstEvents (all s : List Event) (new : Past) : Type 0 where
  Done : (rest done : List Event) → all ≡ rest ++ done → new ≡ Some (done ++ s) → AreFirstEvents all s new
  Failed : (rest done : List Event) (f : FileName) (at : ℕ) (bytes : List ℕ) (e : Event) → all ≡ rest ++ Write f at bytes bytes ∷ done → IsWrite f at bytes e → new ≡ Some (e ∷ done ++ s) → AreFirstEvents all s new
