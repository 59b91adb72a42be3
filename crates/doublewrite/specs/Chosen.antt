-- What each image holds of homes and slots while homes are restored on a disk that read as a view with nothing pending, and once they are.
use Rattle.std.specs.Prelude.{◌≡◌, ◌⊎◌, ℕ, ◌<◌, List, length, Option, Some}
use Rattle.disk_model.specs.Event.{Event}
use Rattle.disk_model.specs.declared.names.FileName.TheVariants.{Space}
use Rattle.places.specs.Places.{shown}
use Rattle.space_head.specs.declared.space.SpaceInfo.{SpaceInfo}
use Rattle.store_image.specs.View.{Text, Held, Holds, Slot, View, HasNoHome, IsChosen}
use Rattle.store_image.specs.Groups.{IsNoText}
use Rattle.page_places.specs.Texts.{page_bytes, held}
use Rattle.doublewrite.specs.Images.{MaySlot, MayHome}
use Rattle.doublewrite.specs.Restore.{space_at}

-- Each home holds what it held, or, where that is no text, its chosen text or a torn one and no text; each slot what it held.
pub record ChosenMay {M : Type 0} (v : View M) (m : List Event) : Type 0 where
  pub homes : (z p : ℕ) (h : Held) → MayHome z p m h → (h ≡ v.home z p) ⊎ ((t : Text) × IsChosen v z p (Some t) × ((h ≡ Holds t) ⊎ IsNoText h) × HasNoHome v z p)
  pub slots : (i : ℕ) (h : Option Slot) → MaySlot i m h → h ≡ v.slot i

-- And each home of a page of these spaces that has a chosen text holds it in every image, with nothing pending in any space.
pub record ChosenHold {M : Type 0} (v : View M) (spaces : List SpaceInfo) (m : List Event) : Type 0 where
  pub may : ChosenMay v m
  pub homes : (i p : ℕ) (t : Text) (h : Held) → i < length spaces → p < (space_at spaces i).pages → IsChosen v (space_at spaces i).space p (Some t) → MayHome (space_at spaces i).space p m h → h ≡ Holds t
  pub settled : (z p : ℕ) (h : Held) → MayHome z p m h → h ≡ held p (shown (Space z) page_bytes p m)
