-- What a page is read from in a lucky image of a moment between the beginning of `store` and the end of `home` of one batch, where nothing was pending as `store` began and no page was read from a slot.
use Rattle.std.proofs.Common.{◌≡◌, ◌⊎◌, ℕ, ◌<◌, ◌≤◌, Bool, List, length, Option, Some, None, ap, refl, ◌∙◌, inl, inr}
use Rattle.disk_model.specs.Event.{Event}
use Rattle.disk_model.specs.Image.{Image, IsImage, IsLucky}
use Rattle.disk_model.specs.declared.names.FileName.{FileName}
use Rattle.disk_model.specs.declared.names.FileName.TheVariants.{Double, Space}
use Rattle.places.specs.Places.{shown, AreWhole, Whole, IsTorn}
use Rattle.places.specs.Batches.{IsFileSettled}
use Rattle.store_image.specs.View.{Held, Slot}
use Rattle.store_image.specs.Places.{LogView, IsViewOf}
use Rattle.store_image.specs.Doublewrite.{IsBeing}
use Rattle.store_image.proofs.DoublewriteLaw.{WhileSlots, WhileHomes, WasRead, IsLawful, doublewrite_law}
use Rattle.page_places.specs.Texts.{page_bytes, held, slot_held, slots, pages, slot_sums_up, ends_in_sum}
use Rattle.page_places.specs.Views.{view, places_by}
use Rattle.page_places.proofs.Views.{is_view}
use Rattle.doublewrite.specs.Images.{MaySlot, MayHome, batch_slot, SlotsMay, SlotsHold, HomesMay}
use Rattle.doublewrite.specs.declared.texts.Texts.{Texts}

module _ (batch : Texts) (few : length batch.pages ≤ 64) (s : List Event) (double : IsFileSettled Double 16896 s) (spaces : (z : ℕ) → IsFileSettled (Space z) page_bytes s) where
  -- what the homes and slots read as, as `store` begins
  abbrev old : ℕ → ℕ → Held
  old z p = held p (shown (Space z) page_bytes p s)

  abbrev before : ℕ → Option Slot
  before i = slot_held (shown Double 16896 i s)

  old_home : (z p : ℕ) (h : Held) → MayHome z p s h → h ≡ old z p
  old_home z p h (Whole bytes may is) = let same : bytes ≡ shown (Space z) page_bytes p s = let e = spaces z p (Some bytes) may in cc in is ∙ ap (held p) same
  old_home z p h (IsTorn may is) = absurd (let e = spaces z p None may in cc)

  old_slot : (i : ℕ) (h : Option Slot) → MaySlot i s h → h ≡ before i
  old_slot i h (Whole bytes may is) = let same : bytes ≡ shown Double 16896 i s = let e = double i (Some bytes) may in cc in is ∙ ap slot_held same
  old_slot i h (IsTorn may is) = absurd (let e = double i None may in cc)

  -- A lucky image of moment m.
  module _ {M : Type 0} (log : LogView M) (count : ℕ → ℕ) (m : List Event) (whole : AreWhole Double slots m) (wholes : (z : ℕ) → AreWhole (Space z) (pages (count z)) m)
      (test : FileName → List ℕ → Bool) (slot_test : (bytes : List ℕ) → test Double bytes ≡ slot_sums_up bytes) (page_test : (z : ℕ) (bytes : List ℕ) → test (Space z) bytes ≡ ends_in_sum bytes)
      (image : Image) (is : IsImage m image) (lucky : IsLucky test image) (z p : ℕ) (read : WasRead (batch_slot batch) (length batch.pages) few old before (view log image) z p (old z p)) where
    here : IsViewOf (places_by (λ l. l ≡ log) m) (view log image)
    here = is_view (λ l. l ≡ log) log count m whole wholes test slot_test page_test image is lucky refl

    -- inside `store`, or after it was refused
    pub chosen_while_stored : SlotsMay batch s m → IsLawful (batch_slot batch) (length batch.pages) few old before (view log image) z p
    chosen_while_stored may = doublewrite_law (batch_slot batch) (length batch.pages) few old before (view log image) z p read
        (WhileSlots (old_home z p _ (may.homes z p _ (here.home z p))) (λ i lt. by i (may.slots i _ (here.slot i))))
      where
        by : (i : ℕ) → MaySlot i s ((view log image).slot i) ⊎ ((i < length batch.pages) × (((view log image).slot i ≡ Some (batch_slot batch i)) ⊎ ((view log image).slot i ≡ None)))
            → ((view log image).slot i ≡ before i) ⊎ ((i < length batch.pages) × (((view log image).slot i ≡ Some (batch_slot batch i)) ⊎ ((view log image).slot i ≡ None)))
        by i (inl earlier) = inl (old_slot i _ earlier)
        by i (inr new) = inr new

    -- inside `home`, or after it was refused; t is when `store` ended with Ok
    pub chosen_while_homed : (t : List Event) → SlotsHold batch s t → HomesMay batch t m → IsLawful (batch_slot batch) (length batch.pages) few old before (view log image) z p
    chosen_while_homed t hold may = doublewrite_law (batch_slot batch) (length batch.pages) few old before (view log image) z p read
        (WhileHomes (by (may.homes z p _ (here.home z p)))
        (λ i lt. hold.slots i _ lt (may.slots i _ (here.slot i)))
        (λ i lt ge. hold.others i _ ge (may.slots i _ (here.slot i))))
      where
        by : MayHome z p t ((view log image).home z p) ⊎ IsBeing (batch_slot batch) (length batch.pages) z p ((view log image).home z p)
            → ((view log image).home z p ≡ old z p) ⊎ IsBeing (batch_slot batch) (length batch.pages) z p ((view log image).home z p)
        by (inl earlier) = inl (old_home z p _ (hold.homes z p _ earlier))
        by (inr new) = inr new
