-- What a batch makes of the homes and slots that an image may hold, from what it makes of places.
use Rattle.std.proofs.Common.{◌≡◌, ◌≢◌, ◌⊎◌, ℕ, ◌<◌, ◌^◌, false, nat_eq, List, length, Option, Some, None, refl, sym, ap, subst, ◌∙◌, inl, inr, ⊎_elim, arith}
use Rattle.std.proofs.lemmas.Bool.{cases_eq}
use Rattle.std.proofs.lemmas.Bool.Decides.{nat_tests}
use Rattle.disk_model.specs.Event.{Event}
use Rattle.disk_model.specs.Does.{Since, IsOn}
use Rattle.disk_model.specs.declared.names.FileName.TheVariants.{Double, Space}
use Rattle.disk_model.proofs.Layers.{since_each}
use Rattle.places.specs.Places.{shown, May, IsWritten, Whole, IsTorn}
use Rattle.places.specs.Batches.{Could, IsOneOf}
use Rattle.places.proofs.Batches.{of_is_on}
use Rattle.store_image.specs.View.{Held, Holds, Slot}
use Rattle.store_image.specs.Groups.{IsNoText}
use Rattle.store_image.specs.Doublewrite.{IsBeing}
use Rattle.page_places.specs.Texts.{page_bytes, held, slot_held, text_in}
use Rattle.page_places.specs.Views.{IsNoSlot}
use Rattle.page_places.proofs.Texts.{held-text, slot-holds}
use Rattle.page_places.proofs.Batches.{read_since}
use Rattle.doublewrite.specs.Text.{ArePageTexts, page_number_of}
use Rattle.doublewrite.specs.Batch.{text_at, slot_batch, home_batch}
use Rattle.doublewrite.specs.Layer.{SlotsWriting, SlotsSettled, HomesWriting, HomesSettled, IsSlotEvent, IsHomeEvent, IsInside}
use Rattle.doublewrite.specs.Images.{MaySlot, MayHome, AreSlotsHonest, AreHomesHonest, batch_slot, SlotsMay, SlotsHold, HomesMay, HomesHold}
use Rattle.doublewrite.specs.declared.texts.Texts.{Texts}
use Rattle.doublewrite.proofs.Lifts.{text_is}

module _ (batch : Texts) (texts : ArePageTexts batch.pages) (s m : List Event) where
  abbrev total : ℕ
  total = length batch.pages

  abbrev z : ℕ
  z = batch.space

  on_double : Since (IsSlotEvent batch) s m → Since (IsOn Double) s m
  on_double since = since_each (of_is_on Double 16896 (slot_batch batch) total) since

  on_space : Since (IsHomeEvent batch) s m → Since (IsOn (Space z)) s m
  on_space since = since_each (of_is_on (Space z) 16384 (home_batch batch) total) since

  slot_is : z < 2 ^ 32 → (j : ℕ) → j < total → slot_held ((slot_batch batch).bytes j) ≡ Some (batch_slot batch j)
  slot_is small j lt =
      let is = texts j lt in slot-holds z (page_number_of (text_at batch j)) batch.batch (text_at batch j) small is.number (text_is (text_at batch j) is)

  home_is : (j : ℕ) → j < total → held (page_number_of (text_at batch j)) (text_at batch j) ≡ Holds (text_in (text_at batch j))
  home_is j lt = held-text (page_number_of (text_at batch j)) (text_at batch j) (text_is (text_at batch j) (texts j lt))

  apart : (t : ℕ) → z ≢ t → nat_eq t z ≡ false
  apart t other = let flip : t ≢ z = λ e. other (sym e) in grind (arith, nat_tests)

  -- while it is stored
  pub slots_may : z < 2 ^ 32 → AreSlotsHonest s → Since (IsSlotEvent batch) s m → SlotsWriting batch s m → SlotsMay batch s m
  slots_may small honest since w = record {
    slots = by;
    homes = λ t p h may. read_since (held p) IsNoText Double (Space t) refl page_bytes p s m (on_double since) h may;
  }
    where
      whole : (i : ℕ) (h : Option Slot) (bytes : List ℕ) → h ≡ slot_held bytes → Could Double 16896 i s (Some bytes) ⊎ IsOneOf (slot_batch batch) total i (Some bytes)
          → MaySlot i s h ⊎ ((i < total) × ((h ≡ Some (batch_slot batch i)) ⊎ (h ≡ None)))
      whole i h bytes is (inl (inl earlier)) = inl (Whole bytes earlier is)
      whole i h bytes is (inl (inr same)) = inl (Whole bytes (subst (May Double 16896 i s) (sym same) (honest i)) is)
      whole i h bytes is (inr o) = inr (subst (λ (k : ℕ). k < total) o.here o.below, inl (is ∙ here o.left ∙ ap (λ (k : ℕ). Some (batch_slot batch k)) o.here))
        where
          here : IsWritten ((slot_batch batch).bytes o.index) (Some bytes) → slot_held bytes ≡ Some (batch_slot batch o.index)
          here (inl e) = let same : bytes ≡ (slot_batch batch).bytes o.index = cc in ap slot_held same ∙ slot_is small o.index o.below
          here (inr e) = absurd (cc)

      torn : (i : ℕ) (h : Option Slot) → h ≡ None → Could Double 16896 i s None ⊎ IsOneOf (slot_batch batch) total i None
          → MaySlot i s h ⊎ ((i < total) × ((h ≡ Some (batch_slot batch i)) ⊎ (h ≡ None)))
      torn i h is (inl (inl earlier)) = inl (IsTorn earlier is)
      torn i h is (inl (inr same)) = absurd (cc)
      torn i h is (inr o) = inr (subst (λ (k : ℕ). k < total) o.here o.below, inr is)

      by : (i : ℕ) (h : Option Slot) → MaySlot i m h → MaySlot i s h ⊎ ((i < total) × ((h ≡ Some (batch_slot batch i)) ⊎ (h ≡ None)))
      by i h (Whole bytes may is) = whole i h bytes is (w.may i (Some bytes) may)
      by i h (IsTorn may is) = torn i h is (w.may i None may)

  -- once it is stored
  pub slots_hold : z < 2 ^ 32 → Since (IsSlotEvent batch) s m → SlotsSettled batch s m → SlotsHold batch s m
  slots_hold small since q = record {
    slots = λ i h lt may. by i h may ∙ ap slot_held (q.wrote.new i lt) ∙ slot_is small i lt;
    others = λ i h ge may. by i h may ∙ ap slot_held (q.wrote.old i (λ j lt same. omega (arith, ge, lt, same)));
    homes = λ t p h may. read_since (held p) IsNoText Double (Space t) refl page_bytes p s m (on_double since) h may;
  }
    where
      by : (i : ℕ) (h : Option Slot) → MaySlot i m h → h ≡ slot_held (shown Double 16896 i m)
      by i h (Whole bytes may is) = let same : bytes ≡ shown Double 16896 i m = let e = q.settled i (Some bytes) may in cc in is ∙ ap slot_held same
      by i h (IsTorn may is) = absurd (let e = q.settled i None may in cc)

  -- while it is written home
  pub homes_may : (count : ℕ) → IsInside batch count s → AreHomesHonest z s → Since (IsHomeEvent batch) s m → HomesWriting batch s m → HomesMay batch s m
  homes_may count inside honest since writing = record {
    homes = λ t i h may. ⊎_elim
        (λ (e : z ≡ t). subst (λ (y : ℕ). MayHome y i m h → MayHome y i s h ⊎ IsBeing (batch_slot batch) total y i h) e (by i h) may)
        (λ (other : z ≢ t). inl (read_since (held i) IsNoText (Space z) (Space t) (apart t other) page_bytes i s m (on_space since) h may))
        (cases_eq z t);
    slots = λ i h may. read_since slot_held IsNoSlot (Space z) Double refl 16896 i s m (on_space since) h may;
  }
    where
      whole : (i : ℕ) (h : Held) (bytes : List ℕ) → h ≡ held i bytes → Could (Space z) page_bytes i s (Some bytes) ⊎ IsOneOf (home_batch batch) total i (Some bytes)
          → MayHome z i s h ⊎ IsBeing (batch_slot batch) total z i h
      whole i h bytes is (inl (inl earlier)) = inl (Whole bytes earlier is)
      whole i h bytes is (inl (inr same)) = inl (Whole bytes (subst (May (Space z) page_bytes i s) (sym same) (honest i)) is)
      whole i h bytes is (inr o) = inr (o.index, o.below, (refl, o.here), inl (is ∙ here o.left))
        where
          here : IsWritten ((home_batch batch).bytes o.index) (Some bytes) → held i bytes ≡ Holds (text_in (text_at batch o.index))
          here (inl e) = let same : bytes ≡ text_at batch o.index = cc in ap (held i) same ∙ ap (λ (l : ℕ). held l (text_at batch o.index)) (sym o.here) ∙ home_is o.index o.below
          here (inr e) = absurd (cc)

      torn : (i : ℕ) (h : Held) → IsNoText h → Could (Space z) page_bytes i s None ⊎ IsOneOf (home_batch batch) total i None
          → MayHome z i s h ⊎ IsBeing (batch_slot batch) total z i h
      torn i h is (inl (inl earlier)) = inl (IsTorn earlier is)
      torn i h is (inl (inr same)) = absurd (cc)
      torn i h is (inr o) = inr (o.index, o.below, (refl, o.here), inr is)

      by : (i : ℕ) (h : Held) → MayHome z i m h → MayHome z i s h ⊎ IsBeing (batch_slot batch) total z i h
      by i h (Whole bytes may is) = whole i h bytes is ((writing count inside).may i (Some bytes) may)
      by i h (IsTorn may is) = torn i h is ((writing count inside).may i None may)

  -- once it is
  pub homes_hold : (count : ℕ) → IsInside batch count s → Since (IsHomeEvent batch) s m → HomesSettled batch s m → HomesHold batch s m
  homes_hold count inside since settled = record {
    homes = λ i h lt may. by (page_number_of (text_at batch i)) h may ∙ ap (held (page_number_of (text_at batch i))) ((settled count inside).wrote.new i lt) ∙ home_is i lt;
    settled = by;
    others = λ t p h other may. read_since (held p) IsNoText (Space z) (Space t) (apart t other) page_bytes p s m (on_space since) h may;
    slots = λ i h may. read_since slot_held IsNoSlot (Space z) Double refl 16896 i s m (on_space since) h may;
  }
    where
      by : (p : ℕ) (h : Held) → MayHome z p m h → h ≡ held p (shown (Space z) page_bytes p m)
      by p h (Whole bytes may is) = let same : bytes ≡ shown (Space z) page_bytes p m = let e = (settled count inside).settled p (Some bytes) may in cc in is ∙ ap (held p) same
      by p h (IsTorn may is) = absurd (let e = (settled count inside).settled p None may in cc)
