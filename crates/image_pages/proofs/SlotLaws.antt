-- Whether a text gives what a page holds, and what follows for a live slot.
use Rattle.std.proofs.Common.{◌≡◌, ℕ, ◌+◌, ◌<◌, ◌≤◌, Bool, true, false, List, refl, sym, ap, subst, ◌∙◌, arith, ⊎_elim}
use Rattle.std.proofs.lemmas.Bool.{cases_lt}
use Rattle.std.proofs.lemmas.Option.{same_Some}
use Rattle.byte_list.specs.Fields.{be64_at}
use Rattle.key_ring.specs.Ring.{RingEntry}
use Rattle.page_places.specs.Texts.{text_in}
use Rattle.redo_text.specs.declared.change.Change.{Change}
use Rattle.store_image.specs.Groups.{copy_of}
use Rattle.store_image.specs.Places.{LogView}
use Rattle.store_image.specs.Recovers.{SlotRecovers, later_by, IsNamedBy}
use Rattle.store_image.specs.View.{Text, Slot, IsLive}
use Rattle.store_files.specs.Header.{HeldHeader}
use Rattle.store_files.specs.Pages.{Page, MeansPage, mtr_acts, mtr_names}
use Rattle.store_files.proofs.PageLaws.{means_one}
use Rattle.crash_image.specs.StoreTheory.{store_theory}
use Rattle.image_pages.specs.Choosing.{page_view, slot_in, no_log}
use Rattle.image_pages.specs.Recovering.{TextGives, GivesPage, SlotAgrees, SlotDiffers, AgreeBelow}
use Rattle.image_pages.proofs.Recovered.{live_run, live_page, slot_recovers, slot_gives}

module _ (header : HeldHeader) (keys : List RingEntry) (log : LogView (List Change)) (s p : ℕ) (salt text : List ℕ) where
  -- the text means a page, a mini-transaction of its LSN names it, and with the later changes it is y
  pub gives_page : (holds x y : Page) (b : Bool) → ((salts : ℕ → List ℕ) → salts s ≡ salt → MeansPage header keys salts s p (text_in text) holds) → IsNamedBy mtr_names log.run s p (be64_at text 16) → y ≡ later_by mtr_acts (be64_at text 16) log.run s p holds
      → (b ≡ true → y ≡ x) → (b ≡ false → y ≡ x → ⊥) → GivesPage header keys log s p salt text x b
  gives_page holds x y true means named later agree differ = λ salts same. record { holds = holds; means = means salts same; named = named; same = sym (agree refl) ∙ later }
  gives_page holds x y false means named later agree differ = λ salts same g.
      let e : g.holds ≡ holds = means_one header keys salts s p (text_in text) g.holds holds g.means (means salts same) in
      differ refl (later ∙ ap (λ (h : Page). later_by mtr_acts (be64_at text 16) log.run s p h) (sym e) ∙ sym g.same)

  pub gives_none : (x : Page) → ((salts : ℕ → List ℕ) → salts s ≡ salt → (h : Page) → MeansPage header keys salts s p (text_in text) h → ⊥) → GivesPage header keys log s p salt text x false
  gives_none x none salts same g = none salts same g.holds g.means

module _ (header : HeldHeader) (keys : List RingEntry) (log : LogView (List Change)) (home double : List ℕ) (s p : ℕ) (salt : List ℕ) (x : Page) (i : ℕ) where
  pub differs : (text : List ℕ) → IsLive (page_view no_log home double) s p i (text_in text) → GivesPage header keys log s p salt text x false → SlotDiffers header keys log home double s p salt x i
  differs text live none = (
    text_in text,
    live_run header keys log home double s p i (text_in text) live,
    λ salts same c e r. none salts same (subst (λ (y : Page). TextGives header keys log s p salts text y) e (slot_gives header keys log home double s p salts c text r)),
  )

  one_copy : (t u : Text) → slot_in double i ≡ copy_of s p t → slot_in double i ≡ copy_of s p u → t ≡ u
  one_copy t u a b = ap (λ (y : Slot). y.text) (same_Some _ _ (sym a ∙ b))

  pub agrees : (text : List ℕ) → IsLive (page_view no_log home double) s p i (text_in text) → GivesPage header keys log s p salt text x true → SlotAgrees header keys log home double s p salt x i
  agrees text live gives salts same t at =
      let own = live_page header keys log home double s p i t at in
      let e : text_in text ≡ t = one_copy (text_in text) t live.copy.is own.copy.is in
      subst (λ (u : Text). SlotRecovers (store_theory header keys salts) (page_view log home double) (λ z q. x) s p u) e (slot_recovers header keys log home double s p salts i text x (gives salts same))

  pub no_live : ((t : Text) → IsLive (page_view no_log home double) s p i t → ⊥) → SlotAgrees header keys log home double s p salt x i
  no_live none salts same t at = absurd (none t (live_page header keys log home double s p i t at))

module _ (header : HeldHeader) (keys : List RingEntry) (log : LogView (List Change)) (home double : List ℕ) (s p : ℕ) (salt : List ℕ) (x : Page) where
  pub agree_more : (i : ℕ) → AgreeBelow header keys log home double s p salt x i → SlotAgrees header keys log home double s p salt x i → AgreeBelow header keys log home double s p salt x (i + 1)
  agree_more i before here j lt =
      ⊎_elim (λ (l : j < i). before j l)
      (λ (ge : i ≤ j). let e : i ≡ j = omega (arith, lt, ge) in subst (λ (k : ℕ). SlotAgrees header keys log home double s p salt x k) e here) (cases_lt j i)
