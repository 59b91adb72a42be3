-- Which keys the texts of a page, and a space, add.
use Rattle.std.proofs.Common.{◌≡◌, ◌⊎◌, ℕ, ◌+◌, List, ◌∷◌, drop, Option, Some, None, sym, ap, subst, ◌∙◌}
use Rattle.std.specs.Prelude.{Result, Ok, Err, OnOk}
use Rattle.std.proofs.lemmas.Option.{same_Some, none-some}
use Rattle.byte_list.specs.Fields.{be32_at}
use Rattle.page_places.specs.Texts.{text_in}
use Rattle.page_places.proofs.Texts.{text_in-is}
use Rattle.store_image.specs.View.{Text, Slot, IsChosen, IsLive}
use Rattle.store_image.proofs.ChosenTexts.{chosen_one}
use Rattle.store_files.specs.Header.{HeldSpace}
use Rattle.image_pages.specs.Choosing.{page_view, no_log}
use Rattle.image_reader.specs.Files.{ImageFiles, space_bytes}
use Rattle.image_reader.specs.Naming.{AddsNames, Below, IsTextName, IsChosenName, IsSlotName, IsPageNameIn, IsSpaceName, IsNameAt}
use Rattle.image_reader.proofs.Additions.{adds_as, adds_nothing, adds_then, adds_next}
use Rattle.image_reader.proofs.Takes.{same_item}

pub on_ok : {A E : Type 0} (r : Result A E) (P Q : Type 0) → (P → Q) → OnOk r P → OnOk r Q
on_ok (Ok x) P Q f p = f p
on_ok (Err e) P Q f p = tt

pub text_adds : (id v version : ℕ) (a b : List (ℕ × ℕ)) → v ≡ version → (v ≡ 0 → ⊥) → AddsNames (λ x. x ≡ (id, v)) a b → AddsNames (IsTextName id version) a b
text_adds id v version a b same some adds =
    adds_as (λ x. x ≡ (id, v)) (IsTextName id version) a b (λ x e. ((λ z. some (same ∙ z)), e ∙ ap (λ (n : ℕ). (id, n)) same)) (λ x p. p.1 ∙ ap (λ (n : ℕ). (id, n)) (sym same)) adds

pub text_clear : (id v version : ℕ) (a : List (ℕ × ℕ)) → v ≡ version → v ≡ 0 → AddsNames (IsTextName id version) a a
text_clear id v version a same zero = adds_nothing (IsTextName id version) a (λ x p. p.0 (sym same ∙ zero))

version_in : (text : List ℕ) → (text_in text).version ≡ be32_at text 0
version_in text = ap (λ (t : Text). t.version) (text_in-is text)

named_text : (id : ℕ) (t : Text) (text : List ℕ) (x : ℕ × ℕ) → t ≡ text_in text → IsTextName id t.version x → IsTextName id (be32_at text 0) x
named_text id t text x e p = subst (λ (n : ℕ). IsTextName id n x) (ap (λ (u : Text). u.version) e ∙ version_in text) p

module _ (home double : List ℕ) (s p id : ℕ) (a : List (ℕ × ℕ)) where
  pub chosen_adds : (b : List (ℕ × ℕ)) (text : List ℕ) → IsChosen (page_view no_log home double) s p (Some (text_in text)) → AddsNames (IsTextName id (be32_at text 0)) a b → AddsNames (IsChosenName home double s p id) a b
  chosen_adds b text is adds =
      adds_as (IsTextName id (be32_at text 0)) (IsChosenName home double s p id) a b (λ x n. (text_in text, is, subst (λ (v : ℕ). IsTextName id v x) (sym (version_in text)) n))
      (λ x n. named_text id n.0 text x (same_Some n.0 (text_in text) (chosen_one (page_view no_log home double) s p (Some n.0) (Some (text_in text)) n.1 is)) n.2) adds

  pub unused_adds : IsChosen (page_view no_log home double) s p None → AddsNames (IsChosenName home double s p id) a a
  unused_adds is = adds_nothing (IsChosenName home double s p id) a (λ x n. none-some n.0 (sym (chosen_one (page_view no_log home double) s p (Some n.0) None n.1 is)))

  pub nothing_adds : ((chosen : Option Text) → IsChosen (page_view no_log home double) s p chosen → ⊥) → AddsNames (IsChosenName home double s p id) a a
  nothing_adds none = adds_nothing (IsChosenName home double s p id) a (λ x n. none (Some n.0) n.1)

  module _ (i : ℕ) where
    one_live : (t u : Text) → IsLive (page_view no_log home double) s p i t → IsLive (page_view no_log home double) s p i u → t ≡ u
    one_live t u x y = ap (λ (w : Slot). w.text) (same_Some _ _ (sym x.copy.is ∙ y.copy.is))

    pub live_adds : (b : List (ℕ × ℕ)) (text : List ℕ) → IsLive (page_view no_log home double) s p i (text_in text) → AddsNames (IsTextName id (be32_at text 0)) a b → AddsNames (IsSlotName home double s p id i) a b
    live_adds b text is adds =
        adds_as (IsTextName id (be32_at text 0)) (IsSlotName home double s p id i) a b (λ x n. (text_in text, is, subst (λ (v : ℕ). IsTextName id v x) (sym (version_in text)) n))
        (λ x n. named_text id n.0 text x (one_live n.0 (text_in text) n.1 is) n.2) adds

    pub none_adds : ((t : Text) → IsLive (page_view no_log home double) s p i t → ⊥) → AddsNames (IsSlotName home double s p id i) a a
    none_adds none = adds_nothing (IsSlotName home double s p id i) a (λ x n. none n.0 n.1)

pub space_adds : (files : ImageFiles) (active : ℕ) (h : HeldSpace) (id s pages : ℕ) (bytes double : List ℕ) (a b c : List (ℕ × ℕ)) → id ≡ h.key_id → s ≡ h.space → pages ≡ h.pages → bytes ≡ space_bytes files.spaces h.space → double ≡ files.double
    → AddsNames (λ x. x ≡ (id, active)) a b → AddsNames (Below (IsPageNameIn bytes double s id) pages) b c → AddsNames (IsSpaceName files active h) a c
space_adds files active h id s pages bytes double a b c ids ss ps bs ds first second =
    subst (λ (X : Type 0). X) (λ i. AddsNames (λ x. (x ≡ (ids i, active)) ⊎ Below (IsPageNameIn (bs i) (ds i) (ss i) (ids i)) (ps i) x) a c)
    (adds_then (λ x. x ≡ (id, active)) (Below (IsPageNameIn bytes double s id) pages) a b c first second)

pub name_adds : (files : ImageFiles) (active : ℕ) (spaces : List HeldSpace) (n : ℕ) (h : HeldSpace) (a b c : List (ℕ × ℕ)) → drop n spaces ≡ h ∷ drop (n + 1) spaces → AddsNames (Below (IsNameAt files active spaces) n) a b → AddsNames (IsSpaceName files active h) b c → AddsNames (Below (IsNameAt files active spaces) (n + 1)) a c
name_adds files active spaces n h a b c at first second =
    adds_next (IsNameAt files active spaces) n a b c first
    (adds_as (IsSpaceName files active h) (IsNameAt files active spaces n) b c (λ x p. (h, at, p)) (λ x p. subst (λ (g : HeldSpace). IsSpaceName files active g x) (same_item p.0 h _ _ (sym p.1 ∙ at)) p.2) second)
