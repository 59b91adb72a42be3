-- The text of a page 0 and its head.
use Rattle.std.proofs.Common.{◌≡◌, ◌≢◌, ℕ, List, Option, Some, None, refl, sym, ap, subst, ◌∙◌, ⊎_elim}
use Rattle.byte_list.specs.Bytes.{zeros}
use Rattle.byte_list.specs.Fields.{be32_at, be64_at}
use Rattle.page_text.specs.Parts.{body}
use Rattle.page_text.specs.Text.{Plain, IsText}
use Rattle.space_head.specs.Head.{with_head}
use Rattle.space_head.specs.declared.space.SpaceInfo.{SpaceInfo}
use Rattle.store_model.specs.declared.contents.PlainPage.{PlainPage}
use Rattle.store_files.specs.Pages.{IsTypedInfo, head_of_space, head_page}
use Rattle.store_files.proofs.HeadsOnce.{head_one}
use Rattle.store_files.proofs.TextsOnce.{plain_one}
use Rattle.image_pages.specs.Meaning.{IsHeadOf, IsHeadPage, IsPlainOf}

module _ (s : ℕ) (text : List ℕ) where
  pub no_plain : (o : Option PlainPage) → IsPlainOf s 0 None text o → o ≡ None → (info : SpaceInfo) → IsHeadOf s text info → ⊥
  no_plain o is none info head = (subst (λ (p : Option PlainPage). IsPlainOf s 0 None text p) none is) (head_page info) head.is_text

  module _ (page : PlainPage) (is : IsPlainOf s 0 None text (Some page)) where
    same_body : (info : SpaceInfo) → IsHeadOf s text info → page.body ≡ body (with_head (head_of_space info) (zeros 16384))
    same_body info head = ap (λ (p : Plain). p.bytes) (plain_one 16384 s 0 (be64_at text 16) (be32_at text 0) None (record { kind = page.kind; bytes = page.body }) (head_page info) text tt is head.is_text)

    pub no_body : (b : List ℕ) (o : Option SpaceInfo) → b ≡ page.body → IsHeadPage b o → o ≡ None → (info : SpaceInfo) → IsHeadOf s text info → ⊥
    no_body b o same found none info head = (subst (λ (q : Option SpaceInfo). IsHeadPage b q) none found) info head.typed (same ∙ same_body info head)

    of_some : (b : List ℕ) (o : Option SpaceInfo) (found : SpaceInfo) → b ≡ page.body → IsHeadPage b o → o ≡ Some found → IsTypedInfo found × (page.body ≡ body (with_head (head_of_space found) (zeros 16384)))
    of_some b o found same has some = let h = subst (λ (q : Option SpaceInfo). IsHeadPage b q) some has in (h.0, sym same ∙ h.1)

    pub other_space : (b : List ℕ) (o : Option SpaceInfo) (found : SpaceInfo) → b ≡ page.body → IsHeadPage b o → o ≡ Some found → (found.space ≡ s → ⊥) → (info : SpaceInfo) → IsHeadOf s text info → ⊥
    other_space b o found same has some other info head =
        let h = of_some b o found same has some in
        let heads : head_page found ≡ head_page info = λ i. record { kind = 8; bytes = (sym h.1 ∙ same_body info head) i } in
        other (ap (λ (x : SpaceInfo). x.space) (head_one found info h.0 head.typed heads) ∙ head.space)

    kind_is : page.kind ≡ 8
    kind_is = ⊎_elim (λ (own : (0 ≡ 0) × (page.kind ≡ 8) × (be32_at text 0 ≡ 0)). own.1) (λ (other : (0 ≢ 0) × (page.kind ≢ 8) × (page.kind ≢ 9)). absurd (other.0 refl)) is.fits

    pub own_space : (b : List ℕ) (o : Option SpaceInfo) (found : SpaceInfo) → b ≡ page.body → IsHeadPage b o → o ≡ Some found → found.space ≡ s → IsHeadOf s text found
    own_space b o found same has some own =
        let h = of_some b o found same has some in
        let plain : ◌≡◌ {A = Plain} (record { kind = page.kind; bytes = page.body }) (head_page found) = λ i. record { kind = kind_is i; bytes = h.1 i } in
        record { space = own; typed = h.0; is_text = subst (λ (p : Plain). IsText 16384 s 0 (be64_at text 16) (be32_at text 0) None p text) plain is }
