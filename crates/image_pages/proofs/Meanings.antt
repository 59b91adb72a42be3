-- The page that a text means under the keys.
use Rattle.std.proofs.Common.{◌≡◌, ℕ, ◌<◌, List, Option, Some, None, IfSome, sym, subst, ◌∙◌, arith}
use Rattle.std.specs.Prelude.{option_map, Result, Ok, Err, IfOk}
use Rattle.byte_list.specs.Fields.{be32_at, be64_at}
use Rattle.key_ring.specs.Ring.{RingEntry}
use Rattle.key_ring.specs.Local.{local_key}
use Rattle.page_text.specs.Text.{IsText}
use Rattle.page_text.specs.declared.key.PageKey.{PageKey}
use Rattle.page_places.specs.Texts.{text_in}
use Rattle.store_model.specs.declared.contents.PlainPage.{PlainPage}
use Rattle.store_files.specs.Header.{HeldHeader}
use Rattle.store_files.specs.Pages.{Page, Head, Unused, Used, HasKeyBytes, MeansPage, key_at, key_id_of}
use Rattle.image_pages.specs.Meaning.{IsPlainOf, IsUsedPage}

module _ (header : HeldHeader) (keys : List RingEntry) (s p : ℕ) (salt text : List ℕ) (key_id : ℕ) (key : Option PageKey) where
  abbrev IsKey : Type 0
  IsKey = key ≡ option_map (λ local. record { local = local; algorithm = header.algorithm }) (local_key keys key_id (be32_at text 0) salt)

  same_key : IsKey → key_id ≡ key_id_of header.spaces s → (salts : ℕ → List ℕ) → salts s ≡ salt → key ≡ key_at header keys salts s (be32_at text 0)
  same_key is id salts same = is ∙ (λ i. option_map (λ local. record { local = local; algorithm = header.algorithm }) (local_key keys (id i) (be32_at text 0) (sym same i)))

  some_page : (page : PlainPage) → IsKey → key_id ≡ key_id_of header.spaces s → 0 < p → IfSome key HasKeyBytes → IsPlainOf s p key text (Some page) → IsUsedPage header keys s p salt text (Some page)
  unfolding text_in
  some_page page is id some known is_text salts same =
      let e = same_key is id salts same in
      (λ z. absurd (omega (arith, z, some)), subst (λ (k : Option PageKey). IfSome k HasKeyBytes) e known, subst (λ (k : Option PageKey). IsText 16384 s p (be64_at text 16) (be32_at text 0) k (record { kind = page.kind; bytes = page.body }) text) e is_text)

  no_page : IsKey → key_id ≡ key_id_of header.spaces s → 0 < p → IsPlainOf s p key text None → (salts : ℕ → List ℕ) → salts s ≡ salt → (x : Page) → MeansPage header keys salts s p (text_in text) x → ⊥
  unfolding text_in
  no_page is id some none salts same (Head info) m = let z = m.0 in absurd (omega (arith, z, some))
  no_page is id some none salts same Unused m = m
  no_page is id some none salts same (Used page) m =
      none (record { kind = page.kind; bytes = page.body }) (subst (λ (k : Option PageKey). IsText 16384 s p (be64_at text 16) (be32_at text 0) k (record { kind = page.kind; bytes = page.body }) text) (sym (same_key is id salts same)) m.2)

  pub used_page_of : (o : Option PlainPage) → IsKey → key_id ≡ key_id_of header.spaces s → 0 < p → IfSome key HasKeyBytes → IsPlainOf s p key text o → IsUsedPage header keys s p salt text o
  used_page_of (Some page) is id some known plain = some_page page is id some known plain
  used_page_of None is id some known none = no_page is id some none

  pub used_result : {E : Type 0} (r : Result (Option PlainPage) E) → IsKey → key_id ≡ key_id_of header.spaces s → 0 < p → IfSome key HasKeyBytes → IfOk r (IsPlainOf s p key text) → IfOk r (IsUsedPage header keys s p salt text)
  used_result (Ok o) is id some known plain = used_page_of o is id some known plain
  used_result (Err e) is id some known plain = tt
