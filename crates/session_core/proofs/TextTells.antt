-- What the text of a page tells in clear, and what is known of a home that it was written to.
use Rattle.std.proofs.Common.{◌≡◌, ℕ, ◌^◌, ◌<◌, ◌≤◌, Bool, true, false, if◌then◌else◌, ◌&&◌, List, [], ◌∷◌, ◌++◌, length, Option, append-nil, refl, sym, ap, ◌∙◌, subst, arith}
use Rattle.std.specs.List.{All}
use Rattle.std.proofs.lemmas.List.Elements.{All-append, All-cons, All-nil}
use Rattle.byte_list.proofs.FieldLaws.{be32_at-written, be64_at-written}
use Rattle.byte_list.specs.Bytes.{range}
use Rattle.byte_list.specs.Fields.{be32_at}
use Rattle.doublewrite.specs.Text.{page_number_of}
use Rattle.page_batch.specs.Batch.{IsTextOfPage, TextOfPage, sealed_key, sealed_version}
use Rattle.page_places.specs.Texts.{are_zero}
use Rattle.page_pool.specs.Changes.{is_dirty_at}
use Rattle.page_pool.specs.Pages.{PoolState}
use Rattle.page_text.specs.Text.{IsText, Plain}
use Rattle.page_text.specs.declared.key.PageKey.{PageKey}
use Rattle.space_head.specs.declared.space.Home.{Home}
use Rattle.space_head.specs.declared.space.Home.TheVariants.{Clean, Unused}
use Rattle.store_form.specs.Rest.{home_told}
use Rattle.store_form.proofs.RestPages.{text_not_zero}
use Rattle.session_core.specs.Dirty.{name_of_page}
use Rattle.session_core.specs.Putting.{IsDirtyText, current_pages, is_current, lsn_of, texts_in}

module _ (space page lsn version : ℕ) (key : Option PageKey) (plain : Plain) (bytes : List ℕ) (long : 8 < length bytes) (number_fits : page < 2 ^ 32) (t : IsText 16384 space page lsn version key plain bytes) where
  version_told : be32_at bytes 0 ≡ version
  version_told = be32_at-written bytes 0 version (ap (λ (l : List ℕ). range 0 4 l) t.written) t.version_fits

  pub number_told : page_number_of bytes ≡ page
  number_told = be32_at-written bytes 4 page (ap (λ (l : List ℕ). range 4 4 l) t.written) number_fits

  pub lsn_told : lsn_of bytes ≡ lsn
  lsn_told = be64_at-written bytes 16 lsn (ap (λ (l : List ℕ). range 16 8 l) t.written) t.lsn_fits

  pub text_home : home_told bytes ≡ Clean version
  text_home = ap (λ (b : Bool). if b then Unused else Clean (be32_at bytes 0)) (text_not_zero 16384 space page lsn version key plain bytes long t) ∙ ap Clean version_told

and_first : (a b : Bool) → (a && b) ≡ true → a ≡ true
and_first true b is = refl
and_first false b is = is

-- the text of a page that is as it was copied
pub due_text : (pool : PoolState) (s version : ℕ) (key : Option PageKey) (p : TextOfPage) → 8 < length p.text → p.copied.page < 2 ^ 32 → is_current pool s p.copied ≡ true → IsTextOfPage s version key p → IsDirtyText pool s version p.text
due_text pool s version key p long fits current is =
    let number : page_number_of p.text ≡ p.copied.page = number_told s p.copied.page p.copied.lsn (sealed_version p.copied.page version) (sealed_key p.copied.page key) p.copied.plain p.text long fits is in
    let lsn : lsn_of p.text ≡ p.copied.lsn = lsn_told s p.copied.page p.copied.lsn (sealed_version p.copied.page version) (sealed_key p.copied.page key) p.copied.plain p.text long fits is in
    let at : is_dirty_at (name_of_page s p.copied.page) p.copied.lsn pool.dirty.entries ≡ true = and_first _ _ current in
    record {
      dirty = ap (λ (n : ℕ). is_dirty_at (name_of_page s n) (lsn_of p.text) pool.dirty.entries) number ∙ ap (λ (l : ℕ). is_dirty_at (name_of_page s p.copied.page) l pool.dirty.entries) lsn ∙ at;
      home = text_home s p.copied.page p.copied.lsn (sealed_version p.copied.page version) (sealed_key p.copied.page key) p.copied.plain p.text long fits is ∙ ap (λ (n : ℕ). Clean (sealed_version n version)) (sym number);
    }

-- one text more, where it is kept
pub due_more : (pool : PoolState) (s version : ℕ) (key : Option PageKey) (p : TextOfPage) (texts : List (List ℕ)) → 8 < length p.text → p.copied.page < 2 ^ 32 → IsTextOfPage s version key p → All (IsDirtyText pool s version) texts → All (IsDirtyText pool s version) (texts ++ texts_in (current_pages pool s (p ∷ [])))
due_more pool s version key p texts long fits is all = by (is_current pool s p.copied) refl
  where
    by : (b : Bool) → is_current pool s p.copied ≡ b → All (IsDirtyText pool s version) (texts ++ texts_in (if b then p ∷ [] else []))
    by true current = All-append (IsDirtyText pool s version) texts (p.text ∷ []) all (All-cons (IsDirtyText pool s version) p.text [] (due_text pool s version key p long fits current is) (All-nil (IsDirtyText pool s version)))
    by false other = subst (λ (l : List (List ℕ)). All (IsDirtyText pool s version) l) (sym (append-nil texts)) all

-- where its text was added
pub due_one : (pool : PoolState) (s version : ℕ) (key : Option PageKey) (p : TextOfPage) (texts more : List (List ℕ)) (text : List ℕ) → 8 < length text → p.copied.page < 2 ^ 32 → text ≡ p.text → true ≡ is_current pool s p.copied → more ≡ texts ++ text ∷ [] → IsTextOfPage s version key p
    → All (IsDirtyText pool s version) texts → All (IsDirtyText pool s version) more
due_one pool s version key p texts more text long fits is current more_is of_page all =
    let own : 8 < length p.text = subst (λ (t : List ℕ). 8 < length t) is long in
    let due : IsDirtyText pool s version text = subst (IsDirtyText pool s version) (sym is) (due_text pool s version key p own fits (sym current) of_page) in
    subst (λ (l : List (List ℕ)). All (IsDirtyText pool s version) l) (sym more_is) (All-append (IsDirtyText pool s version) texts (text ∷ []) all (All-cons (IsDirtyText pool s version) text [] due (All-nil (IsDirtyText pool s version))))

-- it is one text at most
pub one_text : (pool : PoolState) (s : ℕ) (p : TextOfPage) → length (texts_in (current_pages pool s (p ∷ []))) ≤ 1
one_text pool s p = by (is_current pool s p.copied)
  where
    by : (b : Bool) → length (texts_in (if b then p ∷ [] else [])) ≤ 1
    by true = omega arith
    by false = omega arith
