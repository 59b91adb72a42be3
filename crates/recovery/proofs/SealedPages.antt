-- The texts of a range are those that an opening seals its pages with.
use Rattle.std.proofs.Common.{◌≡◌, ◌≢◌, ℕ, ◌+◌, ◌<◌, ◌≤◌, Bool, true, false, not, nat_eq, ◌&&◌, if◌then◌else◌, List, [], ◌∷◌, length, slice_index_or, Option, Some, None, IfSome, refl, sym, ap, subst, ◌∙◌, arith}
use Rattle.std.proofs.lemmas.Bool.Decides.{nat_tests}
use Rattle.std.proofs.lemmas.Option.{none-some, same_Some}
use Rattle.doublewrite.specs.Group.{pages_in}
use Rattle.doublewrite.specs.Text.{page_number_of}
use Rattle.page_places.specs.Texts.{page_bytes, text_in}
use Rattle.page_pool.specs.Contents.{MayStandAt, plain_in_page}
use Rattle.page_pool.specs.Pages.{PoolState, held_page}
use Rattle.page_text.specs.Text.{IsText, Plain}
use Rattle.page_text.specs.declared.key.PageKey.{PageKey}
use Rattle.space_head.specs.declared.space.SpaceInfo.{SpaceInfo}
use Rattle.store_files.specs.Pages.{Page, Head, Unused, Used, HasKeyBytes, MeansPage, head_page, is_ciphered, is_used, key_at, pages_of, salts_of}
use Rattle.store_files.proofs.TextsHeld.{head_means, sealed_means, sealed_text, text_at}
use Rattle.store_image.specs.Opening.{AreSealed, IsSealed, version_for}
use Rattle.store_image.specs.View.{Text}
use Rattle.store_model.specs.Fold.{used}
use Rattle.store_model.specs.declared.contents.PlainPage.{PlainPage}
use Rattle.crash_image.specs.Opened.{StoreOpened, opened_theory}
use Rattle.recovery.specs.Groups.{AreSealable, IsSealable, IsSealedUnder}
use Rattle.recovery.specs.Loading.{name_in}
use Rattle.recovery.specs.Sealing.{IsSealedPage, IsTextIn, plain_text, key_under, version_under}
use Rattle.recovery.specs.Walks.{AllHave}
use Rattle.recovery.proofs.SealSteps.{number_of_text}

not_zero : (p : ℕ) → p ≢ 0 → nat_eq p 0 ≡ false
not_zero p some = grind (arith, nat_tests)

module _ (o : StoreOpened) (s p : ℕ) (last : List ℕ) (version : ℕ) (key : Option PageKey) (pool : PoolState) (text : List ℕ) (due : IsSealable o s p (slice_index_or last p 0) (held_page (name_in s p) pool))
    (under : IsSealedUnder o s version key) (sealed : IsSealedPage s last version key pool p text) where
  abbrev salts : ℕ → List ℕ
  salts = salts_of o.contents

  abbrev lsn : ℕ
  lsn = slice_index_or last p 0

  -- what the text says in clear
  says : text_in text ≡ text_at lsn (version_under p version) text
  says = sealed_text page_bytes s p lsn (version_under p version) (key_under p key) (plain_text (used (held_page (name_in s p) pool))) text sealed.small sealed.is

  -- the page of a text, by what its contents are
  of : (x : Page) → pages_of o.contents s p ≡ x → MeansPage o.header o.keys salts s p (text_at lsn (version_under p version) text) x
  of Unused is = absurd (let e = due.is_used in let n : is_used (pages_of o.contents s p) ≡ false = ap is_used is in cc)
  of (Used page) is =
      let some : p ≢ 0 = subst (MayStandAt p) is due.stands in
      let clear : nat_eq p 0 ≡ false = not_zero p some in
      let held : held_page (name_in s p) pool ≡ Some page = due.holds ∙ ap plain_in_page is in
      let v : version_under p version ≡ version = ap (λ (b : Bool). if b then 0 else version) clear in
      let k : key_under p key ≡ key_at o.header o.keys salts s version = ap (λ (b : Bool). if b then None else key) clear ∙ under.key_is in
      let known : IfSome (key_at o.header o.keys salts s version) HasKeyBytes = subst (λ (x : Option PageKey). IfSome x HasKeyBytes) under.key_is under.known in
      let one : IsText page_bytes s p lsn (version_under p version) (key_under p key) (record { kind = page.kind; bytes = page.body }) text = subst (λ (h : Option PlainPage). IsText page_bytes s p lsn (version_under p version) (key_under p key) (plain_text (used h)) text) held sealed.is in
      let two : IsText page_bytes s p lsn version (key_under p key) (record { kind = page.kind; bytes = page.body }) text = subst (λ (w : ℕ). IsText page_bytes s p lsn w (key_under p key) (record { kind = page.kind; bytes = page.body }) text) v one in
      let three : IsText page_bytes s p lsn version (key_at o.header o.keys salts s version) (record { kind = page.kind; bytes = page.body }) text = subst (λ (x : Option PageKey). IsText page_bytes s p lsn version x (record { kind = page.kind; bytes = page.body }) text) k two in
      subst (λ (w : ℕ). MeansPage o.header o.keys salts s p (text_at lsn w text) (Used page)) (sym v) (sealed_means o.header o.keys salts s p lsn version page text some known three)
  of (Head info) is =
      let (at_zero, long) = subst (MayStandAt p) is due.stands in
      let (space, typed) = due.typed info is in
      let clear : nat_eq p 0 ≡ true = (let e : p ≡ 0 = at_zero in grind (arith, nat_tests)) in
      let held : held_page (name_in s p) pool ≡ Some (record { kind = (head_page info).kind; body = (head_page info).bytes }) = due.holds ∙ ap plain_in_page is in
      let v : version_under p version ≡ 0 = ap (λ (b : Bool). if b then 0 else version) clear in
      let k : key_under p key ≡ None = ap (λ (b : Bool). if b then None else key) clear in
      let one : IsText page_bytes s p lsn (version_under p version) (key_under p key) (head_page info) text = subst (λ (h : Option PlainPage). IsText page_bytes s p lsn (version_under p version) (key_under p key) (plain_text (used h)) text) held sealed.is in
      let two : IsText page_bytes s p lsn (version_under p version) None (head_page info) text = subst (λ (x : Option PageKey). IsText page_bytes s p lsn (version_under p version) x (head_page info) text) k one in
      let three : IsText page_bytes s 0 lsn (version_under p version) None (head_page info) text = subst (λ (q : ℕ). IsText page_bytes s q lsn (version_under p version) None (head_page info) text) at_zero two in
      (at_zero, space, typed, three)

  pub is_sealed : IsSealed (opened_theory o) o.view (pages_of o.contents) o.active s p (text_in text)
  is_sealed = subst (IsSealed (opened_theory o) o.view (pages_of o.contents) o.active s p) (sym says) (record {
    means = of (pages_of o.contents s p) refl;
    named = due.named;
    last = due.last;
    above = due.above;
    version = by (nat_eq p 0);
  })
    where
      by : (b : Bool) → (if b then 0 else version) ≡ (if is_ciphered (pages_of o.contents s 0) && not b then o.active else 0)
      by true = sym (none (is_ciphered (pages_of o.contents s 0)))
        where
          none : (b : Bool) → (if b && false then o.active else 0) ≡ 0
          none true = refl
          none false = refl
      by false = under.version_is ∙ both (is_ciphered (pages_of o.contents s 0))
        where
          both : (b : Bool) → (if b then o.active else 0) ≡ (if b && true then o.active else 0)
          both true = refl
          both false = refl

-- So are all of a range.
module _ (o : StoreOpened) (has : ℕ → Bool) (s : ℕ) (last : List ℕ) (version : ℕ) (key : Option PageKey) (pool : PoolState) (from end : ℕ) (under : IsSealedUnder o s version key) (due : AreSealable o has s last from end pool) where
  pub are_sealed : (texts : List (List ℕ)) → AllHave (IsTextIn has s last version key pool from end) texts → AreSealed (opened_theory o) o.view (pages_of o.contents) o.active s (pages_in texts)
  are_sealed [] all = tt
  are_sealed (x ∷ xs) (is, all) =
      let number : page_number_of x ≡ is.page = number_of_text s last version key pool is.page x is.sealed in (
        subst (λ (q : ℕ). IsSealed (opened_theory o) o.view (pages_of o.contents) o.active s q (text_in x)) (sym number)
            (is_sealed o s is.page last version key pool x (due.each is.page is.low is.high is.later) under is.sealed),
        are_sealed xs all,
      )
