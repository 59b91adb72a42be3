-- What the home of a page tells of the contents that a store is at rest with.
use Rattle.std.proofs.Common.{◌≡◌, ◌≢◌, ℕ, ◌<◌, Bool, true, false, nat_eq, if◌then◌else◌, List, [], ◌∷◌, length, slice_index_or, Option, Some, None, refl, sym, ap, ◌∙◌, subst, arith, option_map, inl, inr}
use Rattle.std.specs.Prelude.{MatchBool, Result, Ok}
use Rattle.byte_list.specs.Fields.{be32_at, be64_at}
use Rattle.disk_model.specs.Event.{Event, reads}
use Rattle.disk_model.specs.declared.names.FileName.TheVariants.{Log, Space}
use Rattle.key_ring.specs.Ring.{RingEntry}
use Rattle.key_ring.specs.Local.{local_key}
use Rattle.places.specs.Places.{place, shown}
use Rattle.page_places.specs.Texts.{page_bytes, are_zero, held, is_page_text, text_in}
use Rattle.page_places.specs.Views.{view}
use Rattle.page_places.proofs.Texts.{held_is}
use Rattle.page_text.specs.Text.{FitsPage, IsText, Plain}
use Rattle.page_text.specs.declared.key.PageKey.{PageKey}
use Rattle.redo_text.specs.declared.change.Change.{Change}
use Rattle.space_head.specs.Head.{head_of}
use Rattle.space_head.specs.declared.fault.HeadFault.{HeadFault}
use Rattle.space_head.specs.declared.head.SpaceHead.{SpaceHead}
use Rattle.space_head.specs.declared.record.CryptRecord.{CryptRecord}
use Rattle.space_head.specs.declared.space.Home.{Home}
use Rattle.space_head.specs.declared.space.Home.TheVariants as home
use Rattle.space_head.specs.declared.space.SpaceInfo.{SpaceInfo}
use Rattle.store_files.specs.Header.{HeldHeader, header_in}
use Rattle.store_files.specs.Pages.{Page, Head, Unused, Used, MeansPage, has_page, head_of_space, head_page, key_at, key_id_of, pages_of, salts_of}
use Rattle.store_image.specs.Places.{LogView}
use Rattle.store_image.specs.Recovers as pages
use Rattle.store_image.specs.View.{Text, Holds, Zero, Bad, Logged, IsChosen, IsLive, Home as ByHome, Copy as ByCopy, Unused as ByNone}
use Rattle.store_model.specs.declared.contents.SpaceContents.{SpaceContents}
use Rattle.crash_image.specs.Recovers.{RecoversBy}
use Rattle.crash_image.specs.Rest.{IsAtRest, read_image}
use Rattle.crash_image.specs.StoreTheory.{store_theory}
use Rattle.store_form.specs.Contents.{IsReadOfPage}
use Rattle.store_form.specs.PageRead.{IsHomeOpened, IsTextOpened, TakesTexts}
use Rattle.store_form.specs.Rest.{head_in_mode}
use Rattle.store_form.specs.declared.fault.RestFault.{RestFault}
use Rattle.store_form.proofs.FirstPages.{head_read}
use Rattle.page_places.proofs.Texts.{bytes_zero}
use Rattle.std.proofs.lemmas.Option.{same_Some}

-- a store at rest under the header that its disk has
pub record IsRestBy (es : List Event) (keys : List RingEntry) (c : List SpaceContents) (header : HeldHeader) : Type 0 where
  pub log : LogView (List Change)
  pub by : RecoversBy (read_image es) keys header log c
  pub empty : log.run ≡ []
  pub none_live : (s p i : ℕ) (t : Text) → has_page header.spaces s p ≡ true → IsLive (view log (read_image es)) s p i t → ⊥

one_header : (h g : HeldHeader) → Some h ≡ Some g → h ≡ g
one_header h g e = cc

pub rest_by : (es : List Event) (keys : List RingEntry) (c : List SpaceContents) (next : ℕ) (header : HeldHeader) → IsAtRest es keys c next → header_in (place 4096 0 (reads Log es)) ≡ Some header → IsRestBy es keys c header
rest_by es keys c next header rest is =
    subst (λ (h : HeldHeader). IsRestBy es keys c h) (one_header rest.recovers.header header (sym rest.recovers.is_header ∙ is))
    (record { log = rest.recovers.log; by = rest.recovers.by; empty = rest.empty; none_live = rest.none_live })

-- what a text says in clear
abbrev pub clear_text : List ℕ → Text
clear_text x = record { lsn = be64_at x 16; version = be32_at x 0; bytes = x }

pub text_in_is : (x : List ℕ) → text_in x ≡ clear_text x
unfolding text_in
text_in_is x = refl

pub held_zero : (p : ℕ) (x : List ℕ) → held p x ≡ Zero → are_zero x ≡ true
unfolding held
held_zero p x is = by (is_page_text p x) (are_zero x) refl is
  where
    by : (b z : Bool) → are_zero x ≡ z → (if b then Holds (text_in x) else (if z then Zero else Bad)) ≡ Zero → are_zero x ≡ true
    by true z at e = absurd (cc)
    by false true at e = at
    by false false at e = absurd (cc)

-- an unused page has zero bytes, and any other its text
pub data HomeTells (header : HeldHeader) (keys : List RingEntry) (salts : ℕ → List ℕ) (c : ℕ → ℕ → Page) (s p : ℕ) (bytes : List ℕ) : Type 0 where
  Blank : are_zero bytes ≡ true → p ≢ 0 → c s p ≡ Unused → HomeTells header keys salts c s p bytes
  Means : MeansPage header keys salts s p (clear_text bytes) (c s p) → HomeTells header keys salts c s p bytes

module _ (es : List Event) (keys : List RingEntry) (c : List SpaceContents) (header : HeldHeader) (rest : IsRestBy es keys c header) (s p : ℕ) (has : has_page header.spaces s p ≡ true) where
  abbrev home_bytes : List ℕ
  home_bytes = shown (Space s) page_bytes p es

  told_by : (o : Option Text) → IsChosen (view rest.log (read_image es)) s p o → pages.Gives (store_theory header keys (salts_of c)) (view rest.log (read_image es)) (pages_of c) s p o → HomeTells header keys (salts_of c) (pages_of c) s p home_bytes
  told_by o (ByHome t holds is) gives =
      let g = subst (λ (x : Option Text). pages.Gives (store_theory header keys (salts_of c)) (view rest.log (read_image es)) (pages_of c) s p x) is gives in
      let page : g.0 ≡ pages_of c s p = sym (g.3 ∙ ap (λ (run : List (Logged (List Change))). pages.later (store_theory header keys (salts_of c)) t.lsn run s p g.0) rest.empty) in
      let text : t ≡ clear_text home_bytes = sym (held_is p home_bytes t holds).1 ∙ text_in_is home_bytes in
      Means (subst (λ (u : Text). MeansPage header keys (salts_of c) s p u (pages_of c s p)) text (subst (λ (x : Page). MeansPage header keys (salts_of c) s p t x) page g.1))
  told_by o (ByCopy i t no_home copy newest least is) gives =
      absurd (rest.none_live s p i t has (record { copy = copy; above = λ u holds. absurd (no_home u holds); newest = λ _. newest }))
  told_by o (ByNone unused none is) gives =
      let g = subst (λ (x : Option Text). pages.Gives (store_theory header keys (salts_of c)) (view rest.log (read_image es)) (pages_of c) s p x) is gives in
      Blank (held_zero p home_bytes unused) g.0 (g.1 ∙ ap (λ (run : List (Logged (List Change))). pages.later (store_theory header keys (salts_of c)) 0 run s p Unused) rest.empty)

  pub home_tells : HomeTells header keys (salts_of c) (pages_of c) s p home_bytes
  home_tells = let page = rest.by.pages.pages s p has in told_by page.chosen page.is page.gives

-- ---- the salt of a space

head_salt : (c : List SpaceContents) (s : ℕ) (info : SpaceInfo) → pages_of c s 0 ≡ Head info → salts_of c s ≡ info.salt
head_salt [] s info is = absurd (cc)
head_salt (x ∷ xs) s info is = by (nat_eq x.info.space s) refl (head_salt xs s info)
  where
    one : (a b : SpaceInfo) → Head a ≡ Head b → a ≡ b
    one a b e = cc

    by : (b : Bool) → nat_eq x.info.space s ≡ b → (pages_of xs s 0 ≡ Head info → salts_of xs s ≡ info.salt) → (if nat_eq x.info.space s then x.info.salt else salts_of xs s) ≡ info.salt
    by true test later =
        let same : Head x.info ≡ Head info = ap (λ (b : Bool). if b then Head x.info else pages_of xs s 0) (sym test) ∙ is in
        ap (λ (b : Bool). if b then x.info.salt else salts_of xs s) test ∙ ap (λ (i : SpaceInfo). i.salt) (one x.info info same)
    by false test later =
        let rest : pages_of xs s 0 ≡ Head info = ap (λ (b : Bool). if b then Head x.info else pages_of xs s 0) (sym test) ∙ is in
        ap (λ (b : Bool). if b then x.info.salt else salts_of xs s) test ∙ later rest

one_read : (h g : SpaceHead) → ◌≡◌ {A = Result SpaceHead HeadFault} (Ok h) (Ok g) → h ≡ g
one_read h g e = cc

same_salt : (a b : SpaceInfo) (mode : ℕ) → ◌≡◌ {A = Result SpaceHead HeadFault} (Ok (head_of_space a)) (Ok (head_in_mode mode b)) → a.salt ≡ b.salt
same_salt a b mode e =
    let crypts : record { ciphered = a.ciphered; salt = a.salt; minimum = a.floor; key_id = a.key_id; mode = if a.ciphered then 1 else 2 } ≡ record { ciphered = b.ciphered; salt = b.salt; minimum = b.floor; key_id = b.key_id; mode = mode } =
    same_Some _ _ (ap (λ (h : SpaceHead). h.crypt) (one_read _ _ e)) in
    ap (λ (r : CryptRecord). r.salt) crypts

-- page 0 is in clear
clear_version : (size space lsn version : ℕ) (key : Option PageKey) (plain : Plain) (bytes : List ℕ) → IsText size space 0 lsn version key plain bytes → version ≡ 0
clear_version size space lsn version key plain bytes t = by t.fits
  where
    by : FitsPage 0 plain.kind version → version ≡ 0
    by (inl is) = is.2
    by (inr isnt) = absurd (isnt.0 refl)

in_clear : (lsn version : ℕ) (space : ℕ) (plain : Plain) (bytes : List ℕ) → version ≡ 0 → IsText 16384 space 0 lsn version None plain bytes → IsText 16384 space 0 lsn 0 None plain bytes
in_clear lsn version space plain bytes none t = subst (λ (v : ℕ). IsText 16384 space 0 lsn v None plain bytes) none t

pub head_told : (header : HeldHeader) (keys : List RingEntry) (salts : ℕ → List ℕ) (c : ℕ → ℕ → Page) (s : ℕ) (bytes : List ℕ) (x : Page) → length bytes ≡ 16384 → MeansPage header keys salts s 0 (clear_text bytes) x → (info : SpaceInfo) × (x ≡ Head info) × (head_of bytes ≡ Ok (head_of_space info))
head_told header keys salts c s bytes (Head info) long (first, space, typed, text) =
    (info, refl, head_read s (be64_at bytes 16) info bytes long typed (in_clear (be64_at bytes 16) (be32_at bytes 0) s (head_page info) bytes (clear_version 16384 s (be64_at bytes 16) (be32_at bytes 0) None (head_page info) bytes text) text))
head_told header keys salts c s bytes Unused long means = elim means [ ]
head_told header keys salts c s bytes (Used page) long means = absurd (means.0 refl)

-- the salt that a store tells of a space is that of its contents
pub salt_told : (header : HeldHeader) (keys : List RingEntry) (c : List SpaceContents) (s : ℕ) (told : SpaceInfo) (mode : ℕ) (bytes : List ℕ) → length bytes ≡ 16384 → HomeTells header keys (salts_of c) (pages_of c) s 0 bytes → head_of bytes ≡ Ok (head_in_mode mode told) → salts_of c s ≡ told.salt
salt_told header keys c s told mode bytes long (Blank unused isnt is) read = absurd (isnt refl)
salt_told header keys c s told mode bytes long (Means means) read =
    let head = head_told header keys (salts_of c) (pages_of c) s bytes (pages_of c s 0) long means in
    head_salt c s head.0 head.1 ∙ same_salt head.0 told mode (sym head.2 ∙ read)

-- ---- what reading gives

-- a text isn't zero bytes
pub text_not_zero : (size space page lsn version : ℕ) (key : Option PageKey) (plain : Plain) (bytes : List ℕ) → 8 < length bytes → IsText size space page lsn version key plain bytes → are_zero bytes ≡ false
text_not_zero size space page lsn version key plain bytes long t = by (are_zero bytes) refl
  where
    by : (b : Bool) → are_zero bytes ≡ b → are_zero bytes ≡ false
    by false is = is
    by true is =
        let byte : slice_index_or bytes 8 0 ≡ 255 = ap (λ (l : List ℕ). slice_index_or l 8 0) t.written in
        let none : slice_index_or bytes 8 0 ≡ 0 = bytes_zero bytes is 8 0 long in
        absurd (omega (arith, byte, none))

-- a page in clear is its text under any key
any_key : (space page lsn : ℕ) (key : Option PageKey) (plain : Plain) (bytes : List ℕ) → IsText 16384 space page lsn 0 None plain bytes → IsText 16384 space page lsn 0 key plain bytes
any_key space page lsn key plain bytes t = record {
  sized = t.sized;
  fits = t.fits;
  keyed = λ some. absurd (some refl);
  body_long = t.body_long;
  body_bytes = t.body_bytes;
  kind_fits = t.kind_fits;
  lsn_fits = t.lsn_fits;
  version_fits = t.version_fits;
  written = t.written;
}

module _ (header : HeldHeader) (keys : List RingEntry) (salts : ℕ → List ℕ) (told : ℕ → List ℕ) (s p : ℕ) (bytes left : List ℕ) (result : Result Home RestFault) (long : length bytes ≡ 16384) (salt : salts s ≡ told s)
    (takes : TakesTexts s p (key_at header keys told s (be32_at bytes 0)) bytes left result) where
  key_told : key_at header keys salts s (be32_at bytes 0) ≡ key_at header keys told s (be32_at bytes 0)
  key_told = ap (λ (x : List ℕ). option_map (λ local. record { local = local; algorithm = header.algorithm }) (local_key keys (key_id_of header.spaces s) (be32_at bytes 0) x)) salt

  gives_text : (x : Page) → MeansPage header keys salts s p (clear_text bytes) x → IsReadOfPage x left result
  gives_text Unused means = elim means [ ]
  gives_text (Used page) (some, key, text) =
      let moved = subst (λ (k : Option PageKey). IsText 16384 s p (be64_at bytes 16) (be32_at bytes 0) k (record { kind = page.kind; bytes = page.body }) bytes) key_told text in
      let taken = takes (text_not_zero 16384 s p (be64_at bytes 16) (be32_at bytes 0) _ _ bytes (omega (arith, long)) moved) (be64_at bytes 16) _ moved in
      subst (λ (r : Result Home RestFault). IsReadOfPage (Used page) left r) (sym taken.0) (be32_at bytes 0, refl, taken.1)
  gives_text (Head info) (first, space, typed, text) =
      let at_0 = subst (λ (n : ℕ). IsText 16384 s 0 (be64_at bytes 16) (be32_at bytes 0) None (head_page info) bytes) first text in
      let version : be32_at bytes 0 ≡ 0 = clear_version 16384 s (be64_at bytes 16) (be32_at bytes 0) None (head_page info) bytes text in
      let clear : IsText 16384 s 0 (be64_at bytes 16) 0 None (head_page info) bytes = in_clear (be64_at bytes 16) (be32_at bytes 0) s (head_page info) bytes version text in
      let under = any_key s 0 (be64_at bytes 16) (key_at header keys told s (be32_at bytes 0)) (head_page info) bytes clear in
      let here = subst (λ (n : ℕ). IsText 16384 s n (be64_at bytes 16) 0 (key_at header keys told s (be32_at bytes 0)) (head_page info) bytes) (sym first) under in
      let moved = subst (λ (v : ℕ). IsText 16384 s p (be64_at bytes 16) v (key_at header keys told s (be32_at bytes 0)) (head_page info) bytes) (sym version) here in
      let taken = takes (text_not_zero 16384 s p (be64_at bytes 16) (be32_at bytes 0) _ _ bytes (omega (arith, long)) moved) (be64_at bytes 16) _ moved in
      subst (λ (r : Result Home RestFault). IsReadOfPage (Head info) left r) (sym (taken.0 ∙ ap (λ (v : ℕ). Ok (home.Clean v)) version)) (refl, taken.1)

  pub gives : (c : ℕ → ℕ → Page) → IsHomeOpened s p (key_id_of header.spaces s) (key_at header keys told s (be32_at bytes 0)) bytes left result → HomeTells header keys salts c s p bytes → IsReadOfPage (c s p) left result
  gives c opened (Blank unused isnt is) =
      let both : (result ≡ Ok home.Unused) × (left ≡ bytes) =
      subst (λ (b : Bool). MatchBool b ((result ≡ Ok home.Unused) × (left ≡ bytes)) (IsTextOpened s p (key_id_of header.spaces s) (key_at header keys told s (be32_at bytes 0)) bytes left result)) unused opened in
      subst (λ (x : Page). IsReadOfPage x left result) (sym is) (subst (λ (r : Result Home RestFault). IsReadOfPage Unused left r) (sym both.0) (refl, ap are_zero both.1 ∙ unused))
  gives c opened (Means means) = gives_text (c s p) means
