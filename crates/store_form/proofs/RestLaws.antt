-- A space of a store at rest is found by its id.
use Rattle.std.proofs.Common.{◌≡◌, ℕ, suc, zero, ◌+◌, ◌<◌, Bool, true, false, true≢false, nat_eq, nat_lt, not, if◌then◌else◌, List, [], ◌∷◌, length, slice_index_or, refl, sym, ◌*◌, ◌≤◌, ap, ◌∙◌, subst, arith}
use Rattle.std.proofs.lemmas.Bool.Decides.{nat_tests}
use Rattle.space_head.specs.declared.space.SpaceInfo.{SpaceInfo}
use Rattle.space_head.specs.declared.space.Home.{Home}
use Rattle.store_files.specs.Header.{HeldSpace}
use Rattle.store_files.specs.Pages.{has_page, key_id_of}
use Rattle.disk_model.specs.Event.{Event, reads}
use Rattle.disk_model.specs.Image.{InFile}
use Rattle.disk_model.specs.declared.names.FileName.TheVariants.{Space}
use Rattle.page_places.specs.Texts.{page_bytes}
use Rattle.places.specs.Places.{shown}
use Rattle.space_head.specs.declared.space.Home.TheVariants.{Unused}
use Rattle.store_form.specs.Rest.{HaveHomes, SpaceReads, SpacesRead, home_told, homes_of, place_in, salt_in}

-- what stands at the place of a space that has the page
pub record IsSpaceFound (hs : List HeldSpace) (ss : List SpaceInfo) (os : List (List Home)) (s p place : ℕ) : Type 0 where
  pub there : place < length ss
  pub listed : place < length os
  pub space : (d : SpaceInfo) → (slice_index_or ss place d).space ≡ s
  pub pages : (d : SpaceInfo) → p < (slice_index_or ss place d).pages
  pub key_id : (d : SpaceInfo) → (slice_index_or ss place d).key_id ≡ key_id_of hs s
  pub salt : (d : SpaceInfo) → (slice_index_or ss place d).salt ≡ salt_in ss s
  pub homes : slice_index_or os place [] ≡ homes_of ss os s

pub space_found : (hs : List HeldSpace) (ss : List SpaceInfo) (os : List (List Home)) (s p : ℕ) → HaveHomes hs ss os → has_page hs s p ≡ true → IsSpaceFound hs ss os s p (place_in ss s)
space_found [] ss os s p have has = absurd (true≢false (sym has))
space_found (h ∷ hs) [] os s p have has = absurd have
space_found (h ∷ hs) (x ∷ ss) [] s p have has = absurd have
space_found (h ∷ hs) (x ∷ ss) (o ∷ os) s p (space, pages, key_id, long, none, rest) has = by (nat_eq x.space s) refl (λ below. space_found hs ss os s p rest below)
  where
    held : (b : Bool) → nat_eq x.space s ≡ b → nat_eq h.space s ≡ b
    held b test = ap (λ (n : ℕ). nat_eq n s) (sym space) ∙ test

    by : (b : Bool) → nat_eq x.space s ≡ b → (has_page hs s p ≡ true → IsSpaceFound hs ss os s p (place_in ss s)) → IsSpaceFound (h ∷ hs) (x ∷ ss) (o ∷ os) s p (if not b then 1 + place_in ss s else 0)
    by true test later =
        let below : nat_lt p h.pages ≡ true = ap (λ (b : Bool). if b then nat_lt p h.pages else has_page hs s p) (sym (held true test)) ∙ has in
        let lt : p < h.pages = grind (arith, nat_tests) in
        record {
          there = omega arith;
          listed = omega arith;
          space = λ d. grind (arith, nat_tests);
          pages = λ d. omega (arith, lt, pages);
          key_id = λ d. key_id ∙ ap (λ (b : Bool). if b then h.key_id else key_id_of hs s) (sym (held true test));
          salt = λ d. ap (λ (b : Bool). if b then x.salt else salt_in ss s) (sym test);
          homes = ap (λ (b : Bool). if b then o else homes_of ss os s) (sym test);
        }
    by false test later =
        let below : has_page hs s p ≡ true = ap (λ (b : Bool). if b then nat_lt p h.pages else has_page hs s p) (sym (held false test)) ∙ has in
        let rest = later below in
        let one : suc (place_in ss s) ≡ 1 + place_in ss s = omega arith in
        let lt = rest.there in
        let lt2 = rest.listed in
        let found : IsSpaceFound (h ∷ hs) (x ∷ ss) (o ∷ os) s p (suc (place_in ss s)) = record {
          there = omega (arith, lt);
          listed = omega (arith, lt2);
          space = rest.space;
          pages = rest.pages;
          key_id = λ d. rest.key_id d ∙ ap (λ (b : Bool). if b then h.key_id else key_id_of hs s) (sym (held false test));
          salt = λ d. rest.salt d ∙ ap (λ (b : Bool). if b then x.salt else salt_in ss s) (sym test);
          homes = rest.homes ∙ ap (λ (b : Bool). if b then o else homes_of ss os s) (sym test);
        } in
        subst (λ (k : ℕ). IsSpaceFound (h ∷ hs) (x ∷ ss) (o ∷ os) s p k) one found

-- the space that was found, as the code has it
pub record IsInfo (hs : List HeldSpace) (ss : List SpaceInfo) (s p : ℕ) (info : SpaceInfo) : Type 0 where
  pub space : info.space ≡ s
  pub pages : p < info.pages
  pub key_id : info.key_id ≡ key_id_of hs s
  pub salt : info.salt ≡ salt_in ss s

pub info_found : (hs : List HeldSpace) (ss : List SpaceInfo) (os : List (List Home)) (s p place : ℕ) (info : SpaceInfo) → IsSpaceFound hs ss os s p place → info ≡ slice_index_or ss place info → IsInfo hs ss s p info
info_found hs ss os s p place info found is = record {
  space = ap (λ (i : SpaceInfo). i.space) is ∙ found.space info;
  pages = let same : info.pages ≡ (slice_index_or ss place info).pages = ap (λ (i : SpaceInfo). i.pages) is in let lt = found.pages info in omega (arith, lt, same);
  key_id = ap (λ (i : SpaceInfo). i.key_id) is ∙ found.key_id info;
  salt = ap (λ (i : SpaceInfo). i.salt) is ∙ found.salt info;
}

-- what the disk reads as of a space by its place
pub space_reads : (ss : List SpaceInfo) (os : List (List Home)) (es : List Event) (place : ℕ) (d : SpaceInfo) → SpacesRead ss os es → place < length ss → place < length os
    → SpaceReads (slice_index_or ss place d) (slice_index_or os place []) es
space_reads [] os es place d read there listed = absurd (omega (arith, there))
space_reads (x ∷ ss) [] es place d read there listed = absurd (omega (arith, listed))
space_reads (x ∷ ss) (o ∷ os) es zero d read there listed = read.0
space_reads (x ∷ ss) (o ∷ os) es (suc place) d read there listed = space_reads ss os es place d read.1 (omega (arith, there)) (omega (arith, listed))

-- a page of a space lies within its file
pub page_inside : (info : SpaceInfo) (homes : List Home) (es : List Event) (s p : ℕ) → SpaceReads info homes es → info.space ≡ s → p < info.pages → InFile (Space s) (p * page_bytes) page_bytes es
page_inside info homes es s p read space below =
    let within : (p * 16384) + 16384 ≤ length (reads (Space info.space) es) = omega (arith, read.long, below) in
    subst (λ (n : ℕ). InFile (Space n) (p * page_bytes) page_bytes es) space (record { there = read.there; within = within })

-- what is known of a page of it is what its home tells
pub page_known : (info : SpaceInfo) (homes all : List Home) (es : List Event) (s p : ℕ) → SpaceReads info homes es → info.space ≡ s → p < info.pages → homes ≡ all → slice_index_or all p Unused ≡ home_told (shown (Space s) page_bytes p es)
page_known info homes all es s p read space below same =
    ap (λ (l : List Home). slice_index_or l p Unused) (sym same) ∙ read.told p below ∙ ap (λ (n : ℕ). home_told (shown (Space n) page_bytes p es)) space
