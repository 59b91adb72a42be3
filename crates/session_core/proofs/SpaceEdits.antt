-- The spaces of a store, with one of them or one of their homes changed, go together as before.
use Rattle.std.proofs.Common.{◌≡◌, ℕ, suc, zero, ◌+◌, ◌<◌, ◌&&◌, Bool, true, false, true≢false, nat_eq, nat_lt, not, if◌then◌else◌, List, [], ◌∷◌, length, slice_index_or, slice_set, Some, None, refl, sym, ap, ◌∙◌, subst, arith}
use Rattle.std.proofs.lemmas.Bool.Decides.{nat_tests}
use Rattle.std.proofs.lemmas.List.{length-set}
use Rattle.std.proofs.lemmas.Option.{none-some, same_Some}
use Rattle.crash_image.specs.Recovers.{IsOfStore}
use Rattle.page_pool.specs.Changes.{page_of_change}
use Rattle.redo_text.specs.declared.change.Change.{Change}
use Rattle.redo_text.specs.declared.change.Change.TheVariants.{Put, Kind, Touch, Floor, Encrypt}
use Rattle.space_head.specs.declared.space.Home.{Home}
use Rattle.space_head.specs.declared.space.SpaceInfo.{SpaceInfo}
use Rattle.store_files.specs.Header.{HeldSpace}
use Rattle.store_files.specs.Pages.{has_page}
use Rattle.store_form.specs.Rest.{place_in}
use Rattle.session_core.specs.SpaceChanges.{with_home, with_space}
use Rattle.session_core.specs.Spaces.{AreSpaces, HaveLists, StoreSpaces, space_with_id}

-- the lists with another home at the place of a space
pub home_placed : (hs : List HeldSpace) (ss : List SpaceInfo) (os : List (List Home)) (s p : ℕ) (home : Home) (info : SpaceInfo) → HaveLists hs ss os → space_with_id ss s ≡ Some info
    → slice_set os (place_in ss s) (slice_set (slice_index_or os (place_in ss s) []) p home) ≡ with_home ss os s p home
home_placed hs [] os s p home info have is = absurd (none-some info is)
home_placed [] (x ∷ ss) os s p home info have is = absurd have
home_placed (h ∷ hs) (x ∷ ss) [] s p home info have is = absurd have
home_placed (h ∷ hs) (x ∷ ss) (o ∷ os) s p home info (space, pages, key_id, long, rest) is = by (nat_eq x.space s) refl (λ below. home_placed hs ss os s p home info rest below)
  where
    by : (b : Bool) → nat_eq x.space s ≡ b → (space_with_id ss s ≡ Some info → slice_set os (place_in ss s) (slice_set (slice_index_or os (place_in ss s) []) p home) ≡ with_home ss os s p home)
        → slice_set (o ∷ os) (if not b then 1 + place_in ss s else 0) (slice_set (slice_index_or (o ∷ os) (if not b then 1 + place_in ss s else 0) []) p home) ≡ (if b then slice_set o p home ∷ os else o ∷ with_home ss os s p home)
    by true test later = refl
    by false test later =
        let below : space_with_id ss s ≡ Some info = ap (λ (b : Bool). if b then Some x else space_with_id ss s) (sym test) ∙ is in
        let one : suc (place_in ss s) ≡ 1 + place_in ss s = omega arith in
        subst (λ (k : ℕ). slice_set (o ∷ os) k (slice_set (slice_index_or (o ∷ os) k []) p home) ≡ o ∷ with_home ss os s p home) one (ap (λ (l : List (List Home)). o ∷ l) (later below))

-- a space that is found has a place
pub place_within : (ss : List SpaceInfo) (s : ℕ) (info : SpaceInfo) → space_with_id ss s ≡ Some info → place_in ss s < length ss
place_within [] s info is = absurd (none-some info is)
place_within (x ∷ ss) s info is = by (nat_eq x.space s) refl (λ below. place_within ss s info below)
  where
    by : (b : Bool) → nat_eq x.space s ≡ b → (space_with_id ss s ≡ Some info → place_in ss s < length ss) → (if not b then 1 + place_in ss s else 0) < suc (length ss)
    by true test later = omega arith
    by false test later =
        let below : space_with_id ss s ≡ Some info = ap (λ (b : Bool). if b then Some x else space_with_id ss s) (sym test) ∙ is in
        let lt = later below in
        omega (arith, lt)

-- the list with the space at its place changed
pub space_placed : (ss : List SpaceInfo) (s : ℕ) (f : SpaceInfo → SpaceInfo) (info d : SpaceInfo) → space_with_id ss s ≡ Some info → slice_set ss (place_in ss s) (f (slice_index_or ss (place_in ss s) d)) ≡ with_space ss s f
space_placed [] s f info d is = absurd (none-some info is)
space_placed (x ∷ ss) s f info d is = by (nat_eq x.space s) refl (λ below. space_placed ss s f info d below)
  where
    by : (b : Bool) → nat_eq x.space s ≡ b → (space_with_id ss s ≡ Some info → slice_set ss (place_in ss s) (f (slice_index_or ss (place_in ss s) d)) ≡ with_space ss s f)
        → slice_set (x ∷ ss) (if not b then 1 + place_in ss s else 0) (f (slice_index_or (x ∷ ss) (if not b then 1 + place_in ss s else 0) d)) ≡ (if b then f x ∷ ss else x ∷ with_space ss s f)
    by true test later = refl
    by false test later =
        let below : space_with_id ss s ≡ Some info = ap (λ (b : Bool). if b then Some x else space_with_id ss s) (sym test) ∙ is in
        let one : suc (place_in ss s) ≡ 1 + place_in ss s = omega arith in
        subst (λ (k : ℕ). slice_set (x ∷ ss) k (f (slice_index_or (x ∷ ss) k d)) ≡ x ∷ with_space ss s f) one (ap (λ (l : List SpaceInfo). x ∷ l) (later below))

-- with another home they go together
pub have_home : (hs : List HeldSpace) (ss : List SpaceInfo) (os : List (List Home)) (s p : ℕ) (home : Home) → HaveLists hs ss os → HaveLists hs ss (with_home ss os s p home)
have_home [] [] [] s p home have = have
have_home [] [] (o ∷ os) s p home have = absurd have
have_home [] (x ∷ ss) os s p home have = absurd have
have_home (h ∷ hs) [] os s p home have = absurd have
have_home (h ∷ hs) (x ∷ ss) [] s p home have = absurd have
have_home (h ∷ hs) (x ∷ ss) (o ∷ os) s p home (space, pages, key_id, long, rest) = by (nat_eq x.space s) (have_home hs ss os s p home rest)
  where
    by : (b : Bool) → HaveLists hs ss (with_home ss os s p home) → HaveLists (h ∷ hs) (x ∷ ss) (if b then slice_set o p home ∷ os else o ∷ with_home ss os s p home)
    by true later = (space, pages, key_id, length-set o p home ∙ long, rest)
    by false later = (space, pages, key_id, long, later)

-- what is made of a space has its id, its pages and its key id
pub record KeepsIds (f : SpaceInfo → SpaceInfo) : Type 0 where
  pub space : (x : SpaceInfo) → (f x).space ≡ x.space
  pub pages : (x : SpaceInfo) → (f x).pages ≡ x.pages
  pub key_id : (x : SpaceInfo) → (f x).key_id ≡ x.key_id

pub have_space : (hs : List HeldSpace) (ss : List SpaceInfo) (os : List (List Home)) (s : ℕ) (f : SpaceInfo → SpaceInfo) → KeepsIds f → HaveLists hs ss os → HaveLists hs (with_space ss s f) os
have_space [] [] [] s f keeps have = have
have_space [] [] (o ∷ os) s f keeps have = absurd have
have_space [] (x ∷ ss) os s f keeps have = absurd have
have_space (h ∷ hs) [] os s f keeps have = absurd have
have_space (h ∷ hs) (x ∷ ss) [] s f keeps have = absurd have
have_space (h ∷ hs) (x ∷ ss) (o ∷ os) s f keeps (space, pages, key_id, long, rest) = by (nat_eq x.space s) (have_space hs ss os s f keeps rest)
  where
    by : (b : Bool) → HaveLists hs (with_space ss s f) os → HaveLists (h ∷ hs) (if b then f x ∷ ss else x ∷ with_space ss s f) (o ∷ os)
    by true later = (keeps.space x ∙ space, keeps.pages x ∙ pages, keeps.key_id x ∙ key_id, long, rest)
    by false later = (space, pages, key_id, long, later)

-- the space of a page of the store
pub info_of_page : (hs : List HeldSpace) (ss : List SpaceInfo) (os : List (List Home)) (s p : ℕ) → HaveLists hs ss os → has_page hs s p ≡ true → (info : SpaceInfo) × (space_with_id ss s ≡ Some info) × (p < info.pages)
info_of_page [] ss os s p have there = absurd (true≢false (sym there))
info_of_page (h ∷ hs) [] os s p have there = absurd have
info_of_page (h ∷ hs) (x ∷ ss) [] s p have there = absurd have
info_of_page (h ∷ hs) (x ∷ ss) (o ∷ os) s p (space, pages, key_id, long, rest) there = by (nat_eq x.space s) (ap (λ (n : ℕ). nat_eq n s) (sym space)) there (λ more. info_of_page hs ss os s p rest more)
  where
    by : (b : Bool) → nat_eq h.space s ≡ b → (if nat_eq h.space s then nat_lt p h.pages else has_page hs s p) ≡ true → (has_page hs s p ≡ true → (info : SpaceInfo) × (space_with_id ss s ≡ Some info) × (p < info.pages))
        → (info : SpaceInfo) × ((if b then Some x else space_with_id ss s) ≡ Some info) × (p < info.pages)
    by true test at later =
        let below : nat_lt p h.pages ≡ true = ap (λ (b : Bool). if b then nat_lt p h.pages else has_page hs s p) (sym test) ∙ at in
        let lt : p < h.pages = grind (arith, nat_tests) in
        (x, refl, omega (arith, lt, pages))
    by false test at later = later (ap (λ (b : Bool). if b then nat_lt p h.pages else has_page hs s p) (sym test) ∙ at)

page_there : (hs : List HeldSpace) (c : Change) → IsOfStore hs c → has_page hs (page_of_change c).space (page_of_change c).page ≡ true
page_there hs (Put s page at bytes) there = there
page_there hs (Kind s page kind) there = there
page_there hs (Touch s page) there = there
page_there hs (Floor s version) there = there
page_there hs (Encrypt s) there = there

-- and that of a change
pub space_named : (store : StoreSpaces) (c : Change) → AreSpaces store → IsOfStore store.header.spaces c → (info : SpaceInfo) × (space_with_id store.spaces (page_of_change c).space ≡ Some info) × ((page_of_change c).page < info.pages)
space_named store c are of_store = info_of_page store.header.spaces store.spaces store.homes (page_of_change c).space (page_of_change c).page are.have (page_there store.header.spaces c of_store)
