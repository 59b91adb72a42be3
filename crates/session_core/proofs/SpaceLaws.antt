-- A space of a session's store is found by its id.
use Rattle.std.proofs.Common.{◌≡◌, ℕ, suc, zero, ◌+◌, ◌*◌, ◌<◌, ◌≤◌, ◌&&◌, Bool, true, false, true≢false, eq-eqb, ne_eqb, drop, get_or, nat_eq, nat_lt, not, if◌then◌else◌, List, [], ◌∷◌, length, slice_index_or, Option, Some, None, refl, sym, ap, ◌∙◌, subst, arith}
use Rattle.std.specs.List.{All}
use Rattle.std.proofs.lemmas.Bool.Decides.{nat_tests}
use Rattle.std.proofs.lemmas.Option.{none-some, same_Some}
use Rattle.byte_list.proofs.RangeLaws.{drop_item}
use Rattle.disk_model.specs.Event.{Event, reads}
use Rattle.disk_model.specs.Image.{InFile}
use Rattle.disk_model.specs.declared.names.FileName.TheVariants.{Space}
use Rattle.page_places.specs.Texts.{page_bytes, pages}
use Rattle.places.specs.Places.{HasFile}
use Rattle.space_head.specs.declared.space.Home.{Home}
use Rattle.space_head.specs.declared.space.SpaceInfo.{SpaceInfo}
use Rattle.store_files.specs.Header.{HeldSpace}
use Rattle.store_form.specs.Rest.{homes_of, place_in}
use Rattle.session_core.specs.Spaces.{HaveLists, is_page, space_with_id}

-- what stands at the place of a space of this id
pub record IsSpaceHere (ss : List SpaceInfo) (os : List (List Home)) (s : ℕ) (info : SpaceInfo) (place : ℕ) : Type 0 where
  pub space : info.space ≡ s
  pub there : place < length ss
  pub listed : place < length os
  pub homes : slice_index_or os place [] ≡ homes_of ss os s
  pub long : length (homes_of ss os s) ≡ info.pages

pub space_here : (hs : List HeldSpace) (ss : List SpaceInfo) (os : List (List Home)) (s : ℕ) (info : SpaceInfo) → HaveLists hs ss os → space_with_id ss s ≡ Some info → IsSpaceHere ss os s info (place_in ss s)
space_here hs [] os s info have is = absurd (none-some info is)
space_here [] (x ∷ ss) os s info have is = absurd have
space_here (h ∷ hs) (x ∷ ss) [] s info have is = absurd have
space_here (h ∷ hs) (x ∷ ss) (o ∷ os) s info (space, pages, key_id, long, rest) is = by (nat_eq x.space s) refl (λ below. space_here hs ss os s info rest below)
  where
    by : (b : Bool) → nat_eq x.space s ≡ b → (space_with_id ss s ≡ Some info → IsSpaceHere ss os s info (place_in ss s)) → IsSpaceHere (x ∷ ss) (o ∷ os) s info (if not b then 1 + place_in ss s else 0)
    by true test later =
        let e : x ≡ info = same_Some x info (ap (λ (b : Bool). if b then Some x else space_with_id ss s) (sym test) ∙ is) in
        let own : x.space ≡ s = grind (arith, nat_tests) in
        let homes : o ≡ homes_of (x ∷ ss) (o ∷ os) s = ap (λ (b : Bool). if b then o else homes_of ss os s) (sym test) in
        record {
          space = ap (λ (i : SpaceInfo). i.space) (sym e) ∙ own;
          there = omega arith;
          listed = omega arith;
          homes = homes;
          long = ap length (sym homes) ∙ long ∙ sym pages ∙ ap (λ (i : SpaceInfo). i.pages) e;
        }
    by false test later =
        let below : space_with_id ss s ≡ Some info = ap (λ (b : Bool). if b then Some x else space_with_id ss s) (sym test) ∙ is in
        let found = later below in
        let there = found.there in
        let listed = found.listed in
        let one : suc (place_in ss s) ≡ 1 + place_in ss s = omega arith in
        let homes : homes_of ss os s ≡ homes_of (x ∷ ss) (o ∷ os) s = ap (λ (b : Bool). if b then o else homes_of ss os s) (sym test) in
        let here : IsSpaceHere (x ∷ ss) (o ∷ os) s info (suc (place_in ss s)) = record {
          space = found.space;
          there = omega (arith, there);
          listed = omega (arith, listed);
          homes = found.homes ∙ homes;
          long = ap length (sym homes) ∙ found.long;
        } in
        subst (λ (k : ℕ). IsSpaceHere (x ∷ ss) (o ∷ os) s info k) one here

-- a page of a space that is found: one from page 1 on, within the space
pub page_found : (ss : List SpaceInfo) (s p : ℕ) (info : SpaceInfo) → space_with_id ss s ≡ Some info → is_page ss s p ≡ (not (nat_eq p 0) && nat_lt p info.pages)
page_found [] s p info is = absurd (none-some info is)
page_found (x ∷ ss) s p info is = by (nat_eq x.space s) refl (λ below. page_found ss s p info below)
  where
    by : (b : Bool) → nat_eq x.space s ≡ b → (space_with_id ss s ≡ Some info → is_page ss s p ≡ (not (nat_eq p 0) && nat_lt p info.pages))
        → (if b then (not (nat_eq p 0) && nat_lt p x.pages) else is_page ss s p) ≡ (not (nat_eq p 0) && nat_lt p info.pages)
    by true test later =
        let e : x ≡ info = same_Some x info (ap (λ (b : Bool). if b then Some x else space_with_id ss s) (sym test) ∙ is) in
        ap (λ (i : SpaceInfo). not (nat_eq p 0) && nat_lt p i.pages) e
    by false test later = later (ap (λ (b : Bool). if b then Some x else space_with_id ss s) (sym test) ∙ is)

pub page_missing : (ss : List SpaceInfo) (s p : ℕ) → space_with_id ss s ≡ None → is_page ss s p ≡ false
page_missing [] s p is = refl
page_missing (x ∷ ss) s p is = by (nat_eq x.space s) refl (λ below. page_missing ss s p below)
  where
    by : (b : Bool) → nat_eq x.space s ≡ b → (space_with_id ss s ≡ None → is_page ss s p ≡ false) → (if b then (not (nat_eq p 0) && nat_lt p x.pages) else is_page ss s p) ≡ false
    by true test later = absurd (none-some x (sym (ap (λ (b : Bool). if b then Some x else space_with_id ss s) (sym test) ∙ is)))
    by false test later = later (ap (λ (b : Bool). if b then Some x else space_with_id ss s) (sym test) ∙ is)

-- the file of a space that is found
pub file_of : (ss : List SpaceInfo) (s : ℕ) (info : SpaceInfo) (es : List Event) → space_with_id ss s ≡ Some info → All (λ info. HasFile (Space info.space) (pages info.pages) es) ss → HasFile (Space info.space) (pages info.pages) es
file_of [] s info es is all = absurd (none-some info is)
file_of (x ∷ ss) s info es is all = by (nat_eq x.space s) refl (λ below. file_of ss s info es below (λ k d lt. all (suc k) d (omega arith)))
  where
    by : (b : Bool) → nat_eq x.space s ≡ b → (space_with_id ss s ≡ Some info → HasFile (Space info.space) (pages info.pages) es) → HasFile (Space info.space) (pages info.pages) es
    by true test later =
        let e : x ≡ info = same_Some x info (ap (λ (b : Bool). if b then Some x else space_with_id ss s) (sym test) ∙ is) in
        subst (λ (i : SpaceInfo). HasFile (Space i.space) (pages i.pages) es) e (all 0 x (omega arith))
    by false test later = later (ap (λ (b : Bool). if b then Some x else space_with_id ss s) (sym test) ∙ is)

-- a page of a space lies within its file
pub page_within : (info : SpaceInfo) (p : ℕ) (es : List Event) → HasFile (Space info.space) (pages info.pages) es → p < info.pages → InFile (Space info.space) (p * page_bytes) page_bytes es
page_within info p es file below =
    let long : length (reads (Space info.space) es) ≡ info.pages * 16384 = file.size in
    let within : (p * 16384) + 16384 ≤ length (reads (Space info.space) es) = omega (arith, long, below) in
    record { there = file.there; within = within }

-- one step of looking a space up
looked : (xs : List SpaceInfo) (i : ℕ) (x : SpaceInfo) (s : ℕ) → i < length xs → x ≡ get_or xs i x → space_with_id (drop i xs) s ≡ (if nat_eq x.space s then Some x else space_with_id (drop (i + 1) xs) s)
looked xs i x s lt is = ap (λ (l : List SpaceInfo). space_with_id l s) (drop_item xs i x lt is)

pub space_hit : (xs : List SpaceInfo) (i : ℕ) (x : SpaceInfo) (s : ℕ) → i < length xs → x ≡ get_or xs i x → x.space ≡ s → space_with_id (drop i xs) s ≡ Some x
space_hit xs i x s lt is same = looked xs i x s lt is ∙ ap (λ (b : Bool). if b then Some x else space_with_id (drop (i + 1) xs) s) (eq-eqb x.space s same)

pub space_skip : (xs : List SpaceInfo) (i : ℕ) (x : SpaceInfo) (s : ℕ) → i < length xs → x ≡ get_or xs i x → (x.space ≡ s → ⊥) → space_with_id (drop (i + 1) xs) s ≡ space_with_id (drop i xs) s
space_skip xs i x s lt is other = sym (looked xs i x s lt is ∙ ap (λ (b : Bool). if b then Some x else space_with_id (drop (i + 1) xs) s) (ne_eqb x.space s other))

-- a space that is found has this id
pub space_id : (xs : List SpaceInfo) (s : ℕ) (info : SpaceInfo) → space_with_id xs s ≡ Some info → info.space ≡ s
space_id [] s info is = absurd (none-some info is)
space_id (x ∷ xs) s info is = by (nat_eq x.space s) refl (λ below. space_id xs s info below)
  where
    by : (b : Bool) → nat_eq x.space s ≡ b → (space_with_id xs s ≡ Some info → info.space ≡ s) → info.space ≡ s
    by true test later =
        let e : x ≡ info = same_Some x info (ap (λ (b : Bool). if b then Some x else space_with_id xs s) (sym test) ∙ is) in
        let own : x.space ≡ s = grind (arith, nat_tests) in
        ap (λ (i : SpaceInfo). i.space) (sym e) ∙ own
    by false test later = later (ap (λ (b : Bool). if b then Some x else space_with_id xs s) (sym test) ∙ is)

-- a page of the store, from page 1 on, is within its space
page_by : (a b : Bool) → (not a && b) ≡ true → b ≡ true
page_by true b is = absurd (true≢false (sym is))
page_by false b is = is

pub page_below : (ss : List SpaceInfo) (s p : ℕ) → is_page ss s p ≡ true → (info : SpaceInfo) × (space_with_id ss s ≡ Some info) × (p < info.pages)
page_below [] s p is = absurd (true≢false (sym is))
page_below (x ∷ ss) s p is = by (nat_eq x.space s) refl (λ below. page_below ss s p below)
  where
    by : (b : Bool) → nat_eq x.space s ≡ b → (is_page ss s p ≡ true → (info : SpaceInfo) × (space_with_id ss s ≡ Some info) × (p < info.pages))
        → (info : SpaceInfo) × ((if b then Some x else space_with_id ss s) ≡ Some info) × (p < info.pages)
    by true test later =
        let here : (not (nat_eq p 0) && nat_lt p x.pages) ≡ true = ap (λ (b : Bool). if b then (not (nat_eq p 0) && nat_lt p x.pages) else is_page ss s p) (sym test) ∙ is in
        let below : nat_lt p x.pages ≡ true = page_by (nat_eq p 0) (nat_lt p x.pages) here in
        (x, refl, grind (arith, nat_tests))
    by false test later = later (ap (λ (b : Bool). if b then (not (nat_eq p 0) && nat_lt p x.pages) else is_page ss s p) (sym test) ∙ is)

-- the tests of a page's number
and_false : (a : Bool) → (a && false) ≡ false
and_false true = refl
and_false false = refl

pub page_zero : (p n : ℕ) → p ≡ 0 → (not (nat_eq p 0) && nat_lt p n) ≡ false
page_zero p n is = ap (λ (b : Bool). not b && nat_lt p n) (eq-eqb p 0 is)

pub page_some : (ss : List SpaceInfo) (s p : ℕ) → is_page ss s p ≡ true → p ≡ 0 → ⊥
page_some [] s p is none = true≢false (sym is)
page_some (x ∷ ss) s p is none = by (nat_eq x.space s) is (λ below. page_some ss s p below none)
  where
    by : (b : Bool) → (if b then (not (nat_eq p 0) && nat_lt p x.pages) else is_page ss s p) ≡ true → (is_page ss s p ≡ true → ⊥) → ⊥
    by true at later = true≢false (sym at ∙ page_zero p x.pages none)
    by false at later = later at

pub page_past : (p n : ℕ) → n ≤ p → (not (nat_eq p 0) && nat_lt p n) ≡ false
page_past p n past = let over : nat_lt p n ≡ false = grind (arith, nat_tests) in ap (λ (b : Bool). not (nat_eq p 0) && b) over ∙ and_false (not (nat_eq p 0))

pub page_inside : (p n : ℕ) → (p ≡ 0 → ⊥) → p < n → (not (nat_eq p 0) && nat_lt p n) ≡ true
page_inside p n some below = let under : nat_lt p n ≡ true = grind (arith, nat_tests) in ap (λ (b : Bool). not b && nat_lt p n) (ne_eqb p 0 some) ∙ under

pub below_found : (ss : List SpaceInfo) (s p : ℕ) (info : SpaceInfo) → ((i : SpaceInfo) × (space_with_id ss s ≡ Some i) × (p < i.pages)) → space_with_id ss s ≡ Some info → p < info.pages
below_found ss s p info (i, is, below) found = let same : i.pages ≡ info.pages = ap (λ (x : SpaceInfo). x.pages) (same_Some i info (sym is ∙ found)) in omega (arith, same, below)
