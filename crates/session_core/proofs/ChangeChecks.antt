-- What is checked of a mini-transaction before it is entered: its pages, its ranges and its numbers.
use Rattle.std.proofs.Common.{◌≡◌, ◌≢◌, ℕ, ◌+◌, ◌<◌, ◌≤◌, ◌&&◌, Bool, true, false, true≢false, eq-eqb, nat_eq, nat_le, nat_lt, not, if◌then◌else◌, List, [], ◌∷◌, length, Option, Some, None, Result, Ok, Err, OnOk, refl, sym, ap, ◌∙◌, subst, arith}
use Rattle.std.specs.Prelude.{IfErr}
use Rattle.std.proofs.lemmas.Bool.{and_parts}
use Rattle.std.proofs.lemmas.Bool.Decides.{nat_tests}
use Rattle.std.proofs.lemmas.Option.{none-some}
use Rattle.crash_image.specs.Recovers.{AreOfStore}
use Rattle.page_pool.specs.declared.names.PageName.{PageName}
use Rattle.redo_text.specs.Text.{AreAllowed, IsRange}
use Rattle.redo_text.specs.declared.change.Change.{Change}
use Rattle.redo_text.specs.declared.change.Change.TheVariants.{Put, Kind, Touch, Floor, Encrypt}
use Rattle.space_head.specs.declared.space.Home.{Home}
use Rattle.space_head.specs.declared.space.SpaceInfo.{SpaceInfo}
use Rattle.store_files.specs.Header.{HeldSpace}
use Rattle.store_files.specs.Pages.{has_page}
use Rattle.session_core.specs.Committing.{AreOfPages, AreSized, IsUnfit, Missing, NoRange, first_bad_range, first_missing_page, is_body_range}
use Rattle.session_core.specs.Entering.{AreFromOne}
use Rattle.session_core.specs.Spaces.{HaveLists, is_page}
use Rattle.session_core.specs.declared.fault.EngineFault.{EngineFault}
use Rattle.session_core.specs.declared.fault.EngineFault.TheVariants.{BadRange, NoSuchPage}

-- a choice that is none takes the first branch
none_left : {A : Type 0} (b : Bool) (x : A) → (if b then None else Some x) ≡ None → b ≡ true
none_left true x is = refl
none_left false x is = absurd (none-some x (sym is))

pub missing_step : (spaces : List SpaceInfo) (c : Change) (cs : List Change) → first_missing_page spaces (c ∷ []) ≡ None → first_missing_page spaces (c ∷ cs) ≡ first_missing_page spaces cs
missing_step spaces (Put s page at bytes) cs none = ap (λ (b : Bool). if b then first_missing_page spaces cs else Some (record { space = s; page = page })) (none_left (is_page spaces s page) (record { space = s; page = page }) none)
missing_step spaces (Kind s page kind) cs none = ap (λ (b : Bool). if b then first_missing_page spaces cs else Some (record { space = s; page = page })) (none_left (is_page spaces s page) (record { space = s; page = page }) none)
missing_step spaces (Touch s page) cs none = refl
missing_step spaces (Floor s version) cs none = refl
missing_step spaces (Encrypt s) cs none = refl

-- one that is some is it whatever stands behind
some_left : {A : Type 0} (b : Bool) (x y : A) (o : Option A) → (if b then None else Some x) ≡ Some y → (if b then o else Some x) ≡ Some y
some_left true x y o is = absurd (none-some y is)
some_left false x y o is = is

pub missing_here : (spaces : List SpaceInfo) (c : Change) (cs : List Change) (name : PageName) → first_missing_page spaces (c ∷ []) ≡ Some name → first_missing_page spaces (c ∷ cs) ≡ Some name
missing_here spaces (Put s page at bytes) cs name is = some_left (is_page spaces s page) (record { space = s; page = page }) name (first_missing_page spaces cs) is
missing_here spaces (Kind s page kind) cs name is = some_left (is_page spaces s page) (record { space = s; page = page }) name (first_missing_page spaces cs) is
missing_here spaces (Touch s page) cs name is = absurd (none-some name is)
missing_here spaces (Floor s version) cs name is = absurd (none-some name is)
missing_here spaces (Encrypt s) cs name is = absurd (none-some name is)

pub range_step : (c : Change) (cs : List Change) → first_bad_range (c ∷ []) ≡ None → first_bad_range (c ∷ cs) ≡ first_bad_range cs
range_step (Put s page at bytes) cs none = ap (λ (b : Bool). if b then first_bad_range cs else Some (at, length bytes)) (none_left (is_body_range at (length bytes)) (at, length bytes) none)
range_step (Kind s page kind) cs none = refl
range_step (Touch s page) cs none = refl
range_step (Floor s version) cs none = refl
range_step (Encrypt s) cs none = refl

pub range_here : (c : Change) (cs : List Change) (r : ℕ × ℕ) → first_bad_range (c ∷ []) ≡ Some r → first_bad_range (c ∷ cs) ≡ Some r
range_here (Put s page at bytes) cs r is = some_left (is_body_range at (length bytes)) (at, length bytes) r (first_bad_range cs) is
range_here (Kind s page kind) cs r is = absurd (none-some r is)
range_here (Touch s page) cs r is = absurd (none-some r is)
range_here (Floor s version) cs r is = absurd (none-some r is)
range_here (Encrypt s) cs r is = absurd (none-some r is)

-- the test of a range and what it means
pub body_range : (at size : ℕ) → is_body_range at size ≡ true → IsRange at size
body_range at size is =
    let parts = and_parts (nat_lt 0 size) (nat_le 38 at && nat_le (at + size) 16376) is in
    let more = and_parts (nat_le 38 at) (nat_le (at + size) 16376) parts.1 in
    let some_bytes : nat_lt 0 size ≡ true = parts.0 in
    let from : nat_le 38 at ≡ true = more.0 in
    let to : nat_le (at + size) 16376 ≡ true = more.1 in
    record { some = grind (arith, nat_tests); from = grind (arith, nat_tests); to = grind (arith, nat_tests) }

pub range_body : (at size : ℕ) → IsRange at size → is_body_range at size ≡ true
range_body at size range =
    let some_bytes = range.some in
    let from = range.from in
    let to = range.to in
    grind (arith, nat_tests)

-- a page of the store that isn't page 0
page_some : (spaces : List SpaceInfo) (s p : ℕ) → is_page spaces s p ≡ true → 0 < p
page_some [] s p is = absurd (true≢false (sym is))
page_some (x ∷ spaces) s p is = by (nat_eq x.space s) is (page_some spaces s p)
  where
    by : (b : Bool) → (if b then (not (nat_eq p 0) && nat_lt p x.pages) else is_page spaces s p) ≡ true → (is_page spaces s p ≡ true → 0 < p) → 0 < p
    by true at later = let first = (and_parts (not (nat_eq p 0)) (nat_lt p x.pages) at).0 in grind (arith, nat_tests)
    by false at later = later at

page_of_store : (hs : List HeldSpace) (ss : List SpaceInfo) (os : List (List Home)) (s p : ℕ) → HaveLists hs ss os → is_page ss s p ≡ true → has_page hs s p ≡ true
page_of_store hs [] os s p have is = absurd (true≢false (sym is))
page_of_store [] (x ∷ ss) os s p have is = absurd have
page_of_store (h ∷ hs) (x ∷ ss) [] s p have is = absurd have
page_of_store (h ∷ hs) (x ∷ ss) (o ∷ os) s p (space, pages, key_id, long, rest) is = by (nat_eq x.space s) (ap (λ (n : ℕ). nat_eq n s) (sym space)) is (page_of_store hs ss os s p rest)
  where
    by : (b : Bool) → nat_eq h.space s ≡ b → (if b then (not (nat_eq p 0) && nat_lt p x.pages) else is_page ss s p) ≡ true → (is_page ss s p ≡ true → has_page hs s p ≡ true) → (if nat_eq h.space s then nat_lt p h.pages else has_page hs s p) ≡ true
    by true test at later =
        ap (λ (b : Bool). if b then nat_lt p h.pages else has_page hs s p) test ∙ ap (λ (n : ℕ). nat_lt p n) (sym pages) ∙ (and_parts (not (nat_eq p 0)) (nat_lt p x.pages) at).1
    by false test at later = ap (λ (b : Bool). if b then nat_lt p h.pages else has_page hs s p) test ∙ later at

-- What was checked of all changes: each is one that the format allows, and of the store.
pub all_allowed : (spaces : List SpaceInfo) (cs : List Change) → AreOfPages cs → first_missing_page spaces cs ≡ None → first_bad_range cs ≡ None → AreSized cs → AreAllowed cs
all_allowed spaces [] of_pages there ranged sized = tt
all_allowed spaces (Put s page at bytes ∷ cs) of_pages there ranged sized =
    ((sized.0.0, page_some spaces s page (first there), sized.0.1, body_range at (length bytes) (good ranged)), all_allowed spaces cs of_pages.1 (rest there) (behind ranged) sized.1)
  where
    first : first_missing_page spaces (Put s page at bytes ∷ cs) ≡ None → is_page spaces s page ≡ true
    first is = either (is_page spaces s page) is
      where
        either : (b : Bool) → (if b then first_missing_page spaces cs else Some (record { space = s; page = page })) ≡ None → b ≡ true
        either true h = refl
        either false h = absurd (none-some (record { space = s; page = page }) (sym h))

    rest : first_missing_page spaces (Put s page at bytes ∷ cs) ≡ None → first_missing_page spaces cs ≡ None
    rest is = ap (λ (b : Bool). if b then first_missing_page spaces cs else Some (record { space = s; page = page })) (sym (first is)) ∙ is

    good : first_bad_range (Put s page at bytes ∷ cs) ≡ None → is_body_range at (length bytes) ≡ true
    good is = either (is_body_range at (length bytes)) is
      where
        either : (b : Bool) → (if b then first_bad_range cs else Some (at, length bytes)) ≡ None → b ≡ true
        either true h = refl
        either false h = absurd (none-some (at, length bytes) (sym h))

    behind : first_bad_range (Put s page at bytes ∷ cs) ≡ None → first_bad_range cs ≡ None
    behind is = ap (λ (b : Bool). if b then first_bad_range cs else Some (at, length bytes)) (sym (good is)) ∙ is
all_allowed spaces (Kind s page kind ∷ cs) of_pages there ranged sized =
    ((sized.0.0, page_some spaces s page (first there), sized.0.1, sized.0.2, of_pages.0.0, of_pages.0.1), all_allowed spaces cs of_pages.1 (rest there) ranged sized.1)
  where
    first : first_missing_page spaces (Kind s page kind ∷ cs) ≡ None → is_page spaces s page ≡ true
    first is = either (is_page spaces s page) is
      where
        either : (b : Bool) → (if b then first_missing_page spaces cs else Some (record { space = s; page = page })) ≡ None → b ≡ true
        either true h = refl
        either false h = absurd (none-some (record { space = s; page = page }) (sym h))

    rest : first_missing_page spaces (Kind s page kind ∷ cs) ≡ None → first_missing_page spaces cs ≡ None
    rest is = ap (λ (b : Bool). if b then first_missing_page spaces cs else Some (record { space = s; page = page })) (sym (first is)) ∙ is
all_allowed spaces (Touch s page ∷ cs) of_pages there ranged sized = absurd of_pages.0
all_allowed spaces (Floor s version ∷ cs) of_pages there ranged sized = absurd of_pages.0
all_allowed spaces (Encrypt s ∷ cs) of_pages there ranged sized = absurd of_pages.0

module _ (hs : List HeldSpace) (ss : List SpaceInfo) (os : List (List Home)) (have : HaveLists hs ss os) where
  own_page : (s p : ℕ) (cs : List Change) → (if is_page ss s p then first_missing_page ss cs else Some (record { space = s; page = p })) ≡ None → (has_page hs s p ≡ true) × (first_missing_page ss cs ≡ None)
  own_page s p cs is = by (is_page ss s p) refl is
    where
      by : (b : Bool) → is_page ss s p ≡ b → (if b then first_missing_page ss cs else Some (record { space = s; page = p })) ≡ None → (has_page hs s p ≡ true) × (first_missing_page ss cs ≡ None)
      by true test h = (page_of_store hs ss os s p have test, h)
      by false test h = absurd (none-some (record { space = s; page = p }) (sym h))

  pub all_of_store : (cs : List Change) → AreOfPages cs → first_missing_page ss cs ≡ None → AreOfStore hs cs
  all_of_store [] of_pages there = tt
  all_of_store (Put s page at bytes ∷ cs) of_pages there = let own = own_page s page cs there in (own.0, all_of_store cs of_pages.1 own.1)
  all_of_store (Kind s page kind ∷ cs) of_pages there = let own = own_page s page cs there in (own.0, all_of_store cs of_pages.1 own.1)
  all_of_store (Touch s page ∷ cs) of_pages there = absurd of_pages.0
  all_of_store (Floor s version ∷ cs) of_pages there = absurd of_pages.0
  all_of_store (Encrypt s ∷ cs) of_pages there = absurd of_pages.0

-- ---- of one change, by what is checked of its page or its range

pub put_missing : {T : Type 0} (spaces : List SpaceInfo) (c : Change) (s p at : ℕ) (bytes : List ℕ) (result : Result T EngineFault) → c ≡ Put s p at bytes → IfErr result (λ e. (is_page spaces s p ≡ false) × (e ≡ NoSuchPage s p))
    → IfErr result (λ e. (name : PageName) × (first_missing_page spaces (c ∷ []) ≡ Some name) × (e ≡ NoSuchPage name.space name.page))
put_missing spaces c s p at bytes (Ok v) is refused = tt
put_missing spaces c s p at bytes (Err e) is (none, same) =
    let name : PageName = record { space = s; page = p } in
    (name, ap (λ (x : Change). first_missing_page spaces (x ∷ [])) is ∙ ap (λ (b : Bool). if b then None else Some name) none, same)

pub kind_missing : {T : Type 0} (spaces : List SpaceInfo) (c : Change) (s p kind : ℕ) (result : Result T EngineFault) → c ≡ Kind s p kind → IfErr result (λ e. (is_page spaces s p ≡ false) × (e ≡ NoSuchPage s p))
    → IfErr result (λ e. (name : PageName) × (first_missing_page spaces (c ∷ []) ≡ Some name) × (e ≡ NoSuchPage name.space name.page))
kind_missing spaces c s p kind (Ok v) is refused = tt
kind_missing spaces c s p kind (Err e) is (none, same) =
    let name : PageName = record { space = s; page = p } in
    (name, ap (λ (x : Change). first_missing_page spaces (x ∷ [])) is ∙ ap (λ (b : Bool). if b then None else Some name) none, same)

abbrev bad_range : ℕ → List ℕ → ℕ × ℕ
bad_range at bytes = (at, length bytes)

pub put_unfit : {T : Type 0} (c : Change) (s p at : ℕ) (bytes : List ℕ) (result : Result T EngineFault) → c ≡ Put s p at bytes → IfErr result (λ e. (e ≡ BadRange at (length bytes)) × (IsRange at (length bytes) → ⊥))
    → IfErr result (λ e. (r : ℕ × ℕ) × (first_bad_range (c ∷ []) ≡ Some r) × (e ≡ BadRange r.0 r.1))
put_unfit c s p at bytes (Ok v) is refused = tt
put_unfit c s p at bytes (Err e) is (same, no_range) =
    (bad_range at bytes, ap (λ (x : Change). first_bad_range (x ∷ [])) is ∙ by (is_body_range at (length bytes)) refl, same)
  where
    by : (b : Bool) → is_body_range at (length bytes) ≡ b → (if b then None else Some (bad_range at bytes)) ≡ Some (bad_range at bytes)
    by true test = absurd (no_range (body_range at (length bytes) test))
    by false test = refl

-- they name no page 0
pub from_allowed : (cs : List Change) → AreOfPages cs → AreAllowed cs → AreFromOne cs
from_allowed [] of_pages allowed = tt
from_allowed (Put s page at bytes ∷ cs) of_pages allowed = ((λ e. let some = allowed.0.1 in omega (arith, some, e)), from_allowed cs of_pages.1 allowed.1)
from_allowed (Kind s page kind ∷ cs) of_pages allowed = ((λ e. let some = allowed.0.1 in omega (arith, some, e)), from_allowed cs of_pages.1 allowed.1)
from_allowed (Touch s page ∷ cs) of_pages allowed = absurd of_pages.0
from_allowed (Floor s version ∷ cs) of_pages allowed = absurd of_pages.0
from_allowed (Encrypt s ∷ cs) of_pages allowed = absurd of_pages.0

-- ---- of all changes, once the pages were checked

module _ {T : Type 0} (spaces : List SpaceInfo) (cs : List Change) (result : Result T EngineFault) (of_pages : AreOfPages cs) (there : first_missing_page spaces cs ≡ None) where
  pub allowed_then : OnOk result (first_bad_range cs ≡ None) → OnOk result (AreSized cs) → OnOk result (AreAllowed cs)
  allowed_then ranged sized = by result ranged sized
    where
      by : (r : Result T EngineFault) → OnOk r (first_bad_range cs ≡ None) → OnOk r (AreSized cs) → OnOk r (AreAllowed cs)
      by (Ok v) h k = all_allowed spaces cs of_pages there h k
      by (Err e) h k = tt

  pub from_then : OnOk result (first_bad_range cs ≡ None) → OnOk result (AreSized cs) → OnOk result (AreFromOne cs)
  from_then ranged sized = by result ranged sized
    where
      by : (r : Result T EngineFault) → OnOk r (first_bad_range cs ≡ None) → OnOk r (AreSized cs) → OnOk r (AreFromOne cs)
      by (Ok v) h k = from_allowed cs of_pages (all_allowed spaces cs of_pages there h k)
      by (Err e) h k = tt

  pub of_store_checked : (hs : List HeldSpace) (os : List (List Home)) → HaveLists hs spaces os → OnOk result (AreOfStore hs cs)
  of_store_checked hs os have = by result
    where
      by : (r : Result T EngineFault) → OnOk r (AreOfStore hs cs)
      by (Ok v) = all_of_store hs spaces os have cs of_pages there
      by (Err e) = tt

  pub unfit_range : IfErr result (λ e. (r : ℕ × ℕ) × (first_bad_range cs ≡ Some r) × (e ≡ BadRange r.0 r.1)) → IfErr result (IsUnfit spaces cs)
  unfit_range refused = by result refused
    where
      by : (r : Result T EngineFault) → IfErr r (λ e. (x : ℕ × ℕ) × (first_bad_range cs ≡ Some x) × (e ≡ BadRange x.0 x.1)) → IfErr r (IsUnfit spaces cs)
      by (Ok v) h = tt
      by (Err e) (x, is, same) = subst (IsUnfit spaces cs) (sym same) (NoRange x.0 x.1 there is)

pub unfit_page : (spaces : List SpaceInfo) (cs : List Change) (e : EngineFault) → (name : PageName) × (first_missing_page spaces cs ≡ Some name) × (e ≡ NoSuchPage name.space name.page) → IsUnfit spaces cs e
unfit_page spaces cs e (name, is, same) = subst (IsUnfit spaces cs) (sym same) (Missing name is)
