-- What changes do to a page of a pool is what the fold of them does to the page of contents.
use Rattle.std.proofs.Common.{◌≡◌, ℕ, ◌-◌, ◌&&◌, IfSome, Bool, true, false, nat_eq, if◌then◌else◌, List, [], ◌∷◌, length, Option, Some, refl, sym, ◌∙◌, ap, arith}
use Rattle.std.proofs.lemmas.Bool.Decides.{nat_tests}
use Rattle.std.specs.Option.{option_map}
use Rattle.byte_list.specs.Bytes.{range, zeros}
use Rattle.byte_list.proofs.RangeLaws.{length-zeros}
use Rattle.page_text.specs.Parts.{body}
use Rattle.redo_text.specs.Text.{AreAllowed, IsAllowed}
use Rattle.redo_text.specs.declared.change.Change.{Change}
use Rattle.redo_text.specs.declared.change.Change.TheVariants.{Put, Kind, Touch, Floor, Encrypt}
use Rattle.space_head.specs.Head.{with_head}
use Rattle.space_head.specs.declared.head.SpaceHead.{SpaceHead}
use Rattle.space_head.specs.declared.record.CryptRecord.{CryptRecord}
use Rattle.space_head.specs.declared.space.SpaceInfo.{SpaceInfo}
use Rattle.store_files.specs.Pages.{Page, Head, Unused, Used, change_names, head_of_space, mtr_acts, page_after, pages_of}
use Rattle.store_files.proofs.Folds.{pages_after}
use Rattle.store_model.specs.Fold.{after, floor_set, made_ciphered, used}
use Rattle.store_model.specs.declared.contents.PlainPage.{PlainPage}
use Rattle.store_model.specs.declared.contents.SpaceContents.{SpaceContents}
use Rattle.page_pool.specs.declared.names.PageName.{PageName}
use Rattle.page_pool.specs.Changes.{held_after, page_changed_by, page_of_change}
use Rattle.page_pool.specs.Contents.{HasPage, MayStandAt, plain_in_page}
use Rattle.page_pool.specs.Pages.{is_name, plain_page}
use Rattle.page_pool.proofs.HeadChanges.{encrypt_as_head, floor_as_head, length_with_head}

as_head : PlainPage → PlainPage
as_head p = record { kind = 8; body = p.body }

-- the body of a page is that of its plain page
body_as_plain : (page : List ℕ) → length page ≡ 16384 → body page ≡ (plain_page page).body
unfolding plain_page
body_as_plain page long = ap (λ (n : ℕ). range 38 (n - 8 - 38) page) long

-- the head of a space in a page of zero bytes, in two ways
head_plain : (head : SpaceHead) → IfSome head.crypt (λ r. length r.salt ≡ 16) → Some (record { kind = 8; body = body (with_head head (zeros 16384)) }) ≡ Some (as_head (plain_page (with_head head (zeros 16384))))
unfolding as_head
head_plain head salt = ap (λ (b : List ℕ). Some (record { kind = 8; body = b })) (body_as_plain (with_head head (zeros 16384)) (length_with_head (zeros 16384) head (length-zeros 16384) salt))

record_of : SpaceInfo → CryptRecord
record_of info = record { ciphered = info.ciphered; salt = info.salt; minimum = info.floor; key_id = info.key_id; mode = if info.ciphered then 1 else 2 }

floor_head : (s v : ℕ) (info : SpaceInfo) → length info.salt ≡ 16 → plain_in_page (Head (floor_set v info)) ≡ Some (page_changed_by (Floor s v) (used (plain_in_page (Head info))))
unfolding as_head record_of
floor_head s v info salt =
    head_plain (head_of_space (floor_set v info)) salt
    ∙ ap (λ (p : PlainPage). Some (as_head p)) (floor_as_head (zeros 16384) (head_of_space info) (record_of info) s v (length-zeros 16384) refl salt)
    ∙ sym (ap (option_map (page_changed_by (Floor s v))) (head_plain (head_of_space info) salt))

encrypt_head : (s : ℕ) (info : SpaceInfo) → length info.salt ≡ 16 → plain_in_page (Head (made_ciphered info)) ≡ Some (page_changed_by (Encrypt s) (used (plain_in_page (Head info))))
unfolding as_head record_of
encrypt_head s info salt =
    head_plain (head_of_space (made_ciphered info)) salt
    ∙ ap (λ (p : PlainPage). Some (as_head p)) (encrypt_as_head (zeros 16384) (head_of_space info) (record_of info) s (length-zeros 16384) refl salt)
    ∙ sym (ap (option_map (page_changed_by (Encrypt s))) (head_plain (head_of_space info) salt))

names_zero : (n s p : ℕ) → (nat_eq n s && nat_eq 0 p) ≡ true → p ≡ 0
names_zero n s p is = grind (arith, nat_tests)

-- one change of the page
one_named : (c : Change) (name : PageName) (x : Page) → IsAllowed c → MayStandAt name.page x → is_name (page_of_change c) name ≡ true → plain_in_page (page_after c x) ≡ Some (page_changed_by c (used (plain_in_page x)))
one_named (Put s page at bytes) name (Head info) allowed stands is = absurd (let same : page ≡ name.page = grind (arith, nat_tests) in omega (arith, allowed.1, stands.0, same))
one_named (Put s page at bytes) name Unused allowed stands is = refl
one_named (Put s page at bytes) name (Used p) allowed stands is = refl
one_named (Kind s page kind) name (Head info) allowed stands is = absurd (let same : page ≡ name.page = grind (arith, nat_tests) in omega (arith, allowed.1, stands.0, same))
one_named (Kind s page kind) name Unused allowed stands is = refl
one_named (Kind s page kind) name (Used p) allowed stands is = refl
one_named (Touch s page) name (Head info) allowed stands is = refl
one_named (Touch s page) name Unused allowed stands is = refl
one_named (Touch s page) name (Used p) allowed stands is = refl
one_named (Floor s v) name (Head info) allowed stands is = floor_head s v info stands.1
one_named (Floor s v) name Unused allowed stands is = absurd (stands (names_zero s name.space name.page is))
one_named (Floor s v) name (Used p) allowed stands is = absurd (stands (names_zero s name.space name.page is))
one_named (Encrypt s) name (Head info) allowed stands is = encrypt_head s info stands.1
one_named (Encrypt s) name Unused allowed stands is = absurd (stands (names_zero s name.space name.page is))
one_named (Encrypt s) name (Used p) allowed stands is = absurd (stands (names_zero s name.space name.page is))

names_alike : (c : Change) (name : PageName) → change_names c name.space name.page ≡ is_name (page_of_change c) name
names_alike (Put s page at bytes) name = refl
names_alike (Kind s page kind) name = refl
names_alike (Touch s page) name = refl
names_alike (Floor s v) name = refl
names_alike (Encrypt s) name = refl

-- a page stays where it stands
stands_after : (c : Change) (p : ℕ) (x : Page) → MayStandAt p x → MayStandAt p (page_after c x)
stands_after (Put s page at bytes) p (Head info) is = is
stands_after (Put s page at bytes) p Unused is = is
stands_after (Put s page at bytes) p (Used q) is = is
stands_after (Kind s page kind) p (Head info) is = is
stands_after (Kind s page kind) p Unused is = is
stands_after (Kind s page kind) p (Used q) is = is
stands_after (Touch s page) p (Head info) is = is
stands_after (Touch s page) p Unused is = is
stands_after (Touch s page) p (Used q) is = is
stands_after (Floor s v) p (Head info) is = is
stands_after (Floor s v) p Unused is = is
stands_after (Floor s v) p (Used q) is = is
stands_after (Encrypt s) p (Head info) is = is
stands_after (Encrypt s) p Unused is = is
stands_after (Encrypt s) p (Used q) is = is

-- a mini-transaction
pub held_as_fold : (cs : List Change) (name : PageName) (x : Page) → AreAllowed cs → MayStandAt name.page x → held_after cs name (plain_in_page x) ≡ plain_in_page (mtr_acts cs name.space name.page x)
held_as_fold [] name x allowed stands = refl
held_as_fold (c ∷ cs) name x allowed stands =
    by (is_name (page_of_change c) name) refl (held_as_fold cs name x allowed.1) (held_as_fold cs name (page_after c x) allowed.1)
    ∙ sym (ap (λ (b : Bool). plain_in_page (mtr_acts cs name.space name.page (if b then page_after c x else x))) (names_alike c name))
  where
    Rest : Page → Type 0
    Rest y = MayStandAt name.page y → held_after cs name (plain_in_page y) ≡ plain_in_page (mtr_acts cs name.space name.page y)

    by : (b : Bool) → is_name (page_of_change c) name ≡ b → Rest x → Rest (page_after c x)
        → held_after cs name (if b then Some (page_changed_by c (used (plain_in_page x))) else plain_in_page x) ≡ plain_in_page (mtr_acts cs name.space name.page (if b then page_after c x else x))
    by true is other own = sym (ap (held_after cs name) (one_named c name x allowed.0 stands is)) ∙ own (stands_after c name.page x stands)
    by false isnt other own = other stands

-- A page that is held as contents have it is held, after the changes, as the fold of them has it.
pub held_folds : (cs : List Change) (name : PageName) (spaces : List SpaceContents) (o : Option PlainPage) → AreAllowed cs → HasPage name spaces → o ≡ plain_in_page (pages_of spaces name.space name.page)
    → held_after cs name o ≡ plain_in_page (pages_of (after cs spaces) name.space name.page)
held_folds cs name spaces o allowed has held =
    ap (held_after cs name) held
    ∙ held_as_fold cs name (pages_of spaces name.space name.page) allowed has.stands
    ∙ sym (ap plain_in_page (pages_after cs has.header spaces has.have name.space name.page has.there))
