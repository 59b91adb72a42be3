-- The named pairs as a list and as a test, and keys of a ring among those of the book.
use Rattle.std.proofs.Common.{◌≡◌, ◌≢◌, ℕ, zero, suc, ◌<◌, Bool, true, false, true≢false, nat_eq, ◌&&◌, ◌||◌, List, [], ◌∷◌, length, refl, sym, ap, ◌∙◌, arith}
use Rattle.std.specs.Prelude.{Contains, slice_index_or}
use Rattle.std.proofs.lemmas.Bool.Decides.{nat_tests}
use Rattle.std.proofs.lemmas.Map.Views.{Contains-from_any}
use Rattle.page_places.proofs.Sums.{and_left, and_right}
use Rattle.store_files.specs.Header.{HeldSpace}
use Rattle.store_files.specs.Pages.{key_id_of}
use Rattle.session_image.specs.Kept.{is_pair_named, named_keys}

abbrev same_pair : ℕ × ℕ → ℕ × ℕ → Bool
same_pair q p = nat_eq p.0 q.0 && nat_eq p.1 q.1

pair_one : (x y : ℕ × ℕ) → same_pair x y ≡ true → x ≡ y
pair_one x y same =
    let first : nat_eq y.0 x.0 ≡ true = and_left _ _ same in
    let second : nat_eq y.1 x.1 ≡ true = and_right (nat_eq y.0 x.0) _ same in
    let a : x.0 ≡ y.0 = grind (arith, nat_tests) in
    let b : x.1 ≡ y.1 = grind (arith, nat_tests) in
    λ i. (a i, b i)

pair_named : (named : List (ℕ × ℕ)) (id version : ℕ) → is_pair_named named id version ≡ true → Contains named (id, version)
pair_named named id version is = Contains-from_any {eq = same_pair} pair_one (id, version) named is

-- a version of a space's pages that isn't that of a page in clear
pub key_named : (spaces : List HeldSpace) (named : List (ℕ × ℕ)) (s version : ℕ) → version ≢ 0 → named_keys spaces named s version ≡ true → Contains named (key_id_of spaces s, version)
key_named spaces named s version some is = pair_named named (key_id_of spaces s) version (by (nat_eq version 0) refl is)
  where
    by : (b : Bool) → nat_eq version 0 ≡ b → (b || is_pair_named named (key_id_of spaces s) version) ≡ true → is_pair_named named (key_id_of spaces s) version ≡ true
    by true clear is = let e : version ≡ 0 = grind (arith, nat_tests) in absurd (some e)
    by false other is = is

or_right : (a b : Bool) → b ≡ true → (a || b) ≡ true
or_right true b is = refl
or_right false b is = is

pair_found : (named : List (ℕ × ℕ)) (id version k : ℕ) → k < length named → slice_index_or named k (id, version) ≡ (id, version) → is_pair_named named id version ≡ true
pair_found [] id version k below same = absurd (omega (arith, below))
pair_found (p ∷ named) id version zero below same =
    let first : nat_eq id id ≡ true = grind (arith, nat_tests) in
    let second : nat_eq version version ≡ true = grind (arith, nat_tests) in
    ap (λ (q : ℕ × ℕ). (nat_eq q.0 id && nat_eq q.1 version) || is_pair_named named id version) same
    ∙ ap (λ (b : Bool). (b && nat_eq version version) || is_pair_named named id version) first
    ∙ ap (λ (b : Bool). b || is_pair_named named id version) second
pair_found (p ∷ named) id version (suc k) below same = or_right (nat_eq p.0 id && nat_eq p.1 version) (is_pair_named named id version) (pair_found named id version k (omega (arith, below)) same)

-- a version that is named where it isn't that of a page in clear
pub named_key : (spaces : List HeldSpace) (named : List (ℕ × ℕ)) (s version : ℕ) → (version ≢ 0 → Contains named (key_id_of spaces s, version)) → named_keys spaces named s version ≡ true
named_key spaces named s version there = by (nat_eq version 0) refl
  where
    by : (b : Bool) → nat_eq version 0 ≡ b → (b || is_pair_named named (key_id_of spaces s) version) ≡ true
    by true zero_is = refl
    by false other =
        let found = there (λ zero_is. let same : nat_eq version 0 ≡ true = grind (arith, nat_tests) in true≢false (sym same ∙ other)) in
        pair_found named (key_id_of spaces s) version found.0 found.1 found.2
