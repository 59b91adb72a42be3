-- What is known of each page where something else is known of one.
use Rattle.std.proofs.Common.{◌≡◌, ◌≢◌, ℕ, ◌<◌, Bool, true, false, nat_eq, ◌&&◌, if◌then◌else◌, List, [], ◌∷◌, length, slice_index_or, slice_set, Some, refl, sym, ap, ◌∙◌, subst, arith}
use Rattle.std.proofs.lemmas.Bool.Decides.{nat_tests}
use Rattle.std.proofs.lemmas.List.{get_or-set_other, get_or-set_same}
use Rattle.std.proofs.lemmas.Option.{none-some, same_Some}
use Rattle.space_head.specs.declared.space.Home.{Home}
use Rattle.space_head.specs.declared.space.Home.TheVariants.{Unused}
use Rattle.space_head.specs.declared.space.SpaceInfo.{SpaceInfo}
use Rattle.store_files.specs.Header.{HeldSpace}
use Rattle.store_form.specs.Rest.{homes_of}
use Rattle.session_core.specs.SpaceChanges.{with_home}
use Rattle.session_core.specs.Spaces.{HaveLists, space_with_id}

home_set : (o : List Home) (p q : ℕ) (home : Home) → p < length o → slice_index_or (slice_set o p home) q Unused ≡ (if nat_eq p q then home else slice_index_or o q Unused)
home_set o p q home lt = by (nat_eq p q) refl
  where
    by : (b : Bool) → nat_eq p q ≡ b → slice_index_or (slice_set o p home) q Unused ≡ (if b then home else slice_index_or o q Unused)
    by true test = let same : p ≡ q = grind (arith, nat_tests) in subst (λ (k : ℕ). slice_index_or (slice_set o p home) k Unused ≡ home) same (get_or-set_same o p home Unused lt)
    by false test = let apart : q ≢ p = λ e. grind (arith, nat_tests) in get_or-set_other o p q home Unused apart

home_apart : (s z x : ℕ) → nat_eq x s ≡ true → nat_eq x z ≡ false → nat_eq s z ≡ false
home_apart s z x one other = grind (arith, nat_tests)

home_back : (s z x : ℕ) → nat_eq x s ≡ false → nat_eq x z ≡ true → nat_eq s z ≡ false
home_back s z x one other = grind (arith, nat_tests)

home_alike : (s z x : ℕ) → nat_eq x s ≡ true → nat_eq x z ≡ true → nat_eq s z ≡ true
home_alike s z x one other = grind (arith, nat_tests)

-- with another home of one page each other page has the one that it had
pub home_with : (hs : List HeldSpace) (ss : List SpaceInfo) (os : List (List Home)) (s p z q : ℕ) (home : Home) (info : SpaceInfo) → HaveLists hs ss os → space_with_id ss s ≡ Some info → p < info.pages
    → slice_index_or (homes_of ss (with_home ss os s p home) z) q Unused ≡ (if nat_eq s z && nat_eq p q then home else slice_index_or (homes_of ss os z) q Unused)
home_with hs [] os s p z q home info have is lt = absurd (none-some info is)
home_with [] (x ∷ ss) os s p z q home info have is lt = absurd have
home_with (h ∷ hs) (x ∷ ss) [] s p z q home info have is lt = absurd have
home_with (h ∷ hs) (x ∷ ss) (o ∷ os) s p z q home info (space, pages, key_id, long, rest) is lt = by (nat_eq x.space s) refl is (nat_eq x.space z) refl (λ below. home_with hs ss os s p z q home info rest below lt)
  where
    by : (a : Bool) → nat_eq x.space s ≡ a → (if a then Some x else space_with_id ss s) ≡ Some info → (b : Bool) → nat_eq x.space z ≡ b
        → (space_with_id ss s ≡ Some info → slice_index_or (homes_of ss (with_home ss os s p home) z) q Unused ≡ (if nat_eq s z && nat_eq p q then home else slice_index_or (homes_of ss os z) q Unused))
        → slice_index_or (homes_of (x ∷ ss) (if a then slice_set o p home ∷ os else o ∷ with_home ss os s p home) z) q Unused ≡ (if nat_eq s z && nat_eq p q then home else slice_index_or (if b then o else homes_of ss os z) q Unused)
    by true one found true other later =
        let same : x.pages ≡ info.pages = ap (λ (y : SpaceInfo). y.pages) (same_Some x info found) in
        let within : p < length o = omega (arith, same, lt, pages, long) in
        ap (λ (t : Bool). slice_index_or (if t then slice_set o p home else homes_of ss os z) q Unused) other ∙ home_set o p q home within ∙ sym (ap (λ (t : Bool). if t && nat_eq p q then home else slice_index_or o q Unused) (home_alike s z x.space one other))
    by true one found false other later =
        ap (λ (t : Bool). slice_index_or (if t then slice_set o p home else homes_of ss os z) q Unused) other ∙ sym (ap (λ (t : Bool). if t && nat_eq p q then home else slice_index_or (homes_of ss os z) q Unused) (home_apart s z x.space one other))
    by false one found true other later =
        ap (λ (t : Bool). slice_index_or (if t then o else homes_of ss (with_home ss os s p home) z) q Unused) other ∙ sym (ap (λ (t : Bool). if t && nat_eq p q then home else slice_index_or o q Unused) (home_back s z x.space one other))
    by false one found false other later = ap (λ (t : Bool). slice_index_or (if t then o else homes_of ss (with_home ss os s p home) z) q Unused) other ∙ later found
