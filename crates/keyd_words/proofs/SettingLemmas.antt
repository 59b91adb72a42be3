-- Options in a row: how often each stands, their tablespaces, and the words that write them.
use Rattle.std.proofs.Common.{◌≡◌, ◌≢◌, ℕ, ◌+◌, ◌≤◌, ◌<◌, ◌*◌, ◌++◌, ◌⊎◌, length, take, drop, get_or, arith, sym, ◌∙◌, ap, subst, inl, inr, List, [], ◌∷◌, zero, suc, true, false, cond, refl, All, Option, Some, None}
use Rattle.std.specs.List.{sum_by, cons_option}
use Rattle.std.specs.Str.{bytes_eq}
use Rattle.std.proofs.lemmas.List.Sums.{sum_by-append, sum_by-cons}
use Rattle.std.proofs.lemmas.List.Elements.{filter_map-append}
use Rattle.std.proofs.Math.ListN.{get_or-append, length-append}
use Rattle.std.proofs.Math.Seq.{get_or-append_seam}
use Rattle.std.proofs.lemmas.List.Concat.{flat_map-append}
use Rattle.std.proofs.lemmas.List.{take_more, map-append}
use mathlib.Core.List.{append_assoc}
use Rattle.keyd_words.specs.declared.command.Command.{Command}
use Rattle.keyd_words.specs.declared.table.OptionName.{OptionName}
use Rattle.keyd_words.specs.declared.table.OptionName.TheVariants as name
use Rattle.keyd_words.specs.declared.text.NewSpace.{NewSpace}
use Rattle.keyd_words.specs.declared.value.OptionValue.{OptionValue}
use Rattle.keyd_words.specs.declared.setting.OptionSetting.{OptionSetting}
use Rattle.keyd_words.specs.Table.{Argument, row_of}
use Rattle.keyd_words.specs.Values.{IsSetTo, value_words, IsNewSpace}
use Rattle.keyd_words.specs.Settings.{setting_words, settings_words, names_of, times_in, times_set, space_in_value, spaces_of, pages_asked, IsTakenBy}
use Rattle.keyd_words.proofs.TableLemmas.{same_word, other_word, word-injective, each_small, only_space}
use Rattle.keyd_words.proofs.ValueLemmas.{one_set, space_set}

-- a front of a list, with the next element
pub step_of : {X : Type 0} (xs : List X) (i : ℕ) (x : X) → i < length xs → x ≡ get_or xs i x → take (i + 1) xs ≡ take i xs ++ (x ∷ [])
step_of xs i x low is = take_more xs i x low ∙ ap (λ y. take i xs ++ (y ∷ [])) (sym is)

-- How often an option stands

pub names-append : (xs ys : List OptionSetting) → names_of (xs ++ ys) ≡ names_of xs ++ names_of ys
names-append xs ys = map-append (λ (s : OptionSetting). s.name) xs ys

pub times_in-append : (f : OptionName) (xs ys : List OptionName) → times_in f (xs ++ ys) ≡ times_in f xs + times_in f ys
times_in-append f xs ys = sum_by-append (λ (g : OptionName). cond (bytes_eq (row_of g).word (row_of f).word) 1 0) xs ys

pub times_is : (f g : OptionName) → g ≡ f → times_in f (g ∷ []) ≡ 1
times_is f g e = ap (λ b. 0 + cond b 1 0) (same_word g f e)

pub times_not : (f g : OptionName) → g ≢ f → times_in f (g ∷ []) ≡ 0
times_not f g other = ap (λ b. 0 + cond b 1 0) (other_word g f other)

pub times-append : (f : OptionName) (xs ys : List OptionSetting) → times_set f (xs ++ ys) ≡ times_set f xs + times_set f ys
times-append f xs ys = ap (times_in f) (names-append xs ys) ∙ times_in-append f (names_of xs) (names_of ys)

pub times_same : (f : OptionName) (s : OptionSetting) → s.name ≡ f → times_set f (s ∷ []) ≡ 1
times_same f s e = times_is f s.name e

pub times_other : (f : OptionName) (s : OptionSetting) → s.name ≢ f → times_set f (s ∷ []) ≡ 0
times_other f s other = times_not f s.name other

pub times_one : (f : OptionName) (s : OptionSetting) → times_set f (s ∷ []) ≤ 1
times_one f s = elim (bytes_eq (row_of s.name).word (row_of f).word) as (λ b. 0 + cond b 1 0 ≤ 1) [ true ↦ omega arith | false ↦ omega arith ]

pub times-cons : (f : OptionName) (s : OptionSetting) (ss : List OptionSetting) → times_set f (s ∷ ss) ≡ times_set f (s ∷ []) + times_set f ss
times-cons f s ss = times-append f (s ∷ []) ss

-- Tablespaces

pub spaces-append : (xs ys : List OptionSetting) → spaces_of (xs ++ ys) ≡ spaces_of xs ++ spaces_of ys
spaces-append xs ys = filter_map-append (λ (s : OptionSetting). space_in_value s.value) xs ys

pub spaces_some : (s : OptionSetting) (ss : List OptionSetting) (x : NewSpace) → space_in_value s.value ≡ Some x → spaces_of (s ∷ ss) ≡ x ∷ spaces_of ss
spaces_some s ss x e = ap (λ o. cons_option o (spaces_of ss)) e

pub spaces_none : (s : OptionSetting) (ss : List OptionSetting) → space_in_value s.value ≡ None → spaces_of (s ∷ ss) ≡ spaces_of ss
spaces_none s ss e = ap (λ o. cons_option o (spaces_of ss)) e

pub pages-append : (xs ys : List OptionSetting) → pages_asked (xs ++ ys) ≡ pages_asked xs + pages_asked ys
pages-append xs ys = ap (sum_by (λ (x : NewSpace). x.pages)) (spaces-append xs ys) ∙ sum_by-append (λ (x : NewSpace). x.pages) (spaces_of xs) (spaces_of ys)

pub pages_some : (s : OptionSetting) (ss : List OptionSetting) (x : NewSpace) → space_in_value s.value ≡ Some x → pages_asked (s ∷ ss) ≡ x.pages + pages_asked ss
pages_some s ss x e = ap (sum_by (λ (y : NewSpace). y.pages)) (spaces_some s ss x e) ∙ sum_by-cons (λ (y : NewSpace). y.pages) x (spaces_of ss)

pub pages_none : (s : OptionSetting) (ss : List OptionSetting) → space_in_value s.value ≡ None → pages_asked (s ∷ ss) ≡ pages_asked ss
pages_none s ss e = ap (sum_by (λ (y : NewSpace). y.pages)) (spaces_none s ss e)

pub some_or_none : {X : Type 0} (o : Option X) → ((x : X) × (o ≡ Some x)) ⊎ (o ≡ None)
some_or_none None = inr refl
some_or_none (Some x) = inl (x, refl)

-- the first of all
pub head_of : {X : Type 0} (P : X → Type 0) (x : X) (xs : List X) → All P (x ∷ xs) → P x
head_of P x xs all = all 0 x (omega arith)

pub tail_of : {X : Type 0} (P : X → Type 0) (x : X) (xs : List X) → All P (x ∷ xs) → All P xs
tail_of P x xs all k d low = all (suc k) d (omega (arith, low))

pub all_one : {X : Type 0} (P : X → Type 0) (x : X) → P x → All P (x ∷ [])
all_one P x p zero d low = p
all_one P x p (suc k) d low = absurd (omega (arith, low))

pub all_none : {X : Type 0} (P : X → Type 0) → All P []
all_none P k d low = absurd (omega (arith, low))

-- a tablespace that a command takes is within bounds, and stands behind the option's word
pub taken_space : (c : Command) (s : OptionSetting) (x : NewSpace) → IsTakenBy c s → space_in_value s.value ≡ Some x → (s.name ≡ name.Space) × IsNewSpace x
taken_space c s x is e = let both = space_set (row_of s.name).form s.value x is.set e in (only_space s.name both.0, both.1)

-- without the option there is no tablespace
pub no_spaces : (c : Command) (ss : List OptionSetting) → All (IsTakenBy c) ss → times_set name.Space ss ≡ 0 → spaces_of ss ≡ []
no_spaces c [] all none = refl
no_spaces c (s ∷ ss) all none =
    let split = times-cons name.Space s ss in
    let rest = no_spaces c ss (tail_of (IsTakenBy c) s ss all) (omega (arith, split, none)) in
    elim (some_or_none (space_in_value s.value)) [
      | inl found ↦ let one = times_same name.Space s (taken_space c s found.0 (head_of (IsTakenBy c) s ss all) found.1).0 in absurd (omega (arith, split, none, one))
      | inr absent ↦ spaces_none s ss absent ∙ rest
    ]

-- each tablespace has two pages at least
pub two_pages : (c : Command) (ss : List OptionSetting) → All (IsTakenBy c) ss → 2 * length (spaces_of ss) ≤ pages_asked ss
two_pages c [] all = omega arith
two_pages c (s ∷ ss) all =
    let rest = two_pages c ss (tail_of (IsTakenBy c) s ss all) in
    elim (some_or_none (space_in_value s.value)) [
      | inl found ↦ let n : length (spaces_of (s ∷ ss)) ≡ suc (length (spaces_of ss)) = ap length (spaces_some s ss found.0 found.1) in
          let from = (taken_space c s found.0 (head_of (IsTakenBy c) s ss all) found.1).1.pages_from in
          omega (arith, n, rest, from, pages_some s ss found.0 found.1)
      | inr absent ↦ let n : length (spaces_of (s ∷ ss)) ≡ length (spaces_of ss) = ap length (spaces_none s ss absent) in
          omega (arith, n, rest, pages_none s ss absent)
    ]

-- Words

pub words-append : (xs ys : List OptionSetting) → settings_words (xs ++ ys) ≡ settings_words xs ++ settings_words ys
words-append xs ys = flat_map-append setting_words xs ys

same_setting : (s t : OptionSetting) → s.name ≡ t.name → s.value ≡ t.value → s ≡ t
same_setting s t a b =
    let mk : OptionName → Option OptionValue → OptionSetting = λ n v. record { name = n; value = v } in
    ap (λ n. mk n s.value) a ∙ ap (λ v. mk t.name v) b

-- of two options in front of words
pub one_setting : (s t : OptionSetting) (xs ys : List Argument) → IsSetTo (row_of s.name).form s.value → IsSetTo (row_of t.name).form t.value
    → setting_words s ++ xs ≡ setting_words t ++ ys → (s ≡ t) × (xs ≡ ys)
one_setting s t xs ys p q e =
    let named : s.name ≡ t.name = word-injective s.name t.name (ap (λ ws. get_or ws 0 []) e) in
    let q' : IsSetTo (row_of s.name).form t.value = subst (λ n. IsSetTo (row_of n).form t.value) (sym named) q in
    let both = one_set (row_of s.name).form s.value t.value xs ys (each_small s.name) p q' (ap (λ ws. drop 1 ws) e) in
    (same_setting s t named both.0, both.1)

-- options whose words begin with those of others begin with these
pub split_words : (c d : Command) (ss ts : List OptionSetting) (zs : List Argument) → All (IsTakenBy c) ss → All (IsTakenBy d) ts → settings_words ts ≡ settings_words ss ++ zs
    → (rest : List OptionSetting) × (ts ≡ ss ++ rest) × (settings_words rest ≡ zs)
split_words c d [] ts zs p q e = (ts, refl, e)
split_words c d (s ∷ ss) [] zs p q e = let n : 0 ≡ suc (length ((value_words s.value ++ settings_words ss) ++ zs)) = ap length e in absurd (omega (arith, n))
split_words c d (s ∷ ss) (t ∷ ts) zs p q e =
    let e' : setting_words t ++ settings_words ts ≡ setting_words s ++ (settings_words ss ++ zs) = e ∙ append_assoc (setting_words s) (settings_words ss) zs in
    let first = one_setting t s (settings_words ts) (settings_words ss ++ zs) (head_of (IsTakenBy d) t ts q).set (head_of (IsTakenBy c) s ss p).set e' in
    let rest = split_words c d ss ts zs (tail_of (IsTakenBy c) s ss p) (tail_of (IsTakenBy d) t ts q) first.1 in
    (rest.0, ap (λ x. x ∷ ts) first.0 ∙ ap (λ xs. s ∷ xs) rest.1, rest.2)

-- Parts of what holds of all

pub all_front : {X : Type 0} (P : X → Type 0) (xs ys : List X) → All P (xs ++ ys) → All P xs
all_front P xs ys all k d low = subst P (get_or-append xs ys d k low) (all k d (omega (arith, low, length-append xs ys)))

pub all_middle : {X : Type 0} (P : X → Type 0) (xs : List X) (y : X) (ys : List X) → All P (xs ++ (y ∷ ys)) → P y
all_middle P xs y ys all = subst P (get_or-append_seam xs y ys y) (all (length xs) y (omega (arith, length-append xs (y ∷ ys))))
