-- The value of an option among options and their values.
use Rattle.std.proofs.Common.{◌≡◌, ℕ, ◌+◌, ◌<◌, ◌≤◌, length, drop, get_or, map, arith, sym, ◌∙◌, ap, subst, List, [], ◌∷◌, true, false, Bool, cond, refl, if◌then◌else◌, Some, None, rules}
use Rattle.std.specs.Str.{bytes_eq}
use Rattle.std.proofs.lemmas.List.{drop_more, length-drop, get_or-map}
use Rattle.std.proofs.lemmas.List.Sums.{sum_by-cons}
use Rattle.std.proofs.lemmas.Slice.Eq.{bytes_eq-Decides}
use Rattle.keyd_cli.specs.declared.words.Flag.{Flag}
use Rattle.keyd_cli.specs.Words.{CommandWord, flag_word, IsValue, ArePairs, option_words, occurrences}
use Rattle.keyd_cli.specs.Plan.{value_in}
use Rattle.keyd_cli.proofs.Options.{flag_word-injective}

-- a word of strings
pub word_is : {S : Type 0} (f : S → CommandWord) (strings : List S) (i : ℕ) (x : S) (text : CommandWord) → i < length strings → x ≡ get_or strings i x → text ≡ f x → get_or (map f strings) i [] ≡ text
word_is f strings i x text low is read = get_or-map f strings i x [] low ∙ ap f (sym is) ∙ sym read

pub split_two : (ws : List CommandWord) (at : ℕ) → at + 1 < length ws → drop at ws ≡ get_or ws at [] ∷ get_or ws (at + 1) [] ∷ drop (at + 2) ws
split_two ws at low =
    let two : (at + 1) + 1 ≡ at + 2 = omega arith in
    drop_more ws at [] (omega (arith, low)) ∙ ap (λ l. get_or ws at [] ∷ l) (drop_more ws (at + 1) [] low ∙ ap (λ n. get_or ws (at + 1) [] ∷ drop n ws) two)

pub value_here : (f : Flag) (ws : List CommandWord) (at : ℕ) → at + 1 < length ws → get_or ws at [] ≡ flag_word f → value_in f (drop at ws) ≡ Some (get_or ws (at + 1) [])
unfolding value_in
value_here f ws at low named =
    let test : bytes_eq (get_or ws at []) (flag_word f) ≡ true = (bytes_eq-Decides (get_or ws at []) (flag_word f)).1 named in
    ap (value_in f) (split_two ws at low) ∙ ap (λ b. if b then Some (get_or ws (at + 1) []) else value_in f (drop (at + 2) ws)) test

pub value_behind : (f : Flag) (ws : List CommandWord) (at : ℕ) → at + 1 < length ws → (get_or ws at [] ≡ flag_word f → ⊥) → value_in f (drop at ws) ≡ value_in f (drop (at + 2) ws)
unfolding value_in
value_behind f ws at low other =
    let test : bytes_eq (get_or ws at []) (flag_word f) ≡ false = search (rules, bytes_eq-Decides (get_or ws at []) (flag_word f), other) in
    ap (value_in f) (split_two ws at low) ∙ ap (λ b. if b then Some (get_or ws (at + 1) []) else value_in f (drop (at + 2) ws)) test

short : (f : Flag) (ws : List CommandWord) → length ws ≤ 1 → value_in f ws ≡ None
unfolding value_in
short f [] few = refl
short f (w ∷ []) few = refl
short f (w ∷ v ∷ ws) few = absurd (omega (arith, few))

pub value_none : (f : Flag) (ws : List CommandWord) (at : ℕ) → (at + 1 < length ws → ⊥) → value_in f (drop at ws) ≡ None
value_none f ws at end = short f (drop at ws) (omega (arith, length-drop at ws, end))

-- an option that stands has a value
pub value_present : (f : Flag) (ws : List CommandWord) → ArePairs ws → 1 ≤ occurrences f ws → value_in f ws ≡ None → ⊥
unfolding ArePairs option_words value_in
value_present f [] pairs some none = omega (arith, some)
value_present f (w ∷ []) pairs some none = absurd pairs
value_present f (w ∷ v ∷ ws) pairs some none = by (value_present f ws pairs.1) (bytes_eq w (flag_word f)) (sum_by-cons (λ word. cond (bytes_eq word (flag_word f)) 1 0) w (option_words ws)) some none
  where
    by : (1 ≤ occurrences f ws → value_in f ws ≡ None → ⊥) → (b : Bool) → occurrences f (w ∷ v ∷ ws) ≡ cond b 1 0 + occurrences f ws → 1 ≤ occurrences f (w ∷ v ∷ ws) → (if b then Some v else value_in f ws) ≡ None → ⊥
    by earlier true split more is = cc is
    by earlier false split more is = earlier (omega (arith, split, more)) is

-- and the value is one of that option
pub value_fits : (f : Flag) (ws : List CommandWord) (value : CommandWord) → ArePairs ws → value_in f ws ≡ Some value → IsValue f value
unfolding ArePairs value_in
value_fits f [] value pairs is = absurd (cc is)
value_fits f (w ∷ []) value pairs is = absurd pairs
value_fits f (w ∷ v ∷ ws) value pairs is = by (value_fits f ws value pairs.1) (bytes_eq w (flag_word f)) refl is
  where
    by : (value_in f ws ≡ Some value → IsValue f value) → (b : Bool) → bytes_eq w (flag_word f) ≡ b → (if b then Some v else value_in f ws) ≡ Some value → IsValue f value
    by earlier true test found =
        let same : v ≡ value = cc found in
        let named : w ≡ flag_word f = (bytes_eq-Decides w (flag_word f)).0 test in
        subst (λ x. IsValue f x) same (subst (λ g. IsValue g v) (flag_word-injective pairs.0.0 f (sym pairs.0.1 ∙ named)) pairs.0.2)
    by earlier false test found = earlier found
