-- Where words stop being the first of a valid list.
use Rattle.std.proofs.Common.{◌≡◌, ℕ, ◌+◌, ◌<◌, ◌++◌, ◌⊎◌, length, take, drop, get_or, arith, sym, ◌∙◌, ap, subst, inl, inr, List, [], ◌∷◌, suc, refl, Option, Some, None, add-one}
use Rattle.std.specs.Borrow.{Bor}
use Rattle.std.proofs.lemmas.List.{take-take, take-append-drop, append-nil}
use mathlib.Core.List.{append_assoc}
use Rattle.keyd_words.specs.declared.command.Command.{Command}
use Rattle.keyd_words.specs.declared.table.OptionName.{OptionName}
use Rattle.keyd_words.specs.declared.value.OptionValue.{OptionValue}
use Rattle.keyd_words.specs.declared.setting.OptionSetting.{OptionSetting}
use Rattle.keyd_words.specs.Table.{Argument, command_word, row_of}
use Rattle.keyd_words.specs.Values.{value_words, AreWordsOf, IsSetTo}
use Rattle.keyd_words.specs.Settings.{setting_words, settings_words, names_of, spaces_of, AreOptionsOf, HasNeeded, AreAllOptionsOf, MayStand, MayFollow, IsBadValue}
use Rattle.keyd_words.specs.Words.{IsListFor, BeginsList, IsUsageAt}
use Rattle.keyd_words.proofs.SettingLemmas.{words-append, split_words}
use Rattle.keyd_words.proofs.AllowedLemmas.{allowed_more, next_follows, some_setting, whole_of}
use Rattle.keyd_words.proofs.TableLemmas.{word-injective}

-- Over any lists

pub begun_shorter : (V : List Argument → Type 0) (xs ys : List Argument) → BeginsList V (xs ++ ys) → BeginsList V xs
begun_shorter V xs ys begun = (ys ++ begun.0, subst V (append_assoc xs ys begun.0) begun.1)

pub begins_front : (V : List Argument → Type 0) (words : List Argument) (j : ℕ) → BeginsList V words → BeginsList V (take j words)
begins_front V words j begun = begun_shorter V (take j words) (drop j words) (subst (BeginsList V) (sym (take-append-drop j words)) begun)

least_begins : (V : List Argument → Type 0) (words : List Argument) (i : ℕ) → BeginsList V (take i words) → (j : ℕ) → j < i → BeginsList V (take (j + 1) words)
least_begins V words i begun j low = subst (BeginsList V) (take-take (j + 1) i words (omega (arith, low))) (begins_front V (take i words) (j + 1) begun)

-- the word at i is the first with which no list goes on
pub usage_at : (V : List Argument → Type 0) (words : List Argument) (i : ℕ) → i < length words → ((j : ℕ) → j < i → BeginsList V (take (j + 1) words)) → (BeginsList V (take (i + 1) words) → ⊥) → IsUsageAt V words i
usage_at V words i inside least refused = record {
  within = omega (arith, inside);
  least = least;
  refused = λ low. refused;
  faulty = λ whole. refused (begins_front V words (i + 1) ([], subst V (sym (append-nil words)) whole));
}

pub usage_behind : (V : List Argument → Type 0) (words : List Argument) (i : ℕ) → i < length words → BeginsList V (take i words) → (BeginsList V (take (i + 1) words) → ⊥) → IsUsageAt V words i
usage_behind V words i inside begun refused = usage_at V words i inside (least_begins V words i begun) refused

-- the words go on, and more are needed
pub usage_end : (V : List Argument → Type 0) (words : List Argument) → BeginsList V words → (V words → ⊥) → IsUsageAt V words (length words)
usage_end V words begun faulty = record {
  within = omega arith;
  least = least_begins V words (length words) (begins_front V words (length words) begun);
  refused = λ low. absurd (omega (arith, low));
  faulty = faulty;
}

front_of : (word : Argument) (rest : List Argument) (j : ℕ) → take (j + 1) (word ∷ rest) ≡ word ∷ take j rest
front_of word rest j = ap (λ k. take k (word ∷ rest)) (add-one j)

begins_as : (V W : List Argument → Type 0) (word : Argument) (rest : List Argument) → ((more : List Argument) → V (word ∷ more) → W (word ∷ more)) → (j : ℕ) → BeginsList V (take (j + 1) (word ∷ rest)) → BeginsList W (take (j + 1) (word ∷ rest))
begins_as V W word rest go j begun =
    let same = front_of word rest j in
    let there : BeginsList V (word ∷ take j rest) = subst (BeginsList V) same begun in
    subst (BeginsList W) (sym same) (there.0, go (take j rest ++ there.0) there.1)

-- lists that begin with one word, valid in two ways
pub usage_as : (V W : List Argument → Type 0) (word : Argument) (rest : List Argument) (i : ℕ) → ((more : List Argument) → V (word ∷ more) → W (word ∷ more)) → ((more : List Argument) → W (word ∷ more) → V (word ∷ more))
    → IsUsageAt V (word ∷ rest) i → IsUsageAt W (word ∷ rest) i
usage_as V W word rest i go back usage = record {
  within = usage.within;
  least = λ j low. begins_as V W word rest go j (usage.least j low);
  refused = λ low begun. usage.refused low (begins_as W V word rest back i begun);
  faulty = λ whole. usage.faulty (back rest whole);
}

-- Over the lists of a command

pub begins_allowed : (c : Command) (ss : List OptionSetting) → AreOptionsOf c ss → BeginsList (IsListFor c) (command_word c ∷ settings_words ss)
begins_allowed c ss are =
    let whole = whole_of c ss are in
    (settings_words whole.0, (ss ++ whole.0, record { written = ap (λ ws. command_word c ∷ ws) (sym (words-append ss whole.0)); whole = whole.1 }))

one_words : (s : OptionSetting) → settings_words (s ∷ []) ≡ setting_words s
one_words s = append-nil (setting_words s)

pub words_more : (ss : List OptionSetting) (s : OptionSetting) → settings_words (ss ++ (s ∷ [])) ≡ settings_words ss ++ setting_words s
words_more ss s = words-append ss (s ∷ []) ∙ ap (λ ws. settings_words ss ++ ws) (one_words s)

-- an option's word can follow where there is room
pub begins_option : (c : Command) (ss : List OptionSetting) (f : OptionName) (word : Argument) → AreOptionsOf c ss → MayStand c (names_of ss) (spaces_of ss) f → word ≡ (row_of f).word → BeginsList (IsListFor c) (command_word c ∷ (settings_words ss ++ (word ∷ [])))
begins_option c ss f word are room named =
    let found = some_setting c ss f are room in
    let s : OptionSetting = record { name = f; value = found.0 } in
    let begun = begins_allowed c (ss ++ (s ∷ [])) (allowed_more c ss s are found.1) in
    let shape : settings_words (ss ++ (s ∷ [])) ≡ (settings_words ss ++ (word ∷ [])) ++ value_words found.0 =
    words_more ss s ∙ ap (λ w. settings_words ss ++ (w ∷ value_words found.0)) (sym named) ∙ sym (append_assoc (settings_words ss) (word ∷ []) (value_words found.0)) in
    begun_shorter (IsListFor c) (command_word c ∷ (settings_words ss ++ (word ∷ []))) (value_words found.0) (subst (λ ws. BeginsList (IsListFor c) (command_word c ∷ ws)) shape begun)

-- what stands behind options of a valid list
tail_words : (c : Command) (ss : List OptionSetting) (zs : List Argument) → AreOptionsOf c ss → IsListFor c (command_word c ∷ (settings_words ss ++ zs))
    → (rest : List OptionSetting) × AreAllOptionsOf c (ss ++ rest) × (settings_words rest ≡ zs)
tail_words c ss zs are list =
    let written : settings_words list.0 ≡ settings_words ss ++ zs = ap (λ ws. drop 1 ws) (sym list.1.written) in
    let split = split_words c c ss list.0 zs are.taken list.1.whole.allowed.taken written in
    (split.0, subst (AreAllOptionsOf c) split.1 list.1.whole, split.2)

-- an option stands behind them, where a word does
next_option : (c : Command) (ss : List OptionSetting) (word : Argument) (zs : List Argument) → AreOptionsOf c ss → IsListFor c (command_word c ∷ (settings_words ss ++ (word ∷ zs)))
    → (s : OptionSetting) × (rest : List OptionSetting) × MayFollow c (names_of ss) (spaces_of ss) s × (word ≡ (row_of s.name).word) × (value_words s.value ++ settings_words rest ≡ zs)
next_option c ss word zs are list = by (tail_words c ss (word ∷ zs) are list)
  where
    by : ((rest : List OptionSetting) × AreAllOptionsOf c (ss ++ rest) × (settings_words rest ≡ word ∷ zs))
        → (s : OptionSetting) × (rest : List OptionSetting) × MayFollow c (names_of ss) (spaces_of ss) s × (word ≡ (row_of s.name).word) × (value_words s.value ++ settings_words rest ≡ zs)
    by ([], whole, e) = let n : 0 ≡ suc (length zs) = ap length e in absurd (omega (arith, n))
    by (s ∷ rest, whole, e) = (s, rest, next_follows c ss rest s whole.allowed, sym (ap (λ ws. get_or ws 0 []) e), ap (λ ws. drop 1 ws) e)

split_begun : (c : Command) (ss : List OptionSetting) (ys : List Argument) → BeginsList (IsListFor c) (command_word c ∷ (settings_words ss ++ ys)) → (more : List Argument) × IsListFor c (command_word c ∷ (settings_words ss ++ (ys ++ more)))
split_begun c ss ys begun = (begun.0, subst (λ ws. IsListFor c (command_word c ∷ ws)) (append_assoc (settings_words ss) ys begun.0) begun.1)

-- no option of this word may follow
pub no_option : (c : Command) (ss : List OptionSetting) (word : Argument) → AreOptionsOf c ss → ((f : OptionName) → word ≡ (row_of f).word → MayStand c (names_of ss) (spaces_of ss) f → ⊥)
    → BeginsList (IsListFor c) (command_word c ∷ (settings_words ss ++ (word ∷ []))) → ⊥
no_option c ss word are unfit begun =
    let split = split_begun c ss (word ∷ []) begun in
    let next = next_option c ss word split.0 are split.1 in
    unfit next.0.name next.3 next.2.room

-- the words of a value in front of others
first_words : (v : Option OptionValue) (xs : List Argument) (word : Argument) (more : List Argument) → value_words v ++ xs ≡ word ∷ more → (value_words v ≡ []) ⊎ (value_words v ≡ word ∷ [])
unfolding value_words
first_words None xs word more e = inl refl
first_words (Some v) xs word more e = inr (ap (λ w. w ∷ []) (ap (λ ws. get_or ws 0 []) e))

no_words : (v : Option OptionValue) (xs : List Argument) → value_words v ++ xs ≡ [] → value_words v ≡ []
unfolding value_words
no_words None xs e = refl
no_words (Some v) xs e = let n : suc (length xs) ≡ 0 = ap length e in absurd (omega (arith, n))

refused_by : (c : Command) (ss : List OptionSetting) (word : Argument) (next : Option (Bor Argument)) (s : OptionSetting) → IsBadValue c (names_of ss) (spaces_of ss) word next → MayFollow c (names_of ss) (spaces_of ss) s → word ≡ (row_of s.name).word → AreWordsOf next s.value → ⊥
refused_by c ss word next s bad may named are =
    let same : s.name ≡ bad.option = word-injective s.name bad.option (sym named ∙ bad.named) in
    bad.refused s.value are (subst (λ n. IsSetTo (row_of n).form s.value) same may.set) may.joins

-- none of the option's values may follow
pub no_value : (c : Command) (ss : List OptionSetting) (word : Argument) (next : Bor Argument) → AreOptionsOf c ss → IsBadValue c (names_of ss) (spaces_of ss) word (Some next)
    → BeginsList (IsListFor c) (command_word c ∷ (settings_words ss ++ (word ∷ next.now ∷ []))) → ⊥
no_value c ss word next are bad begun =
    let split = split_begun c ss (word ∷ next.now ∷ []) begun in
    let found = next_option c ss word (next.now ∷ split.0) are split.1 in
    refused_by c ss word (Some next) found.0 bad found.2 found.3 (first_words found.0.value (settings_words found.1) next.now split.0 found.4)

-- the words end before the option's value
pub no_end : (c : Command) (ss : List OptionSetting) (word : Argument) → AreOptionsOf c ss → IsBadValue c (names_of ss) (spaces_of ss) word None → IsListFor c (command_word c ∷ (settings_words ss ++ (word ∷ []))) → ⊥
no_end c ss word are bad list =
    let found = next_option c ss word [] are list in
    refused_by c ss word None found.0 bad found.2 found.3 (inl (no_words found.0.value (settings_words found.1) found.4))

-- an option that is needed doesn't stand
pub not_whole : (c : Command) (ss : List OptionSetting) → AreOptionsOf c ss → (HasNeeded c (names_of ss) → ⊥) → IsListFor c (command_word c ∷ settings_words ss) → ⊥
not_whole c ss are lacking list =
    let list' : IsListFor c (command_word c ∷ (settings_words ss ++ [])) = subst (λ ws. IsListFor c (command_word c ∷ ws)) (sym (append-nil (settings_words ss))) list in
    by (tail_words c ss [] are list')
  where
    by : ((rest : List OptionSetting) × AreAllOptionsOf c (ss ++ rest) × (settings_words rest ≡ [])) → ⊥
    by ([], whole, e) = lacking (subst (λ xs. HasNeeded c (names_of xs)) (append-nil ss) whole.needed)
    by (s ∷ rest, whole, e) = let n : suc (length (value_words s.value ++ settings_words rest)) ≡ 0 = ap length e in absurd (omega (arith, n))
