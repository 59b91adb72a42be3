-- The steps of reading a command's options, word by word.
use Rattle.std.proofs.Common.{◌≡◌, ℕ, ◌+◌, ◌≤◌, ◌<◌, ◌++◌, length, take, get_or, map, arith, sym, ◌∙◌, ap, subst, inl, inr, List, [], ◌∷◌, refl, Option, Some, None, MatchOption, true, false, is_some}
use Rattle.std.specs.Borrow.{Bor}
use Rattle.std.proofs.lemmas.List.{take_more, take_all, get_or-map}
use mathlib.Core.List.{append_assoc}
use Rattle.keyd_words.specs.declared.command.Command.{Command}
use Rattle.keyd_words.specs.declared.table.OptionName.{OptionName}
use Rattle.keyd_words.specs.declared.value.OptionValue.{OptionValue}
use Rattle.keyd_words.specs.declared.setting.OptionSetting.{OptionSetting}
use Rattle.keyd_words.specs.Table.{Argument, command_word, row_of}
use Rattle.keyd_words.specs.Values.{pages_allowed, value_words, AreWordsOf}
use Rattle.keyd_words.specs.Settings.{settings_words, names_of, spaces_of, pages_of_spaces, AreOptionsOf, HasNeeded, MayStand, IsBadValue}
use Rattle.keyd_words.specs.declared.draft.Draft.{Draft}
use Rattle.keyd_words.specs.declared.text.NewSpace.{NewSpace}
use Rattle.keyd_words.specs.Drafts.{TellsOptions, IsDraftOf}
use Rattle.keyd_words.proofs.CountLemmas.{few_files}
use Rattle.keyd_words.proofs.AllowedLemmas.{none_allowed}
use Rattle.keyd_words.specs.Words.{IsListFor, BeginsList, IsUsageAt, StartsWith}
use Rattle.keyd_words.proofs.UsageLemmas.{usage_behind, usage_end, begins_allowed, begins_option, words_more, no_option, no_value, no_end, not_whole}

-- a word of strings
pub word_is : {S : Type 0} (f : S → Argument) (strings : List S) (i : ℕ) (x : S) (text : Argument) → i < length strings → x ≡ get_or strings i x → text ≡ f x → get_or (map f strings) i [] ≡ text
word_is f strings i x text low is read = get_or-map f strings i x [] low ∙ ap f (sym is) ∙ sym read

-- the next word among so many, if there is one
abbrev pub NextWord : List Argument → ℕ → ℕ → Option (Bor Argument) → Type 0
NextWord ws len i next = MatchOption next (len ≤ i) (λ w. (i < len) × (get_or ws i [] ≡ w.now))

-- the words with one word more than the options'
taken_word : (c : Command) (ws : List Argument) (at : ℕ) (ss : List OptionSetting) (word : Argument) → take at ws ≡ command_word c ∷ settings_words ss → at < length ws → get_or ws at [] ≡ word
    → take (at + 1) ws ≡ command_word c ∷ (settings_words ss ++ (word ∷ []))
taken_word c ws at ss word written low is = take_more ws at [] low ∙ ap (λ xs. xs ++ (get_or ws at [] ∷ [])) written ∙ ap (λ w. command_word c ∷ (settings_words ss ++ (w ∷ []))) is

taken_two : (c : Command) (ws : List Argument) (at : ℕ) (ss : List OptionSetting) (word next : Argument) → take at ws ≡ command_word c ∷ settings_words ss → at + 1 < length ws → get_or ws at [] ≡ word → get_or ws (at + 1) [] ≡ next
    → take (at + 1 + 1) ws ≡ command_word c ∷ (settings_words ss ++ (word ∷ next ∷ []))
taken_two c ws at ss word next written low is then_is =
    take_more ws (at + 1) [] low ∙ ap (λ xs. xs ++ (get_or ws (at + 1) [] ∷ [])) (taken_word c ws at ss word written (omega (arith, low)) is)
    ∙ ap (λ w. (command_word c ∷ (settings_words ss ++ (word ∷ []))) ++ (w ∷ [])) then_is
    ∙ ap (λ xs. command_word c ∷ xs) (append_assoc (settings_words ss) (word ∷ []) (next ∷ []))

pub usage_name : (c : Command) (ws : List Argument) (at : ℕ) (ss : List OptionSetting) (word : Argument) → take at ws ≡ command_word c ∷ settings_words ss → AreOptionsOf c ss → at < length ws → get_or ws at [] ≡ word
    → ((f : OptionName) → word ≡ (row_of f).word → MayStand c (names_of ss) (spaces_of ss) f → ⊥) → IsUsageAt (IsListFor c) ws at
usage_name c ws at ss word written are low is unfit =
    usage_behind (IsListFor c) ws at low (subst (BeginsList (IsListFor c)) (sym written) (begins_allowed c ss are))
    (λ begun. no_option c ss word are unfit (subst (BeginsList (IsListFor c)) (taken_word c ws at ss word written low is) begun))

pub usage_value : (c : Command) (ws : List Argument) (at len : ℕ) (ss : List OptionSetting) (word : Argument) (next : Option (Bor Argument)) → take at ws ≡ command_word c ∷ settings_words ss → AreOptionsOf c ss → length ws ≡ len → at < len
    → get_or ws at [] ≡ word → NextWord ws len (at + 1) next → IsBadValue c (names_of ss) (spaces_of ss) word next → IsUsageAt (IsListFor c) ws (at + 1)
usage_value c ws at len ss word (Some next) written are size low is then_is bad =
    let V = IsListFor c in
    let begun = subst (BeginsList V) (sym (taken_word c ws at ss word written (omega (arith, size, low)) is)) (begins_option c ss bad.option word are bad.room bad.named) in
    let inside : at + 1 < length ws = omega (arith, size, then_is.0) in
    usage_behind V ws (at + 1) inside begun (λ more. no_value c ss word next are bad (subst (BeginsList V) (taken_two c ws at ss word next.now written inside is then_is.1) more))
usage_value c ws at len ss word None written are size low is then_is bad =
    let V = IsListFor c in
    let all : take (at + 1) ws ≡ ws = take_all (at + 1) ws (omega (arith, size, then_is)) in
    let shape = taken_word c ws at ss word written (omega (arith, size, low)) is in
    let begun : BeginsList V ws = subst (BeginsList V) (sym shape ∙ all) (begins_option c ss bad.option word are bad.room bad.named) in
    let end : length ws ≡ at + 1 = omega (arith, size, low, then_is) in
    subst (IsUsageAt V ws) end (usage_end V ws begun (λ list. no_end c ss word are bad (subst V (sym all ∙ shape) list)))

pub usage_needed : (c : Command) (ws : List Argument) (at len : ℕ) (ss : List OptionSetting) → take at ws ≡ command_word c ∷ settings_words ss → AreOptionsOf c ss → length ws ≡ len → len ≤ at → (HasNeeded c (names_of ss) → ⊥) → IsUsageAt (IsListFor c) ws len
usage_needed c ws at len ss written are size end lacking =
    let V = IsListFor c in
    let all : take at ws ≡ ws = take_all at ws (omega (arith, size, end)) in
    let begun : BeginsList V ws = subst (BeginsList V) (sym written ∙ all) (begins_allowed c ss are) in
    subst (IsUsageAt V ws) size (usage_end V ws begun (λ list. not_whole c ss are lacking (subst V (sym all ∙ written) list)))

-- the words of one option more
step_words : (c : Command) (ws : List Argument) (at len n : ℕ) (ss : List OptionSetting) (word : Argument) (next : Option (Bor Argument)) (v : Option OptionValue) → take at ws ≡ command_word c ∷ settings_words ss → length ws ≡ len → at < len
    → get_or ws at [] ≡ word → NextWord ws len (at + 1) next → AreWordsOf next v → (is_some v ≡ true → n ≡ 2) → (is_some v ≡ false → n ≡ 1)
    → (take (at + n) ws ≡ command_word c ∷ (settings_words ss ++ (word ∷ value_words v))) × (at + n ≤ len)
unfolding value_words
step_words c ws at len n ss word next None written size low is then_is are two one =
    let width : at + n ≡ at + 1 = omega (arith, one refl) in
    (ap (λ k. take k ws) width ∙ taken_word c ws at ss word written (omega (arith, size, low)) is, omega (arith, width, low))
step_words c ws at len n ss word None (Some v) written size low is then_is (inl none) two one = let k : 1 ≡ 0 = ap length none in absurd (omega (arith, k))
step_words c ws at len n ss word None (Some v) written size low is then_is (inr are) two one = absurd are
step_words c ws at len n ss word (Some next) (Some v) written size low is then_is (inl none) two one = let k : 1 ≡ 0 = ap length none in absurd (omega (arith, k))
step_words c ws at len n ss word (Some next) (Some v) written size low is then_is (inr are) two one =
    let width : at + n ≡ at + 1 + 1 = omega (arith, two refl) in
    (ap (λ k. take k ws) width ∙ taken_two c ws at ss word next.now written (omega (arith, size, then_is.0)) is then_is.1 ∙ ap (λ vs. command_word c ∷ (settings_words ss ++ (word ∷ vs))) (sym are), omega (arith, width, then_is.0))

pub step_setting : (c : Command) (ws : List Argument) (at len n : ℕ) (ss : List OptionSetting) (word : Argument) (next : Option (Bor Argument)) (s : OptionSetting) → take at ws ≡ command_word c ∷ settings_words ss → length ws ≡ len → at < len
    → get_or ws at [] ≡ word → NextWord ws len (at + 1) next → word ≡ (row_of s.name).word → AreWordsOf next s.value → (is_some s.value ≡ true → n ≡ 2) → (is_some s.value ≡ false → n ≡ 1)
    → (take (at + n) ws ≡ command_word c ∷ settings_words (ss ++ (s ∷ []))) × (at + n ≤ len)
step_setting c ws at len n ss word next s written size low is then_is named are two one =
    let step = step_words c ws at len n ss word next s.value written size low is then_is are two one in
    (step.0 ∙ ap (λ w. command_word c ∷ (settings_words ss ++ (w ∷ value_words s.value))) named ∙ ap (λ xs. command_word c ∷ xs) (sym (words_more ss s)), step.1)

-- A draft on the way

-- the words up to a place are the command's, and then the options that the draft has
pub record ReadsTo (c : Command) (ws : List Argument) (at : ℕ) (draft : Draft) : Type 0 where
  pub settings : List OptionSetting
  pub tells : TellsOptions draft settings
  pub written : take at ws ≡ command_word c ∷ settings_words settings
  pub allowed : AreOptionsOf c settings

-- a fact of names and tablespaces, at equal ones
pub at_both : (P : List OptionName → List NewSpace → Type 0) (names names' : List OptionName) (spaces spaces' : List NewSpace) → names ≡ names' → spaces ≡ spaces' → P names spaces → P names' spaces'
at_both P names names' spaces spaces' a b p = subst (λ xs. P names' xs) b (subst (λ xs. P xs spaces) a p)

pub fit_draft : (c : Command) (ss : List OptionSetting) (draft : Draft) → TellsOptions draft ss → AreOptionsOf c ss → pages_of_spaces draft.spaces ≤ pages_allowed
fit_draft c ss draft tells are = subst (λ xs. pages_of_spaces xs ≤ pages_allowed) (sym tells.spaces) are.fit

pub few_draft : (c : Command) (ss : List OptionSetting) (draft : Draft) → TellsOptions draft ss → AreOptionsOf c ss → length draft.key_files ≤ 64
few_draft c ss draft tells are = subst (λ (xs : List Argument). length xs ≤ 64) (sym tells.key_files) (few_files c ss are)

-- no option has been read
pub reads_none : (c : Command) (ws : List Argument) (draft : Draft) → TellsOptions draft [] → StartsWith c ws → ReadsTo c ws 1 draft
reads_none c ws draft tells starts = record { settings = []; tells = tells; written = ap (λ xs. take 1 xs) starts.1; allowed = none_allowed c }

-- all words are read
pub whole_draft : (c : Command) (ws : List Argument) (at : ℕ) (draft : Draft) → ReadsTo c ws at draft → length ws ≤ at → HasNeeded c draft.names.items → IsDraftOf c ws draft
whole_draft c ws at draft reads end needed = record {
  settings = reads.settings;
  list = record { written = sym (take_all at ws end) ∙ reads.written; whole = record { allowed = reads.allowed; needed = subst (HasNeeded c) reads.tells.names needed } };
  tells = reads.tells;
}
