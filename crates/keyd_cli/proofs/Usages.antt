-- Each way in which words are no list of `drill`, at its index.
use Rattle.std.proofs.Common.{◌≡◌, ◌≢◌, ℕ, ◌+◌, ◌<◌, ◌≤◌, ◌++◌, length, take, get_or, arith, sym, ◌∙◌, ap, subst, List, [], ◌∷◌, suc, codes, add-one, drop}
use Rattle.std.proofs.lemmas.List.{take_more, take_all}
use mathlib.Core.List.{append_assoc}
use Rattle.keyd_cli.specs.declared.words.Flag.{Flag}
use Rattle.keyd_cli.specs.declared.words.Flag.TheVariants.{KeyFile, Space}
use Rattle.keyd_cli.specs.Words.{CommandWord, flag_word, most_of, IsValue, occurrences, ArePairs, AreOptions, IsDrill, CanBegin, IsUsage}
use Rattle.keyd_cli.proofs.Options.{options_begin, option_begins, begun_shorter, options_more, unknown_option, option_too_often, unfit_value, unknown_command, usage_at, usage_end, no_options, pairs_rest}

no_words : IsDrill [] → ⊥
no_words whole = let n : 0 ≡ suc (length whole.options) = ap length whole.begins in omega (arith, n)

-- no words
pub usage_none : IsUsage [] 0
usage_none = usage_end [] (begun_shorter [] (codes "drill" ∷ []) (options_begin [] no_options)) (λ whole. no_words whole)

-- another command
pub usage_command : (word : CommandWord) (rest : List CommandWord) → word ≢ codes "drill" → IsUsage (word ∷ rest) 0
usage_command word rest other =
    usage_at (word ∷ rest) 0 (omega arith) (begun_shorter [] (codes "drill" ∷ []) (options_begin [] no_options)) (λ begun. unknown_command word [] other begun)

front_of : (n : ℕ) (opts : List CommandWord) → take (n + 1) (codes "drill" ∷ opts) ≡ codes "drill" ∷ take n opts
front_of n opts = ap (λ k. take k (codes "drill" ∷ opts)) (add-one n)

-- the words with one option's word more than those that keep to the form
more_of : (n : ℕ) (opts : List CommandWord) → n < length opts → take (n + 1 + 1) (codes "drill" ∷ opts) ≡ codes "drill" ∷ (take n opts ++ (get_or opts n [] ∷ []))
more_of n opts low = front_of (n + 1) opts ∙ ap (λ ws. codes "drill" ∷ ws) (take_more opts n [] low)

begun_at : (n : ℕ) (opts : List CommandWord) → AreOptions (take n opts) → CanBegin (take (n + 1) (codes "drill" ∷ opts))
begun_at n opts are = subst CanBegin (sym (front_of n opts)) (options_begin (take n opts) are)

within_words : (n : ℕ) (opts : List CommandWord) → n < length opts → n + 1 < length (codes "drill" ∷ opts)
within_words n opts low = omega (arith, low)

pub usage_unknown : (n : ℕ) (opts : List CommandWord) → n < length opts → AreOptions (take n opts) → ((f : Flag) → get_or opts n [] ≢ flag_word f)
    → IsUsage (codes "drill" ∷ opts) (n + 1)
usage_unknown n opts low are unnamed =
    usage_at (codes "drill" ∷ opts) (n + 1) (within_words n opts low) (begun_at n opts are)
    (λ begun. unknown_option (take n opts) (get_or opts n []) [] are unnamed (subst CanBegin (more_of n opts low) begun))

pub usage_often : (n : ℕ) (opts : List CommandWord) (f : Flag) → n < length opts → AreOptions (take n opts) → get_or opts n [] ≡ flag_word f → most_of f ≤ occurrences f (take n opts)
    → IsUsage (codes "drill" ∷ opts) (n + 1)
usage_often n opts f low are named full =
    usage_at (codes "drill" ∷ opts) (n + 1) (within_words n opts low) (begun_at n opts are)
    (λ begun. option_too_often (take n opts) f (get_or opts n []) [] are named full (subst CanBegin (more_of n opts low) begun))

two_more : (n : ℕ) (opts : List CommandWord) → n + 1 < length opts → take (n + 2) opts ≡ take n opts ++ (get_or opts n [] ∷ get_or opts (n + 1) [] ∷ [])
two_more n opts low =
    let two : n + 2 ≡ (n + 1) + 1 = omega arith in
    ap (λ k. take k opts) two ∙ take_more opts (n + 1) [] low ∙ ap (λ ws. ws ++ (get_or opts (n + 1) [] ∷ [])) (take_more opts n [] (omega (arith, low)))
    ∙ append_assoc (take n opts) (get_or opts n [] ∷ []) (get_or opts (n + 1) [] ∷ [])

-- the form is kept over one option more
pub kept_more : (n : ℕ) (opts : List CommandWord) (f : Flag) → n + 1 < length opts → AreOptions (take n opts) → get_or opts n [] ≡ flag_word f → occurrences f (take n opts) < most_of f
    → IsValue f (get_or opts (n + 1) []) → AreOptions (take (n + 2) opts)
kept_more n opts f low are named room is =
    subst AreOptions (sym (two_more n opts low)) (options_more (take n opts) f (get_or opts n []) (get_or opts (n + 1) []) are named is room)

pub usage_value : (n : ℕ) (opts : List CommandWord) (f : Flag) → n + 1 < length opts → AreOptions (take n opts) → get_or opts n [] ≡ flag_word f → occurrences f (take n opts) < most_of f
    → (IsValue f (get_or opts (n + 1) []) → ⊥) → IsUsage (codes "drill" ∷ opts) (n + 2)
usage_value n opts f low are named room unfit =
    let words = codes "drill" ∷ opts in
    let index : n + 2 ≡ (n + 1) + 1 = omega arith in
    let begun : CanBegin (take (n + 2) words) =
    subst CanBegin (sym (ap (λ k. take k words) index ∙ more_of n opts (omega (arith, low)))) (option_begins (take n opts) f (get_or opts n []) are named room) in
    let longer : take (n + 2 + 1) words ≡ codes "drill" ∷ (take n opts ++ (get_or opts n [] ∷ get_or opts (n + 1) [] ∷ [])) =
    front_of (n + 2) opts ∙ ap (λ ws. codes "drill" ∷ ws) (two_more n opts low) in
    usage_at words (n + 2) (omega (arith, low)) begun
    (λ b. unfit_value (take n opts) f (get_or opts n []) (get_or opts (n + 1) []) [] are named unfit (subst CanBegin longer b))

same_options : (opts : List CommandWord) (drill : IsDrill (codes "drill" ∷ opts)) → drill.options ≡ opts
same_options opts drill = sym (ap (λ ws. drop 1 ws) drill.begins)

lone_word : (opts : List CommandWord) (n : ℕ) (word : CommandWord) → AreOptions (take n opts) → opts ≡ take n opts ++ (word ∷ []) → IsDrill (codes "drill" ∷ opts) → ⊥
unfolding ArePairs
lone_word opts n word are whole drill =
    let pairs : ArePairs opts = subst ArePairs (same_options opts drill) drill.are.pairs in
    pairs_rest (take n opts) (word ∷ []) are.pairs (subst ArePairs whole pairs)

-- an option's word ends the list
pub usage_missing : (n : ℕ) (opts : List CommandWord) (f : Flag) → n + 1 ≡ length opts → AreOptions (take n opts) → get_or opts n [] ≡ flag_word f → occurrences f (take n opts) < most_of f
    → IsUsage (codes "drill" ∷ opts) (length (codes "drill" ∷ opts))
usage_missing n opts f end are named room =
    let whole : opts ≡ take n opts ++ (get_or opts n [] ∷ []) = sym (take_all (n + 1) opts (omega (arith, end))) ∙ take_more opts n [] (omega (arith, end)) in
    let begun : CanBegin (codes "drill" ∷ opts) =
    subst (λ ws. CanBegin (codes "drill" ∷ ws)) (sym whole) (option_begins (take n opts) f (get_or opts n []) are named room) in
    usage_end (codes "drill" ∷ opts) begun (λ drill. lone_word opts n (get_or opts n []) are whole drill)

-- an option that has to stand doesn't
pub usage_needed : (opts : List CommandWord) (f : Flag) → AreOptions opts → occurrences f opts ≡ 0 → (IsDrill (codes "drill" ∷ opts) → 1 ≤ occurrences f opts) → IsUsage (codes "drill" ∷ opts) (length (codes "drill" ∷ opts))
usage_needed opts f are none needed = usage_end (codes "drill" ∷ opts) (options_begin opts are) (λ drill. omega (arith, none, needed drill))

pub needs_key_file : (opts : List CommandWord) → IsDrill (codes "drill" ∷ opts) → 1 ≤ occurrences KeyFile opts
needs_key_file opts drill = subst (λ ws. 1 ≤ occurrences KeyFile ws) (same_options opts drill) drill.has_key_file

pub needs_space : (opts : List CommandWord) → IsDrill (codes "drill" ∷ opts) → 1 ≤ occurrences Space opts
needs_space opts drill = subst (λ ws. 1 ≤ occurrences Space ws) (same_options opts drill) drill.has_space
