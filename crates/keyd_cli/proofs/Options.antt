-- Lists of options, and what they may begin.
use Rattle.std.proofs.Common.{◌≡◌, ◌≢◌, ℕ, ◌+◌, ◌%◌, ◌==◌, ◌&&◌, slice_index_or, length-take-le, add-zero, ◌<◌, ◌≤◌, ◌⊎◌, ◌++◌, length, take, drop, get_or, arith, sym, ◌∙◌, ap, subst, inl, inr, List, [], ◌∷◌, zero, suc, true, false, Bool, cond, nat_eq, if◌then◌else◌, codes, refl, rules}
use Rattle.std.specs.Fmt.{decimal}
use Rattle.std.specs.List.{count_by}
use Rattle.std.specs.Str.{bytes_eq}
use Rattle.std.proofs.lemmas.List.Sums.{sum_by-append, sum_by-cons}
use Rattle.std.proofs.lemmas.List.{take_more, take-take, take-append-drop, append-nil}
use Rattle.std.proofs.lemmas.Bool.{cases_Bool, cases_lt}
use mathlib.Core.List.{append_assoc}
use Rattle.std.proofs.Math.Nat.{add-mod_left}
use Rattle.std.proofs.lemmas.Bool.Decides.{Decides-eqb}
use Rattle.std.proofs.lemmas.Slice.Eq.{bytes_eq-Decides}
use Rattle.keyd_cli.specs.declared.words.Flag.{Flag}
use Rattle.keyd_cli.specs.declared.words.Flag.TheVariants.{KeyFile, FileKey, Digest, Space, Stop, Choice}
use Rattle.keyd_cli.specs.Words.{CommandWord, flag_word, most_of, space_value, IsLetter, IsValue, ArePairs, option_words, occurrences, AreOptions, IsDrill, CanBegin, IsUsage}

-- one pair
pub one_pair : (f : Flag) (word value : CommandWord) → word ≡ flag_word f → IsValue f value → ArePairs (word ∷ value ∷ [])
unfolding ArePairs
one_pair f word value named is = ((f, named, is), tt)

-- pairs behind pairs
pub pairs_more : (xs ys : List CommandWord) → ArePairs xs → ArePairs ys → ArePairs (xs ++ ys)
unfolding ArePairs
pairs_more [] ys p q = q
pairs_more (w ∷ []) ys p q = absurd p
pairs_more (w ∷ v ∷ xs) ys p q = (p.0, pairs_more xs ys p.1 q)

pub pairs_rest : (xs ys : List CommandWord) → ArePairs xs → ArePairs (xs ++ ys) → ArePairs ys
unfolding ArePairs
pairs_rest [] ys p q = q
pairs_rest (w ∷ []) ys p q = absurd p
pairs_rest (w ∷ v ∷ xs) ys p q = pairs_rest xs ys p.1 q.1

pub option_words-append : (xs ys : List CommandWord) → ArePairs xs → option_words (xs ++ ys) ≡ option_words xs ++ option_words ys
unfolding ArePairs option_words
option_words-append [] ys p = refl
option_words-append (w ∷ []) ys p = absurd p
option_words-append (w ∷ v ∷ xs) ys p = ap (λ ws. w ∷ ws) (option_words-append xs ys p.1)

pub times-append : (f : Flag) (xs ys : List CommandWord) → ArePairs xs → occurrences f (xs ++ ys) ≡ occurrences f xs + occurrences f ys
times-append f xs ys p =
    let named : CommandWord → Bool = λ word. bytes_eq word (flag_word f) in
    ap (count_by named) (option_words-append xs ys p) ∙ sum_by-append (λ w. cond (named w) 1 0) (option_words xs) (option_words ys)

-- a word that names another option than f, or f itself
pub times_one : (f : Flag) (word value : CommandWord) → occurrences f (word ∷ value ∷ []) ≤ 1
unfolding option_words
times_one f word value = elim (bytes_eq word (flag_word f)) as (λ b. 0 + cond b 1 0 ≤ 1) [ true ↦ omega arith | false ↦ omega arith ]

-- equal names are found, and other names aren't
found : (f : Flag) (word : CommandWord) → word ≡ flag_word f → bytes_eq word (flag_word f) ≡ true
found f word named = search (rules, bytes_eq-Decides word (flag_word f))

-- the option whose word has this third byte and this fourth byte
by_bytes : ℕ → ℕ → Flag
by_bytes a b =
    if nat_eq a 107 then KeyFile
    else if nat_eq a 102 then FileKey
    else if nat_eq a 100 then Digest
    else if nat_eq a 99 then Choice
    else if nat_eq b 112 then Space
    else Stop

flag_in : CommandWord → Flag
flag_in word = by_bytes (get_or word 2 0) (get_or word 3 0)

flag_in-flag_word : (f : Flag) → flag_in (flag_word f) ≡ f
unfolding flag_word flag_in by_bytes
flag_in-flag_word KeyFile = refl
flag_in-flag_word FileKey = refl
flag_in-flag_word Digest = refl
flag_in-flag_word Space = refl
flag_in-flag_word Stop = refl
flag_in-flag_word Choice = refl

pub flag_word-injective : (f g : Flag) → flag_word f ≡ flag_word g → f ≡ g
flag_word-injective f g e = sym (flag_in-flag_word f) ∙ ap flag_in e ∙ flag_in-flag_word g

pub times_first : (f : Flag) (word : CommandWord) (words : List CommandWord) → word ≡ flag_word f → 1 ≤ occurrences f (word ∷ words)
unfolding option_words
times_first f word [] named = rw (found f word named) (omega arith)
times_first f word (v ∷ words) named =
    let named_by : CommandWord → ℕ = λ w. cond (bytes_eq w (flag_word f)) 1 0 in
    let split : occurrences f (word ∷ v ∷ words) ≡ named_by word + occurrences f words = sum_by-cons named_by word (option_words words) in
    let one : named_by word ≡ 1 = ap (λ b. cond b 1 0) (found f word named) in
    omega (arith, split, one)

times_unnamed : (f : Flag) (word value : CommandWord) → bytes_eq word (flag_word f) ≡ false → occurrences f (word ∷ value ∷ []) ≡ 0
unfolding option_words
times_unnamed f word value none = rw none refl

-- One more option keeps every limit where its own leaves room.
pub options_more : (xs : List CommandWord) (f : Flag) (word value : CommandWord) → AreOptions xs → word ≡ flag_word f → IsValue f value → occurrences f xs < most_of f
    → AreOptions (xs ++ (word ∷ value ∷ []))
options_more xs f word value are named is room =
    let added = word ∷ value ∷ [] in
    let limit : (g : Flag) → occurrences g (xs ++ added) ≤ most_of g =
    λ g. let split = times-append g xs added are.pairs in
    elim (cases_Bool (bytes_eq word (flag_word g))) [
      | inl equal ↦ let same : f ≡ g = flag_word-injective f g (sym named ∙ (bytes_eq-Decides word (flag_word g)).0 equal) in
          let P : Flag → Type 0 = λ h. occurrences h xs + 1 ≤ most_of h in
          let more : occurrences g xs + 1 ≤ most_of g = subst P same (omega (arith, room)) in
          omega (arith, split, times_one g word value, more)
      | inr unlike ↦ let none : occurrences g added ≡ 0 = times_unnamed g word value unlike in omega (arith, split, none, are.limits g)
    ] in
    record { pairs = pairs_more xs added are.pairs (one_pair f word value named is); limits = limit }

pub no_options : AreOptions []
unfolding ArePairs option_words
no_options = record { pairs = tt; limits = λ f. omega arith }

-- a value that each option takes
sample : Flag → CommandWord
sample Digest = codes "sha1"
sample Space = space_value 1 2 1
sample Stop = decimal 1
sample Choice = codes "l"
sample _ = []

lone_letter : (k d : ℕ) → k < 1 → IsLetter (get_or (108 ∷ []) k d)
lone_letter zero d within = inl refl
lone_letter (suc k) d within = absurd (omega (arith, within))

sample_is : (f : Flag) → IsValue f (sample f)
unfolding sample IsValue
sample_is KeyFile = tt
sample_is FileKey = tt
sample_is Digest = inl refl
sample_is Space = (1, 2, 1, record { spelled = refl; id_from = omega arith; id_to = omega arith; pages_from = omega arith; pages_to = omega arith; key_from = omega arith; key_to = omega arith })
sample_is Stop = (1, record { spelled = refl; from = omega arith; to = omega arith })
sample_is Choice = record { from = omega arith; to = omega arith; letters = lone_letter }

some_room : (f : Flag) → 1 ≤ most_of f
unfolding most_of
some_room KeyFile = omega arith
some_room FileKey = omega arith
some_room Digest = omega arith
some_room Space = omega arith
some_room Stop = omega arith
some_room Choice = omega arith

-- An option with a value of its own, where it isn't there yet.
with_one : (f : Flag) (xs : List CommandWord) → AreOptions xs → (more : List CommandWord) × AreOptions (xs ++ more) × (1 ≤ occurrences f (xs ++ more))
with_one f xs are =
    elim (cases_lt (occurrences f xs) 1) [
      | inl none ↦ let added = flag_word f ∷ sample f ∷ [] in
          let room : occurrences f xs < most_of f = omega (arith, none, some_room f) in
          let split = times-append f xs added are.pairs in
          (added, options_more xs f (flag_word f) (sample f) are refl (sample_is f) room, omega (arith, split, times_first f (flag_word f) (sample f ∷ []) refl))
      | inr some ↦ ([], subst AreOptions (sym (append-nil xs)) are, subst (λ ws. 1 ≤ occurrences f ws) (sym (append-nil xs)) some)
    ]

-- What has kept to the form so far can be made whole.
pub options_begin : (xs : List CommandWord) → AreOptions xs → CanBegin (codes "drill" ∷ xs)
options_begin xs are =
    let keyed = with_one KeyFile xs are in
    let spaced = with_one Space (xs ++ keyed.0) keyed.1 in
    let whole = (xs ++ keyed.0) ++ spaced.0 in
    let kept : 1 ≤ occurrences KeyFile whole = omega (arith, keyed.2, times-append KeyFile (xs ++ keyed.0) spaced.0 keyed.1.pairs) in
    record {
      more = keyed.0 ++ spaced.0;
      whole = record { options = whole; begins = ap (λ ws. codes "drill" ∷ ws) (sym (append_assoc xs keyed.0 spaced.0)); are = spaced.1; has_key_file = kept; has_space = spaced.2 };
    }

-- A front of what can begin a list can begin it.
pub begun_shorter : (xs ys : List CommandWord) → CanBegin (xs ++ ys) → CanBegin xs
begun_shorter xs ys begun = record { more = ys ++ begun.more; whole = subst IsDrill (append_assoc xs ys begun.more) begun.whole }

-- An option's word can follow where its limit leaves room.
pub option_begins : (xs : List CommandWord) (f : Flag) (word : CommandWord) → AreOptions xs → word ≡ flag_word f → occurrences f xs < most_of f → CanBegin (codes "drill" ∷ (xs ++ (word ∷ [])))
option_begins xs f word are named room =
    let begun = options_begin (xs ++ (word ∷ sample f ∷ [])) (options_more xs f word (sample f) are named (sample_is f) room) in
    begun_shorter (codes "drill" ∷ (xs ++ (word ∷ []))) (sample f ∷ []) (subst CanBegin (ap (λ ws. codes "drill" ∷ ws) (sym (append_assoc xs (word ∷ []) (sample f ∷ [])))) begun)

-- Refusals

no_list : (xs : List CommandWord) (word : CommandWord) (ys : List CommandWord) → ArePairs xs
    → ((zs : List CommandWord) → ArePairs (word ∷ zs) → ((f : Flag) → occurrences f (xs ++ (word ∷ zs)) ≤ most_of f) → (rest : List CommandWord) → zs ≡ ys ++ rest → ⊥)
    → CanBegin (codes "drill" ∷ (xs ++ (word ∷ ys))) → ⊥
no_list xs word ys pairs refuses begun =
    let zs = ys ++ begun.more in
    let same : begun.whole.options ≡ xs ++ (word ∷ zs) = sym (ap (λ ws. drop 1 ws) begun.whole.begins) ∙ append_assoc xs (word ∷ ys) begun.more in
    let are : AreOptions (xs ++ (word ∷ zs)) = subst AreOptions same begun.whole.are in
    refuses zs (pairs_rest xs (word ∷ zs) pairs are.pairs) are.limits begun.more refl

-- the option of a first word
option_of : (word : CommandWord) (zs : List CommandWord) → ArePairs (word ∷ zs) → (f : Flag) × (word ≡ flag_word f)
unfolding ArePairs
option_of word [] pairs = absurd pairs
option_of word (v ∷ zs) pairs = (pairs.0.0, pairs.0.1)

-- a word that names no option
pub unknown_option : (xs : List CommandWord) (word : CommandWord) (ys : List CommandWord) → AreOptions xs → ((f : Flag) → word ≢ flag_word f)
    → CanBegin (codes "drill" ∷ (xs ++ (word ∷ ys))) → ⊥
unknown_option xs word ys are unnamed = no_list xs word ys are.pairs (λ zs pairs limits rest is. unnamed (option_of word zs pairs).0 (option_of word zs pairs).1)

-- an option that stands as often as it may
pub option_too_often : (xs : List CommandWord) (f : Flag) (word : CommandWord) (ys : List CommandWord) → AreOptions xs → word ≡ flag_word f → most_of f ≤ occurrences f xs
    → CanBegin (codes "drill" ∷ (xs ++ (word ∷ ys))) → ⊥
option_too_often xs f word ys are named full =
    no_list xs word ys are.pairs (λ zs pairs limits rest is.
    let split = times-append f xs (word ∷ zs) are.pairs in
    omega (arith, split, times_first f word zs named, limits f, full))

first_value : (word value : CommandWord) (zs : List CommandWord) → ArePairs (word ∷ value ∷ zs) → (f : Flag) × (word ≡ flag_word f) × IsValue f value
unfolding ArePairs
first_value word value zs pairs = pairs.0

-- a value that the option doesn't take
pub unfit_value : (xs : List CommandWord) (f : Flag) (word value : CommandWord) (ys : List CommandWord) → AreOptions xs → word ≡ flag_word f → (IsValue f value → ⊥)
    → CanBegin (codes "drill" ∷ (xs ++ (word ∷ value ∷ ys))) → ⊥
unfit_value xs f word value ys are named unfit =
    no_list xs word (value ∷ ys) are.pairs (λ zs pairs limits rest is.
    let first = first_value word value (ys ++ rest) (subst (λ ws. ArePairs (word ∷ ws)) is pairs) in
    unfit (subst (λ g. IsValue g value) (flag_word-injective first.0 f (sym first.1 ∙ named)) first.2))

-- the first word is another than the command
pub unknown_command : (word : CommandWord) (ys : List CommandWord) → word ≢ codes "drill" → CanBegin (word ∷ ys) → ⊥
unknown_command word ys other begun = other (ap (λ ws. get_or ws 0 []) begun.whole.begins)

-- Usage

begins_front : (words : List CommandWord) (j : ℕ) → CanBegin words → CanBegin (take j words)
begins_front words j begun = begun_shorter (take j words) (drop j words) (subst CanBegin (sym (take-append-drop j words)) begun)

least_begins : (words : List CommandWord) (i : ℕ) → CanBegin (take i words) → (j : ℕ) → j ≤ i → CanBegin (take j words)
least_begins words i begun j low = subst CanBegin (take-take j i words low) (begins_front (take i words) j begun)

-- the word at i is the first with which no list goes on
pub usage_at : (words : List CommandWord) (i : ℕ) → i < length words → CanBegin (take i words) → (CanBegin (take (i + 1) words) → ⊥) → IsUsage words i
usage_at words i inside begun refused = record {
  within = omega (arith, inside);
  least = least_begins words i begun;
  refused = λ low. refused;
  faulty = λ whole. refused (begins_front words (i + 1) (record { more = []; whole = subst IsDrill (sym (append-nil words)) whole }));
}

-- the words go on, and more are needed
pub usage_end : (words : List CommandWord) → CanBegin words → (IsDrill words → ⊥) → IsUsage words (length words)
usage_end words begun faulty = record {
  within = omega arith;
  least = least_begins words (length words) (begins_front words (length words) begun);
  refused = λ low. absurd (omega (arith, low));
  faulty = faulty;
}

-- Counting word by word

two_less : (n : ℕ) → (suc (suc n)) % 2 ≡ n % 2
two_less n = ap (λ m. m % 2) two ∙ add-mod_left 2 n
  where
    two : suc (suc n) ≡ 2 + n
    two = omega arith

pub times_even : (f : Flag) (xs : List CommandWord) (word : CommandWord) → length xs % 2 ≡ 0 → occurrences f (xs ++ (word ∷ [])) ≡ occurrences f xs + cond (bytes_eq word (flag_word f)) 1 0
unfolding option_words
times_even f [] word even = refl
times_even f (a ∷ []) word even = absurd (omega (arith, even))
times_even f (a ∷ b ∷ xs) word even =
    let named_by : CommandWord → ℕ = λ w. cond (bytes_eq w (flag_word f)) 1 0 in
    let long : occurrences f (a ∷ b ∷ (xs ++ (word ∷ []))) ≡ named_by a + occurrences f (xs ++ (word ∷ [])) = sum_by-cons named_by a (option_words (xs ++ (word ∷ []))) in
    let short : occurrences f (a ∷ b ∷ xs) ≡ named_by a + occurrences f xs = sum_by-cons named_by a (option_words xs) in
    let rest = times_even f xs word (sym (two_less (length xs)) ∙ even) in
    omega (arith, long, short, rest)

pub times_odd : (f : Flag) (xs : List CommandWord) (word : CommandWord) → length xs % 2 ≢ 0 → occurrences f (xs ++ (word ∷ [])) ≡ occurrences f xs
unfolding option_words
times_odd f [] word odd = absurd (odd refl)
times_odd f (a ∷ []) word odd = refl
times_odd f (a ∷ b ∷ xs) word odd =
    let named_by : CommandWord → ℕ = λ w. cond (bytes_eq w (flag_word f)) 1 0 in
    let long : occurrences f (a ∷ b ∷ (xs ++ (word ∷ []))) ≡ named_by a + occurrences f (xs ++ (word ∷ [])) = sum_by-cons named_by a (option_words (xs ++ (word ∷ []))) in
    let short : occurrences f (a ∷ b ∷ xs) ≡ named_by a + occurrences f xs = sum_by-cons named_by a (option_words xs) in
    let rest = times_odd f xs word (λ e. odd (two_less (length xs) ∙ e)) in
    omega (arith, long, short, rest)

odd_is : (n : ℕ) → (n == 0) ≡ false → n ≡ 0 → ⊥
odd_is n unlike is = let yes : (n == 0) ≡ true = (Decides-eqb n 0).1 is in let both : true ≡ false = sym yes ∙ unlike in cc both

pub times_step : (f : Flag) (words : List CommandWord) (i : ℕ) → i < length words
    → occurrences f (take (i + 1) words) ≡ occurrences f (take i words) + cond ((i % 2 == 0) && bytes_eq (slice_index_or words i []) (flag_word f)) 1 0
times_step f words i low =
    let word = slice_index_or words i [] in
    let size : length (take i words) ≡ i = length-take-le i words (omega (arith, low)) in
    let more : occurrences f (take (i + 1) words) ≡ occurrences f (take i words ++ (word ∷ [])) = ap (occurrences f) (take_more words i [] low) in
    elim (cases_Bool (i % 2 == 0)) [
      | inl even ↦ let zeroed : length (take i words) % 2 ≡ 0 = ap (λ n. n % 2) size ∙ (Decides-eqb (i % 2) 0).0 even in
          more ∙ times_even f (take i words) word zeroed ∙ ap (λ b. occurrences f (take i words) + cond (b && bytes_eq word (flag_word f)) 1 0) (sym even)
      | inr uneven ↦ let unlike : length (take i words) % 2 ≢ 0 = λ e. odd_is (i % 2) uneven (sym (ap (λ n. n % 2) size) ∙ e) in
          more ∙ times_odd f (take i words) word unlike ∙ sym (add-zero (occurrences f (take i words))) ∙ ap (λ b. occurrences f (take i words) + cond (b && bytes_eq word (flag_word f)) 1 0) (sym uneven)
    ]
