use Rattle.std.proofs.Common.{◌≡◌, ℕ, ◌≤◌, ◌<◌, ◌^◌, length, map, string_bytes, get_or, arith, sym, ◌∙◌, subst, List, []}
use Rattle.std.specs.Fmt.{decimal}
use Rattle.std.proofs.lemmas.List.{length-map}
use Rattle.keyd_words.specs.Table.{Argument}
use Rattle.keyd_words.specs.Values.{WritesNumber}
use Rattle.keyd_words.specs.Words.{IsUsageAt}
use Rattle.keyd_words.proofs.MakeLemmas.{IsMake, make_alone, make_unread, make_short, make_uncounted, make_long}
use Rattle.keyd_words.proofs.reading.read_make.Goals as goal

pub returns-in_default-clause-err : goal.returns-in_default-clause-err
returns-in_default-clause-err c =
    let ws = map string_bytes c.args.words.now in
    let size = length-map c.args.words.now string_bytes in
    subst (λ (xs : List Argument). length xs ≤ 1 → IsUsageAt IsMake xs 1) (sym c.requires.1) (make_alone c.requires.0) (omega (arith, size, c.in_default.ensures))

pub returns-in_default-number_in-clause-err : goal.returns-in_default-number_in-clause-err
returns-in_default-number_in-clause-err c =
    let ws = map string_bytes c.args.words.now in
    let size = length-map c.args.words.now string_bytes in
    let word = c.in-Some.word.now in
    let unread = subst (λ w. (n : ℕ) → n < 2 ^ 64 → w ≡ decimal n → ⊥) c.as_bytes.ensures.value c.in_default-number_in.ensures in
    subst (λ (xs : List Argument). 1 < length xs → get_or xs 1 [] ≡ word → ((n : ℕ) → n < 2 ^ 64 → word ≡ decimal n → ⊥) → IsUsageAt IsMake xs 1) (sym c.requires.1) (make_unread c.requires.0 word)
    (omega (arith, size, c.in-Some.ensures.0)) c.in-Some.ensures.1 unread

pub returns-in_default-word_at-clause-err : goal.returns-in_default-word_at-clause-err
returns-in_default-word_at-clause-err c =
    let ws = map string_bytes c.args.words.now in
    let size = length-map c.args.words.now string_bytes in
    let word = c.in-Some.word.now in
    let n = c.in-Some-number_in.number in
    subst (λ (xs : List Argument). 1 < length xs → get_or xs 1 [] ≡ word → word ≡ decimal n → n < 2 ^ 64 → length xs ≤ 2 → IsUsageAt IsMake xs 2) (sym c.requires.1) (make_short c.requires.0 word n)
    (omega (arith, size, c.in-Some.ensures.0)) c.in-Some.ensures.1 (sym c.as_bytes.ensures.value ∙ c.in-Some-number_in.ensures.0) c.in-Some-number_in.ensures.1 (omega (arith, size, c.in_default-word_at.ensures))

pub returns-in_default-number_from-clause-err : goal.returns-in_default-number_from-clause-err
returns-in_default-number_from-clause-err c =
    let ws = map string_bytes c.args.words.now in
    let size = length-map c.args.words.now string_bytes in
    let word = c.in-Some.word.now in
    let last = c.in-Some-word_at.word.now in
    let n = c.in-Some-number_in.number in
    let unread = subst (λ w. (k : ℕ) → WritesNumber w 1 4000 k → ⊥) c.as_bytes-2.ensures.value c.in_default-number_from.ensures in
    subst (λ (xs : List Argument). get_or xs 1 [] ≡ word → word ≡ decimal n → n < 2 ^ 64 → 2 < length xs → get_or xs 2 [] ≡ last → ((k : ℕ) → WritesNumber last 1 4000 k → ⊥) → IsUsageAt IsMake xs 2) (sym c.requires.1)
    (make_uncounted c.requires.0 word last n)
    c.in-Some.ensures.1 (sym c.as_bytes.ensures.value ∙ c.in-Some-number_in.ensures.0) c.in-Some-number_in.ensures.1 (omega (arith, size, c.in-Some-word_at.ensures.0)) c.in-Some-word_at.ensures.1 unread

pub returns-then-words-gt3-clause-err : goal.returns-then-words-gt3-clause-err
returns-then-words-gt3-clause-err c =
    let ws = map string_bytes c.args.words.now in
    let size = length-map c.args.words.now string_bytes in
    let word = c.in-Some.word.now in
    let last = c.in-Some-word_at.word.now in
    let n = c.in-Some-number_in.number in
    let k = c.in-Some-number_from.count in
    let counts = subst (λ w. WritesNumber w 1 4000 k) c.as_bytes-2.ensures.value c.in-Some-number_from.ensures in
    subst (λ (xs : List Argument). get_or xs 1 [] ≡ word → word ≡ decimal n → n < 2 ^ 64 → get_or xs 2 [] ≡ last → WritesNumber last 1 4000 k → 3 < length xs → IsUsageAt IsMake xs 3) (sym c.requires.1)
    (make_long c.requires.0 word last n k)
    c.in-Some.ensures.1 (sym c.as_bytes.ensures.value ∙ c.in-Some-number_in.ensures.0) c.in-Some-number_in.ensures.1 c.in-Some-word_at.ensures.1 counts (omega (arith, size, c.if-words-gt3.true))
