-- The words of `make`.
use Rattle.std.proofs.Common.{◌≡◌, ℕ, ◌≤◌, ◌<◌, ◌^◌, length, get_or, arith, sym, ◌∙◌, ap, subst, List, [], ◌∷◌, suc, refl}
use Rattle.std.specs.Fmt.{decimal}
use Rattle.keyd_words.specs.declared.plan.MakeOptions.{MakeOptions}
use Rattle.keyd_words.specs.declared.command.Command.TheVariants as command
use Rattle.keyd_words.specs.Table.{Argument, command_word}
use Rattle.keyd_words.specs.Values.{WritesNumber}
use Rattle.keyd_words.specs.Words.{AsksToMake, BeginsList, IsUsageAt}
use Rattle.keyd_words.proofs.UsageLemmas.{usage_behind, usage_end}

-- a list of make
abbrev pub IsMake : List Argument → Type 0
IsMake words = (p : MakeOptions) × AsksToMake words p

abbrev make_word : Argument
make_word = command_word command.Make

whole : (n k : ℕ) → n < 2 ^ 64 → 1 ≤ k → k ≤ 4000 → IsMake (make_word ∷ decimal n ∷ decimal k ∷ [])
whole n k small from to = (record { number = n; count = k }, record { written = refl; number_to = small; count_from = from; count_to = to })

begins_make : BeginsList IsMake (make_word ∷ [])
begins_make = (decimal 0 ∷ decimal 1 ∷ [], whole 0 1 (omega arith) (omega arith) (omega arith))

begins_number : (word : Argument) (n : ℕ) → word ≡ decimal n → n < 2 ^ 64 → BeginsList IsMake (make_word ∷ word ∷ [])
begins_number word n is small = (decimal 1 ∷ [], subst (λ w. IsMake (make_word ∷ w ∷ decimal 1 ∷ [])) (sym is) (whole n 1 small (omega arith) (omega arith)))

long : (words : List Argument) → IsMake words → length words ≡ 3
long words made = ap length made.1.written

pub make_alone : (rest : List Argument) → length (make_word ∷ rest) ≤ 1 → IsUsageAt IsMake (make_word ∷ rest) 1
make_alone [] short = usage_end IsMake (make_word ∷ []) begins_make (λ made. let n = long (make_word ∷ []) made in omega (arith, n))
make_alone (w ∷ rest) short = absurd (omega (arith, short))

pub make_unread : (rest : List Argument) (word : Argument) → 1 < length (make_word ∷ rest) → get_or (make_word ∷ rest) 1 [] ≡ word → ((n : ℕ) → n < 2 ^ 64 → word ≡ decimal n → ⊥) → IsUsageAt IsMake (make_word ∷ rest) 1
make_unread [] word low is unread = absurd (omega (arith, low))
make_unread (w ∷ rest) word low is unread =
    usage_behind IsMake (make_word ∷ w ∷ rest) 1 low begins_make
    (λ begun. unread begun.1.0.number begun.1.1.number_to (sym is ∙ ap (λ ws. get_or ws 1 []) begun.1.1.written))

pub make_short : (rest : List Argument) (word : Argument) (n : ℕ) → 1 < length (make_word ∷ rest) → get_or (make_word ∷ rest) 1 [] ≡ word → word ≡ decimal n → n < 2 ^ 64 → length (make_word ∷ rest) ≤ 2 → IsUsageAt IsMake (make_word ∷ rest) 2
make_short [] word n low is spelled small short = absurd (omega (arith, low))
make_short (w ∷ []) word n low is spelled small short = usage_end IsMake (make_word ∷ w ∷ []) (begins_number w n (is ∙ spelled) small) (λ made. let k = long (make_word ∷ w ∷ []) made in omega (arith, k))
make_short (w ∷ x ∷ rest) word n low is spelled small short = absurd (omega (arith, short))

pub make_uncounted : (rest : List Argument) (word last : Argument) (n : ℕ) → get_or (make_word ∷ rest) 1 [] ≡ word → word ≡ decimal n → n < 2 ^ 64 → 2 < length (make_word ∷ rest) → get_or (make_word ∷ rest) 2 [] ≡ last
    → ((k : ℕ) → WritesNumber last 1 4000 k → ⊥) → IsUsageAt IsMake (make_word ∷ rest) 2
make_uncounted [] word last n is spelled small low last_is unread = absurd (omega (arith, low))
make_uncounted (w ∷ []) word last n is spelled small low last_is unread = absurd (omega (arith, low))
make_uncounted (w ∷ x ∷ rest) word last n is spelled small low last_is unread =
    usage_behind IsMake (make_word ∷ w ∷ x ∷ rest) 2 low (begins_number w n (is ∙ spelled) small)
    (λ begun. unread begun.1.0.count (record { spelled = sym last_is ∙ ap (λ ws. get_or ws 2 []) begun.1.1.written; from = begun.1.1.count_from; to = begun.1.1.count_to }))

pub make_long : (rest : List Argument) (word last : Argument) (n k : ℕ) → get_or (make_word ∷ rest) 1 [] ≡ word → word ≡ decimal n → n < 2 ^ 64 → get_or (make_word ∷ rest) 2 [] ≡ last → WritesNumber last 1 4000 k
    → 3 < length (make_word ∷ rest) → IsUsageAt IsMake (make_word ∷ rest) 3
make_long [] word last n k is spelled small last_is counts low = absurd (omega (arith, low))
make_long (w ∷ []) word last n k is spelled small last_is counts low = absurd (omega (arith, low))
make_long (w ∷ x ∷ []) word last n k is spelled small last_is counts low = absurd (omega (arith, low))
make_long (w ∷ x ∷ y ∷ rest) word last n k is spelled small last_is counts low =
    let first : decimal n ≡ w = sym spelled ∙ sym is in
    let second : decimal k ≡ x = sym counts.spelled ∙ sym last_is in
    let made : IsMake (make_word ∷ w ∷ x ∷ []) = subst (λ v. IsMake (make_word ∷ w ∷ v ∷ [])) second (subst (λ v. IsMake (make_word ∷ v ∷ decimal k ∷ [])) first (whole n k small counts.from counts.to)) in
    usage_behind IsMake (make_word ∷ w ∷ x ∷ y ∷ rest) 3 low ([], made)
    (λ begun. let m : suc (suc (suc (suc (length begun.0)))) ≡ 3 = ap length begun.1.1.written in omega (arith, m))
