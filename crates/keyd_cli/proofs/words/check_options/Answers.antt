use Rattle.std.proofs.Common.{rules, ◌≡◌, ℕ, ◌+◌, ◌<◌, ◌≤◌, List, [], ◌∷◌, length, map, take, get_or, string_bytes, codes, arith, sym, ◌∙◌, ap, subst}
use Rattle.std.proofs.lemmas.List.{length-map, take_all, get_or-map, take-map}
use Rattle.keyd_cli.specs.declared.words.Flag.{Flag}
use Rattle.keyd_cli.specs.declared.words.Flag.TheVariants.{KeyFile, Space}
use Rattle.keyd_cli.specs.Words.{CommandWord, AreOptions, IsUsage, IsValue, occurrences, most_of}
use Rattle.keyd_cli.proofs.Options.{no_options}
use Rattle.keyd_cli.proofs.Usages.{usage_unknown, usage_often, usage_value, usage_missing, usage_needed, needs_key_file, needs_space, kept_more}
use Rattle.keyd_cli.proofs.words.check_options.Goals as goal

word_is : {S : Type 0} (f : S → CommandWord) (strings : List S) (i : ℕ) (x : S) (text : CommandWord) → i < length strings → x ≡ get_or strings i x → text ≡ f x → get_or (map f strings) i [] ≡ text
word_is f strings i x text low is read = get_or-map f strings i x [] low ∙ ap f (sym is) ∙ sym read

times_is : {S : Type 0} (f : S → CommandWord) (strings : List S) (i : ℕ) (flag : Flag) → occurrences flag (map f (take i strings)) ≡ occurrences flag (take i (map f strings))
times_is f strings i flag = ap (occurrences flag) (sym (take-map f i strings))

pub loop-at-init : goal.loop-at-init
loop-at-init c = record { are = no_options; low = omega arith }

pub returns-in_default-clause-usage : goal.returns-in_default-clause-usage
returns-in_default-clause-usage c =
    let strings = c.args.options.now in
    let opts = map string_bytes strings in
    let low : c.loop-at.at < length opts = omega (arith, length-map strings string_bytes, c.loop-at-test.true) in
    let word = word_is string_bytes strings c.loop-at.at c.index-options-at.result c.deref.result.now c.loop-at-test.true c.index-options-at.is c.deref.ensures in
    usage_unknown c.loop-at.at opts low c.loop-at.invariant.are (λ f named. c.in_default.ensures f (sym word ∙ named))

pub returns-then-times_of-most-clause-usage : goal.returns-then-times_of-most-clause-usage
returns-then-times_of-most-clause-usage c =
    let strings = c.args.options.now in
    let opts = map string_bytes strings in
    let at = c.loop-at.at in
    let low : at < length opts = omega (arith, length-map strings string_bytes, c.loop-at-test.true) in
    let word = word_is string_bytes strings at c.index-options-at.result c.deref.result.now c.loop-at-test.true c.index-options-at.is c.deref.ensures in
    let full : most_of c.in-Some.flag ≤ occurrences c.in-Some.flag (take at opts) =
    omega (arith, c.if-times_of-most.true, c.most.ensures, c.times_of.ensures, times_is string_bytes strings at c.in-Some.flag) in
    usage_often at opts c.in-Some.flag low c.loop-at.invariant.are (word ∙ c.in-Some.ensures) full

pub returns-then-at-options-clause-usage : goal.returns-then-at-options-clause-usage
returns-then-at-options-clause-usage c =
    let strings = c.args.options.now in
    let opts = map string_bytes strings in
    let at = c.loop-at.at in
    let size = length-map strings string_bytes in
    let word = word_is string_bytes strings at c.index-options-at.result c.deref.result.now c.loop-at-test.true c.index-options-at.is c.deref.ensures in
    let room : occurrences c.in-Some.flag (take at opts) < most_of c.in-Some.flag =
    omega (arith, c.if-times_of-most.false, c.most.ensures, c.times_of.ensures, times_is string_bytes strings at c.in-Some.flag) in
    let index : length (codes "drill" ∷ opts) ≡ at + 2 = omega (arith, size, c.if-at-options.true) in
    subst (λ n. IsUsage (codes "drill" ∷ opts) n) index
    (usage_missing at opts c.in-Some.flag (omega (arith, size, c.if-at-options.true)) c.loop-at.invariant.are (word ∙ c.in-Some.ensures) room)

pub returns-then-not-takes-clause-usage : goal.returns-then-not-takes-clause-usage
returns-then-not-takes-clause-usage c =
    let strings = c.args.options.now in
    let opts = map string_bytes strings in
    let at = c.loop-at.at in
    let size = length-map strings string_bytes in
    let inside : at + 1 < length strings = omega (arith, c.loop-at-test.true, c.if-at-options.false) in
    let low : at + 1 < length opts = omega (arith, size, inside) in
    let word = word_is string_bytes strings at c.index-options-at.result c.deref.result.now c.loop-at-test.true c.index-options-at.is c.deref.ensures in
    let value = word_is string_bytes strings (at + 1) c.index-options-at-in-loop-at.result c.deref-in-loop-at.result.now inside c.index-options-at-in-loop-at.is c.deref-in-loop-at.ensures in
    let room : occurrences c.in-Some.flag (take at opts) < most_of c.in-Some.flag =
    omega (arith, c.if-times_of-most.false, c.most.ensures, c.times_of.ensures, times_is string_bytes strings at c.in-Some.flag) in
    let unfit : IsValue c.in-Some.flag c.deref-in-loop-at.result.now → ⊥ = search (rules, c.takes.ensures, c.if-not-takes.true) in
    usage_value at opts c.in-Some.flag low c.loop-at.invariant.are (word ∙ c.in-Some.ensures) room (λ is. unfit (subst (λ w. IsValue c.in-Some.flag w) value is))

pub loop-at-preserved : goal.loop-at-preserved
loop-at-preserved c =
    let strings = c.args.options.now in
    let opts = map string_bytes strings in
    let at = c.loop-at.at in
    let size = length-map strings string_bytes in
    let inside : at + 1 < length strings = omega (arith, c.loop-at-test.true, c.if-at-options.false) in
    let low : at + 1 < length opts = omega (arith, size, inside) in
    let word = word_is string_bytes strings at c.index-options-at.result c.deref.result.now c.loop-at-test.true c.index-options-at.is c.deref.ensures in
    let value = word_is string_bytes strings (at + 1) c.index-options-at-in-loop-at.result c.deref-in-loop-at.result.now inside c.index-options-at-in-loop-at.is c.deref-in-loop-at.ensures in
    let room : occurrences c.in-Some.flag (take at opts) < most_of c.in-Some.flag =
    omega (arith, c.if-times_of-most.false, c.most.ensures, c.times_of.ensures, times_is string_bytes strings at c.in-Some.flag) in
    let fit : IsValue c.in-Some.flag c.deref-in-loop-at.result.now = search (rules, c.takes.ensures, c.if-not-takes.false) in
    record {
      are = kept_more at opts c.in-Some.flag low c.loop-at.invariant.are (word ∙ c.in-Some.ensures) room (subst (λ w. IsValue c.in-Some.flag w) (sym value) fit);
      low = omega (arith, inside);
    }

-- the loop ends at all the options
all_are : {S : Type 0} (f : S → CommandWord) (strings : List S) (at : ℕ) → (at < length strings → ⊥) → AreOptions (take at (map f strings)) → AreOptions (map f strings)
all_are f strings at end are = subst AreOptions (take_all at (map f strings) (omega (arith, length-map strings f, end))) are

pub returns-then-times_of-eq0-clause-usage : goal.returns-then-times_of-eq0-clause-usage
returns-then-times_of-eq0-clause-usage c =
    let strings = c.args.options.now in
    let opts = map string_bytes strings in
    let index : length (codes "drill" ∷ opts) ≡ length strings + 1 = omega (arith, length-map strings string_bytes) in
    let none : occurrences KeyFile opts ≡ 0 = sym c.times_of-2.ensures ∙ c.if-times_of-eq0.true in
    subst (λ n. IsUsage (codes "drill" ∷ opts) n) index
    (usage_needed opts KeyFile (all_are string_bytes strings c.loop-at.at (λ low. omega (arith, low, c.loop-at-test.false)) c.loop-at.invariant.are) none (needs_key_file opts))

pub returns-then-times_of-eq0-2-clause-usage : goal.returns-then-times_of-eq0-2-clause-usage
returns-then-times_of-eq0-2-clause-usage c =
    let strings = c.args.options.now in
    let opts = map string_bytes strings in
    let index : length (codes "drill" ∷ opts) ≡ length strings + 1 = omega (arith, length-map strings string_bytes) in
    let none : occurrences Space opts ≡ 0 = sym c.times_of-3.ensures ∙ c.if-times_of-eq0-2.true in
    subst (λ n. IsUsage (codes "drill" ∷ opts) n) index
    (usage_needed opts Space (all_are string_bytes strings c.loop-at.at (λ low. omega (arith, low, c.loop-at-test.false)) c.loop-at.invariant.are) none (needs_space opts))
