use Rattle.std.proofs.Common.{rules, ◌≡◌, ◌≢◌, List, [], ◌∷◌, length, map, string_bytes, codes, arith, sym, ◌∙◌, subst}
use Rattle.keyd_cli.specs.Words.{CommandWord, IsUsage}
use Rattle.keyd_cli.proofs.Usages.{usage_none, usage_command}
use Rattle.keyd_cli.proofs.words.check_words.Goals as goal

no_strings : {S : Type 0} (f : S → CommandWord) (strings : List S) → length strings ≡ 0 → IsUsage (map f strings) 0
no_strings f [] none = usage_none
no_strings f (x ∷ xs) none = absurd (omega (arith, none))

pub returns-in_default-clause-usage : goal.returns-in_default-clause-usage
returns-in_default-clause-usage c = no_strings string_bytes c.args.words.now c.in_default.ensures.cases

pub returns-then-ne-clause-usage : goal.returns-then-ne-clause-usage
returns-then-ne-clause-usage c =
    let other : string_bytes c.in-Some.command.now ≢ codes "drill" = λ same. let read : c.as_str.result.now ≡ codes "drill" = c.as_str.ensures.value ∙ same in search (rules, read) in
    subst (λ strings. IsUsage (map string_bytes strings) 0) (sym c.in-Some.ensures.cases.0) (usage_command (string_bytes c.in-Some.command.now) (map string_bytes c.in-Some.options.now) other)
