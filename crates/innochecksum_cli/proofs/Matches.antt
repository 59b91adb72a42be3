-- The values that a parse's matches have are those of the command on the words.
use Rattle.std.proofs.Common.{◌≡◌, true, List, String, map, string_bytes, Result, Ok, Err, IfErr, IsErrAnd, refl, sym, ap, subst, ◌∙◌}
use Rattle.std.proofs.Math.Path.{fun_ext}
use Rattle.clap.specs.Words.{App, HasMatchesOf, first_of, first_value, found_of, is_simple, is_simple_and_free, matches_of}
use Rattle.clap.specs.declared.parser.matches.ArgMatches.{ArgMatches}
use Rattle.clap.proofs.OnLiterals.{clap_on_literals}
use Rattle.clap.proofs.WalkLemmas.{first_value-rows}
use Rattle.innochecksum_cli.specs.Words.{Values, command, values_in}

command_is_simple : is_simple command ≡ true
unfolding clap_on_literals
command_is_simple = refl

pub values_are : {Z : Type 0} (m : ArgMatches) (app : App) (words : List (String Z)) → app ≡ command → HasMatchesOf app (map string_bytes words) m
    → ◌≡◌ {A = Values} (first_value (found_of m)) (values_in words)
values_are m app words is has =
    let simple : is_simple app ≡ true = ap is_simple is ∙ command_is_simple in
    let rows = (has simple).0 ∙ ap (λ (a : App). matches_of a (map string_bytes words)) is in
    fun_ext (λ id. first_value-rows (found_of m) id ∙ ap (first_of id) rows)

pub command_is_free : is_simple_and_free command ≡ true
unfolding clap_on_literals
command_is_free = refl
