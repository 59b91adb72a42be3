-- The values that a parse's matches have are those of the command on the words.
use Rattle.std.proofs.Common.{◌≡◌, ℕ, true, List, [], String, map, string_bytes, unwrap_or, Option, refl, ap, ◌∙◌}
use Rattle.std.specs.Option.{option_map}
use Rattle.clap.specs.Words.{App, HasMatchesOf, all_of, first_of, first_value, found_of, is_simple, is_simple_and_free, matched_of, matches_of, raw_values}
use Rattle.clap.specs.declared.parser.matches.ArgMatches.{ArgMatches}
use Rattle.clap.proofs.OnLiterals.{clap_on_literals}
use Rattle.clap.proofs.WalkLemmas.{first_value-rows, raw_values-rows}
use Rattle.binlog_cli.specs.Words.{list_command, list_values_in}

command_is_simple : is_simple list_command ≡ true
unfolding clap_on_literals
command_is_simple = refl

pub command_is_free : is_simple_and_free list_command ≡ true
unfolding clap_on_literals
command_is_free = refl

pub record HasValues {Z : Type 0} (m : ArgMatches) (words : List (String Z)) : Type 0 where
  pub first : (id : List ℕ) → first_value (found_of m) id ≡ (list_values_in words).first id
  pub all : (id : List ℕ) → unwrap_or (option_map raw_values (matched_of (found_of m) id)) [] ≡ (list_values_in words).all id

pub has_values : {Z : Type 0} (m : ArgMatches) (app : App) (words : List (String Z)) → app ≡ list_command → HasMatchesOf app (map string_bytes words) m → HasValues m words
has_values m app words is has =
    let simple : is_simple app ≡ true = ap is_simple is ∙ command_is_simple in
    let rows = (has simple).0 ∙ ap (λ (a : App). matches_of a (map string_bytes words)) is in
    record {
      first = λ id. first_value-rows (found_of m) id ∙ ap (first_of id) rows;
      all = λ id. ap (λ (o : Option (List (List ℕ))). unwrap_or o []) (raw_values-rows (found_of m) id ∙ ap (all_of id) rows);
    }
