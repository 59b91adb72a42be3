use Rattle.std.proofs.Common.{◌≡◌, ◌≤◌, ℕ, List, [], codes, length, map, string_bytes, vec_len, nat_le, is_some, unwrap_or, IsErrAnd, rules, sym, ap, ◌∙◌, arith, Option, Some}
use Rattle.std.proofs.lemmas.Bool.{and_from, and_parts, le-leb, leb-true}
use Rattle.std.proofs.lemmas.List.{length-map}
use Rattle.clap.specs.Words.{App, app_of, fault_of, is_simple_and_free, takes}
use Rattle.binlog_cli.specs.Words.{asked_digest, digest_by_name, is_true_text, key_names_of, list_values_in}
use Rattle.binlog_cli.proofs.WordsMatches.{command_is_free, has_values}
use Rattle.binlog_cli.proofs.words.read_words.Goals as goal
use Rattle.cause_core.proofs.Causes.{handed}

pub returns-in_err-matches-clause-refused : goal.returns-in_err-matches-clause-refused
returns-in_err-matches-clause-refused c =
    let is_own : IsErrAnd c.from_residual-in_err-matches.result (λ e. e ≡ c.in_err-matches.field-0.0) = search rules in
    handed _ c.from_residual-in_err-matches.result c.in_err-matches.field-0.0 is_own
    (λ taken within. c.in_err-matches.ensures.passes (ap (λ (a : App). takes a (map string_bytes c.args.words.now)) c.in_ok-command.ensures ∙ taken))

pub returns-in_err-digest-clause-refused : goal.returns-in_err-digest-clause-refused
returns-in_err-digest-clause-refused c =
    let is_own : IsErrAnd c.from_residual-in_err-digest.result (λ e. e ≡ c.in_err-digest.field-0.0) = search rules in
    let values = has_values c.in_ok-matches.matches (app_of c.in_ok-command.field-0) c.args.words.now c.in_ok-command.ensures c.in_ok-matches.ensures.matches in
    let digest = c.digest_in.ensures ∙ ap (λ (o : Option (List ℕ)). digest_by_name (unwrap_or o [])) (values.first (codes "digest")) in
    let names = c.in_ok-key_files.ensures ∙ values.all (codes "key-file") in
    handed _ c.from_residual-in_err-digest.result c.in_err-digest.field-0.0 is_own
    (λ taken within.
    let parts = and_parts (is_some (asked_digest (list_values_in c.args.words.now))) (nat_le (length (key_names_of (list_values_in c.args.words.now))) 64) within in
    let few = leb-true (length (key_names_of (list_values_in c.args.words.now))) 64 parts.1 in
    let many = sym (length-map c.in_ok-key_files.key_files.items string_bytes) ∙ ap (λ (l : List (List ℕ)). length l) names in
    c.in_err-digest.ensures.refused (ap is_some digest ∙ parts.0) (omega (arith, c.len.ensures, few, many)))

pub returns-clause-asked : goal.returns-clause-asked
returns-clause-asked c =
    let values = has_values c.in_ok-matches.matches (app_of c.in_ok-command.field-0) c.args.words.now c.in_ok-command.ensures c.in_ok-matches.ensures.matches in
    record {
      name = c.asked_by.ensures.name ∙ ap (λ (o : Option (List ℕ)). unwrap_or o []) (values.first (codes "FILE"));
      key_files = ap (λ v. map string_bytes v.items) c.asked_by.ensures.key_files ∙ c.in_ok-key_files.ensures ∙ values.all (codes "key-file");
      few = omega (arith, ap (λ v. vec_len v) c.asked_by.ensures.key_files, c.len.ensures, c.in_ok-digest.ensures.accepted.1);
      filekey = c.asked_by.ensures.filekey ∙ values.first (codes "filekey");
      digest = ap Some c.asked_by.ensures.digest ∙ sym c.in_ok-digest.ensures.accepted.0 ∙ c.digest_in.ensures ∙ ap (λ (o : Option (List ℕ)). digest_by_name (unwrap_or o [])) (values.first (codes "digest"));
      hex = c.asked_by.ensures.hex ∙ ap is_true_text (values.first (codes "hex"));
    }

pub returns-clause-accepted : goal.returns-clause-accepted
returns-clause-accepted c =
    ap (λ (a : App). fault_of a (map string_bytes c.args.words.now)) (sym c.in_ok-command.ensures)
    ∙ c.in_ok-matches.ensures.kinds (ap is_simple_and_free c.in_ok-command.ensures ∙ command_is_free)

pub returns-clause-within : goal.returns-clause-within
returns-clause-within c =
    let values = has_values c.in_ok-matches.matches (app_of c.in_ok-command.field-0) c.args.words.now c.in_ok-command.ensures c.in_ok-matches.ensures.matches in
    let digest = c.digest_in.ensures ∙ ap (λ (o : Option (List ℕ)). digest_by_name (unwrap_or o [])) (values.first (codes "digest")) in
    let names = c.in_ok-key_files.ensures ∙ values.all (codes "key-file") in
    let many = sym (length-map c.in_ok-key_files.key_files.items string_bytes) ∙ ap (λ (l : List (List ℕ)). length l) names in
    let few : length (key_names_of (list_values_in c.args.words.now)) ≤ 64 = omega (arith, c.len.ensures, c.in_ok-digest.ensures.accepted.1, many) in
    and_from (is_some (asked_digest (list_values_in c.args.words.now))) (nat_le (length (key_names_of (list_values_in c.args.words.now))) 64)
    (ap is_some (sym digest ∙ c.in_ok-digest.ensures.accepted.0)) (le-leb _ 64 few)
