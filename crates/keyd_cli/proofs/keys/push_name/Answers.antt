use Rattle.std.proofs.Common.{rules, ◌≡◌, ◌+◌, ◌<◌, [], ◌∷◌, ◌++◌, length, map, drop, get_or, string_bytes, arith, sym, ◌∙◌, ap}
use Rattle.std.proofs.lemmas.List.{length-map, map-append}
use Rattle.std.proofs.Common.{append_assoc}
use Rattle.keyd_cli.specs.declared.words.Flag.TheVariants.{KeyFile}
use Rattle.keyd_cli.specs.Words.{flag_word}
use Rattle.keyd_cli.specs.Keys.{values_of}
use Rattle.keyd_cli.proofs.Values.{word_is}
use Rattle.keyd_cli.proofs.KeyNames.{values_here, values_behind}
use Rattle.keyd_cli.proofs.keys.push_name.Goals as goal

pub returns-then-ne : goal.returns-then-ne
returns-then-ne c =
    let strings = c.args.options.now in
    let ws = map string_bytes strings in
    let low : c.args.at + 1 < length ws = omega (arith, length-map strings string_bytes, c.requires) in
    let word = word_is string_bytes strings c.args.at c.index-options-at.result c.as_str.result.now (omega (arith, c.requires)) c.index-options-at.is c.as_str.ensures.value in
    let other : get_or ws c.args.at [] ≡ flag_word KeyFile → ⊥ =
    λ named. let same : c.as_str.result.now ≡ c.name.result.now = sym word ∙ named ∙ sym c.name.ensures in search (rules, c.ne.ensures, c.if-ne.true, same) in
    ap (λ vs. map string_bytes c.args.names.now.items ++ vs) (sym (values_behind KeyFile ws c.args.at low other))

pub returns : goal.returns
returns c =
    let strings = c.args.options.now in
    let ws = map string_bytes strings in
    let low : c.args.at + 1 < length ws = omega (arith, length-map strings string_bytes, c.requires) in
    let word = word_is string_bytes strings c.args.at c.index-options-at.result c.as_str.result.now (omega (arith, c.requires)) c.index-options-at.is c.as_str.ensures.value in
    let value = word_is string_bytes strings (c.args.at + 1) c.index-options-at-2.result c.as_str-2.result.now c.requires c.index-options-at-2.is c.as_str-2.ensures.value in
    let same : c.as_str.result.now ≡ c.name.result.now = search (rules, c.ne.ensures, c.if-ne.false) in
    let named : get_or ws c.args.at [] ≡ flag_word KeyFile = word ∙ same ∙ c.name.ensures in
    let name : string_bytes c.in_ok-name.name ≡ get_or ws (c.args.at + 1) [] = c.in_ok-name.ensures.ok ∙ sym value in
    let rest = values_of KeyFile (drop (c.args.at + 2) ws) in
    let grown : map string_bytes c.push.new.self.items ≡ map string_bytes c.args.names.now.items ++ (string_bytes c.in_ok-name.name ∷ []) = ap (map string_bytes) c.in_ok-push.ensures.items ∙ map-append string_bytes c.args.names.now.items (c.in_ok-name.name ∷ []) in
    ap (λ vs. vs ++ rest) grown ∙ append_assoc (map string_bytes c.args.names.now.items) (string_bytes c.in_ok-name.name ∷ []) rest
    ∙ ap (λ v. map string_bytes c.args.names.now.items ++ (v ∷ rest)) name ∙ ap (λ vs. map string_bytes c.args.names.now.items ++ vs) (sym (values_here KeyFile ws c.args.at low named))
