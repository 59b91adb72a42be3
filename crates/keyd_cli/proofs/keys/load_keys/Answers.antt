use Rattle.std.proofs.Common.{◌≡◌, ◌≤◌, length, map, string_bytes, arith, sym, ◌∙◌, ap}
use Rattle.std.proofs.lemmas.List.{length-map}
use Rattle.keyd_cli.specs.declared.words.Flag.TheVariants.{KeyFile}
use Rattle.keyd_cli.specs.Words.{most_of, occurrences}
use Rattle.keyd_cli.proofs.Endings.{values-count}
use Rattle.keyd_cli.proofs.keys.load_keys.Goals as goal

pub load-requires : goal.load-requires
unfolding most_of
load-requires g c =
    let ws = map string_bytes c.args.options.now in
    let names = c.in-Ok.names.items in
    let many : length names ≡ occurrences KeyFile ws = sym (length-map names string_bytes) ∙ ap length c.in-Ok.ensures ∙ values-count KeyFile ws c.requires.pairs in
    let few : occurrences KeyFile ws ≤ 64 = c.requires.limits KeyFile in
    omega (arith, ap length c.deref.ensures.value, many, few)
