use Rattle.std.proofs.Common.{◌≡◌, [], ◌++◌, map, drop, string_bytes, arith, sym, ◌∙◌, ap}
use Rattle.std.proofs.lemmas.List.{length-map, append-nil}
use Rattle.keyd_cli.specs.declared.words.Flag.TheVariants.{KeyFile}
use Rattle.keyd_cli.specs.Keys.{values_of}
use Rattle.keyd_cli.proofs.KeyNames.{values_none}
use Rattle.keyd_cli.proofs.keys.names_in.Goals as goal

pub returns : goal.returns
returns c =
    let strings = c.args.options.now in
    let ws = map string_bytes strings in
    let none : values_of KeyFile (drop c.loop-at.at ws) ≡ [] = values_none KeyFile ws c.loop-at.at (λ low. omega (arith, length-map strings string_bytes, low, c.loop-at-test.false)) in
    sym (append-nil (map string_bytes c.loop-at.names.items)) ∙ ap (λ vs. map string_bytes c.loop-at.names.items ++ vs) (sym none) ∙ c.loop-at.invariant.same
