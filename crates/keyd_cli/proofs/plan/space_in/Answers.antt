use Rattle.std.proofs.Common.{map, string_bytes}
use Rattle.keyd_cli.specs.declared.words.Flag.TheVariants as flag
use Rattle.keyd_cli.specs.Words.{IsValue}
use Rattle.keyd_cli.proofs.Values.{value_present, value_fits}
use Rattle.keyd_cli.proofs.plan.space_in.Goals as goal

pub unreachable-requires : goal.unreachable-requires
unreachable-requires c = value_present flag.Space (map string_bytes c.args.options.now) c.requires.are.pairs c.requires.space c.in_default.ensures

pub unreachable-requires-in_default-space_of : goal.unreachable-requires-in_default-space_of
unfolding IsValue
unreachable-requires-in_default-space_of c =
    let is : IsValue flag.Space c.in-Some.value.now = value_fits flag.Space (map string_bytes c.args.options.now) c.in-Some.value.now c.requires.are.pairs c.in-Some.ensures in
    c.in_default-space_of.ensures is.0 is.1 is.2 is.3

pub returns : goal.returns
returns c = rw c.in-Some.ensures c.in-Some-space_of.ensures
