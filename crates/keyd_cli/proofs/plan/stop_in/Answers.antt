use Rattle.std.proofs.Common.{map, string_bytes}
use Rattle.keyd_cli.specs.declared.words.Flag.TheVariants as flag
use Rattle.keyd_cli.specs.Words.{IsValue}
use Rattle.keyd_cli.proofs.Values.{value_fits}
use Rattle.keyd_cli.proofs.plan.stop_in.Goals as goal

pub unreachable-requires : goal.unreachable-requires
unfolding IsValue
unreachable-requires c =
    let is : IsValue flag.Stop c.in_ok-value.value.now = value_fits flag.Stop (map string_bytes c.args.options.now) c.in_ok-value.value.now c.requires.pairs c.in_ok-value.ensures in
    c.in_default.ensures is.0 is.1

pub returns : goal.returns
returns c = rw c.in_ok-value.ensures c.in-Some.ensures
