use Rattle.std.proofs.Common.{map, string_bytes}
use Rattle.keyd_cli.specs.declared.words.Flag.TheVariants as flag
use Rattle.keyd_cli.specs.Words.{IsValue}
use Rattle.keyd_cli.proofs.Values.{value_fits}
use Rattle.keyd_cli.proofs.plan.choices_in.Goals as goal

pub choices_of-requires : goal.choices_of-requires
unfolding IsValue
choices_of-requires c = value_fits flag.Choice (map string_bytes c.args.options.now) c.in-Some.value.now c.requires.pairs c.in-Some.ensures

pub returns : goal.returns
returns c = rw c.in-Some.ensures c.choices_of.ensures
