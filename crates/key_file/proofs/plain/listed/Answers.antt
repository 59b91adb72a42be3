use Rattle.std.proofs.Common.{sym, subst}
use Rattle.key_file.specs.Plain.{IsAscending}
use Rattle.key_file.proofs.Gathering.{ascending_items}
use Rattle.key_file.proofs.plain.listed.Goals as goal

pub of-requires : goal.of-requires
of-requires c = subst IsAscending (sym c.in_ok-items.ensures) (ascending_items c.args.keys c.requires)
