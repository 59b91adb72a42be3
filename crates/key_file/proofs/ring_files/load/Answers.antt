use Rattle.std.proofs.Common.{map, string_bytes}
use Rattle.std.specs.Option.{option_copied}
use Rattle.key_file.proofs.OneAnswer.{the_only}
use Rattle.key_file.proofs.ring_files.load.Goals as goal

pub returns-clause-only : goal.returns-clause-only
returns-clause-only g c = record {
  here = λ fs told.
      the_only fs (option_copied c.args.filekey) c.args.digest (map string_bytes c.args.names.now) c.load_in_order.result (c.load_in_order.ensures.loads.here fs told);
}
