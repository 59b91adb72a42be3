use Rattle.std.proofs.Common.{◌∙◌}
use Rattle.std.proofs.lemmas.List.{get_or_default}
use Rattle.doublewrite.specs.Restore.{no_space}
use Rattle.recovery.proofs.spaces.info_at.Goals as goal

pub returns : goal.returns
returns c = c.get.ensures ∙ get_or_default c.args.found.now.changes.spaces c.args.i c.get.result.now no_space c.requires
