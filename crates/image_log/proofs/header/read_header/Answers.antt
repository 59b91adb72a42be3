use Rattle.std.proofs.Common.{◌∙◌, Some, ap, sym}
use Rattle.store_files.proofs.HeaderBounds.{header_blocks}
use Rattle.store_form.specs.Said.{header_said}
use Rattle.image_log.proofs.header.read_header.Goals as goal

pub listed-requires-clause-blocks : goal.listed-requires-clause-blocks
listed-requires-clause-blocks c = (header_blocks c.args.block.now (header_said c.in-Some.header) c.in-Some.ensures.some).1

pub returns-in_ok-listed-in-Some : goal.returns-in_ok-listed-in-Some
returns-in_ok-listed-in-Some c = ap Some c.in_ok-listed-in-Some.ensures ∙ sym c.in-Some.ensures.some

pub returns-in-None : goal.returns-in-None
returns-in-None c = sym c.in-None.ensures.none
