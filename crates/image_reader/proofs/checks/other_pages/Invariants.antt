use Rattle.std.proofs.Common.{take}
use Rattle.crash_image.specs.Recovers.{RunIsOfStore}
use Rattle.image_reader.proofs.checks.other_pages.Given as goal

abbrev pub invariant-loop-entry : goal.invariant-loop-entry
invariant-loop-entry l = RunIsOfStore l.header.spaces (take l.entry-index l.entry-items)
