use Rattle.std.proofs.Common.{take}
use Rattle.crash_image.specs.Recovers.{SpacesLong}
use Rattle.image_reader.specs.Files.{image_of}
use Rattle.image_reader.proofs.checks.other_length.Given as goal

abbrev pub invariant-loop-space : goal.invariant-loop-space
invariant-loop-space l = SpacesLong (image_of l.files) (take l.space-index l.spaces)
