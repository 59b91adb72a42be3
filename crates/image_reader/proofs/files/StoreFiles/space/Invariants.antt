use Rattle.std.proofs.Common.{◌≡◌, drop}
use Rattle.image_reader.specs.Files.{space_bytes}
use Rattle.image_reader.proofs.files.StoreFiles.space.Given as goal

abbrev pub invariant-loop-file : goal.invariant-loop-file
invariant-loop-file l = space_bytes (drop l.file-index l.file-items) l.space ≡ space_bytes l.file-items l.space
