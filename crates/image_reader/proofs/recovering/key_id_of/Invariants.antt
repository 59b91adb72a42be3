use Rattle.std.proofs.Common.{◌≡◌, drop}
use Rattle.store_files.specs.Pages.{key_id_of}
use Rattle.image_reader.proofs.recovering.key_id_of.Given as goal

abbrev pub invariant-loop-candidate : goal.invariant-loop-candidate
invariant-loop-candidate l = key_id_of (drop l.candidate-index l.spaces) l.space ≡ key_id_of l.spaces l.space
