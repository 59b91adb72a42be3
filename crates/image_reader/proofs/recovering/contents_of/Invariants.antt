use Rattle.std.proofs.Common.{take}
use Rattle.image_reader.specs.Spaces.{AllGive}
use Rattle.image_reader.proofs.recovering.contents_of.Given as goal

abbrev pub invariant-loop-space : goal.invariant-loop-space
invariant-loop-space l = AllGive l.header l.keys l.log l.files (take l.space-index l.header.spaces) l.list.items
