use Rattle.std.proofs.Common.{sym, arith}
use Rattle.std.proofs.lemmas.List.{length-take-le}
use Rattle.redo_text.proofs.block.write_sum.Goals as goal

pub slice_bounds-crc32c-end-2 : goal.slice_bounds-crc32c-end-2
slice_bounds-crc32c-end-2 c = sym (length-take-le 4092 c.args.block.now (omega (arith, c.requires)))
