use Rattle.std.proofs.Common.{ℕ, sym, ap, ◌∙◌, arith, bit_xor}
use Rattle.std.proofs.lemmas.List.{length-take-le}
use Rattle.bytes_core.specs.Crc.{moved_by}
use Rattle.bytes_core.proofs.Register.{three_in}
use Rattle.bytes_core.proofs.running.add_block.Goals as goal

pub slice_bounds-add_lanes-end : goal.slice_bounds-add_lanes-end
slice_bounds-add_lanes-end c = sym (length-take-le 168 c.args.bytes.now (omega arith))

pub returns : goal.returns
returns c = λ p is.
    let lanes = c.add_lanes-a in
    ap (λ (n : ℕ). bit_xor n lanes.result.2) (c.skip_lane-2.ensures p is ∙ ap (λ (n : ℕ). moved_by p 1344 (bit_xor n lanes.result.1)) (c.skip_lane.ensures p is))
    ∙ three_in p c.args.start lanes.result.0 lanes.result.1 lanes.result.2 168 336 1344 c.args.bytes.now (omega arith) (omega arith) (omega arith) (omega arith)
    (lanes.ensures.first p is) (lanes.ensures.second p is) (lanes.ensures.third p is)
