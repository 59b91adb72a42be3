use Rattle.std.proofs.Common.{◌≡◌, ◌≤◌, ◌%◌, length, refl, arith}
use Rattle.key_file.proofs.Lines.{decodes, not_refused, room}
use Rattle.key_file.proofs.line.key_of.Goals as goal

pub unreachable-requires : goal.unreachable-requires
unreachable-requires c =
    let small : length c.args.digits.now ≤ 64 = omega arith in
    let even : length c.args.digits.now % 2 ≡ 0 = omega arith in
    not_refused c.decode_to_slice.result _
    (decodes c.args.digits.now _ c.decode_to_slice.result _ (room (length c.args.digits.now) _ refl small even) c.requires c.decode_to_slice.ensures.value) c.in_default.is
