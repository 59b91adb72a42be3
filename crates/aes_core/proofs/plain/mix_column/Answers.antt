use Rattle.std.proofs.Common.{ℕ, ◌<◌, arith, refl}
use Rattle.aes_core.proofs.ByTable.{times_1, times_2, times_3}
use Rattle.aes_core.proofs.plain.mix_column.Goals as goal

pub returns : goal.returns
returns c =
    let a : ℕ = c.args.a in
    let b : ℕ = c.args.b in
    let d : ℕ = c.args.d in
    let e : ℕ = c.args.c in
    let ha : a < 256 = omega arith in
    let hb : b < 256 = omega arith in
    let he : e < 256 = omega arith in
    let hd : d < 256 = omega arith in
    rw (
      times_1 a ha,
      times_1 b hb,
      times_1 e he,
      times_1 d hd,
      times_2 a ha,
      times_2 b hb,
      times_2 e he,
      times_2 d hd,
      times_3 a ha,
      times_3 b hb,
      times_3 e he,
      times_3 d hd,
      c.doubled-a2.ensures,
      c.doubled-b2.ensures,
      c.doubled-c2.ensures,
      c.doubled-d2.ensures,
    )
    refl
