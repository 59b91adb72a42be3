use Rattle.std.proofs.Common.{◌≡◌, ℕ, List, ◌%◌, true, ◌==◌, arith, eq-eqb}
use Rattle.aes_core.proofs.Schedule.{core_of}
use Rattle.aes_core.proofs.expansion.changed_word.Goals as goal

pub returns-then-i-nk-eq0 : goal.returns-then-i-nk-eq0
returns-then-i-nk-eq0 c =
    let t : List ℕ = c.args.t in
    let test : (c.args.i % c.args.nk == 0) ≡ true = eq-eqb _ _ c.if-i-nk-eq0.true in
    rw test
    (rw (c.sub_byte.ensures, c.power.ensures, c.sub_byte-then-i-nk-eq0.ensures, c.sub_byte-then-i-nk-eq0-2.ensures, c.sub_byte-then-i-nk-eq0-3.ensures)
    (core_of t _ (omega arith)))
