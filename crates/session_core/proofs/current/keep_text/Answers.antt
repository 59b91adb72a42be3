use Rattle.std.proofs.Common.{ℕ, ◌^◌, ◌<◌, List, length, subst, arith}
use Rattle.session_core.proofs.TextTells.{due_one}
use Rattle.session_core.proofs.current.keep_text.Goals as goal

pub returns-in-Ok-clause-due : goal.returns-in-Ok-clause-due
returns-in-Ok-clause-due c = λ version key is all.
    let whole = c.bytes-bytes.ensures.text.long in
    let long : 8 < length c.into_text-text.result = omega (arith, whole) in
    let fits : c.args.sealed.copied.page < 2 ^ 32 = omega (arith, c.page-number.type_inv, c.page-number.ensures) in
    due_one c.args.pool.now c.args.space version key c.args.sealed c.args.texts.now.items c.push.new.self.items c.into_text-text.result long fits c.into_text-text.ensures c.if-is_current.ensures.value c.in-Ok.ensures.items is all
