use Rattle.std.proofs.Common.{ℕ, List, length, arith}
use Rattle.aes_core.specs.Cipher.{IsKeyLength}
use Rattle.aes_core.specs.Cipher.{AreBytes}
use Rattle.aes_core.proofs.Schedule.{begins, key_from, ready}
use Rattle.aes_core.proofs.plain.PlainKey.new.Goals as goal

pub invariant_of-result : goal.invariant_of-result
invariant_of-result c =
    let key : List ℕ = c.args.key.now in
    let bytes : AreBytes key = λ i. omega (arith, c.type_inv.key i) in
    let h : IsKeyLength (length key) = c.is_key_length.ensures.yes c.if-not-is_key_length.false in
    ready c.expand.new.keys key h bytes c.expand.ensures

pub returns : goal.returns
returns c =
    let key : List ℕ = c.args.key.now in
    let bytes : AreBytes key = λ i. omega (arith, c.type_inv.key i) in
    let h : IsKeyLength (length key) = c.is_key_length.ensures.yes c.if-not-is_key_length.false in
    (begins c.expand.new.keys key (key_from key h bytes) c.expand.ensures, h)
