use Rattle.std.proofs.Common.{length, sym, ap, subst, ◌∙◌, Err, arith}
use Rattle.aes_core.specs.Cipher.{AreBytes}
use Rattle.key_file.specs.Derivation.{derived_iv, derived_key}
use Rattle.key_file.proofs.CipherText.{other_fault, rest_is, text_back, text_under}
use Rattle.key_file.proofs.salted.read_salted.Goals as goal

pub returns-in-Ok : goal.returns-in-Ok
returns-in-Ok c =
    let salt = c.copy_from_slice.ensures.after in (
      c.if-bytes-lt16.false,
      subst AreBytes c.deref.ensures.value c.known_bytes.ensures,
      text_under c.args.bytes.now c.in-Some.key c.derive.result.1 _ _ c.in-Ok.text.items c.in-Ok.ensures.accepted
          (c.in-Some.ensures.0 ∙ c.derive.ensures.key ∙ ap (derived_key c.args.digest c.args.password.now) salt) (c.derive.ensures.iv ∙ ap (derived_iv c.args.digest c.args.password.now) salt),
    )

pub returns-in-Err-Length : goal.returns-in-Err-Length
returns-in-Err-Length c =
    let said = (c.in-Err-Length.ensures.length c.in-Err-Length.n).0 (ap Err c.in-Err-Length.field-0-is) in
    (c.if-bytes-lt16.false, sym said.0 ∙ ap length (rest_is c.args.bytes.now), said.1)

pub returns-in-Err-Padding : goal.returns-in-Err-Padding
returns-in-Err-Padding c =
    let said = c.in-Err-Padding.ensures.padding.0 (ap Err c.in-Err-Padding.field-0-is) in
    let whole = said.0 in
    let same = ap length (rest_is c.args.bytes.now) in
    let salt = c.copy_from_slice.ensures.after in (
      c.if-bytes-lt16.false,
      (omega (arith, same), omega (arith, same)),
      λ text bytes is. other_fault c.in-Err-Padding.field-0 c.in-Err-Padding.field-0-is (c.in-Err-Padding.ensures.taken text bytes
          (text_back c.args.bytes.now c.in-Some.key c.derive.result.1 _ _ text is
          (c.in-Some.ensures.0 ∙ c.derive.ensures.key ∙ ap (derived_key c.args.digest c.args.password.now) salt) (c.derive.ensures.iv ∙ ap (derived_iv c.args.digest c.args.password.now) salt))),
    )

pub returns-in-Err-OutOfMemory : goal.returns-in-Err-OutOfMemory
returns-in-Err-OutOfMemory c =
    let said = c.in-Err-OutOfMemory.ensures.memory (ap Err c.in-Err-OutOfMemory.field-0-is) in
    let whole = said.0 in
    let same = ap length (rest_is c.args.bytes.now) in
    (c.if-bytes-lt16.false, (omega (arith, same), omega (arith, same)))
