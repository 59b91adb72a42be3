use Rattle.std.proofs.Common.{◌≡◌, ℕ, List, ◌-◌, length, drop, sym, ap, ◌∙◌, arith}
use Rattle.aes_core.specs.Cipher.{IsCipherBlock}
use Rattle.aes_core.specs.Modes.{EndsIn, cbc_pad, padded, uncbc_tail}
use Rattle.aes_core.proofs.Padding.{accepted_is, ends_padded, long_padded, padded_more, padded_whole, room, taken_is}
use Rattle.aes_core.proofs.pad.cbc_pad_decrypt.Goals as goal
use Rattle.aes_core.proofs.pad.cbc_pad_decrypt.Goals.{then-n-eq0-via-then-n-eq0, then-n-eq0-via-else-n-eq0+then-n-ne0}

pub returns-then-n-eq0-clause-taken : goal.returns-then-n-eq0-clause-taken
returns-then-n-eq0-clause-taken c p b is =
    let v : IsCipherBlock c.args.iv.now = record { long = c.told-iv; bytes = c.fits-iv } in
    let long : length c.args.bytes.now ≡ length (padded p) = long_padded c.args.key.now c.args.iv.now c.known.ensures v p c.args.bytes.now b is in
    absurd
    elim c.then-n-eq0.branch [
      | then-n-eq0-via-then-n-eq0 w ↦ omega (arith, long, w.if-n-eq0, padded_more p)
      | then-n-eq0-via-else-n-eq0+then-n-ne0 w ↦ omega (arith, long, w.if-n-ne0, padded_whole p)
    ]

pub returns-in_default-clause-taken : goal.returns-in_default-clause-taken
returns-in_default-clause-taken c p b is =
    let v : IsCipherBlock c.args.iv.now = record { long = c.told-iv; bytes = c.fits-iv } in
    let e : EndsIn c.last_block-last.result (room p) = rw c.last_block-last.ensures (ends_padded c.args.key.now c.args.iv.now c.known.ensures v p c.args.bytes.now b is) in
    absurd (c.in_default.ensures (room p) e)

pub returns-in-Ok-clause-accepted : goal.returns-in-Ok-clause-accepted
returns-in-Ok-clause-accepted c =
    let key : List ℕ = c.args.key.now in
    let iv : List ℕ = c.args.iv.now in
    let v : IsCipherBlock iv = record { long = c.told-iv; bytes = c.fits-iv } in
    let e : EndsIn (drop (length c.args.bytes.now - 16) (uncbc_tail key iv c.args.bytes.now)) c.in-Some.k = rw c.last_block-last.ensures at c.in-Some.ensures in
    accepted_is key iv c.known.ensures v c.args.bytes.now c.in-Some.k (λ i. omega (arith, c.type_inv.bytes i)) (omega arith) (omega arith) e
    ∙ ap (cbc_pad key iv) (sym c.in-Ok.ensures)

pub returns-in-Ok-clause-taken : goal.returns-in-Ok-clause-taken
returns-in-Ok-clause-taken c p b is =
    let key : List ℕ = c.args.key.now in
    let iv : List ℕ = c.args.iv.now in
    let v : IsCipherBlock iv = record { long = c.told-iv; bytes = c.fits-iv } in
    let e : EndsIn (drop (length c.args.bytes.now - 16) (uncbc_tail key iv c.args.bytes.now)) c.in-Some.k = rw c.last_block-last.ensures at c.in-Some.ensures in
    c.in-Ok.ensures ∙ taken_is key iv c.known.ensures v p c.args.bytes.now c.in-Some.k b is e
