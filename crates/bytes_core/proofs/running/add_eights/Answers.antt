use Rattle.std.proofs.Common.{◌≡◌, ℕ, ◌+◌, ◌*◌, ◌/◌, length, sym, ap, ◌∙◌, take, arith}
use Rattle.bytes_core.specs.Crc.{after_bytes}
use Rattle.bytes_core.proofs.Register.{after_nil, more_in, rest_in}
use Rattle.bytes_core.proofs.running.add_eights.Goals as goal

pub loop-i-init : goal.loop-i-init
loop-i-init c = λ p is. sym (after_nil p c.args.start)

pub loop-i-preserved : goal.loop-i-preserved
loop-i-preserved c = λ p is.
    c.add_eight-register.ensures p is
    ∙ more_in p c.loop-i.register c.args.start (8 * c.loop-i.i) _ (8 * (c.loop-i.i + 1)) c.args.bytes.now (c.loop-i.invariant p is) (omega arith)

pub returns : goal.returns
returns c = λ p is.
    let all : 8 * c.loop-i.i ≡ 8 * (length c.args.bytes.now / 8) = omega arith in
    c.add_bytes.ensures p is
    ∙ rest_in p c.loop-i.register c.args.start (8 * (length c.args.bytes.now / 8)) c.args.bytes.now
    (c.loop-i.invariant p is ∙ ap (λ (n : ℕ). after_bytes p c.args.start (take n c.args.bytes.now)) all)
