use Rattle.std.proofs.Common.{◌≡◌, ℕ, ◌/◌, ◌%◌, ◌==◌, bit_xor, ap, ◌∙◌}
use Rattle.std.specs.Prelude.{if◌then◌else◌}
use Rattle.aes_core.specs.Field.{times_x}
use Rattle.aes_core.proofs.Linear.{times_low}
use Rattle.aes_core.proofs.plain.times.Goals as goal

pub returns : goal.returns
returns c =
    let a : ℕ = c.args.a in
    let m : ℕ = c.args.m in
    let e2 : c.doubled-a2.result ≡ times_x a = c.doubled-a2.ensures in
    let e4 : c.doubled-a4.result ≡ times_x (times_x a) = c.doubled-a4.ensures ∙ ap times_x e2 in
    let e8 : c.doubled-a8.result ≡ times_x (times_x (times_x a)) = c.doubled-a8.ensures ∙ ap times_x e4 in
    let i2 = c.if_odd-2.ensures ∙ ap (λ (n : ℕ). if m / 2 % 2 == 1 then n else 0) e2 in
    let i4 = c.if_odd-3.ensures ∙ ap (λ (n : ℕ). if m / 4 % 2 == 1 then n else 0) e4 in
    let i8 = c.if_odd-4.ensures ∙ ap (λ (n : ℕ). if m / 8 % 2 == 1 then n else 0) e8 in
    (λ i. bit_xor (bit_xor (bit_xor (c.if_odd.ensures i) (i2 i)) (i4 i)) (i8 i)) ∙ times_low m a c.requires
