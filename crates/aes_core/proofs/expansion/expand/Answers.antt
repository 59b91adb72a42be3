use Rattle.aes_core.specs.Cipher.{IsKey}
use Rattle.std.proofs.Common.{◌≡◌, ℕ, List, length, ◌+◌, ◌-◌, ◌*◌, ◌/◌, ◌≤◌, take, refl, ap, ◌∙◌, arith}
use Rattle.aes_core.specs.Cipher.{expanded, round_count, word_count}
use Rattle.aes_core.specs.Cipher.{AreBytes}
use Rattle.aes_core.proofs.Schedule.{expand_first, expand_more, key_from, key_long}
use Rattle.aes_core.proofs.expansion.expand.Goals as goal

pub loop-i-init : goal.loop-i-init
loop-i-init c =
    let key : List ℕ = c.args.key.now in
    let bytes : AreBytes key = λ i. omega (arith, c.type_inv.key i) in
    let k : IsKey key = key_from key c.requires bytes in
    expand_first c.args.keys.now key c.copy_from_slice.new.self (length key - 0) k c.told-keys (key_long key c.requires) (omega arith) c.copy_from_slice.ensures.after

pub loop-i-preserved : goal.loop-i-preserved
loop-i-preserved c =
    let key : List ℕ = c.args.key.now in
    let i : ℕ = c.loop-i.i in
    let bytes : AreBytes key = λ j. omega (arith, c.type_inv.key j) in
    let k : IsKey key = key_from key c.requires bytes in
    let short : length key ≤ 32 = key_long key c.requires in
    expand_more c.loop-i.keys key c.copy_from_slice-in-loop-i.new.self i (4 * i + 4 - 4 * i) (4 * i - 0) (length key / 4) k refl c.loop-i.invariant.0
    (omega arith) (omega arith) c.loop-i.invariant.1 (omega arith) (omega arith) (c.copy_from_slice-in-loop-i.ensures.after ∙ c.next_word-word.ensures)

pub returns : goal.returns
returns c =
    let key : List ℕ = c.args.key.now in
    let bytes : AreBytes key = λ j. omega (arith, c.type_inv.key j) in
    let k : IsKey key = key_from key c.requires bytes in
    let e : 16 * (length key / 4 + 7) ≡ 4 * c.loop-i.i = omega arith in
    let f : c.loop-i.i - length key / 4 ≡ 4 * (round_count key + 1) - word_count key = omega arith in
    ap (λ (n : ℕ). take n c.loop-i.keys) e ∙ c.loop-i.invariant.1 ∙ ap (expanded key) f
