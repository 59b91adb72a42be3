use Rattle.std.proofs.Common.{◌≡◌, ℕ, List, ◌+◌, ◌-◌, ◌*◌, length, take, drop, refl, sym, ap, ◌∙◌, arith}
use Rattle.std.proofs.lemmas.List.{take_all}
use Rattle.aes_core.specs.Cipher.{bytes_of, round_key, state_of, inv_mix_columns}
use Rattle.aes_core.specs.Modes.{joined}
use Rattle.aes_core.proofs.WordKeys.{turned_more}
use Rattle.aes_core.proofs.key.back_of.Goals as goal

pub loop-r-init : goal.loop-r-init
unfolding joined
loop-r-init c = (refl, refl)

pub loop-r-preserved : goal.loop-r-preserved
loop-r-preserved c =
    let keys : List ℕ = c.args.keys.now in
    let r : ℕ = c.loop-r.r in
    let width : 16 * r + 16 - 16 * r ≡ 16 = omega arith in
    let after = c.copy_from_slice-in-loop-r.ensures.after in
    let made = ap state_of after ∙ c.four_words-four.ensures ∙ c.inv_mix_columns-turned.ensures ∙ ap inv_mix_columns (c.copy_from_slice.ensures.after ∙ ap (λ (n : ℕ). take n (drop (16 * r) keys)) width) in
    turned_more (λ j. inv_mix_columns (round_key keys j)) c.loop-r.out c.copy_from_slice-in-loop-r.new.self r _ c.loop-r.invariant.0 (omega arith) (omega arith)
    (omega (arith, ap length after)) c.loop-r.invariant.1 made

pub returns : goal.returns
returns c =
    let f = λ (j : ℕ). inv_mix_columns (round_key c.args.keys.now j) in
    let e : c.loop-r.r ≡ 15 = omega arith in
    ap bytes_of (sym (take_all (4 * c.loop-r.r) c.loop-r.out (omega arith))) ∙ c.loop-r.invariant.1 ∙ ap (joined f) e
