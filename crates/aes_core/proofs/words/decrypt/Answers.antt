use Rattle.std.proofs.Common.{◌≡◌, ℕ, suc, List, ◌+◌, ◌-◌, ◌*◌, ◌≤◌, length, take, drop, refl, sym, ap, ap₂, ◌∙◌, arith}
use Rattle.std.proofs.lemmas.List.{take_all}
use Rattle.aes_core.specs.Cipher.{before_rounds, bytes_of, round_key, state_of, inv_mix_columns, inv_shift_rows, inv_sub_bytes, xored}
use Rattle.aes_core.proofs.WordsAt.{inv_mix_xored, key_at, key_words}
use Rattle.aes_core.proofs.RoundSteps.{before_more, before_none}
use Rattle.aes_core.proofs.words.decrypt.Goals as goal

-- a round with its key unmixed
turned : (w v : List ℕ) (r : ℕ) → 4 * r + 4 ≤ length w
    → xored (inv_mix_columns (inv_sub_bytes (inv_shift_rows (state_of v)))) (inv_mix_columns (round_key (bytes_of w) r))
    ≡ inv_mix_columns (xored (inv_sub_bytes (inv_shift_rows (state_of v))) (round_key (bytes_of w) r))
turned w v r h =
    let long : length (round_key (bytes_of w) r) ≡ 16 = sym (ap length (key_words w r h)) in
    sym (inv_mix_xored (inv_sub_bytes (inv_shift_rows (state_of v))) (round_key (bytes_of w) r) refl long)

pub loop-n-init : goal.loop-n-init
loop-n-init c =
    let w : List ℕ = c.args.keys.now in
    c.load-w.ensures
    ∙ ap₂ (λ (s k : List ℕ). xored s k) (take_all 16 c.args.s.now (omega arith)) (key_at w c.args.rounds (omega arith))
    ∙ before_none (bytes_of w) c.args.s.now c.args.rounds

pub loop-n-preserved : goal.loop-n-preserved
loop-n-preserved c =
    let w : List ℕ = c.args.keys.now in
    let n : ℕ = c.loop-n.n in
    let r : ℕ = c.args.rounds - n in
    let e : n ≡ suc (n - 1) = omega arith in
    let f : n ≡ n + 1 - 1 = omega arith in
    let width : 4 * r + 4 - 4 * r ≡ 4 = omega arith in
    c.inv_round-next.ensures
    ∙ ap (λ (k : List ℕ). xored (inv_mix_columns (inv_sub_bytes (inv_shift_rows (state_of c.loop-n.w)))) k)
    (ap (λ (i : ℕ). state_of (take i (drop (4 * r) c.args.back.now))) width ∙ c.requires.unmixed r (omega arith))
    ∙ turned w c.loop-n.w r (omega arith)
    ∙ ap (λ (s : List ℕ). inv_mix_columns (xored (inv_sub_bytes (inv_shift_rows s)) (round_key (bytes_of w) r))) c.loop-n.invariant
    ∙ before_more (bytes_of w) c.args.s.now c.args.rounds (n - 1) n e ∙ ap (before_rounds (bytes_of w) c.args.rounds c.args.s.now) f

pub returns : goal.returns
returns c =
    let w : List ℕ = c.args.keys.now in
    let e : c.loop-n.n - 1 ≡ c.args.rounds - 1 = omega arith in
    c.store-block.ensures ∙ c.first_round-end.ensures
    ∙ ap₂ (λ (s k : List ℕ). xored (inv_sub_bytes (inv_shift_rows s)) k)
    (c.loop-n.invariant ∙ ap (before_rounds (bytes_of w) c.args.rounds c.args.s.now) e)
    (key_words w 0 (omega arith))
