use Rattle.std.proofs.Common.{◌≡◌, ℕ, List, length, ◌∷◌, [], ◌+◌, ◌-◌, ◌*◌, slice_index, sym, ap, ◌∙◌, arith}
use Rattle.aes_core.specs.Cipher.{changed_word, word_at, xored}
use Rattle.aes_core.proofs.Schedule.{four_of, word_four}
use Rattle.aes_core.proofs.expansion.next_word.Goals as goal

pub returns : goal.returns
returns c =
    let w : List ℕ = c.args.w.now in
    let i : ℕ = c.args.i in
    let nk : ℕ = c.args.nk in
    let u : List ℕ = c.changed_word-u.result in
    let e0 : 4 * (i - 1) ≡ 4 * i - 4 = omega arith in
    let e1 : 4 * (i - 1) + 1 ≡ 4 * i - 3 = omega arith in
    let e2 : 4 * (i - 1) + 2 ≡ 4 * i - 2 = omega arith in
    let e3 : 4 * (i - 1) + 3 ≡ 4 * i - 1 = omega arith in
    let x = λ (k : ℕ). slice_index w k in
    let before : word_at w (i - 1) ≡ x (4 * i - 4) ∷ x (4 * i - 3) ∷ x (4 * i - 2) ∷ x (4 * i - 1) ∷ [] =
    word_four w (4 * (i - 1)) (omega arith) ∙ (λ k. x (e0 k) ∷ x (e1 k) ∷ x (e2 k) ∷ x (e3 k) ∷ []) in
    let changed : u ≡ changed_word nk i (word_at w (i - 1)) = c.changed_word-u.ensures ∙ ap (changed_word nk i) (sym before) in
    let long : length u ≡ 4 = omega arith in
    let from : word_at w (i - nk) ≡ x (4 * (i - nk)) ∷ x (4 * (i - nk) + 1) ∷ x (4 * (i - nk) + 2) ∷ x (4 * (i - nk) + 3) ∷ [] =
    word_four w (4 * (i - nk)) (omega arith) in
    (λ k. xored (sym from k) (sym (four_of u long) k)) ∙ ap (xored (word_at w (i - nk))) changed
