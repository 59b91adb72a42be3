use Rattle.std.proofs.Common.{◌≡◌, ◌*◌, ◌-◌, ℕ, List, length, take, drop, min, ap, ◌∙◌, arith, length-drop}
use Rattle.std.proofs.lemmas.List.{take_all, take_min}
use Rattle.redo_text.proofs.block.text_part.Goals as goal

pub returns-clause-value : goal.returns-clause-value
returns-clause-value c =
    let text : List ℕ = c.args.text.now in
    let rest : List ℕ = drop (4076 * c.args.k) text in
    let left : length rest ≡ length text - 4076 * c.args.k = length-drop (4076 * c.args.k) text in
    let behind : take (length text - 4076 * c.args.k) rest ≡ rest = take_all (length text - 4076 * c.args.k) rest (omega (arith, left)) in
    let count : c.min.result ≡ min 4076 (length rest) = c.min.ensures ∙ ap (λ (l : List ℕ). min 4076 (length l)) behind in
    (λ i. take (count i) (behind i)) ∙ take_min 4076 rest
