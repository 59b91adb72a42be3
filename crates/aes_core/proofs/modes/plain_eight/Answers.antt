use Rattle.std.proofs.Common.{◌≡◌, ℕ, List, [], ◌∷◌, ◌<◌, get_or, refl, ap, ◌∙◌, arith}
use Rattle.aes_core.specs.Cipher.{IsCipherBlock, xored}
use Rattle.aes_core.proofs.Inverse.{block_xored}
use Rattle.aes_core.proofs.PlaneLists.{all_eight, are_planes, each_of_eight, plane_is}
use Rattle.aes_core.proofs.modes.plain_eight.Goals as goal

pub returns-clause-planes : goal.returns-clause-planes
returns-clause-planes c =
    let t = λ (k : ℕ) (lt : k < 8). plane_is c.decrypt_eight-text.result c.decrypt_eight-text.ensures.planes k lt in
    let p = λ (k : ℕ) (lt : k < 8). plane_is c.args.cipher c.requires.cipher k lt in
    are_planes _ refl
    (all_eight IsCipherBlock
    (block_xored _ _ (t 0 (omega arith)) c.requires.before) (block_xored _ _ (t 1 (omega arith)) (p 0 (omega arith)))
    (block_xored _ _ (t 2 (omega arith)) (p 1 (omega arith))) (block_xored _ _ (t 3 (omega arith)) (p 2 (omega arith)))
    (block_xored _ _ (t 4 (omega arith)) (p 3 (omega arith))) (block_xored _ _ (t 5 (omega arith)) (p 4 (omega arith)))
    (block_xored _ _ (t 6 (omega arith)) (p 5 (omega arith))) (block_xored _ _ (t 7 (omega arith)) (p 6 (omega arith))))

pub returns-clause-value : goal.returns-clause-value
returns-clause-value c k lt =
    let text : List (List ℕ) = c.decrypt_eight-text.result in
    let cipher : List (List ℕ) = c.args.cipher in
    let chained : List (List ℕ) =
    xored (get_or text 0 []) c.args.before ∷ xored (get_or text 1 []) (get_or cipher 0 []) ∷ xored (get_or text 2 []) (get_or cipher 1 [])
    ∷ xored (get_or text 3 []) (get_or cipher 2 []) ∷ xored (get_or text 4 []) (get_or cipher 3 []) ∷ xored (get_or text 5 []) (get_or cipher 4 [])
    ∷ xored (get_or text 6 []) (get_or cipher 5 []) ∷ xored (get_or text 7 []) (get_or cipher 6 []) ∷ [] in
    let each : get_or chained k [] ≡ xored (get_or text k []) (get_or (c.args.before ∷ cipher) k []) =
    each_of_eight (λ (k : ℕ). get_or chained k [] ≡ xored (get_or text k []) (get_or (c.args.before ∷ cipher) k []))
    refl refl refl refl refl refl refl refl k lt in
    each ∙ ap (λ (s : List ℕ). xored s (get_or (c.args.before ∷ cipher) k [])) (c.decrypt_eight-text.ensures.value k lt)
