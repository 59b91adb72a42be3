use Rattle.std.proofs.Common.{◌≡◌, ℕ, List, [], ◌∷◌, ◌+◌, ◌*◌, ◌≤◌, length, get_or, refl, ap, ◌∙◌, arith}
use Rattle.aes_core.specs.Cipher.{AreBytes, IsCipherBlock}
use Rattle.aes_core.specs.Modes.{text_block}
use Rattle.aes_core.proofs.ModeLaws.{block_of_text}
use Rattle.aes_core.proofs.PlaneLists.{all_eight, are_planes, each_of_eight}
use Rattle.aes_core.proofs.modes.eight_of.Goals as goal

read : (xs : List ℕ) (n : ℕ) (s : List ℕ) → AreBytes xs → 16 * n + 16 ≤ length xs → s ≡ text_block xs n → IsCipherBlock s
read xs n s bytes room e = rw e (block_of_text xs n bytes room)

pub returns-clause-planes : goal.returns-clause-planes
returns-clause-planes c =
    let xs : List ℕ = c.args.bytes.now in
    let i : ℕ = c.args.i in
    let bytes : AreBytes xs = λ j. omega (arith, c.type_inv.bytes j) in
    are_planes _ refl
    (all_eight IsCipherBlock
    (read xs i _ bytes (omega arith) c.lanes_of.ensures) (read xs (i + 1) _ bytes (omega arith) c.lanes_of-2.ensures)
    (read xs (i + 2) _ bytes (omega arith) c.lanes_of-3.ensures) (read xs (i + 3) _ bytes (omega arith) c.lanes_of-4.ensures)
    (read xs (i + 4) _ bytes (omega arith) c.lanes_of-5.ensures) (read xs (i + 5) _ bytes (omega arith) c.lanes_of-6.ensures)
    (read xs (i + 6) _ bytes (omega arith) c.lanes_of-7.ensures) (read xs (i + 7) _ bytes (omega arith) c.lanes_of-8.ensures))

pub returns-clause-value : goal.returns-clause-value
returns-clause-value c k lt =
    let xs : List ℕ = c.args.bytes.now in
    let i : ℕ = c.args.i in
    let blocks : List (List ℕ) =
    c.lanes_of.result ∷ c.lanes_of-2.result ∷ c.lanes_of-3.result ∷ c.lanes_of-4.result
    ∷ c.lanes_of-5.result ∷ c.lanes_of-6.result ∷ c.lanes_of-7.result ∷ c.lanes_of-8.result ∷ [] in
    let first : i ≡ i + 0 = omega arith in
    each_of_eight (λ (k : ℕ). get_or blocks k [] ≡ text_block xs (i + k))
    (c.lanes_of.ensures ∙ ap (text_block xs) first) c.lanes_of-2.ensures c.lanes_of-3.ensures c.lanes_of-4.ensures
    c.lanes_of-5.ensures c.lanes_of-6.ensures c.lanes_of-7.ensures c.lanes_of-8.ensures k lt
