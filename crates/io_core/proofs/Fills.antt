-- A buffer that was filled from its front.
use Rattle.std.proofs.Common.{◌≡◌, ◌≤◌, ◌+◌, ℕ, List, ◌++◌, length, take, drop, Some, sym, ◌∙◌, ap, arith, length-take, take-append-drop}
use Rattle.std.proofs.lemmas.List.{take-append-le, take-take, drop-drop}
use Rattle.io_core.specs.Files.{IsFilled}
use Rattle.io_core.specs.Stream.{prefixed}

-- its front has the bytes
pub take-filled : (bytes before after : List ℕ) (n : ℕ) → IsFilled bytes before n after → take n after ≡ take n bytes
take-filled bytes before after n is =
    let within : n ≤ length (take n bytes) = omega (arith, is.count, length-take n bytes) in
    ap (take n) is.filled ∙ take-append-le n (take n bytes) (drop n before) within ∙ take-take n n bytes (omega arith)

-- what was to come is what was taken, followed by what is to come
pub prefixed-filled : (bytes items before after : List ℕ) (at n : ℕ) → bytes ≡ drop at items → IsFilled bytes before n after
    → Some bytes ≡ prefixed (take n after) (Some (drop (at + n) items))
prefixed-filled bytes items before after at n rest is =
    ap Some (sym (take-append-drop n bytes) ∙ ap (λ (l : List ℕ). l ++ drop n bytes) (sym (take-filled bytes before after n is))
    ∙ ap (λ (l : List ℕ). take n after ++ l) (ap (drop n) rest ∙ drop-drop n at items))
