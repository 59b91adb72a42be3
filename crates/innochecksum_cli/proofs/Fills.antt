-- A read of a whole page, and of the first bytes of a file.
use Rattle.std.proofs.Common.{◌≡◌, ◌≤◌, ◌+◌, ◌*◌, ◌-◌, ℕ, List, [], ◌++◌, length, take, drop, Option, Some, unwrap_or, ap, ◌∙◌, subst, arith, length-drop}
use Rattle.std.proofs.lemmas.List.{append-nil, drop_all, take-take, drop-take}
use Rattle.std.specs.Int.{from_be_bytes, w32}
use Rattle.byte_list.specs.Fields.{be32_at}
use Rattle.io_core.specs.Files.{IsFilled}

-- a buffer that a file fills holds the bytes from the place on
pub filled_whole : (before after bytes : List ℕ) (count : ℕ) → length before ≤ length bytes → IsFilled bytes before count after → (count ≡ length before) × (after ≡ take (length before) bytes)
filled_whole before after bytes count fits filled =
    let all : count ≡ length before = omega (arith, filled.count) in
    let long : length before ≤ count = omega (arith, all) in
    let none = drop_all count before long in
    (all, filled.filled ∙ ap (λ (t : List ℕ). take count bytes ++ t) none ∙ append-nil (take count bytes) ∙ ap (λ (n : ℕ). take n bytes) all)

pub filled_page : (before after file : List ℕ) (found : Option (List ℕ)) (number count : ℕ) → found ≡ Some file → (number + 1) * length before ≤ length file
    → IsFilled (drop (number * length before) (unwrap_or found [])) before count after
    → (count ≡ length before) × (after ≡ take (length before) (drop (number * length before) file))
filled_page before after file found number count is fits filled =
    let at = number * length before in
    let here : drop at (unwrap_or found []) ≡ drop at file = ap (λ (o : Option (List ℕ)). drop at (unwrap_or o [])) is in
    let moved = subst (λ (bytes : List ℕ). IsFilled bytes before count after) here filled in
    let room : length before ≤ length (drop at file) = omega (arith, length-drop at file, fits) in
    filled_whole before after (drop at file) count room moved

-- a field within the first bytes is the file's
pub be32_at-take : (file : List ℕ) (n at : ℕ) → at + 4 ≤ n → be32_at (take n file) at ≡ be32_at file at
unfolding be32_at
be32_at-take file n at fits =
    let m = n - at in
    let split : n ≡ at + m = omega (arith, fits) in
    let front : drop at (take n file) ≡ take m (drop at file) = ap (λ (k : ℕ). drop at (take k file)) split ∙ drop-take at m file in
    ap (from_be_bytes w32) (ap (take 4) front ∙ take-take 4 m (drop at file) (omega (arith, fits)))

-- the first bytes of a file that has as many, and the flags in them
pub filled_front : (before after file : List ℕ) (found : Option (List ℕ)) (count : ℕ) → found ≡ Some file → (58 ≤ length before) × (length before ≤ length file)
    → IsFilled (drop 0 (unwrap_or found [])) before count after → (count ≡ length before) × (be32_at after 54 ≡ be32_at file 54)
filled_front before after file found count is fits filled =
    let here : drop 0 (unwrap_or found []) ≡ file = ap (λ (o : Option (List ℕ)). unwrap_or o []) is in
    let moved = subst (λ (bytes : List ℕ). IsFilled bytes before count after) here filled in
    let whole = filled_whole before after file count fits.1 moved in
    (whole.0, ap (λ (l : List ℕ). be32_at l 54) whole.1 ∙ be32_at-take file (length before) 54 fits.0)
