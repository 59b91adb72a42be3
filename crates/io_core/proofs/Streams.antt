-- Calls of a source or a sink in a row, over what it tells.
use Rattle.std.proofs.Common.{◌≡◌, ◌+◌, ℕ, min, List, [], ◌++◌, length, take, Option, Some, None, refl, sym, ◌∙◌, ap, append_assoc, arith}
use Rattle.std.proofs.Math.Seq.{take-append-add}
use Rattle.std.proofs.lemmas.List.{append-nil, take-append-le, take_at, take_min}
use Rattle.io_core.specs.Stream.{IsPartlyGiven, prefixed, extended}

-- two stretches taken in a row are one
pub prefixed-prefixed : (a b : List ℕ) (left : Option (List ℕ)) → prefixed a (prefixed b left) ≡ prefixed (a ++ b) left
prefixed-prefixed a b None = refl
prefixed-prefixed a b (Some rest) = ap Some (sym (append_assoc a b rest))

-- two stretches given in a row are one
pub extended-extended : (a b : List ℕ) (given : Option (List ℕ)) → extended b (extended a given) ≡ extended (a ++ b) given
extended-extended a b None = refl
extended-extended a b (Some front) = ap Some (append_assoc front a b)

-- one take more, as a loop of takes keeps it
pub taken_then : (before mid after : Option (List ℕ)) (a b : List ℕ) → before ≡ prefixed a mid → mid ≡ prefixed b after → before ≡ prefixed (a ++ b) after
taken_then before mid after a b first then = first ∙ ap (prefixed a) then ∙ prefixed-prefixed a b after

-- one give more, as a loop of gives keeps it
pub given_then : (before mid after : Option (List ℕ)) (a b : List ℕ) → mid ≡ extended a before → after ≡ extended b mid → after ≡ extended (a ++ b) before
given_then before mid after a b first then = then ∙ ap (extended b) first ∙ extended-extended a b before

-- nothing more was given
pub extended-nil : (given : Option (List ℕ)) → given ≡ extended [] given
extended-nil None = refl
extended-nil (Some front) = ap Some (sym (append-nil front))

-- a front of a text was given whole
pub front_given : (a b text : List ℕ) (before now : Option (List ℕ)) → text ≡ a ++ b → now ≡ extended a before → IsPartlyGiven text before now
front_given a b text before now is given =
    (length a, given ∙ ap (λ (t : List ℕ). extended t before) (sym (ap (take (length a)) is ∙ take_at a b (length a) refl)))

-- a front was given whole, and then a part of what follows
pub part_given : (a b c text : List ℕ) (before mid now : Option (List ℕ)) → text ≡ a ++ (b ++ c) → mid ≡ extended a before → IsPartlyGiven b mid now
    → IsPartlyGiven text before now
part_given a b c text before mid now is first part =
    let k = part.0 in
    let j = min k (length b) in
    let here : take (length a + j) text ≡ a ++ take k b =
    ap (take (length a + j)) is ∙ take-append-add a (b ++ c) j ∙ ap (λ (t : List ℕ). a ++ t) (take-append-le j b c (omega arith) ∙ take_min k b) in
    (length a + j, given_then before mid now a (take k b) first part.1 ∙ ap (λ (t : List ℕ). extended t before) (sym here))
