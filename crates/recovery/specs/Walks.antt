-- What each element of a list has, and the first that hasn't.
use Rattle.std.specs.Prelude.{◌⊎◌, List, [], ◌∷◌}

-- each has P
abbrev pub AllHave : {A : Type 0} → (A → Type 0) → List A → Type 0
AllHave P [] = Unit {0}
AllHave P (x ∷ xs) = P x × AllHave P xs

-- one has Q, and each before it P
abbrev pub FirstHas : {A : Type 0} → (A → Type 0) → (A → Type 0) → List A → Type 0
FirstHas P Q [] = ⊥
FirstHas P Q (x ∷ xs) = Q x ⊎ (P x × FirstHas P Q xs)

-- each element of the one list has R with that of the other at its place, and they are of one length
abbrev pub PairsHave : {A B : Type 0} → (A → B → Type 0) → List A → List B → Type 0
PairsHave R [] [] = Unit {0}
PairsHave R [] (y ∷ ys) = ⊥
PairsHave R (x ∷ xs) [] = ⊥
PairsHave R (x ∷ xs) (y ∷ ys) = R x y × PairsHave R xs ys
