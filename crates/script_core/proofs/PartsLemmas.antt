-- The parts of a text, one cut after another.
use Rattle.std.proofs.Common.{◌≡◌, ◌≢◌, ℕ, ◌==◌, get_or, ◌∙◌, ap, List, [], ◌∷◌, false, refl, All, rules}
use Rattle.std.proofs.lemmas.List.Splits.{slice_split_none, slice_split_at}
use Rattle.std.proofs.lemmas.Bool.Decides.{Decides-eqb}
use Rattle.script_core.specs.Parts.{IsNot, IsCut, parts_of}

unlike : (separator byte : ℕ) → byte ≢ separator → (byte == separator) ≡ false
unlike separator byte other = search (rules, Decides-eqb byte separator)

pub all_unlike : (separator : ℕ) (text : List ℕ) → All (IsNot separator) text → All (λ byte. (byte == separator) ≡ false) text
all_unlike separator text free k d low = unlike separator (get_or text k d) (free k d low)

pub one_part : (separator : ℕ) (text : List ℕ) → All (IsNot separator) text → parts_of separator text ≡ text ∷ []
one_part separator text free = slice_split_none (λ byte. byte == separator) text (all_unlike separator text free)

pub first_part : (separator : ℕ) (text front back : List ℕ) → IsCut separator text front back → parts_of separator text ≡ front ∷ parts_of separator back
first_part separator text front back cut =
    ap (parts_of separator) cut.is ∙ slice_split_at (λ byte. byte == separator) front separator back (all_unlike separator front cut.free) ((Decides-eqb separator separator).1 refl)
