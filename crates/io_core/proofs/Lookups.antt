-- A look-up by name in a list of files.
use Rattle.std.proofs.Common.{◌≡◌, ◌<◌, ◌+◌, Bool, true, false, zero, suc, refl, [], if◌then◌else◌, ℕ, List, ◌∷◌, length, drop, get_or, Option, Some, String, Vec, string_bytes, sym, ◌∙◌, ap, arith}
use Rattle.std.proofs.lemmas.List.{at_drop_more}
use Rattle.std.specs.Str.{bytes_eq}
use Rattle.std.specs.Bool.{Decides}
use Rattle.std.proofs.lemmas.Slice.Eq.{bytes_eq-Decides}
use Rattle.io_core.specs.Memory.{files_of, listed, NamesDiffer}

-- the first file whose name is looked up is the one that is found
pub files_of-found : {Y Z : Type 0} (files : List (String Y × Vec ℕ Z)) (name : List ℕ) (i : ℕ) (file : String Y × Vec ℕ Z) → i < length files
    → file ≡ get_or files i file → bytes_eq (string_bytes file.0) name ≡ true → files_of (listed (drop i files)) name ≡ files_of (listed files) name
    → Some file.1.items ≡ files_of (listed files) name
files_of-found {Y} {Z} files name i file within is same rest =
    let F : List (String Y × Vec ℕ Z) → Option (List ℕ) = λ fs. files_of (listed fs) name in
    sym (ap (λ (b : Bool). if b then Some file.1.items else F (drop (i + 1) files)) same)
    ∙ ap (λ (f : String Y × Vec ℕ Z). F (f ∷ drop (i + 1) files)) is
    ∙ sym (at_drop_more F files i file within) ∙ rest

differs : (a b : List ℕ) (r : Bool) → Decides r (a ≡ b) → (a ≡ b → ⊥) → r ≡ false
differs a b true decides not_same = absurd (not_same (decides.0 refl))
differs a b false decides not_same = refl

-- where no two names are equal, each file of a list is the file of its name
pub files_of-listed : (files : List (List ℕ × List ℕ)) → NamesDiffer files → (k : ℕ) (d : List ℕ × List ℕ) → k < length files
    → files_of files (get_or files k d).0 ≡ Some (get_or files k d).1
files_of-listed [] differ k d within = absurd (omega (arith, within))
files_of-listed (file ∷ files) differ zero d within =
    ap (λ (b : Bool). if b then Some file.1 else files_of files file.0) ((bytes_eq-Decides file.0 file.0).1 refl)
files_of-listed (file ∷ files) differ (suc k) d within =
    let other : bytes_eq file.0 (get_or files k d).0 ≡ false =
    differs file.0 (get_or files k d).0 _ (bytes_eq-Decides file.0 (get_or files k d).0) (differ 0 (suc k) d (omega arith) within) in
    ap (λ (b : Bool). if b then Some file.1 else files_of files (get_or files k d).0) other
    ∙ files_of-listed files (λ i j e before last. differ (suc i) (suc j) e (omega (arith, before)) (omega (arith, last))) k d (omega (arith, within))
