-- Options that a command takes: one more of them, and what stands behind some.
use Rattle.std.proofs.Common.{◌≡◌, ◌≢◌, ℕ, ◌+◌, ◌≤◌, ◌<◌, ◌++◌, ◌⊎◌, length, get_or, arith, sym, ◌∙◌, ap, subst, inl, inr, List, [], ◌∷◌, zero, suc, true, false, refl, All, AllPairs, map, Option, Some, None}
use Rattle.std.specs.List.{sum_by}
use Rattle.std.proofs.lemmas.List.Elements.{All-append}
use Rattle.std.proofs.lemmas.List.Quantifiers.{all_pairs_push}
use Rattle.std.proofs.Math.ListN.{get_or-append, length-append}
use Rattle.std.proofs.Math.Seq.{get_or-append_seam}
use Rattle.std.proofs.lemmas.List.{length-map, append-nil}
use mathlib.Core.List.{append_assoc}
use Rattle.disk_model.specs.declared.calls.Choice.TheVariants.{Lost}
use Rattle.key_file.specs.declared.derivation.KeyDigest.TheVariants as digest
use Rattle.aes_core.specs.declared.algorithm.Algorithm.TheVariants as algorithm
use Rattle.keyd_words.specs.declared.command.Command.{Command}
use Rattle.keyd_words.specs.declared.table.OptionName.{OptionName}
use Rattle.keyd_words.specs.declared.table.OptionName.TheVariants as name
use Rattle.keyd_words.specs.declared.table.ValueForm.{ValueForm}
use Rattle.keyd_words.specs.declared.table.ValueForm.TheVariants as form
use Rattle.keyd_words.specs.declared.text.NewSpace.{NewSpace}
use Rattle.keyd_words.specs.declared.value.OptionValue.{OptionValue}
use Rattle.keyd_words.specs.declared.value.OptionValue.TheVariants as value
use Rattle.keyd_words.specs.declared.setting.OptionSetting.{OptionSetting}
use Rattle.keyd_words.specs.Table.{row_of, takes}
use Rattle.keyd_words.specs.Values.{IsSetTo, IsValueOf, IsNewSpace, pages_allowed}
use Rattle.keyd_words.specs.Settings.{names_of, times_set, space_in_value, spaces_of, pages_of_spaces, pages_asked, IsTakenBy, AreOptionsOf, HasNeeded, AreAllOptionsOf, MayStand, IsFree, Joins, MayFollow}
use Rattle.keyd_words.proofs.FreshLemmas.{Avoids, fresh}
use Rattle.keyd_words.proofs.TableLemmas.{same_word, word-injective, each_small, most_from, only_space, only_needed, needed_taken, IsSmall}
use Rattle.keyd_words.proofs.ValueLemmas.{set_space}
use Rattle.keyd_words.proofs.SettingLemmas.{times-append, times-cons, times_same, times_other, times_one, spaces-append, spaces_some, spaces_none, pages-append, pages_some, pages_none, some_or_none, all_one, all_none, all_middle, taken_space, no_spaces, two_pages}
use Rattle.std.specs.Str.{bytes_eq}
use Rattle.std.proofs.lemmas.Slice.Eq.{bytes_eq-Decides}
use Rattle.std.proofs.lemmas.Bool.{cases_Bool}

-- what is asked of a value that may stand behind others is asked of a tablespace alone
pub joins_by : (before : List NewSpace) (v : Option OptionValue) → ((x : NewSpace) → space_in_value v ≡ Some x → IsFree x.space before × (pages_of_spaces before + x.pages ≤ pages_allowed)) → Joins before v
unfolding Joins space_in_value
joins_by before (Some (value.Space x)) asked = asked x refl
joins_by before None asked = tt
joins_by before (Some (value.FileName t)) asked = tt
joins_by before (Some (value.FileKey t)) asked = tt
joins_by before (Some (value.Number n)) asked = tt
joins_by before (Some (value.Digest d)) asked = tt
joins_by before (Some (value.Algorithm a)) asked = tt
joins_by before (Some (value.FirstChoices cs)) asked = tt
joins_by before (Some (value.SecondChoices cs)) asked = tt

pub joins_space : (before : List NewSpace) (v : Option OptionValue) (x : NewSpace) → Joins before v → space_in_value v ≡ Some x → IsFree x.space before × (pages_of_spaces before + x.pages ≤ pages_allowed)
unfolding Joins space_in_value
joins_space before (Some (value.Space y)) x joins e =
    let same : y ≡ x = cc e in subst (λ (z : NewSpace). IsFree z.space before × (pages_of_spaces before + z.pages ≤ pages_allowed)) same joins
joins_space before None x joins e = cc e
joins_space before (Some (value.FileName t)) x joins e = cc e
joins_space before (Some (value.FileKey t)) x joins e = cc e
joins_space before (Some (value.Number n)) x joins e = cc e
joins_space before (Some (value.Digest d)) x joins e = cc e
joins_space before (Some (value.Algorithm a)) x joins e = cc e
joins_space before (Some (value.FirstChoices cs)) x joins e = cc e
joins_space before (Some (value.SecondChoices cs)) x joins e = cc e

pub none_allowed : (c : Command) → AreOptionsOf c []
none_allowed c = record { taken = all_none (IsTakenBy c); limits = λ f. omega arith; differ = λ i j d low in_it. absurd (omega (arith, in_it)); fit = omega arith }

differ_more : (ss : List OptionSetting) (s : OptionSetting) → AllPairs (λ (a b : NewSpace). a.space ≢ b.space) (spaces_of ss) → Joins (spaces_of ss) s.value → AllPairs (λ (a b : NewSpace). a.space ≢ b.space) (spaces_of (ss ++ (s ∷ [])))
differ_more ss s differ joins =
    let R : NewSpace → NewSpace → Type 0 = λ a b. a.space ≢ b.space in
    elim (some_or_none (space_in_value s.value)) [
      | inl found ↦ let free = (joins_space (spaces_of ss) s.value found.0 joins found.1).0 in
          let e : spaces_of (ss ++ (s ∷ [])) ≡ spaces_of ss ++ (found.0 ∷ []) = spaces-append ss (s ∷ []) ∙ ap (λ xs. spaces_of ss ++ xs) (spaces_some s [] found.0 found.1) in
          subst (λ xs. AllPairs R xs) (sym e) (all_pairs_push R (spaces_of ss) found.0 differ free)
      | inr absent ↦ let e : spaces_of (ss ++ (s ∷ [])) ≡ spaces_of ss ++ [] = spaces-append ss (s ∷ []) ∙ ap (λ xs. spaces_of ss ++ xs) (spaces_none s [] absent) in
          subst (λ xs. AllPairs R xs) (sym (e ∙ append-nil (spaces_of ss))) differ
    ]

fit_more : (ss : List OptionSetting) (s : OptionSetting) → pages_asked ss ≤ pages_allowed → Joins (spaces_of ss) s.value → pages_asked (ss ++ (s ∷ [])) ≤ pages_allowed
fit_more ss s fit joins =
    let split = pages-append ss (s ∷ []) in
    elim (some_or_none (space_in_value s.value)) [
      | inl found ↦ omega (arith, split, pages_some s [] found.0 found.1, (joins_space (spaces_of ss) s.value found.0 joins found.1).1)
      | inr absent ↦ omega (arith, split, pages_none s [] absent, fit)
    ]

limit_more : (c : Command) (ss : List OptionSetting) (s : OptionSetting) → ((f : OptionName) → times_set f ss ≤ (row_of f).most) → MayStand c (names_of ss) (spaces_of ss) s.name → (f : OptionName) → times_set f (ss ++ (s ∷ [])) ≤ (row_of f).most
limit_more c ss s limits room f =
    let split = times-append f ss (s ∷ []) in
    elim (cases_Bool (bytes_eq (row_of s.name).word (row_of f).word)) [
      | inl equal ↦ let same : s.name ≡ f = word-injective s.name f ((bytes_eq-Decides (row_of s.name).word (row_of f).word).0 equal) in
          let more : times_set f ss < (row_of f).most = subst (λ g. times_set g ss < (row_of g).most) same room.more in
          omega (arith, split, times_one f s, more)
      | inr unlike ↦ let other : s.name ≢ f = λ e. let both : true ≡ false = sym (same_word s.name f e) ∙ unlike in cc both in
          omega (arith, split, times_other f s other, limits f)
    ]

-- one option more
pub allowed_more : (c : Command) (ss : List OptionSetting) (s : OptionSetting) → AreOptionsOf c ss → MayFollow c (names_of ss) (spaces_of ss) s → AreOptionsOf c (ss ++ (s ∷ []))
allowed_more c ss s are may = record {
  taken = All-append (IsTakenBy c) ss (s ∷ []) are.taken (all_one (IsTakenBy c) s (record { taken = may.room.taken; set = may.set }));
  limits = limit_more c ss s are.limits may.room;
  differ = differ_more ss s are.differ may.joins;
  fit = fit_more ss s are.fit may.joins;
}

-- an option that stands behind others may follow them
free_before : (ss rest : List OptionSetting) (s : OptionSetting) (x : NewSpace) → AllPairs (λ (a b : NewSpace). a.space ≢ b.space) (spaces_of (ss ++ (s ∷ rest))) → space_in_value s.value ≡ Some x → IsFree x.space (spaces_of ss)
free_before ss rest s x differ e k d low =
    let A = spaces_of ss in
    let B = spaces_of rest in
    let shape : spaces_of (ss ++ (s ∷ rest)) ≡ A ++ (x ∷ B) = spaces-append ss (s ∷ rest) ∙ ap (λ xs. A ++ xs) (spaces_some s rest x e) in
    let R : NewSpace → NewSpace → Type 0 = λ a b. a.space ≢ b.space in
    let pairs : AllPairs R (A ++ (x ∷ B)) = subst (λ xs. AllPairs R xs) shape differ in
    let apart : R (get_or (A ++ (x ∷ B)) k d) (get_or (A ++ (x ∷ B)) (length A) d) = pairs k (length A) d low (omega (arith, length-append A (x ∷ B))) in
    λ same. apart (ap (λ (y : NewSpace). y.space) (get_or-append A (x ∷ B) d k low) ∙ same ∙ ap (λ (y : NewSpace). y.space) (sym (get_or-append_seam A x B d)))

pub next_follows : (c : Command) (ss rest : List OptionSetting) (s : OptionSetting) → AreOptionsOf c (ss ++ (s ∷ rest)) → MayFollow c (names_of ss) (spaces_of ss) s
next_follows c ss rest s are =
    let taken : IsTakenBy c s = all_middle (IsTakenBy c) ss s rest are.taken in
    let times_split = times-append s.name ss (s ∷ rest) in
    let pages_split = pages-append ss (s ∷ rest) in
    let rest_split = pages-append (s ∷ []) rest in
    let paged : (x : NewSpace) → space_in_value s.value ≡ Some x → pages_asked ss + x.pages ≤ pages_allowed =
    λ x e. omega (arith, pages_split, pages_some s rest x e, are.fit) in
    record {
      room = record {
        taken = taken.taken;
        more = omega (arith, times_split, times-cons s.name s rest, times_same s.name s refl, are.limits s.name);
        pages = λ spacy. let found = set_space s.value (subst (λ f. IsSetTo f s.value) spacy taken.set) in
            omega (arith, paged found.0 found.1, (taken_space c s found.0 taken found.1).1.pages_from);
      };
      set = taken.set;
      joins = joins_by (spaces_of ss) s.value (λ x e. (free_before ss rest s x are.differ e, paged x e));
    }

-- Values that may stand

avoid_all : (id : ℕ) (spaces : List NewSpace) → Avoids id (map (λ (x : NewSpace). x.space) spaces) → All (λ (x : NewSpace). x.space ≢ id) spaces
unfolding Avoids
avoid_all id [] avoids k d low = absurd (omega (arith, low))
avoid_all id (x ∷ xs) avoids zero d low = avoids.0
avoid_all id (x ∷ xs) avoids (suc k) d low = avoid_all id xs avoids.1 k d (omega (arith, low))

-- a tablespace of two pages that may stand behind these
spare : (c : Command) (ss : List OptionSetting) → AreOptionsOf c ss → pages_asked ss + 2 ≤ pages_allowed → (x : NewSpace) × IsNewSpace x × (IsFree x.space (spaces_of ss) × (pages_asked ss + x.pages ≤ pages_allowed))
spare c ss are room =
    let ids : List ℕ = map (λ (x : NewSpace). x.space) (spaces_of ss) in
    let few : length ids < 8193 = omega (arith, two_pages c ss are.taken, length-map (spaces_of ss) (λ (x : NewSpace). x.space), room) in
    let found = fresh 8193 ids few in
    let x : NewSpace = record { space = found.0; pages = 2; key_id = 1; ciphered = false } in (
      x,
      record { id_from = found.1; id_to = omega (arith, found.2); pages_from = omega arith; pages_to = omega arith; key_from = omega arith; key_to = omega arith },
      (avoid_all found.0 (spaces_of ss) found.3, room),
    )

-- a value of each form that may stand behind these
some_value : (c : Command) (ss : List OptionSetting) (f : Option ValueForm) → AreOptionsOf c ss → IsSmall f → (f ≡ Some form.Space → pages_asked ss + 2 ≤ pages_allowed)
    → (v : Option OptionValue) × IsSetTo f v × Joins (spaces_of ss) v
unfolding IsSetTo IsValueOf Joins IsSmall
some_value c ss None are small room = (None, tt, tt)
some_value c ss (Some form.FileName) are small room = (Some (value.FileName []), tt, tt)
some_value c ss (Some form.FileKey) are small room = (Some (value.FileKey []), tt, tt)
some_value c ss (Some (form.Number low high)) are small room = (Some (value.Number low), (omega arith, small.0), tt)
some_value c ss (Some form.Digest) are small room = (Some (value.Digest digest.Sha1), tt, tt)
some_value c ss (Some form.Algorithm) are small room = (Some (value.Algorithm algorithm.Cbc), tt, tt)
some_value c ss (Some form.FirstChoices) are small room = (Some (value.FirstChoices (Lost ∷ [])), (omega arith, omega arith), tt)
some_value c ss (Some form.SecondChoices) are small room = (Some (value.SecondChoices (Lost ∷ [])), (omega arith, omega arith), tt)
some_value c ss (Some form.Space) are small room = let x = spare c ss are (room refl) in (Some (value.Space x.0), x.1, x.2)

pub some_setting : (c : Command) (ss : List OptionSetting) (f : OptionName) → AreOptionsOf c ss → MayStand c (names_of ss) (spaces_of ss) f → (v : Option OptionValue) × MayFollow c (names_of ss) (spaces_of ss) (record { name = f; value = v })
some_setting c ss f are room =
    let found = some_value c ss (row_of f).form are (each_small f) room.pages in
    (found.0, record { room = room; set = found.1; joins = found.2 })

-- Options that are needed

more_keep : (c : Command) (ss more : List OptionSetting) (f : OptionName) → 1 ≤ times_set f ss → 1 ≤ times_set f (ss ++ more)
more_keep c ss more f stands = omega (arith, times-append f ss more, stands)

positive : (n : ℕ) → (1 ≤ n) ⊎ (n ≡ 0)
positive zero = inr refl
positive (suc n) = inl (omega arith)

-- with one option more an option that the command takes stands
supplied : (c : Command) (ss : List OptionSetting) (f : OptionName) → AreOptionsOf c ss → takes f c ≡ true
    → (more : List OptionSetting) × AreOptionsOf c (ss ++ more) × (1 ≤ times_set f (ss ++ more))
supplied c ss f are taken =
    elim (positive (times_set f ss)) [
      | inl stands ↦ ([], subst (AreOptionsOf c) (sym (append-nil ss)) are, more_keep c ss [] f stands)
      | inr none ↦
          let roomy : (row_of f).form ≡ Some form.Space → pages_asked ss + 2 ≤ pages_allowed =
          λ spacy. let absent : times_set name.Space ss ≡ 0 = ap (λ g. times_set g ss) (sym (only_space f spacy)) ∙ none in
          let empty : pages_asked ss ≡ 0 = ap (sum_by (λ (x : NewSpace). x.pages)) (no_spaces c ss are.taken absent) in omega (arith, empty) in
          let found = some_setting c ss f are (record { taken = taken; more = omega (arith, none, most_from f); pages = roomy }) in
          let s : OptionSetting = record { name = f; value = found.0 } in
          (s ∷ [], allowed_more c ss s are found.1, omega (arith, times-append f ss (s ∷ []), times_same f s refl))
    ]

-- the same, where the command takes the option
supplied_if : (c : Command) (ss : List OptionSetting) (f : OptionName) → AreOptionsOf c ss
    → (more : List OptionSetting) × AreOptionsOf c (ss ++ more) × (takes f c ≡ true → 1 ≤ times_set f (ss ++ more))
supplied_if c ss f are =
    elim (cases_Bool (takes f c)) [
      | inl taken ↦ let made = supplied c ss f are taken in (made.0, made.1, λ e. made.2)
      | inr not_taken ↦ ([], subst (AreOptionsOf c) (sym (append-nil ss)) are, λ e. let both : true ≡ false = sym e ∙ not_taken in cc both)
    ]

-- options that a command takes are the first of those of a whole list
pub whole_of : (c : Command) (ss : List OptionSetting) → AreOptionsOf c ss → (more : List OptionSetting) × AreAllOptionsOf c (ss ++ more)
whole_of c ss are =
    let keyed = supplied_if c ss name.KeyFile are in
    let spaced = supplied_if c (ss ++ keyed.0) name.Space keyed.1 in
    let same : (ss ++ keyed.0) ++ spaced.0 ≡ ss ++ (keyed.0 ++ spaced.0) = append_assoc ss keyed.0 spaced.0 in
    let Stands : OptionName → Type 0 = λ f. 1 ≤ times_set f ((ss ++ keyed.0) ++ spaced.0) in
    let needed : HasNeeded c (names_of ((ss ++ keyed.0) ++ spaced.0)) = only_needed Stands c (λ e. more_keep c (ss ++ keyed.0) spaced.0 name.KeyFile (keyed.2 (needed_taken name.KeyFile c e))) (λ e. spaced.2 (needed_taken name.Space c e)) in
    (keyed.0 ++ spaced.0, subst (AreAllOptionsOf c) same (record { allowed = spaced.1; needed = needed }))
