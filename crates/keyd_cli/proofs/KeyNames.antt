-- The values of an option among options and their values.
use Rattle.std.proofs.Common.{◌≡◌, ℕ, ◌+◌, ◌≤◌, ◌<◌, length, drop, get_or, arith, ◌∙◌, ap, List, [], ◌∷◌, true, false, refl, if◌then◌else◌, rules}
use Rattle.std.specs.Str.{bytes_eq}
use Rattle.std.proofs.lemmas.List.{length-drop}
use Rattle.std.proofs.lemmas.Slice.Eq.{bytes_eq-Decides}
use Rattle.keyd_cli.specs.declared.words.Flag.{Flag}
use Rattle.keyd_cli.specs.Words.{CommandWord, flag_word}
use Rattle.keyd_cli.specs.Keys.{values_of}
use Rattle.keyd_cli.proofs.Values.{split_two}

pub values_here : (f : Flag) (ws : List CommandWord) (at : ℕ) → at + 1 < length ws → get_or ws at [] ≡ flag_word f → values_of f (drop at ws) ≡ get_or ws (at + 1) [] ∷ values_of f (drop (at + 2) ws)
unfolding values_of
values_here f ws at low named =
    let test : bytes_eq (get_or ws at []) (flag_word f) ≡ true = (bytes_eq-Decides (get_or ws at []) (flag_word f)).1 named in
    ap (values_of f) (split_two ws at low) ∙ ap (λ b. if b then get_or ws (at + 1) [] ∷ values_of f (drop (at + 2) ws) else values_of f (drop (at + 2) ws)) test

pub values_behind : (f : Flag) (ws : List CommandWord) (at : ℕ) → at + 1 < length ws → (get_or ws at [] ≡ flag_word f → ⊥) → values_of f (drop at ws) ≡ values_of f (drop (at + 2) ws)
unfolding values_of
values_behind f ws at low other =
    let test : bytes_eq (get_or ws at []) (flag_word f) ≡ false = search (rules, bytes_eq-Decides (get_or ws at []) (flag_word f), other) in
    ap (values_of f) (split_two ws at low) ∙ ap (λ b. if b then get_or ws (at + 1) [] ∷ values_of f (drop (at + 2) ws) else values_of f (drop (at + 2) ws)) test

short : (f : Flag) (ws : List CommandWord) → length ws ≤ 1 → values_of f ws ≡ []
unfolding values_of
short f [] few = refl
short f (w ∷ []) few = refl
short f (w ∷ v ∷ ws) few = absurd (omega (arith, few))

pub values_none : (f : Flag) (ws : List CommandWord) (at : ℕ) → (at + 1 < length ws → ⊥) → values_of f (drop at ws) ≡ []
values_none f ws at end = short f (drop at ws) (omega (arith, length-drop at ws, end))
