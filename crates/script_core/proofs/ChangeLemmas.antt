-- The words of changes.
use Rattle.std.proofs.Common.{◌≡◌, ◌≢◌, ℕ, ◌+◌, ◌≤◌, ◌<◌, List, [], ◌∷◌, ◌++◌, length, ap, sym, ◌∙◌, subst, inl, inr, refl, codes, arith}
use mathlib.Core.List.{append_assoc}
use Rattle.script_core.specs.Words.{Word}
use Rattle.script_core.specs.Fields.{FaultIn}
use Rattle.script_core.specs.Names.{change_name_of, change_fields_of}
use Rattle.script_core.specs.Statements.{change_name, AreChangeArguments, IsChange, AreChanges, ChangeFault, ChangesFault, InRest}
use Rattle.script_core.specs.declared.names.ChangeName.{ChangeName}
use Rattle.script_core.specs.declared.act.ScriptChange.{ScriptChange}
use Rattle.script_core.specs.declared.act.ScriptChange.TheVariants as change
use Rattle.script_core.specs.declared.fault.LineFault.{LineFault}
use Rattle.script_core.specs.declared.fault.LineFault.TheVariants as fault

pub change_missing : (words : List Word) (kind : LineFault) → words ≡ [] → kind ≡ fault.Missing → ChangeFault words kind
unfolding ChangeFault
change_missing words kind none is = subst (λ ws. ChangeFault ws kind) (sym none) is

pub change_unnamed : (words : List Word) (word : Word) (rest : List Word) → words ≡ word ∷ rest → ((n : ChangeName) → word ≢ change_name_of n) → ChangeFault words fault.Word
unfolding ChangeFault
change_unnamed words word rest begins unnamed = subst (λ ws. ChangeFault ws fault.Word) (sym begins) (inl (refl, unnamed))

pub change_behind : (words : List Word) (word : Word) (rest : List Word) (n : ChangeName) (kind : LineFault) → words ≡ word ∷ rest → word ≡ change_name_of n → FaultIn [] (change_fields_of n) rest kind → ChangeFault words kind
unfolding ChangeFault
change_behind words word rest n kind begins named is = subst (λ ws. ChangeFault ws kind) (sym begins) (inr (n, named, is))

pub change_whole : (change : ScriptChange) (words : List Word) (word : Word) (arguments rest : List Word) (n : ChangeName) → words ≡ word ∷ arguments → word ≡ change_name_of n → change_name change ≡ n → AreChangeArguments change arguments rest → IsChange change words rest
change_whole change words word arguments rest n begins named is are = record {
  arguments = arguments;
  named = begins ∙ ap (λ w. w ∷ arguments) (named ∙ ap change_name_of (sym is));
  are = are;
}

-- Changes with one more in front

pub next_changes : (change : ScriptChange) (words rest : List Word) (more : List ScriptChange) → IsChange change words (codes ";" ∷ rest) → AreChanges more rest → AreChanges (change ∷ more) words
unfolding AreChanges
next_changes change words rest [] is are = absurd are
next_changes change words rest (next ∷ more) is are = (rest, is, are)

last_change : (change : ScriptChange) (words : List Word) → IsChange change words [] → AreChanges (change ∷ []) words
unfolding AreChanges
last_change change words is = is

-- what the rest of the words gives, all of them give
abbrev pub GivesChanges : List ScriptChange → List Word → List Word → Type 0
GivesChanges so_far left all = (more : List ScriptChange) → AreChanges more left → AreChanges (so_far ++ more) all

abbrev pub GivesFault : ℕ → List Word → List Word → Type 0
GivesFault count left all = (kind : LineFault) → ChangesFault count left kind → ChangesFault 0 all kind

pub gives_more : (so_far now : List ScriptChange) (change : ScriptChange) (left rest more all : List Word) → now ≡ so_far ++ (change ∷ []) → IsChange change left more → more ≡ codes ";" ∷ rest → GivesChanges so_far left all → GivesChanges now rest all
gives_more so_far now change left rest more all grown is follows gives later are =
    let with_semicolon : IsChange change left (codes ";" ∷ rest) = subst (IsChange change left) follows is in
    let whole : AreChanges (so_far ++ (change ∷ later)) all = gives (change ∷ later) (next_changes change left rest later with_semicolon are) in
    let same : (so_far ++ (change ∷ [])) ++ later ≡ so_far ++ (change ∷ later) = append_assoc so_far (change ∷ []) later in
    subst (λ cs. AreChanges (cs ++ later) all) (sym grown) (subst (λ cs. AreChanges cs all) (sym same) whole)

pub gives_last : (so_far now : List ScriptChange) (change : ScriptChange) (left more all : List Word) → now ≡ so_far ++ (change ∷ []) → IsChange change left more → more ≡ [] → GivesChanges so_far left all → AreChanges now all
gives_last so_far now change left more all grown is ends gives =
    subst (λ cs. AreChanges cs all) (sym grown) (gives (change ∷ []) (last_change change left (subst (IsChange change left) ends is)))

pub faults_more : (count : ℕ) (change : ScriptChange) (left rest more all : List Word) (now : ℕ) → now ≡ count + 1 → now < 64 → IsChange change left more → more ≡ codes ";" ∷ rest → GivesFault count left all → GivesFault now rest all
faults_more count change left rest more all now counted room is follows gives kind later =
    let with_semicolon : IsChange change left (codes ";" ∷ rest) = subst (IsChange change left) follows is in
    gives kind (InRest count left rest change kind with_semicolon (subst (λ n. n < 64) counted room) (subst (λ n. ChangesFault n rest kind) counted later))

arguments_shorter : (change : ScriptChange) (words rest : List Word) → AreChangeArguments change words rest → length rest ≤ length words
unfolding AreChangeArguments
arguments_shorter (change.Put space page at bytes) words rest are = let size = ap length are.4 in omega (arith, size)
arguments_shorter (change.Fill space page at count byte) words rest are = let size = ap length are.5 in omega (arith, size)
arguments_shorter (change.Kind space page kind) words rest are = let size = ap length are.3 in omega (arith, size)

-- a change takes words
pub change_shorter : (change : ScriptChange) (words rest more : List Word) → IsChange change words more → more ≡ codes ";" ∷ rest → length rest < length words
change_shorter change words rest more is follows =
    let front = ap length is.named in
    let behind = ap length follows in
    omega (arith, front, behind, arguments_shorter change is.arguments more is.are)
