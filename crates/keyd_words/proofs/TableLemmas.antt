-- The words of the table name one option each, and those of the commands one command.
use Rattle.std.proofs.Common.{◌≡◌, ◌≢◌, ℕ, ◌≤◌, ◌<◌, length, get_or, [], ◌∷◌, arith, sym, ◌∙◌, ap, inl, inr, true, false, nat_eq, if◌then◌else◌, refl, Option, Some}
use Rattle.std.specs.Str.{bytes_eq}
use Rattle.std.proofs.lemmas.Slice.Eq.{bytes_eq-Decides}
use Rattle.std.proofs.lemmas.Bool.{cases_Bool}
use Rattle.keyd_words.specs.declared.command.Command.{Command}
use Rattle.keyd_words.specs.declared.command.Command.TheVariants as command
use Rattle.keyd_words.specs.declared.table.OptionName.{OptionName}
use Rattle.keyd_words.specs.declared.table.OptionName.TheVariants.{KeyFile, FileKey, Digest, Space, Log, Algorithm, Active, Age, Binlog, Flushers, Rotators, Stop, Choice, Reopen, Stop2, Choice2}
use Rattle.keyd_words.specs.declared.table.ValueForm.{ValueForm}
use Rattle.keyd_words.specs.declared.table.ValueForm.TheVariants as form
use Rattle.keyd_words.specs.Table.{Argument, command_word, row_of, is_taken, is_needed, use_by, uses, takes, needs}
use Rattle.keyd_words.specs.declared.table.OptionUse.{OptionUse}
use Rattle.keyd_words.specs.declared.table.OptionUse.TheVariants.{No, May, Must}

-- the option whose word has this third byte, this fourth byte and this length
option_by : ℕ → ℕ → ℕ → OptionName
option_by a b n =
    if nat_eq a 107 then KeyFile
    else if nat_eq a 102 then (if nat_eq b 105 then FileKey else Flushers)
    else if nat_eq a 100 then Digest
    else if nat_eq a 115 then (if nat_eq b 112 then Space else if nat_eq n 6 then Stop else Stop2)
    else if nat_eq a 108 then Log
    else if nat_eq a 97 then (if nat_eq b 108 then Algorithm else if nat_eq b 99 then Active else Age)
    else if nat_eq a 98 then Binlog
    else if nat_eq a 114 then (if nat_eq b 111 then Rotators else Reopen)
    else if nat_eq n 8 then Choice
    else Choice2

option_in : Argument → OptionName
option_in word = option_by (get_or word 2 0) (get_or word 3 0) (length word)

option_in-word : (f : OptionName) → option_in (row_of f).word ≡ f
unfolding row_of option_in option_by
option_in-word KeyFile = refl
option_in-word FileKey = refl
option_in-word Digest = refl
option_in-word Space = refl
option_in-word Log = refl
option_in-word Algorithm = refl
option_in-word Active = refl
option_in-word Age = refl
option_in-word Binlog = refl
option_in-word Flushers = refl
option_in-word Rotators = refl
option_in-word Stop = refl
option_in-word Choice = refl
option_in-word Reopen = refl
option_in-word Stop2 = refl
option_in-word Choice2 = refl

pub word-injective : (f g : OptionName) → (row_of f).word ≡ (row_of g).word → f ≡ g
word-injective f g e = sym (option_in-word f) ∙ ap option_in e ∙ option_in-word g

pub same_word : (f g : OptionName) → f ≡ g → bytes_eq (row_of f).word (row_of g).word ≡ true
same_word f g e = (bytes_eq-Decides (row_of f).word (row_of g).word).1 (ap (λ h. (row_of h).word) e)

pub other_word : (f g : OptionName) → f ≢ g → bytes_eq (row_of f).word (row_of g).word ≡ false
other_word f g other =
    elim (cases_Bool (bytes_eq (row_of f).word (row_of g).word)) [
      | inl equal ↦ absurd (other (word-injective f g ((bytes_eq-Decides (row_of f).word (row_of g).word).0 equal)))
      | inr unlike ↦ unlike
    ]

-- the command whose word has this first byte and this third byte
command_by : ℕ → ℕ → Command
command_by a b =
    if nat_eq a 99 then command.Create
    else if nat_eq a 115 then command.Step
    else if nat_eq a 100 then command.Drill
    else if nat_eq a 109 then command.Make
    else if nat_eq b 110 then command.Run
    else if nat_eq b 99 then command.Recover
    else command.Report

command_in : Argument → Command
command_in word = command_by (get_or word 0 0) (get_or word 2 0)

command_in-word : (c : Command) → command_in (command_word c) ≡ c
unfolding command_word command_in command_by
command_in-word command.Create = refl
command_in-word command.Step = refl
command_in-word command.Run = refl
command_in-word command.Drill = refl
command_in-word command.Recover = refl
command_in-word command.Report = refl
command_in-word command.Make = refl

pub command_word-injective : (c d : Command) → command_word c ≡ command_word d → c ≡ d
command_word-injective c d e = sym (command_in-word c) ∙ ap command_in e ∙ command_in-word d

-- the bounds of a form of numbers are in order, and those of a u32
unfoldable pub IsSmall : Option ValueForm → Type 0
IsSmall (Some (form.Number low high)) = (low ≤ high) × (high ≤ 4294967295)
IsSmall _ = Unit {0}

pub each_small : (f : OptionName) → IsSmall (row_of f).form
unfolding row_of IsSmall
each_small KeyFile = tt
each_small FileKey = tt
each_small Digest = tt
each_small Space = tt
each_small Log = (omega arith, omega arith)
each_small Algorithm = tt
each_small Active = (omega arith, omega arith)
each_small Age = (omega arith, omega arith)
each_small Binlog = tt
each_small Flushers = (omega arith, omega arith)
each_small Rotators = (omega arith, omega arith)
each_small Stop = (omega arith, omega arith)
each_small Choice = tt
each_small Reopen = (omega arith, omega arith)
each_small Stop2 = (omega arith, omega arith)
each_small Choice2 = tt

-- each option may stand once, and none more than 64 times
pub most_from : (f : OptionName) → 1 ≤ (row_of f).most
unfolding row_of
most_from KeyFile = omega arith
most_from FileKey = omega arith
most_from Digest = omega arith
most_from Space = omega arith
most_from Log = omega arith
most_from Algorithm = omega arith
most_from Active = omega arith
most_from Age = omega arith
most_from Binlog = omega arith
most_from Flushers = omega arith
most_from Rotators = omega arith
most_from Stop = omega arith
most_from Choice = omega arith
most_from Reopen = omega arith
most_from Stop2 = omega arith
most_from Choice2 = omega arith

-- no other option has a tablespace for its value
pub only_space : (f : OptionName) → (row_of f).form ≡ Some form.Space → f ≡ Space
unfolding row_of
only_space Space e = refl
only_space KeyFile e = cc
only_space FileKey e = cc
only_space Digest e = cc
only_space Log e = cc
only_space Algorithm e = cc
only_space Active e = cc
only_space Age e = cc
only_space Binlog e = cc
only_space Flushers e = cc
only_space Rotators e = cc
only_space Stop e = cc
only_space Choice e = cc
only_space Reopen e = cc
only_space Stop2 e = cc
only_space Choice2 e = cc

pub needed_taken : (f : OptionName) (c : Command) → needs f c ≡ true → takes f c ≡ true
unfolding is_needed is_taken
needed_taken f c e = by (use_by (row_of f).uses c) e
  where
    by : (u : OptionUse) → is_needed u ≡ true → is_taken u ≡ true
    by Must e = refl
    by May e = cc
    by No e = cc

-- a row without a command that needs the option
never : (P : Type 0) (a b d e f g : OptionUse) → is_needed a ≡ false → is_needed b ≡ false → is_needed d ≡ false → is_needed e ≡ false → is_needed f ≡ false → is_needed g ≡ false → (c : Command) → is_needed (use_by (uses a b d e f g) c) ≡ true → P
unfolding use_by is_needed
never P a b d e f g na nb nd ne nf ng command.Create is = let both : true ≡ false = sym is ∙ na in cc both
never P a b d e f g na nb nd ne nf ng command.Step is = let both : true ≡ false = sym is ∙ nb in cc both
never P a b d e f g na nb nd ne nf ng command.Run is = let both : true ≡ false = sym is ∙ nd in cc both
never P a b d e f g na nb nd ne nf ng command.Drill is = let both : true ≡ false = sym is ∙ ne in cc both
never P a b d e f g na nb nd ne nf ng command.Recover is = let both : true ≡ false = sym is ∙ nf in cc both
never P a b d e f g na nb nd ne nf ng command.Report is = let both : true ≡ false = sym is ∙ ng in cc both
never P a b d e f g na nb nd ne nf ng command.Make is = cc is

-- no option but these two is ever needed
pub only_needed : (P : OptionName → Type 0) (c : Command) → (needs KeyFile c ≡ true → P KeyFile) → (needs Space c ≡ true → P Space) → (f : OptionName) → needs f c ≡ true → P f
unfolding row_of is_needed
only_needed P c k s KeyFile e = k e
only_needed P c k s Space e = s e
only_needed P c k s FileKey e = never (P FileKey) May May May May May May refl refl refl refl refl refl c e
only_needed P c k s Digest e = never (P Digest) May May May May May May refl refl refl refl refl refl c e
only_needed P c k s Log e = never (P Log) May No No May No No refl refl refl refl refl refl c e
only_needed P c k s Algorithm e = never (P Algorithm) May No No May No No refl refl refl refl refl refl c e
only_needed P c k s Active e = never (P Active) May May May May May May refl refl refl refl refl refl c e
only_needed P c k s Age e = never (P Age) No May May May No No refl refl refl refl refl refl c e
only_needed P c k s Binlog e = never (P Binlog) No May May No No No refl refl refl refl refl refl c e
only_needed P c k s Flushers e = never (P Flushers) No No May No No No refl refl refl refl refl refl c e
only_needed P c k s Rotators e = never (P Rotators) No No May No No No refl refl refl refl refl refl c e
only_needed P c k s Stop e = never (P Stop) No No No May No No refl refl refl refl refl refl c e
only_needed P c k s Choice e = never (P Choice) No No No May No No refl refl refl refl refl refl c e
only_needed P c k s Reopen e = never (P Reopen) No No No May No No refl refl refl refl refl refl c e
only_needed P c k s Stop2 e = never (P Stop2) No No No May No No refl refl refl refl refl refl c e
only_needed P c k s Choice2 e = never (P Choice2) No No No May No No refl refl refl refl refl refl c e

-- what holds of each option in a list of all holds of each
pub each_name : (P : OptionName → Type 0) (n : ℕ) → 16 ≤ n
    → ((k : ℕ) (d : OptionName) → k < n → P (get_or (KeyFile ∷ FileKey ∷ Digest ∷ Space ∷ Log ∷ Algorithm ∷ Active ∷ Age ∷ Binlog ∷ Flushers ∷ Rotators ∷ Stop ∷ Choice ∷ Reopen ∷ Stop2 ∷ Choice2 ∷ []) k d))
    → (f : OptionName) → P f
each_name P n all holds KeyFile = holds 0 KeyFile (omega (arith, all))
each_name P n all holds FileKey = holds 1 FileKey (omega (arith, all))
each_name P n all holds Digest = holds 2 Digest (omega (arith, all))
each_name P n all holds Space = holds 3 Space (omega (arith, all))
each_name P n all holds Log = holds 4 Log (omega (arith, all))
each_name P n all holds Algorithm = holds 5 Algorithm (omega (arith, all))
each_name P n all holds Active = holds 6 Active (omega (arith, all))
each_name P n all holds Age = holds 7 Age (omega (arith, all))
each_name P n all holds Binlog = holds 8 Binlog (omega (arith, all))
each_name P n all holds Flushers = holds 9 Flushers (omega (arith, all))
each_name P n all holds Rotators = holds 10 Rotators (omega (arith, all))
each_name P n all holds Stop = holds 11 Stop (omega (arith, all))
each_name P n all holds Choice = holds 12 Choice (omega (arith, all))
each_name P n all holds Reopen = holds 13 Reopen (omega (arith, all))
each_name P n all holds Stop2 = holds 14 Stop2 (omega (arith, all))
each_name P n all holds Choice2 = holds 15 Choice2 (omega (arith, all))
