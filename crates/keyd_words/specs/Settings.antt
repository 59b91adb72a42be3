-- Options with their values: which lists of them a command takes, and the words that write them.
use Rattle.std.specs.Prelude.{◌≡◌, ◌≢◌, ℕ, ◌+◌, ◌≤◌, ◌<◌, true, List, ◌∷◌, map, All, AllPairs, count_by, sum_by, Option, Some, None}
use Rattle.std.specs.List.{flat_map, filter_map}
use Rattle.std.specs.Borrow.{Bor}
use Rattle.std.specs.Str.{bytes_eq}
use Rattle.keyd_words.specs.declared.fault.SettingFault.{SettingFault}
use Rattle.keyd_words.specs.declared.fault.SettingFault.TheVariants as fault
use Rattle.keyd_words.specs.declared.command.Command.{Command}
use Rattle.keyd_words.specs.declared.table.OptionName.{OptionName}
use Rattle.keyd_words.specs.declared.table.ValueForm.TheVariants as form
use Rattle.keyd_words.specs.declared.text.NewSpace.{NewSpace}
use Rattle.keyd_words.specs.declared.value.OptionValue.{OptionValue}
use Rattle.keyd_words.specs.declared.value.OptionValue.TheVariants as value
use Rattle.keyd_words.specs.declared.setting.OptionSetting.{OptionSetting}
use Rattle.keyd_words.specs.Table.{Argument, takes, needs, row_of}
use Rattle.keyd_words.specs.Values.{pages_allowed, IsSetTo, value_words, AreWordsOf}

-- the words that write an option, and options in a row
abbrev pub setting_words : OptionSetting → List Argument
setting_words s = (row_of s.name).word ∷ value_words s.value

abbrev pub settings_words : List OptionSetting → List Argument
settings_words settings = flat_map setting_words settings

-- the names of options, in order
abbrev pub names_of : List OptionSetting → List OptionName
names_of settings = map (λ (s : OptionSetting). s.name) settings

-- how often an option stands among these
abbrev pub times_in : OptionName → List OptionName → ℕ
times_in f names = count_by (λ (g : OptionName). bytes_eq (row_of g).word (row_of f).word) names

abbrev pub times_set : OptionName → List OptionSetting → ℕ
times_set f settings = times_in f (names_of settings)

-- the tablespace in an option's value
unfoldable pub space_in_value : Option OptionValue → Option NewSpace
space_in_value (Some (value.Space space)) = Some space
space_in_value _ = None

abbrev pub spaces_of : List OptionSetting → List NewSpace
spaces_of settings = filter_map (λ s. space_in_value s.value) settings

-- the pages of tablespaces, together
abbrev pub pages_of_spaces : List NewSpace → ℕ
pages_of_spaces spaces = sum_by (λ space. space.pages) spaces

abbrev pub pages_asked : List OptionSetting → ℕ
pages_asked settings = pages_of_spaces (spaces_of settings)

-- the command takes the option, with this value
pub record IsTakenBy (command : Command) (s : OptionSetting) : Type 0 where
  pub taken : takes s.name command ≡ true
  pub set : IsSetTo (row_of s.name).form s.value

-- the ids of tablespaces differ
abbrev pub AreDifferent : List NewSpace → Type 0
AreDifferent spaces = AllPairs (λ a b. a.space ≢ b.space) spaces

-- Options that the command takes, none too often; the ids of the tablespaces differ, and their pages aren't too many.
pub record AreOptionsOf (command : Command) (settings : List OptionSetting) : Type 0 where
  pub taken : All (IsTakenBy command) settings
  pub limits : (f : OptionName) → times_set f settings ≤ (row_of f).most
  pub differ : AreDifferent (spaces_of settings)
  pub fit : pages_asked settings ≤ pages_allowed

-- each option that the command needs stands among these
abbrev pub HasNeeded : Command → List OptionName → Type 0
HasNeeded command names = (f : OptionName) → needs f command ≡ true → 1 ≤ times_in f names

pub record AreAllOptionsOf (command : Command) (settings : List OptionSetting) : Type 0 where
  pub allowed : AreOptionsOf command settings
  pub needed : HasNeeded command (names_of settings)

-- the option may stand once more, behind options of these names and tablespaces, with some value
pub record MayStand (command : Command) (names : List OptionName) (spaces : List NewSpace) (f : OptionName) : Type 0 where
  pub taken : takes f command ≡ true
  pub more : times_in f names < (row_of f).most
  pub pages : (row_of f).form ≡ Some form.Space → pages_of_spaces spaces + 2 ≤ pages_allowed

-- no tablespace among these has the id
abbrev pub IsFree : ℕ → List NewSpace → Type 0
IsFree id spaces = All (λ space. space.space ≢ id) spaces

-- a value of the right form that may stand behind these tablespaces
unfoldable pub Joins : List NewSpace → Option OptionValue → Type 0
Joins spaces (Some (value.Space space)) = IsFree space.space spaces × (pages_of_spaces spaces + space.pages ≤ pages_allowed)
Joins spaces _ = Unit {0}

-- the option may stand behind options of these names and tablespaces
pub record MayFollow (command : Command) (names : List OptionName) (spaces : List NewSpace) (s : OptionSetting) : Type 0 where
  pub room : MayStand command names spaces s.name
  pub set : IsSetTo (row_of s.name).form s.value
  pub joins : Joins spaces s.value

-- a word that names an option, behind which none of the option's values may follow
pub record IsBadValue (command : Command) (names : List OptionName) (spaces : List NewSpace) (word : Argument) (next : Option (Bor Argument)) : Type 0 where
  pub option : OptionName
  pub named : word ≡ (row_of option).word
  pub room : MayStand command names spaces option
  pub refused : (v : Option OptionValue) → AreWordsOf next v → IsSetTo (row_of option).form v → Joins spaces v → ⊥

-- why no option of these words may follow; want of memory alone is free
abbrev pub IsSettingFault : Command → List OptionName → List NewSpace → Argument → Option (Bor Argument) → SettingFault → Type 0
IsSettingFault command names spaces word next fault.Name = (f : OptionName) → word ≡ (row_of f).word → MayStand command names spaces f → ⊥
IsSettingFault command names spaces word next fault.Value = IsBadValue command names spaces word next
IsSettingFault command names spaces word next fault.OutOfMemory = Unit {0}
