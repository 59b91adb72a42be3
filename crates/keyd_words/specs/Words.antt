-- The words of `keyd`, without the program's name: which lists are valid, and what each says.
use Rattle.std.specs.Prelude.{◌≡◌, ℕ, ◌+◌, ◌≤◌, ◌<◌, ◌^◌, List, [], ◌∷◌, ◌++◌, length, take, Contains}
use Rattle.std.specs.Fmt.{decimal}
use Rattle.keyd_words.specs.declared.fault.WordsFault.{WordsFault}
use Rattle.keyd_words.specs.declared.fault.WordsFault.TheVariants as fault
use Rattle.keyd_words.specs.declared.plan.MakeOptions.{MakeOptions}
use Rattle.keyd_words.specs.declared.plan.Plan.{Plan}
use Rattle.keyd_words.specs.declared.plan.Plan.TheVariants.{Create, Step, Run, Drill, Recover, Report, Make}
use Rattle.keyd_words.specs.declared.setting.OptionSetting.{OptionSetting}
use Rattle.keyd_words.specs.declared.command.Command.{Command}
use Rattle.keyd_words.specs.declared.command.Command.TheVariants as command
use Rattle.keyd_words.specs.Plans.{key_plan, create_plan, step_plan, run_plan, drill_plan}
use Rattle.keyd_words.specs.Settings.{settings_words, AreAllOptionsOf}
use Rattle.keyd_words.specs.Table.{Argument, command_word}

-- the words are the command's, and then these options, in any order
pub record IsListOf (c : Command) (words : List Argument) (settings : List OptionSetting) : Type 0 where
  pub written : words ≡ command_word c ∷ settings_words settings
  pub whole : AreAllOptionsOf c settings

-- the words of a command that is one of these, with options that are so
pub record Asks (built : List Command) (words : List Argument) (c : Command) (Are : List OptionSetting → Type 0) : Type 0 where
  pub known : Contains built c
  pub settings : List OptionSetting
  pub list : IsListOf c words settings
  pub are : Are settings

-- make NUMBER COUNT
pub record AsksToMake (words : List Argument) (p : MakeOptions) : Type 0 where
  pub written : words ≡ command_word command.Make ∷ decimal p.number ∷ decimal p.count ∷ []
  pub number_to : p.number < 2 ^ 64
  pub count_from : 1 ≤ p.count
  pub count_to : p.count ≤ 4000

-- What a list of words says, where the commands are these. A list that says something is valid.
unfoldable pub Says : List Command → List Argument → Plan → Type 0
Says built words (Create p) = Asks built words command.Create (λ settings. p ≡ create_plan settings)
Says built words (Step p) = Asks built words command.Step (λ settings. p ≡ step_plan settings)
Says built words (Run p) = Asks built words command.Run (λ settings. p ≡ run_plan settings)
Says built words (Drill p) = Asks built words command.Drill (λ settings. p ≡ drill_plan settings)
Says built words (Recover p) = Asks built words command.Recover (λ settings. p ≡ key_plan settings)
Says built words (Report p) = Asks built words command.Report (λ settings. p ≡ key_plan settings)
Says built words (Make p) = Contains built command.Make × AsksToMake words p

abbrev pub IsValid : List Command → List Argument → Type 0
IsValid built words = (plan : Plan) × Says built words plan

-- some valid list begins with these words
abbrev pub BeginsList : (List Argument → Type 0) → List Argument → Type 0
BeginsList Valid words = (more : List Argument) × Valid (words ++ more)

-- The words are no valid list, and i is the least such that no valid list begins with the first i + 1 of them, or, where there is none, their number.
pub record IsUsageAt (Valid : List Argument → Type 0) (words : List Argument) (i : ℕ) : Type 0 where
  pub within : i ≤ length words
  pub least : (j : ℕ) → j < i → BeginsList Valid (take (j + 1) words)
  pub refused : i < length words → BeginsList Valid (take (i + 1) words) → ⊥
  pub faulty : Valid words → ⊥

-- why the words are refused; want of memory alone is free
abbrev pub IsWordsFault : (List Argument → Type 0) → List Argument → WordsFault → Type 0
IsWordsFault Valid words (fault.Usage i) = IsUsageAt Valid words i
IsWordsFault Valid words fault.OutOfMemory = Unit {0}

-- the words say nothing else
abbrev pub SaysOnly : List Command → List Argument → Plan → Type 0
SaysOnly built words plan = (other : Plan) → Says built words other → other ≡ plan

-- the command's own lists
abbrev pub IsListFor : Command → List Argument → Type 0
IsListFor c words = (settings : List OptionSetting) × IsListOf c words settings

-- the first word is the command's
abbrev pub StartsWith : Command → List Argument → Type 0
StartsWith c words = (rest : List Argument) × (words ≡ command_word c ∷ rest)
