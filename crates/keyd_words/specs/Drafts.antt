-- What is known of a plan while its options are read.
use Rattle.std.specs.Prelude.{◌≡◌, ℕ, List, Option, Some, None, if◌then◌else◌}
use Rattle.std.specs.Str.{bytes_eq}
use Rattle.keyd_words.specs.declared.table.OptionName.{OptionName}
use Rattle.keyd_words.specs.declared.draft.NamedNumber.{NamedNumber}
use Rattle.keyd_words.specs.declared.draft.Draft.{Draft}
use Rattle.keyd_words.specs.declared.setting.OptionSetting.{OptionSetting}
use Rattle.keyd_words.specs.Table.{Argument, row_of}
use Rattle.keyd_words.specs.Settings.{names_of, times_in, spaces_of}
use Rattle.keyd_words.specs.Plans.{last_found, number_set, file_key_set, digest_set, algorithm_set, first_choices_set, second_choices_set, file_names, keys_with, store_with, step_with, run_with, crash_plan, second_plan, drill_with}
use Rattle.keyd_words.specs.Words.{IsListOf}
use Rattle.keyd_words.specs.declared.command.Command.{Command}
use Rattle.keyd_words.specs.declared.table.OptionName.TheVariants as name
use Rattle.keyd_words.specs.declared.value.OptionValue.{OptionValue}
use Rattle.keyd_words.specs.declared.value.OptionValue.TheVariants as value
use Rattle.keyd_words.specs.declared.plan.KeyOptions.{KeyOptions}
use Rattle.keyd_words.specs.declared.plan.CreateOptions.{CreateOptions}
use Rattle.keyd_words.specs.declared.plan.StepOptions.{StepOptions}
use Rattle.keyd_words.specs.declared.plan.RunOptions.{RunOptions}
use Rattle.keyd_words.specs.declared.plan.DrillOptions.{DrillOptions}

-- the number of an option among numbers with their options' names
abbrev pub number_under : OptionName → NamedNumber → Option ℕ
number_under f x = if bytes_eq (row_of x.name).word (row_of f).word then Some x.number else None

abbrev pub number_among : OptionName → List NamedNumber → Option ℕ
number_among f numbers = last_found (number_under f) numbers

-- the number in an option's value, with its name
unfoldable pub number_named : OptionName → Option OptionValue → Option NamedNumber
number_named f (Some (value.Number n)) = Some (record { name = f; number = n })
number_named _ _ = None

-- the draft has what these options are set to
pub record TellsOptions (draft : Draft) (settings : List OptionSetting) : Type 0 where
  pub names : draft.names.items ≡ names_of settings
  pub key_files : draft.key_files ≡ file_names settings
  pub filekey : draft.filekey ≡ file_key_set settings
  pub digest : draft.digest ≡ digest_set settings
  pub algorithm : draft.algorithm ≡ algorithm_set settings
  pub spaces : draft.spaces ≡ spaces_of settings
  pub first : draft.first ≡ first_choices_set settings
  pub second : draft.second ≡ second_choices_set settings
  pub numbers : (f : OptionName) → number_among f draft.numbers.items ≡ number_set f settings

-- what the draft asks for
abbrev pub number_drafted : OptionName → Draft → Option ℕ
number_drafted f draft = number_among f draft.numbers.items

abbrev pub keys_drafted : Draft → KeyOptions
keys_drafted draft = keys_with draft.key_files draft.filekey draft.digest (number_drafted name.Active draft)

abbrev pub store_drafted : Draft → CreateOptions
store_drafted draft = store_with (keys_drafted draft) draft.spaces (number_drafted name.Log draft) draft.algorithm

abbrev pub step_drafted : Draft → StepOptions
step_drafted draft = step_with (keys_drafted draft) (number_drafted name.Age draft) (times_in name.Binlog draft.names.items)

abbrev pub run_drafted : Draft → RunOptions
run_drafted draft = run_with (step_drafted draft) (number_drafted name.Flushers draft) (number_drafted name.Rotators draft)

abbrev pub drill_drafted : Draft → DrillOptions
drill_drafted draft =
    drill_with (store_drafted draft) (number_drafted name.Age draft) (crash_plan (number_drafted name.Stop draft) draft.first) (number_drafted name.Reopen draft)
    (second_plan (number_drafted name.Stop2 draft) draft.second)

-- the draft of words that are a command's list
pub record IsDraftOf (c : Command) (words : List Argument) (draft : Draft) : Type 0 where
  pub settings : List OptionSetting
  pub list : IsListOf c words settings
  pub tells : TellsOptions draft settings
