-- What options ask for.
use Rattle.std.specs.Prelude.{ℕ, List, [], ◌∷◌, length, Option, Some, None, unwrap_or, if◌then◌else◌, nat_lt}
use Rattle.std.specs.List.{filter_map}
use Rattle.std.specs.Str.{bytes_eq}
use Rattle.aes_core.specs.declared.algorithm.Algorithm.{Algorithm}
use Rattle.aes_core.specs.declared.algorithm.Algorithm.TheVariants.{Cbc}
use Rattle.disk_model.specs.declared.calls.Choice.{Choice}
use Rattle.disk_model.specs.declared.calls.Choice.TheVariants.{Lost}
use Rattle.key_file.specs.declared.derivation.KeyDigest.{KeyDigest}
use Rattle.key_file.specs.declared.derivation.KeyDigest.TheVariants.{Sha1}
use Rattle.keyd_words.specs.declared.table.OptionName.{OptionName}
use Rattle.keyd_words.specs.declared.text.NewSpace.{NewSpace}
use Rattle.keyd_words.specs.declared.table.OptionName.TheVariants as name
use Rattle.keyd_words.specs.declared.value.OptionValue.{OptionValue}
use Rattle.keyd_words.specs.declared.value.OptionValue.TheVariants as value
use Rattle.keyd_words.specs.declared.setting.OptionSetting.{OptionSetting}
use Rattle.keyd_words.specs.declared.plan.KeyOptions.{KeyOptions}
use Rattle.keyd_words.specs.declared.plan.CreateOptions.{CreateOptions}
use Rattle.keyd_words.specs.declared.plan.StepOptions.{StepOptions}
use Rattle.keyd_words.specs.declared.plan.RunOptions.{RunOptions}
use Rattle.keyd_words.specs.declared.plan.CrashOptions.{CrashOptions}
use Rattle.keyd_words.specs.declared.plan.DrillOptions.{DrillOptions}
use Rattle.keyd_words.specs.Table.{Argument, row_of}
use Rattle.keyd_words.specs.Settings.{times_set, spaces_of}

-- the first that is there
abbrev pub first_of_two : {X : Type 0} → Option X → Option X → Option X
first_of_two (Some x) other = Some x
first_of_two None other = other

-- the last answer that the elements of a list give
unfoldable pub last_found : {X Y : Type 0} → (X → Option Y) → List X → Option Y
last_found f [] = None
last_found f (x ∷ xs) = first_of_two (last_found f xs) (f x)

unfoldable pub file_name_in_value : Option OptionValue → Option Argument
file_name_in_value (Some (value.FileName text)) = Some text
file_name_in_value _ = None

unfoldable pub file_key_in_value : Option OptionValue → Option Argument
file_key_in_value (Some (value.FileKey text)) = Some text
file_key_in_value _ = None

unfoldable pub digest_in_value : Option OptionValue → Option KeyDigest
digest_in_value (Some (value.Digest d)) = Some d
digest_in_value _ = None

unfoldable pub algorithm_in_value : Option OptionValue → Option Algorithm
algorithm_in_value (Some (value.Algorithm a)) = Some a
algorithm_in_value _ = None

unfoldable pub first_choices_in_value : Option OptionValue → Option (List Choice)
first_choices_in_value (Some (value.FirstChoices choices)) = Some choices
first_choices_in_value _ = None

unfoldable pub second_choices_in_value : Option OptionValue → Option (List Choice)
second_choices_in_value (Some (value.SecondChoices choices)) = Some choices
second_choices_in_value _ = None

-- the number that a named option is set to, where it is the option asked for
unfoldable pub number_for : OptionName → OptionName → Option OptionValue → Option ℕ
number_for f g (Some (value.Number n)) = if bytes_eq (row_of g).word (row_of f).word then Some n else None
number_for f g _ = None

-- what options are set to
abbrev pub number_set : OptionName → List OptionSetting → Option ℕ
number_set f settings = last_found (λ s. number_for f s.name s.value) settings

abbrev pub file_key_set : List OptionSetting → Option Argument
file_key_set settings = last_found (λ s. file_key_in_value s.value) settings

abbrev pub digest_set : List OptionSetting → Option KeyDigest
digest_set settings = last_found (λ s. digest_in_value s.value) settings

abbrev pub algorithm_set : List OptionSetting → Option Algorithm
algorithm_set settings = last_found (λ s. algorithm_in_value s.value) settings

abbrev pub first_choices_set : List OptionSetting → Option (List Choice)
first_choices_set settings = last_found (λ s. first_choices_in_value s.value) settings

abbrev pub second_choices_set : List OptionSetting → Option (List Choice)
second_choices_set settings = last_found (λ s. second_choices_in_value s.value) settings

-- the names of the key files, in order
abbrev pub file_names : List OptionSetting → List Argument
file_names settings = filter_map (λ s. file_name_in_value s.value) settings

-- SHA-1 by default; the active version is by default the number of key files
abbrev pub keys_with : List Argument → Option Argument → Option KeyDigest → Option ℕ → KeyOptions
keys_with key_files filekey digest active = record {
  key_files = key_files;
  filekey = filekey;
  digest = unwrap_or digest Sha1;
  active = unwrap_or active (length key_files);
}

-- 256 blocks and CBC by default
abbrev pub store_with : KeyOptions → List NewSpace → Option ℕ → Option Algorithm → CreateOptions
store_with keys spaces log algorithm = record { keys = keys; spaces = spaces; log = unwrap_or log 256; algorithm = unwrap_or algorithm Cbc }

-- an age of 1 by default, and no binary log
abbrev pub step_with : KeyOptions → Option ℕ → ℕ → StepOptions
step_with keys age binlogs = record { keys = keys; age = unwrap_or age 1; binlog = nat_lt 0 binlogs }

-- one thread of each kind by default
abbrev pub run_with : StepOptions → Option ℕ → Option ℕ → RunOptions
run_with step flushers rotators = record { step = step; flushers = unwrap_or flushers 1; rotators = unwrap_or rotators 1 }

-- by default all that isn't synced is lost
unfoldable pub crash_plan : Option ℕ → Option (List Choice) → CrashOptions
crash_plan stop choices = record { stop = stop; choices = unwrap_or choices (Lost ∷ []) }

-- a second session is run where its stop or its choices stand
unfoldable pub second_plan : Option ℕ → Option (List Choice) → Option CrashOptions
second_plan None None = None
second_plan stop choices = Some (crash_plan stop choices)

abbrev pub drill_with : CreateOptions → Option ℕ → CrashOptions → Option ℕ → Option CrashOptions → DrillOptions
drill_with store age first reopen second = record { store = store; age = unwrap_or age 1; first = first; reopen = reopen; second = second }

-- What options ask for

abbrev pub key_plan : List OptionSetting → KeyOptions
key_plan settings = keys_with (file_names settings) (file_key_set settings) (digest_set settings) (number_set name.Active settings)

abbrev pub create_plan : List OptionSetting → CreateOptions
create_plan settings = store_with (key_plan settings) (spaces_of settings) (number_set name.Log settings) (algorithm_set settings)

abbrev pub step_plan : List OptionSetting → StepOptions
step_plan settings = step_with (key_plan settings) (number_set name.Age settings) (times_set name.Binlog settings)

abbrev pub run_plan : List OptionSetting → RunOptions
run_plan settings = run_with (step_plan settings) (number_set name.Flushers settings) (number_set name.Rotators settings)

abbrev pub drill_plan : List OptionSetting → DrillOptions
drill_plan settings =
    drill_with (create_plan settings) (number_set name.Age settings) (crash_plan (number_set name.Stop settings) (first_choices_set settings)) (number_set name.Reopen settings)
    (second_plan (number_set name.Stop2 settings) (second_choices_set settings))
