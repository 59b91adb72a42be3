-- What the words of `drill` ask for.
use Rattle.std.specs.Prelude.{◌≡◌, ℕ, if◌then◌else◌, List, [], ◌∷◌, map, Option, Some, None, MatchOption}
use Rattle.std.specs.Str.{bytes_eq}
use Rattle.disk_model.specs.declared.calls.Choice.{Choice}
use Rattle.disk_model.specs.declared.calls.Choice.TheVariants.{Lost}
use Rattle.keyd_cli.specs.Printed.{letter_of}
use Rattle.keyd_cli.specs.declared.words.Flag.{Flag}
use Rattle.keyd_cli.specs.declared.words.Flag.TheVariants as flag
use Rattle.keyd_cli.specs.declared.words.SpaceWords.{SpaceWords}
use Rattle.keyd_cli.specs.Words.{CommandWord, flag_word, IsSpace, IsStopTurn, IsChoice}

-- the value of an option among options and their values, two by two
unfoldable pub value_in : Flag → List CommandWord → Option CommandWord
value_in f [] = None
value_in f (word ∷ []) = None
value_in f (word ∷ value ∷ words) = if bytes_eq word (flag_word f) then Some value else value_in f words

-- the space of these options
abbrev pub IsSpaceIn : List CommandWord → SpaceWords → Type 0
IsSpaceIn options space = MatchOption (value_in flag.Space options) ⊥ (λ v. IsSpace v space.space space.pages space.key_id)

-- their stop, if there is one
abbrev pub IsStopIn : List CommandWord → Option ℕ → Type 0
IsStopIn options stop = MatchOption (value_in flag.Stop options) (stop ≡ None) (λ v. MatchOption stop ⊥ (IsStopTurn v))

-- their choices, by default one that loses all
abbrev pub AreChoicesIn : List CommandWord → List Choice → Type 0
AreChoicesIn options choices = MatchOption (value_in flag.Choice options) (choices ≡ Lost ∷ []) (λ v. (map letter_of choices ≡ v) × IsChoice v)
