-- What the value of an option is, and the word that writes it.
use Rattle.std.specs.Prelude.{◌≡◌, ◌⊎◌, ℕ, ◌≤◌, Bool, true, false, List, [], ◌∷◌, ◌++◌, length, map, codes, Option, Some, None, MatchOption}
use Rattle.std.specs.Fmt.{decimal}
use Rattle.std.specs.Borrow.{Bor}
use Rattle.aes_core.specs.declared.algorithm.Algorithm.{Algorithm}
use Rattle.aes_core.specs.declared.algorithm.Algorithm.TheVariants as algorithm
use Rattle.disk_model.specs.declared.calls.Choice.{Choice}
use Rattle.disk_model.specs.declared.calls.Choice.TheVariants.{Lost, Kept, Torn}
use Rattle.key_file.specs.declared.derivation.KeyDigest.{KeyDigest}
use Rattle.key_file.specs.declared.derivation.KeyDigest.TheVariants as digest
use Rattle.keyd_words.specs.declared.fault.SettingFault.{SettingFault}
use Rattle.keyd_words.specs.declared.fault.SettingFault.TheVariants as fault
use Rattle.keyd_words.specs.declared.table.ValueForm.{ValueForm}
use Rattle.keyd_words.specs.declared.table.ValueForm.TheVariants as form
use Rattle.keyd_words.specs.declared.text.NewSpace.{NewSpace}
use Rattle.keyd_words.specs.declared.value.OptionValue.{OptionValue}
use Rattle.keyd_words.specs.declared.value.OptionValue.TheVariants as value
use Rattle.keyd_words.specs.Table.{Argument}

-- the greatest id of a tablespace
abbrev pub greatest_space : ℕ
greatest_space = 4294967279

-- the most pages of the tablespaces of a store, together
abbrev pub pages_allowed : ℕ
pages_allowed = 16384

-- a number from low to high, in decimal digits without a sign and without a leading zero
pub record WritesNumber (text : List ℕ) (low high n : ℕ) : Type 0 where
  pub spelled : text ≡ decimal n
  pub from : low ≤ n
  pub to : n ≤ high

unfoldable pub digest_word : KeyDigest → Argument
digest_word digest.Sha1 = codes "sha1"
digest_word digest.Sha256 = codes "sha256"

unfoldable pub algorithm_word : Algorithm → Argument
algorithm_word algorithm.Cbc = codes "cbc"
algorithm_word algorithm.Ctr = codes "ctr"

unfoldable pub kind_word : Bool → Argument
kind_word false = codes "plain"
kind_word true = codes "cipher"

-- ID:PAGES:KEY:plain, or ID:PAGES:KEY:cipher
abbrev pub space_text : NewSpace → Argument
space_text s = decimal s.space ++ (58 ∷ (decimal s.pages ++ (58 ∷ (decimal s.key_id ++ (58 ∷ kind_word s.ciphered)))))

pub record IsNewSpace (s : NewSpace) : Type 0 where
  pub id_from : 1 ≤ s.space
  pub id_to : s.space ≤ greatest_space
  pub pages_from : 2 ≤ s.pages
  pub pages_to : s.pages ≤ pages_allowed
  pub key_from : 1 ≤ s.key_id
  pub key_to : s.key_id ≤ 4294967295

-- l lost, k kept, t torn
unfoldable pub choice_letter : Choice → ℕ
choice_letter Lost = 108
choice_letter Kept = 107
choice_letter Torn = 116

-- the word that writes a value
unfoldable pub value_word : OptionValue → Argument
value_word (value.FileName text) = text
value_word (value.FileKey text) = text
value_word (value.Number n) = decimal n
value_word (value.Digest d) = digest_word d
value_word (value.Algorithm a) = algorithm_word a
value_word (value.Space s) = space_text s
value_word (value.FirstChoices choices) = map choice_letter choices
value_word (value.SecondChoices choices) = map choice_letter choices

-- 1 to 64 choices
abbrev pub AreChoices : List Choice → Type 0
AreChoices choices = (1 ≤ length choices) × (length choices ≤ 64)

-- a value of a form, within its bounds
unfoldable pub IsValueOf : ValueForm → OptionValue → Type 0
IsValueOf form.FileName (value.FileName text) = Unit {0}
IsValueOf form.FileKey (value.FileKey text) = Unit {0}
IsValueOf (form.Number low high) (value.Number n) = (low ≤ n) × (n ≤ high)
IsValueOf form.Digest (value.Digest d) = Unit {0}
IsValueOf form.Algorithm (value.Algorithm a) = Unit {0}
IsValueOf form.Space (value.Space s) = IsNewSpace s
IsValueOf form.FirstChoices (value.FirstChoices choices) = AreChoices choices
IsValueOf form.SecondChoices (value.SecondChoices choices) = AreChoices choices
IsValueOf _ _ = ⊥

-- what an option of this form is set to: a value where it has one
unfoldable pub IsSetTo : Option ValueForm → Option OptionValue → Type 0
IsSetTo None None = Unit {0}
IsSetTo (Some f) (Some v) = IsValueOf f v
IsSetTo _ _ = ⊥

-- the words behind an option's word
unfoldable pub value_words : Option OptionValue → List Argument
value_words None = []
value_words (Some v) = value_word v ∷ []

-- the words of the value are the first of what follows the option's word
abbrev pub AreWordsOf : Option (Bor Argument) → Option OptionValue → Type 0
AreWordsOf next v = (value_words v ≡ []) ⊎ MatchOption next ⊥ (λ word. value_words v ≡ word.now ∷ [])

-- want of memory aside, the value is refused for this
abbrev pub ForMisfit : SettingFault → Type 0 → Type 0
ForMisfit fault.Name P = ⊥
ForMisfit fault.Value P = P
ForMisfit fault.OutOfMemory P = Unit {0}
