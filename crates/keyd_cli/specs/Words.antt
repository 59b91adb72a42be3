-- The words of `drill`. They don't include the program's name.
use Rattle.std.specs.Prelude.{◌≡◌, ◌⊎◌, ℕ, ◌+◌, ◌≤◌, ◌<◌, List, [], ◌∷◌, ◌++◌, length, take, codes, All, count_by}
use Rattle.std.specs.Fmt.{decimal}
use Rattle.std.specs.Str.{bytes_eq}
use Rattle.keyd_cli.specs.Numbers.{IsDrillNumber}
use Rattle.keyd_cli.specs.Parts.{IsNotByte}
use Rattle.keyd_cli.specs.declared.words.Flag.{Flag}
use Rattle.keyd_cli.specs.declared.words.Flag.TheVariants.{KeyFile, FileKey, Digest, Space, Stop, Choice}

-- the most pages of a space
abbrev pub most_pages : ℕ
most_pages = 16384

-- the greatest id of a space
abbrev pub last_space_id : ℕ
last_space_id = 4294967279

abbrev pub CommandWord : Type 0
CommandWord = List ℕ

-- an option's word
unfoldable pub flag_word : Flag → CommandWord
flag_word KeyFile = codes "--key-file"
flag_word FileKey = codes "--filekey"
flag_word Digest = codes "--digest"
flag_word Space = codes "--space"
flag_word Stop = codes "--stop"
flag_word Choice = codes "--choice"

-- how often an option may stand
unfoldable pub most_of : Flag → ℕ
most_of KeyFile = 64
most_of _ = 1

abbrev pub IsNoColon : ℕ → Type 0
IsNoColon = IsNotByte 58

-- four parts with a colon between them, the last of them the word plain
pub record AreParts (value a b c : CommandWord) : Type 0 where
  pub is : value ≡ a ++ (58 ∷ (b ++ (58 ∷ (c ++ codes ":plain"))))
  pub first_free : All IsNoColon a
  pub second_free : All IsNoColon b
  pub third_free : All IsNoColon c

-- ID:PAGES:KEY:plain
abbrev pub space_value : ℕ → ℕ → ℕ → CommandWord
space_value id pages key = decimal id ++ (58 ∷ (decimal pages ++ (58 ∷ (decimal key ++ codes ":plain"))))

pub record IsSpace (value : CommandWord) (id pages key : ℕ) : Type 0 where
  pub spelled : value ≡ space_value id pages key
  pub id_from : 1 ≤ id
  pub id_to : id ≤ last_space_id
  pub pages_from : 2 ≤ pages
  pub pages_to : pages ≤ most_pages
  pub key_from : 1 ≤ key
  pub key_to : key ≤ 4294967295

abbrev pub IsStopTurn : CommandWord → ℕ → Type 0
IsStopTurn value turn = IsDrillNumber value 1 1000000 turn

-- l lost, k kept, t torn
abbrev pub IsLetter : ℕ → Type 0
IsLetter c = (c ≡ 108) ⊎ (c ≡ 107) ⊎ (c ≡ 116)

pub record IsChoice (value : CommandWord) : Type 0 where
  pub from : 1 ≤ length value
  pub to : length value ≤ 64
  pub letters : All IsLetter value

-- what may stand behind an option's word
unfoldable pub IsValue : Flag → CommandWord → Type 0
IsValue KeyFile value = Unit {0}
IsValue FileKey value = Unit {0}
IsValue Digest value = (value ≡ codes "sha1") ⊎ (value ≡ codes "sha256")
IsValue Space value = (id : ℕ) × (pages : ℕ) × (key : ℕ) × IsSpace value id pages key
IsValue Stop value = (turn : ℕ) × IsStopTurn value turn
IsValue Choice value = IsChoice value

-- an option's word and its value, two by two
unfoldable pub ArePairs : List CommandWord → Type 0
ArePairs [] = Unit {0}
ArePairs (word ∷ []) = ⊥
ArePairs (word ∷ value ∷ words) = ((f : Flag) × (word ≡ flag_word f) × IsValue f value) × ArePairs words

-- every second word, from the first on
unfoldable pub option_words : List CommandWord → List CommandWord
option_words [] = []
option_words (word ∷ []) = word ∷ []
option_words (word ∷ value ∷ words) = word ∷ option_words words

-- how often an option's word stands among them
abbrev pub occurrences : Flag → List CommandWord → ℕ
occurrences f words = count_by (λ word. bytes_eq word (flag_word f)) (option_words words)

-- Options and their values in any order, none too often.
pub record AreOptions (words : List CommandWord) : Type 0 where
  pub pairs : ArePairs words
  pub limits : (f : Flag) → occurrences f words ≤ most_of f

-- a list of words of `drill`
pub record IsDrill (words : List CommandWord) : Type 0 where
  pub options : List CommandWord
  pub begins : words ≡ codes "drill" ∷ options
  pub are : AreOptions options
  pub has_key_file : 1 ≤ occurrences KeyFile options
  pub has_space : 1 ≤ occurrences Space options

-- some list of words of `drill` begins with these
pub record CanBegin (words : List CommandWord) : Type 0 where
  pub more : List CommandWord
  pub whole : IsDrill (words ++ more)

-- The words are no list, and i is the least such that none begins with the first i + 1 of them, or it is their number.
pub record IsUsage (words : List CommandWord) (i : ℕ) : Type 0 where
  pub within : i ≤ length words
  pub least : (j : ℕ) → j ≤ i → CanBegin (take j words)
  pub refused : i < length words → CanBegin (take (i + 1) words) → ⊥
  pub faulty : IsDrill words → ⊥
