-- The words of the command line, as `clap` reads them, and what they ask for.
use Rattle.std.specs.Prelude.{ℕ, ◌^◌, ◌-◌, Bool, true, false, List, [], ◌∷◌, codes, map, String, string_bytes, unwrap_or, if◌then◌else◌}
use Rattle.std.specs.Prelude.{Option, Some, None}
use Rattle.std.specs.Str.{bytes_eq}
use Rattle.std.specs.Str.Parse.{digits_value, without_leading_plus}
use Rattle.clap.specs.ValueTests.{is_unsigned_in}
use Rattle.clap.specs.Words.{App, Rule, Text, first_of, matches_of, new_rule}
use Rattle.clap.specs.Simple.{new_shape}
use Rattle.clap.specs.declared.builder.action.ArgAction.TheVariants.{SetTrue}
use Rattle.clap.specs.declared.builder.value_parser.ValueParser.TheVariants as parser
use Rattle.io_core.specs.Files.{Files}
use Rattle.innochecksum_cli.specs.Inspection.{Report, inspected}
use Rattle.innochecksum_cli.specs.declared.options.Options.{Options}

-- an option without a value, and one whose value is a number below 2^64; its long name is its id
abbrev pub flag : Text → ℕ → Rule
flag id short = record (new_rule id) { short = Some short; long = Some id; action = Some SetTrue }

abbrev pub number : Text → ℕ → Rule
number id short = record (new_rule id) {
  short = Some short;
  long = Some id;
  value_names = 1;
  parser = Some (parser.Unsigned 0 18446744073709551615);
}

-- the one argument, which has to be there
abbrev pub file : Rule
file = record (new_rule (codes "FILE")) { required = true }

-- the simple command: its options -c, -s, -e, -p, -a with 0 by default, and -S, and the file
abbrev pub rules : List Rule
rules = flag (codes "count") 99 ∷ number (codes "start-page") 115 ∷ number (codes "end-page") 101 ∷ number (codes "page") 112
    ∷ record (number (codes "allow-mismatches") 97) { defaults = codes "0" ∷ [] } ∷ flag (codes "page-type-summary") 83 ∷ file ∷ []

abbrev pub command : App
command = record {
  top = record (new_shape (codes "innochecksum")) { rules = rules; no_binary_name = true; has_version = true };
  subs = [];
}

-- the value of an option or argument, where the words give it one
abbrev pub Values : Type 0
Values = Text → Option Text

-- the values that the command's matches on these words have
abbrev pub values_in : {Z : Type 0} → List (String Z) → Values
values_in words id = first_of id (matches_of command (map string_bytes words))

abbrev pub is_flagged : Option Text → Bool
is_flagged None = false
is_flagged (Some text) = bytes_eq text (codes "true")

-- the number that a value says, and another where there is none
abbrev pub number_or : Option Text → ℕ → ℕ
number_or None other = other
number_or (Some text) other =
    if is_unsigned_in 0 18446744073709551615 text then digits_value 10 (without_leading_plus text) else other

-- What is asked for. A page that is given alone is the first and the last.
unfoldable pub options_of : Values → Options
options_of value = record {
  count = is_flagged (value (codes "count"));
  first = number_or (value (codes "page")) (number_or (value (codes "start-page")) 0);
  last = number_or (value (codes "page")) (number_or (value (codes "end-page")) (2 ^ 64 - 1));
  allowed = number_or (value (codes "allow-mismatches")) 0;
  summary = is_flagged (value (codes "page-type-summary"));
}

unfoldable pub file_name_of : Values → Text
file_name_of value = unwrap_or (value (codes "FILE")) []

-- The report on the file that the words name, as they ask for it.
unfoldable pub inspect_words : {Z : Type 0} → List (String Z) → Files → Report
inspect_words words files = inspected (options_of (values_in words)) (files (file_name_of (values_in words)))
