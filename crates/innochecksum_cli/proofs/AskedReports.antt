-- The report that the words ask for.
use Rattle.std.proofs.Common.{◌≡◌, ℕ, List, String, ap₂}
use Rattle.io_core.specs.Files.{Files}
use Rattle.innochecksum_cli.specs.Inspection.{inspected}
use Rattle.innochecksum_cli.specs.Words.{inspect_words, file_name_of, options_of, values_in}
use Rattle.innochecksum_cli.specs.declared.options.Options.{Options}

pub asked_report : {Z : Type 0} (words : List (String Z)) (o : Options) (name : List ℕ) (fs : Files) → o ≡ options_of (values_in words) → name ≡ file_name_of (values_in words)
    → inspected o (fs name) ≡ inspect_words words fs
unfolding inspect_words
asked_report words o name fs options named = ap₂ (λ (p : Options) (n : List ℕ). inspected p (fs n)) options named
