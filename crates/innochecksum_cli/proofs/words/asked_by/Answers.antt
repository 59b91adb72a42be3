use Rattle.std.proofs.Common.{rules, refl}
use Rattle.innochecksum_cli.specs.Words.{file_name_of, options_of}
use Rattle.innochecksum_cli.proofs.words.asked_by.Goals as goal

pub returns-clause-options : goal.returns-clause-options
unfolding options_of
returns-clause-options c =
    rw (c.is_flagged.ensures, c.number_or.ensures, c.number_or-2.ensures, c.number_or-3.ensures, c.is_flagged-2.ensures, c.number_or-start.ensures, c.number_or-end.ensures) refl

pub returns-clause-name : goal.returns-clause-name
unfolding file_name_of
returns-clause-name c = search rules
