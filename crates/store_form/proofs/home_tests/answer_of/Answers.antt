use Rattle.std.proofs.Common.{List, ap}
use Rattle.store_files.specs.Header.{HeldSpace}
use Rattle.store_files.specs.Pages.{has_page}
use Rattle.store_form.proofs.home_tests.answer_of.Goals as goal

pub read_page-requires-clause-page : goal.read_page-requires-clause-page
read_page-requires-clause-page g c = ap (λ (hs : List HeldSpace). has_page hs 5 3) c.requires.one
