use Rattle.std.proofs.Common.{◌≡◌, ◌∙◌, ◌≤◌, sym, ap, subst, ℕ, List, Option, Some, None, arith}
use Rattle.std.proofs.lemmas.Option.{none-some}
use Rattle.disk_model.specs.Event.{reads}
use Rattle.disk_model.specs.declared.names.FileName.TheVariants.{Log}
use Rattle.disk_model.proofs.Moments.{at_is, at_both, at_each}
use Rattle.places.proofs.Steps.{shown_read}
use Rattle.store_files.specs.Header.{header_in}
use Rattle.store_form.specs.Said.{header_said}
use Rattle.store_files.proofs.HeaderBounds.{header_allowed}
use Rattle.recovery.proofs.header.find_header.Goals as goal

pub returns-in-Some-clause-found : goal.returns-in-Some-clause-found
returns-in-Some-clause-found g c = at_both (λ es length bytes. record {
  long = let no = c.if-branch-lt-LEAST_LOG.false in omega (arith, length, no);
  is_header = ap header_in (sym (bytes ∙ shown_read Log 4096 0 es)) ∙ c.in-Some.ensures.some;
}) c.in_ok-file_length.ensures.length (at_is (sym c.in_ok-file_length.ensures.same) c.in_ok-read.ensures.bytes)

pub returns-in-Some-clause-allowed : goal.returns-in-Some-clause-allowed
returns-in-Some-clause-allowed g c = header_allowed _ (header_said c.in-Some.header) c.in-Some.ensures.some

pub returns-in-None-clause-refused : goal.returns-in-None-clause-refused
returns-in-None-clause-refused g c =
    at_each (λ es bytes h is. none-some h (sym c.in-None.ensures.none ∙ ap header_in (bytes ∙ shown_read Log 4096 0 es) ∙ is.is_header)) (at_is (sym c.in_ok-file_length.ensures.same) c.in_ok-read.ensures.bytes)
