use Rattle.std.proofs.Common.{rules, ◌≡◌, ◌∙◌, ℕ, List, sym, subst, IsErrAnd}
use Rattle.cause_core.proofs.Causes.{handed}
use Rattle.disk_model.specs.Past.{At}
use Rattle.disk_model.proofs.Moments.{at_both, at_each, at_is}
use Rattle.doublewrite.specs.declared.refuse.OpenRefuse.{OpenRefuse}
use Rattle.key_ring.specs.Ring.{RingEntry}
use Rattle.store_form.specs.Said.{header_said}
use Rattle.recovery.specs.Files.{store_files_of}
use Rattle.recovery.specs.Looking.{FoundFiles, IsOpenRefusal}
use Rattle.recovery.specs.Stages.{IsCheckpointRefusal, IsLengthRefusal}
use Rattle.recovery.proofs.OpenRefusals.{checkpoint_refused, header_refused, lengths_refused}
use Rattle.recovery.proofs.looking.find_log.Goals as goal

pub returns-in_err-header-clause-refused : goal.returns-in_err-header-clause-refused
returns-in_err-header-clause-refused g c =
    let past = g.D.Disk.past c.args.disk.now in
    let why = c.in_err-header.field-0.0 in
    let is : IsErrAnd c.from_residual.result (λ e. e ≡ why) = search rules in
    handed (λ (e : OpenRefuse). (keys : List RingEntry) (active : ℕ) → IsOpenRefusal keys active past e) c.from_residual.result why is (λ keys active. header_refused keys active past why c.in_err-header.ensures.refused)

pub returns-in_err-check_lengths-clause-refused : goal.returns-in_err-check_lengths-clause-refused
returns-in_err-check_lengths-clause-refused g c =
    let past = g.D.Disk.past c.args.disk.now in
    let h = header_said c.in_ok-header.header in
    let why = c.in_err-check_lengths.field-0.0 in
    let is : IsErrAnd c.from_residual-in_err-check_lengths.result (λ e. e ≡ why) = search rules in
    handed (λ (e : OpenRefuse). (keys : List RingEntry) (active : ℕ) → IsOpenRefusal keys active past e) c.from_residual-in_err-check_lengths.result why is
    (λ keys active. lengths_refused keys active past h c.in_ok-header.ensures.found why (subst (λ p. IsLengthRefusal (store_files_of h) p why) c.in_ok-header.ensures.same c.in_err-check_lengths.ensures.refused))

pub returns-in_err-checkpoint-clause-refused : goal.returns-in_err-checkpoint-clause-refused
returns-in_err-checkpoint-clause-refused g c =
    let past = g.D.Disk.past c.args.disk.now in
    let h = header_said c.in_ok-header.header in
    let why = c.in_err-checkpoint.field-0.0 in
    let is : IsErrAnd c.from_residual-in_err-checkpoint.result (λ e. e ≡ why) = search rules in
    let files : At (FoundFiles h) past = at_both (λ es formatted have. record { formatted = formatted; have = have }) c.in_ok-header.ensures.found (at_is (sym c.in_ok-header.ensures.same) c.in_ok-check_lengths.ensures.have) in
    handed (λ (e : OpenRefuse). (keys : List RingEntry) (active : ℕ) → IsOpenRefusal keys active past e) c.from_residual-in_err-checkpoint.result why is
    (λ keys active. checkpoint_refused keys active past h files why (subst (λ p. IsCheckpointRefusal p why) (c.in_ok-check_lengths.ensures.same ∙ c.in_ok-header.ensures.same) c.in_err-checkpoint.ensures.refused))

pub returns-clause-found : goal.returns-clause-found
returns-clause-found g c =
    let first = c.in_ok-header.ensures.same in
    let second = c.in_ok-check_lengths.ensures.same ∙ first in
    let third = c.in_ok-checkpoint.ensures.same ∙ second in
    let have = at_is (sym first) c.in_ok-check_lengths.ensures.have in
    let newest = at_is (sym second) c.in_ok-checkpoint.ensures.found in
    let run = at_is (sym third) c.in_ok-run.ensures.run in
    record {
      here = λ es now. record {
        files = record { formatted = c.in_ok-header.ensures.found.here es now; have = have.here es now };
        newest = newest.here es now;
        run = run.here es now;
      };
    }

pub returns-in_err-header-clause-unformatted : goal.returns-in_err-header-clause-unformatted
returns-in_err-header-clause-unformatted g c = record { here = λ es now none. c.in_err-header.ensures.calls }

pub returns-in_err-check_lengths-clause-unformatted : goal.returns-in_err-check_lengths-clause-unformatted
returns-in_err-check_lengths-clause-unformatted g c = at_each (λ es formatted none. absurd (none (header_said c.in_ok-header.header) formatted)) c.in_ok-header.ensures.found

pub returns-in_err-checkpoint-clause-unformatted : goal.returns-in_err-checkpoint-clause-unformatted
returns-in_err-checkpoint-clause-unformatted g c = at_each (λ es formatted none. absurd (none (header_said c.in_ok-header.header) formatted)) c.in_ok-header.ensures.found

pub returns-in_err-run-clause-unformatted : goal.returns-in_err-run-clause-unformatted
returns-in_err-run-clause-unformatted g c = at_each (λ es formatted none. absurd (none (header_said c.in_ok-header.header) formatted)) c.in_ok-header.ensures.found

pub returns-clause-unformatted : goal.returns-clause-unformatted
returns-clause-unformatted g c = at_each (λ es formatted none. absurd (none (header_said c.in_ok-header.header) formatted)) c.in_ok-header.ensures.found
