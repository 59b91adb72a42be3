use Rattle.std.proofs.Common.{rules, Err, OnOk, IsErrOf, sym, ◌≡◌, false, None, refl, ap, ◌∙◌, subst}
use Rattle.disk_model.specs.Event.{Tell}
use Rattle.disk_model.specs.Past.{HasDiskCause, HasDiskMemoryCause}
use Rattle.disk_model.specs.declared.names.DiskError.TheVariants.{NoMemory}
use Rattle.counted_disk.specs.Counting.{faults_told, refusals_told, IsCounted, turns_of_event}
use Rattle.std.proofs.lemmas.Option.{none-some, same_Some}
use Rattle.counted_disk.proofs.CallCounts.{runs_on_call, told_at_want, told_cause, told_memory, told_no_fault, told_no_refusal, went_one, may_event, adds_same, on_ok, on_err, called, cause_as}
use Rattle.counted_disk.proofs.counted.CountedDisk.tell.Goals as goal

pub returns-in-Err-clause-cause : goal.returns-in-Err-clause-cause
returns-in-Err-clause-cause g c = cause_as c.in-Err.ensures.cause

pub returns-in-Err-clause-memory : goal.returns-in-Err-clause-memory
returns-in-Err-clause-memory g c = cause_as c.in-Err.ensures.memory

pub returns-clause-later : goal.returns-clause-later
returns-clause-later g c =
    let running : c.args.self.now.stop ≡ None = search rules in
    let disk_same : c.check_running.new.self.disk ≡ c.args.self.now.disk = search rules in
    let turns_same : c.check_running.new.self.turns ≡ c.args.self.now.turns = search rules in
    let stop_same : c.check_running.new.self.stop ≡ c.args.self.now.stop = search rules in
    subst (λ d. g.D.Disk.is_later d c.tell-done.new.self × IsCounted (record { past = g.D.Disk.past d; faults = g.D.Disk.faults d; refusals = g.D.Disk.memory_refusals d; turns = c.args.self.now.turns; stop = c.args.self.now.stop }) (record { past = g.D.Disk.past c.tell-done.new.self; faults = g.D.Disk.faults c.tell-done.new.self; refusals = g.D.Disk.memory_refusals c.tell-done.new.self; turns = c.check_running.new.self.turns; stop = c.keep_stop.new.stop })) disk_same (
      c.tell-done.ensures.later,
      called false 0 _ _ c.tell-done.result refl running
          (on_ok c.tell-done.result (λ same. same ∙ stop_same) c.keep_stop.ensures.ok) c.keep_stop.ensures.err
          (on_ok c.tell-done.result (went_one (Tell c.args.mark) 0 refl _ _) c.tell-done.ensures.ok) (on_err c.tell-done.result (may_event _ 0 (λ e k. ap turns_of_event k) _ _) c.tell-done.ensures.err) (adds_same _ _ turns_same)
          c.tell-done.ensures.cause c.tell-done.ensures.memory c.tell-done.ensures.no_fault c.tell-done.ensures.no_fault_at_want c.tell-done.ensures.no_refusal,
    )

pub returns-clause-running : goal.returns-clause-running
returns-clause-running g c = λ none.
    let turns_same : c.check_running.new.self.turns ≡ c.args.self.now.turns = search rules in
    let running : c.args.self.now.stop ≡ None = search rules in
    let stop_same : c.check_running.new.self.stop ≡ c.args.self.now.stop = search rules in
    let stays = on_ok c.tell-done.result (λ same. same ∙ stop_same) c.keep_stop.ensures.ok in
    runs_on_call false c.args.self.now.turns c.check_running.new.self.turns c.keep_stop.new.stop c.args.self.now.stop c.tell-done.result c.keep_stop.result c.keep_stop.ensures.same (adds_same _ _ turns_same) running stays c.keep_stop.ensures.err

pub returns-clause-stopped : goal.returns-clause-stopped
returns-clause-stopped g c = λ s is.
    let running : c.args.self.now.stop ≡ None = search rules in
    absurd (none-some s (sym running ∙ is))

pub returns-in-Err-clause-running : goal.returns-in-Err-clause-running
returns-in-Err-clause-running g c = λ none. let t = c.in-Err.ensures.stopped in absurd (none-some t.0 (sym none ∙ t.1))

pub returns-in-Err-clause-stopped : goal.returns-in-Err-clause-stopped
returns-in-Err-clause-stopped g c = λ s is.
    let t = c.in-Err.ensures.stopped in
    let same : t.0 ≡ s = same_Some t.0 s (sym t.1 ∙ is) in
    (ap Err (sym t.2 ∙ ap (λ x. x.error) same), ap (λ x. x.disk) t.3, ap (λ x. x.turns) t.3, ap (λ x. x.stop) t.3)

pub returns-clause-cause : goal.returns-clause-cause
returns-clause-cause g c =
    let running : c.args.self.now.stop ≡ None = search rules in
    let stop_same : c.check_running.new.self.stop ≡ c.args.self.now.stop = search rules in
    let stays = on_ok c.tell-done.result (λ same. same ∙ stop_same) c.keep_stop.ensures.ok in
    subst (λ r. HasDiskCause (faults_told c.args.self.now.stop c.args.self.now.faults_since) (faults_told c.keep_stop.new.stop c.check_running.new.self.faults_since) r) (sym c.keep_stop.ensures.same)
    (told_cause false c.args.self.now.stop c.keep_stop.new.stop c.args.self.now.faults_since c.check_running.new.self.faults_since c.tell-done.result running stays c.keep_stop.ensures.err)

pub returns-clause-memory : goal.returns-clause-memory
returns-clause-memory g c =
    let running : c.args.self.now.stop ≡ None = search rules in
    let stop_same : c.check_running.new.self.stop ≡ c.args.self.now.stop = search rules in
    let stays = on_ok c.tell-done.result (λ same. same ∙ stop_same) c.keep_stop.ensures.ok in
    subst (λ r. HasDiskMemoryCause (refusals_told c.args.self.now.stop c.args.self.now.refusals_since) (refusals_told c.keep_stop.new.stop c.check_running.new.self.refusals_since) r) (sym c.keep_stop.ensures.same)
    (told_memory false c.args.self.now.stop c.keep_stop.new.stop c.args.self.now.refusals_since c.check_running.new.self.refusals_since c.tell-done.result running stays c.keep_stop.ensures.err)

pub returns-clause-no_fault : goal.returns-clause-no_fault
returns-clause-no_fault g c =
    let running : c.args.self.now.stop ≡ None = search rules in
    let stop_same : c.check_running.new.self.stop ≡ c.args.self.now.stop = search rules in
    let stays = on_ok c.tell-done.result (λ same. same ∙ stop_same) c.keep_stop.ensures.ok in
    subst (λ r. OnOk r (faults_told c.keep_stop.new.stop c.check_running.new.self.faults_since ≡ faults_told c.args.self.now.stop c.args.self.now.faults_since)) (sym c.keep_stop.ensures.same)
    (told_no_fault false c.args.self.now.stop c.keep_stop.new.stop c.args.self.now.faults_since c.check_running.new.self.faults_since c.tell-done.result running stays c.keep_stop.ensures.err)

pub returns-clause-no_fault_at_want : goal.returns-clause-no_fault_at_want
returns-clause-no_fault_at_want g c =
    let running : c.args.self.now.stop ≡ None = search rules in
    let stop_same : c.check_running.new.self.stop ≡ c.args.self.now.stop = search rules in
    let stays = on_ok c.tell-done.result (λ same. same ∙ stop_same) c.keep_stop.ensures.ok in
    subst (λ r. IsErrOf r NoMemory → faults_told c.keep_stop.new.stop c.check_running.new.self.faults_since ≡ faults_told c.args.self.now.stop c.args.self.now.faults_since) (sym c.keep_stop.ensures.same)
    (told_at_want false c.args.self.now.stop c.keep_stop.new.stop c.args.self.now.faults_since c.check_running.new.self.faults_since c.tell-done.result running stays c.keep_stop.ensures.err)

pub returns-clause-no_refusal : goal.returns-clause-no_refusal
returns-clause-no_refusal g c =
    let running : c.args.self.now.stop ≡ None = search rules in
    let stop_same : c.check_running.new.self.stop ≡ c.args.self.now.stop = search rules in
    let stays = on_ok c.tell-done.result (λ same. same ∙ stop_same) c.keep_stop.ensures.ok in
    subst (λ r. OnOk r (refusals_told c.keep_stop.new.stop c.check_running.new.self.refusals_since ≡ refusals_told c.args.self.now.stop c.args.self.now.refusals_since)) (sym c.keep_stop.ensures.same)
    (told_no_refusal false c.args.self.now.stop c.keep_stop.new.stop c.args.self.now.refusals_since c.check_running.new.self.refusals_since c.tell-done.result running stays c.keep_stop.ensures.err)
