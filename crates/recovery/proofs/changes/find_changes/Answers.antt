use Rattle.std.proofs.Common.{rules, ◌≡◌, ◌+◌, ◌≤◌, ◌∙◌, ℕ, List, sym, subst, arith, take, IsErrAnd}
use Rattle.cause_core.proofs.Causes.{handed}
use Rattle.disk_model.specs.Event.{Event, reads}
use Rattle.disk_model.specs.Past.{At}
use Rattle.disk_model.specs.declared.names.FileName.TheVariants.{Log}
use Rattle.disk_model.proofs.Moments.{at_both, at_each}
use Rattle.redo_log.specs.Blocks.{Keys}
use Rattle.space_head.specs.declared.space.SpaceInfo.{SpaceInfo}
use Rattle.store_files.specs.Run.{MakeWholeMtrs}
use Rattle.store_files.proofs.HeaderBounds.{limits}
use Rattle.store_form.specs.Said.{header_said}
use Rattle.recovery.specs.Changes.{AreRunChanges, IsByRecord}
use Rattle.recovery.proofs.RunsPassed.{fit_none, none_changed, record_moved, run_sizes}
use Rattle.recovery.proofs.changes.find_changes.Goals as goal

pub pass_run-requires-clause-last : goal.pass_run-requires-clause-last
pass_run-requires-clause-last g c = fit_none (header_said c.args.header.now).spaces c.args.notes.now c.in-Ok.changes.last c.requires.noted c.in-Ok.ensures.last

pub pass_run-requires-clause-none : goal.pass_run-requires-clause-none
pass_run-requires-clause-none g c = none_changed (header_said c.args.header.now).spaces c.args.notes.now c.in-Ok.changes.last c.requires.noted c.in-Ok.ensures.last

pub pass_run-requires-clause-run : goal.pass_run-requires-clause-run
pass_run-requires-clause-run g c =
    at_each (λ (es : List Event) run.
    let h = header_said c.args.header.now in
    let keys : Keys = record { header = h; ring = c.args.ring.now } in
    let few = (run keys).few in
    let most = (limits h c.requires.allowed).most in
    let from = c.requires.from in
    let sum = c.saturating_add-end.ensures in
    let same : c.saturating_add-end.result ≡ c.args.run.now.last + 1 = omega (arith, few, most, from, sum) in
    let sizes = run_sizes keys h.blocks (reads Log es) c.args.from (c.args.run.now.last + 1) (run keys) in
    record { sizes = sizes.0; whole = subst (MakeWholeMtrs h.blocks (reads Log es) c.args.from sizes.0) (sym same) sizes.1; most = omega (arith, same, few, most, from) }) c.requires.run

pub returns-in_err-pass_run-clause-refused : goal.returns-in_err-pass_run-clause-refused
returns-in_err-pass_run-clause-refused g c =
    let h = header_said c.args.header.now in
    let k = c.args.ring.now in
    let why = c.in_err-pass_run.field-0.0 in
    let past = g.D.Disk.past c.args.disk.now in
    let same : At (λ es. c.saturating_add-end.result ≡ c.args.run.now.last + 1) past = at_each (λ (es : List Event) run.
    let few = (run (record { header = h; ring = k })).few in
    let most = (limits h c.requires.allowed).most in
    let from = c.requires.from in
    let sum = c.saturating_add-end.ensures in
    omega (arith, few, most, from, sum)) c.requires.run in
    let is : IsErrAnd c.from_residual.result (λ e. e ≡ why) = search rules in
    handed (IsByRecord h k c.args.from (c.args.run.now.last + 1) past) c.from_residual.result why is
    (record_moved h k c.args.from c.saturating_add-end.result (c.args.run.now.last + 1) past why same c.in_err-pass_run.ensures.refused)

pub returns-clause-changes : goal.returns-clause-changes
returns-clause-changes g c =
    let h = header_said c.args.header.now in
    let k = c.args.ring.now in
    at_both (λ (es : List Event) run changes.
    let few = (run (record { header = h; ring = k })).few in
    let most = (limits h c.requires.allowed).most in
    let from = c.requires.from in
    let sum = c.saturating_add-end.ensures in
    let same : c.saturating_add-end.result ≡ c.args.run.now.last + 1 = omega (arith, few, most, from, sum) in
    subst (λ (infos : List SpaceInfo). AreRunChanges h k c.args.from (c.args.run.now.last + 1) c.args.notes.now infos c.pass_run.new.changes es) c.in-Ok.ensures.spaces
    (subst (λ (n : ℕ). AreRunChanges h k c.args.from n c.args.notes.now c.in-Ok.changes.spaces c.pass_run.new.changes es) same changes)) c.requires.run c.in_ok-pass_run.ensures.changes
