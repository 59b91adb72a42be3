use Rattle.std.proofs.Common.{◌≡◌, ◌∙◌, List, ℕ, sym, ap, subst}
use Rattle.crash_image.specs.Rest.{HasNonePending, IsAtRest}
use Rattle.disk_model.specs.Past.{Past, At, Throughout}
use Rattle.key_ring.specs.Ring.{RingEntry}
use Rattle.places.specs.Batches.{From}
use Rattle.rand_core.specs.Stream.{Stream}
use Rattle.store_model.specs.Fold.{empty}
use Rattle.store_form.specs.Created.{LeaveNoneOrEmpty, RecordsCreation, WritesFirstPages}
use Rattle.store_form.specs.Plan.{header_made, spaces_made}
use Rattle.store_form.specs.Said.{header_said}
use Rattle.store_form.proofs.CreationAnswers.{form_as, images_begun, images_done, reads_as_made, reads_done, recorded_begun, recorded_done, rests_done, written_begun, written_done}
use Rattle.store_form.proofs.creation.create.Goals as goal

pub new-requires-clause-form : goal.new-requires-clause-form
new-requires-clause-form g c =
    let stream : Stream = g.R.Rng.stream c.args.rng.now in
    let e = c.in-Ok.ensures in
    form_as (header_said c.in-Ok.made.header) (header_made c.args.plan.now stream) c.in-Ok.made.spaces (spaces_made c.args.plan.now stream) c.in-Ok.made.homes e.header e.spaces e.homes e.can

pub new-requires-clause-reads : goal.new-requires-clause-reads
new-requires-clause-reads g c =
    let stream : Stream = g.R.Rng.stream c.args.rng.now in
    let e = c.in-Ok.ensures in
    let now : Past = g.D.Disk.past c.make_store.new.disk in
    reads_as_made (header_said c.in-Ok.made.header) (header_made c.args.plan.now stream) c.in-Ok.made.spaces (spaces_made c.args.plan.now stream) c.in-Ok.made.homes e.header e.spaces e.homes now
    (reads_done (header_made c.args.plan.now stream) (spaces_made c.args.plan.now stream) (g.D.Disk.past c.args.disk) now e.can e.exact)

pub returns-in-Ok-clause-images : goal.returns-in-Ok-clause-images
returns-in-Ok-clause-images g c = λ none.
    let stream : Stream = g.R.Rng.stream c.args.rng.now in
    let e = c.in-Ok.ensures in
    let old : Past = g.D.Disk.past c.args.disk in
    let spaces = spaces_made c.args.plan.now stream in
    subst (λ (h : Past). Throughout (LeaveNoneOrEmpty spaces) old h) (sym (ap g.D.Disk.past c.new.ensures.disk)) (images_done (header_made c.args.plan.now stream) spaces old (g.D.Disk.past c.make_store.new.disk) e.can e.exact none)

pub returns-in-Ok-clause-written : goal.returns-in-Ok-clause-written
returns-in-Ok-clause-written g c =
    let stream : Stream = g.R.Rng.stream c.args.rng.now in
    let e = c.in-Ok.ensures in
    let old : Past = g.D.Disk.past c.args.disk in
    let spaces = spaces_made c.args.plan.now stream in
    subst (λ (h : Past). Throughout (From (WritesFirstPages spaces) old) old h) (sym (ap g.D.Disk.past c.new.ensures.disk)) (written_done (header_made c.args.plan.now stream) spaces old (g.D.Disk.past c.make_store.new.disk) e.can e.exact)

pub returns-in-Ok-clause-rest : goal.returns-in-Ok-clause-rest
returns-in-Ok-clause-rest g c =
    let stream : Stream = g.R.Rng.stream c.args.rng.now in
    let e = c.in-Ok.ensures in
    let old : Past = g.D.Disk.past c.args.disk in
    let spaces = spaces_made c.args.plan.now stream in
    rests_done (header_made c.args.plan.now stream) spaces old (g.D.Disk.past c.new.result.disk) e.can (ap g.D.Disk.past c.new.ensures.disk ∙ e.exact)

pub returns-in-Err-clause-images : goal.returns-in-Err-clause-images
returns-in-Err-clause-images g c = λ none.
    let stream : Stream = g.R.Rng.stream c.args.rng.now in
    images_begun (header_made c.args.plan.now stream) (spaces_made c.args.plan.now stream) (g.D.Disk.past c.args.disk) (g.D.Disk.past c.make_store.new.disk) c.in-Err.ensures.begun none

pub returns-in-Err-clause-written : goal.returns-in-Err-clause-written
returns-in-Err-clause-written g c =
    let stream : Stream = g.R.Rng.stream c.args.rng.now in
    written_begun (header_made c.args.plan.now stream) (spaces_made c.args.plan.now stream) (g.D.Disk.past c.args.disk) (g.D.Disk.past c.make_store.new.disk) c.in-Err.ensures.begun

pub returns-in-Ok-clause-recorded : goal.returns-in-Ok-clause-recorded
returns-in-Ok-clause-recorded g c =
    let stream : Stream = g.R.Rng.stream c.args.rng.now in
    let e = c.in-Ok.ensures in
    let old : Past = g.D.Disk.past c.args.disk in
    let header = header_made c.args.plan.now stream in
    let spaces = spaces_made c.args.plan.now stream in
    subst (λ (h : Past). Throughout (From (RecordsCreation header spaces) old) old h) (sym (ap g.D.Disk.past c.new.ensures.disk)) (recorded_done header spaces old (g.D.Disk.past c.make_store.new.disk) e.can e.exact)

pub returns-in-Err-clause-recorded : goal.returns-in-Err-clause-recorded
returns-in-Err-clause-recorded g c =
    let stream : Stream = g.R.Rng.stream c.args.rng.now in
    recorded_begun (header_made c.args.plan.now stream) (spaces_made c.args.plan.now stream) (g.D.Disk.past c.args.disk) (g.D.Disk.past c.make_store.new.disk) c.in-Err.ensures.begun
