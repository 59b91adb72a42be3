use Rattle.std.proofs.Common.{rules, ◌≡◌, ◌∙◌, ◌+◌, ◌*◌, ◌<◌, ◌≤◌, ◌^◌, ℕ, List, ◌∷◌, [], map, take, refl, sym, ap, subst, arith, IsErrAnd, inl, inr}
use Rattle.std.specs.Prelude.{OnOk, IfErr}
use Rattle.cause_core.proofs.Causes.{handed}
use Rattle.disk_model.specs.Event.{Event}
use Rattle.disk_model.specs.Past.{At}
use Rattle.disk_model.specs.declared.names.FileName.TheVariants.{Log, Double}
use Rattle.disk_model.proofs.Moments.{at_is, at_both, at_each}
use Rattle.disk_model.proofs.Replay.{on_ok}
use Rattle.crash_image.specs.LogForm.{log_places}
use Rattle.page_places.specs.Texts.{slots}
use Rattle.store_form.specs.Said.{header_said, space_said}
use Rattle.recovery.specs.Files.{HasOtherLength, HaveStoreFiles, IsFirstMisfit, StoreFile, space_file, store_files_of}
use Rattle.recovery.specs.Stages.{IsLengthRefusal, IsOtherLength}
use Rattle.recovery.proofs.Answered.{err_more}
use Rattle.store_files.proofs.HeaderBounds.{limits}
use Rattle.recovery.proofs.Misfits.{length_refused, misfit_behind, some_pages}
use Rattle.recovery.proofs.lengths.check_lengths.Goals as goal

pub overflow_add-header : goal.overflow_add-header
overflow_add-header g c = let m = (limits (header_said c.args.header.now) c.requires.allowed).most in omega (arith, m)

pub overflow_mul-header : goal.overflow_mul-header
overflow_mul-header g c = let m = (limits (header_said c.args.header.now) c.requires.allowed).most in omega (arith, m)

abbrev log_file : ℕ → StoreFile
log_file blocks = record { name = Log; layout = log_places blocks }

abbrev double_file : StoreFile
double_file = record { name = Double; layout = slots }

pub returns-in_err-check_length-clause-refused : goal.returns-in_err-check_length-clause-refused
returns-in_err-check_length-clause-refused g c =
    let h = header_said c.args.header.now in
    let past = g.D.Disk.past c.args.disk.now in
    let why = c.in_err-check_length.field-0.0 in
    let is : IsErrAnd c.from_residual.result (λ e. e ≡ why) = search rules in
    handed (IsLengthRefusal (store_files_of h) past) c.from_residual.result why is
    (length_refused (log_file h.blocks) ((3 + h.blocks) * 4096) past (store_files_of h) refl (record { here = λ es same found other. inl other }) why c.in_err-check_length.ensures.refused)

pub returns-in_err-check_length-2-clause-refused : goal.returns-in_err-check_length-2-clause-refused
returns-in_err-check_length-2-clause-refused g c =
    let h = header_said c.args.header.now in
    let past = g.D.Disk.past c.args.disk.now in
    let why = c.in_err-check_length-2.field-0.0 in
    let is : IsErrAnd c.from_residual-in_err-check_length-2.result (λ e. e ≡ why) = search rules in
    handed (IsLengthRefusal (store_files_of h) past) c.from_residual-in_err-check_length-2.result why is
    (length_refused double_file 1081344 past (store_files_of h) refl (at_each (λ es has found other. inr (record { there = has.0; size = has.1 }, inl other)) c.in_ok-check_length.ensures.has) why
    (subst (λ p. IsOtherLength Double 1081344 p why) c.in_ok-check_length.ensures.same c.in_err-check_length-2.ensures.refused))

pub check_spaces-requires : goal.check_spaces-requires
check_spaces-requires g c = some_pages 0 (take c.args.header.now.count c.args.header.now.spaces) (limits (header_said c.args.header.now) c.requires.allowed).order

pub returns-clause-have : goal.returns-clause-have
returns-clause-have g c =
    on_ok c.check_spaces.result (λ at. at_both (λ es log rest. (record { there = log.0; size = log.1 }, rest)) c.in_ok-check_length.ensures.has
    (at_both (λ es double rest. (record { there = double.0; size = double.1 }, rest)) (at_is (sym c.in_ok-check_length.ensures.same) c.in_ok-check_length-2.ensures.has)
    (at_is (sym (c.in_ok-check_length-2.ensures.same ∙ c.in_ok-check_length.ensures.same)) at))) c.check_spaces.ensures.have

pub returns-clause-refused : goal.returns-clause-refused
returns-clause-refused g c =
    let h = header_said c.args.header.now in
    let past = g.D.Disk.past c.args.disk.now in
    let files = map space_file h.spaces in
    let same = c.in_ok-check_length-2.ensures.same ∙ c.in_ok-check_length.ensures.same in
    let moved = subst (λ p. IfErr c.check_spaces.result (IsLengthRefusal files p)) same c.check_spaces.ensures.refused in
    err_more (IsLengthRefusal files past) (IsLengthRefusal (store_files_of h) past) c.check_spaces.result moved
    (misfit_behind files (store_files_of h) past
    (at_both (λ es log double f found first. inr (record { there = log.0; size = log.1 }, inr (record { there = double.0; size = double.1 }, first))) c.in_ok-check_length.ensures.has
    (at_is (sym c.in_ok-check_length.ensures.same) c.in_ok-check_length-2.ensures.has)))
