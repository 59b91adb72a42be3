use Rattle.std.proofs.Common.{ℕ, subst}
use Rattle.crash_image.specs.LogForm.{log_places}
use Rattle.disk_model.specs.Past.{At}
use Rattle.disk_model.specs.declared.names.FileName.TheVariants.{Log}
use Rattle.places.specs.Places.{HasFile}
use Rattle.redo_log.specs.Log.{pending_count}
use Rattle.session_core.proofs.SettleLaws.{calls_out, files_out}
use Rattle.session_core.proofs.settling.write_log.Goals as goal

pub returns-in-Ok-clause-files : goal.returns-in-Ok-clause-files
returns-in-Ok-clause-files g c =
    files_out c.args.store.now.header.blocks c.args.store.now.spaces c.args.log.now (pending_count c.args.log.now) (g.D.Disk.past c.args.disk.now.disk) (g.D.Disk.past c.write_out.new.disk.disk) c.requires.files
    (subst (λ (n : ℕ). At (HasFile Log (log_places n)) (g.D.Disk.past c.write_out.new.disk.disk)) c.requires.ring c.in-Ok.ensures.file) c.in-Ok.ensures.exact

pub returns-in-Ok-clause-calls : goal.returns-in-Ok-clause-calls
returns-in-Ok-clause-calls g c = calls_out g.D.Disk.clock c.args.log.now c.args.disk.now c.write_out.new.disk (λ none. (c.write_out.ensures.nothing none).1) c.write_out.ensures.calls

pub returns-in-Err-clause-calls : goal.returns-in-Err-clause-calls
returns-in-Err-clause-calls g c = calls_out g.D.Disk.clock c.args.log.now c.args.disk.now c.write_out.new.disk (λ none. (c.write_out.ensures.nothing none).1) c.write_out.ensures.calls
