use Rattle.std.proofs.Common.{◌≡◌, ◌≢◌, ℕ, ◌≤◌, List, length, refl, sym, ◌∙◌, subst, ⊎_elim, None}
use Rattle.disk_model.specs.Contents.{events}
use Rattle.disk_model.specs.Log.{IsLaterLog, is_later_transitive}
use Rattle.disk_model.specs.Crash.{crash_image}
use Rattle.disk_model.specs.Image.{IsLucky}
use Rattle.disk_model.specs.declared.calls.Choice.{Choice}
use Rattle.disk_model.specs.declared.memory.MemDisk.{MemDisk}
use Rattle.plain_engine.specs.declared.journal.Entry.{Entry}
use Rattle.plain_engine.specs.declared.fault.State.TheVariants.{OutOfMemory}
use Rattle.plain_engine.specs.Stands.{AllRecover, AllRefusable, LogKeeps, passes}
use Rattle.plain_engine.specs.Kept.{IsExact}
use Rattle.keyd_cli.specs.Session.{HasRun, AreAckedWithin}
use Rattle.keyd_cli.specs.Drill.{AreLost}
use Rattle.keyd_cli.proofs.CrashOf.{drilled, moved}
use Rattle.keyd_cli.proofs.drill.drill.Goals as goal

pub kept-requires-clause-refusable : goal.kept-requires-clause-refusable
kept-requires-clause-refusable c =
    subst (λ (disk : MemDisk). AllRefusable (events disk.contents)) (sym c.halt-halted.ensures.disk) (c.halt-halted.ensures.refusable.here _ refl)

pub returns : goal.returns
returns c =
    let e = c.run_statements.new.engine in
    let halted = c.halt-halted.ensures in
    let ran = c.in_ok-ran.ensures in
    let j : c.halt-halted.result.journal ≡ e.journal = halted.journal in
    let k : c.halt-halted.result.disk ≡ e.disk = halted.disk in
    let a : c.acked-acked.result ≡ e.acked = c.acked-acked.ensures in
    let later : IsLaterLog c.in_ok-begun.field-0.contents.log c.halt-halted.result.disk.contents.log =
    subst (λ (disk : MemDisk). IsLaterLog c.in_ok-begun.field-0.contents.log disk.contents.log) (sym k) (is_later_transitive _ _ _ c.in_ok-engine.ensures.later ran.later) in
    drilled c.args.plan.now c.args.statements.items c.in_ok-begun.field-0.contents c.in_ok-begun.ensures (record { journal = c.halt-halted.result.journal; replies = c.in_ok-ran.ran.replies; end = record { stopped = c.stopped_at.result; journal = c.len.result; acked = c.acked-acked.result; kept = c.in_ok-kept.kept; disk = c.halt-halted.result.disk; rest = None } }) later e.settled e.state c.in_ok-ran.ran.is_whole
    (subst (λ (journal : List Entry). HasRun c.args.statements.items c.in_ok-ran.ran.is_whole journal c.in_ok-ran.ran.replies.items) (sym j) ran.ran)
    (subst (λ (acked : ℕ). AreAckedWithin acked c.in_ok-ran.ran.replies.items) (sym a) ran.acked)
    c.stopped_at.ensures
    (λ is. subst (λ (disk : MemDisk). (1 ≤ disk.contents.log.faults) × (e.state ≢ OutOfMemory)) (sym k) (ran.cause is))
    ran.whole
    (subst (λ (acked : ℕ). IsExact c.halt-halted.result.journal e.settled acked (events c.halt-halted.result.disk.contents)) (sym a) (moved (λ (journal : List Entry) (disk : MemDisk). IsExact journal e.settled e.acked (events disk.contents)) j k (halted.exact.here _ refl)))
    (subst (λ (journal : List Entry). e.settled ≤ length journal) (sym j) halted.order)
    (λ up. moved (λ (journal : List Entry) (disk : MemDisk). AllRecover journal e.settled (events disk.contents)) j k ((halted.settled up).here _ refl))
    (λ fed. a ∙ ⊎_elim (λ same. same) (λ fails. absurd fails.1) (halted.tells fed))
    (subst (λ (choices : List Choice). LogKeeps c.halt-halted.result.journal (crash_image choices (events c.halt-halted.result.disk.contents)) c.in_ok-kept.kept) c.deref.ensures.value c.in_ok-kept.ensures.keeps)
    (subst (λ (choices : List Choice). IsLucky passes (crash_image choices (events c.halt-halted.result.disk.contents))) c.deref.ensures.value c.in_ok-kept.ensures.lucky)
    c.in_ok-kept.ensures.settled
    (λ settled acked order lost exact. c.in_ok-kept.ensures.lost settled acked order (subst AreLost (sym c.deref.ensures.value) lost) exact)
    c.len.ensures
    refl
