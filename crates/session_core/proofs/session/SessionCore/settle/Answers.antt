use Rattle.std.proofs.Common.{◌≡◌, ℕ, ◌+◌, ◌≤◌, None, length, sym, subst, rules, arith}
use Rattle.std.specs.Prelude.{IsErrAnd}
use Rattle.cause_core.proofs.Causes.{handed}
use Rattle.counted_disk.specs.Counting.{IsCounted, count_of, counts_then}
use Rattle.disk_model.specs.Event.{Tell}
use Rattle.disk_model.specs.Past.{Past, At, grow}
use Rattle.disk_model.specs.declared.names.Mark.TheVariants.{Acked}
use Rattle.session_core.specs.Files.{HasStoreFiles, calls_of}
use Rattle.redo_log.specs.Log.{pending_count, written_out}
use Rattle.session_core.specs.Session.{IsSession, Running}
use Rattle.session_core.specs.Syncing.{write_calls, written_past}
use Rattle.session_core.specs.Told.{ReadsAsTold}
use Rattle.session_core.proofs.LogWrites.{reads_out, told_mark}
use Rattle.session_core.proofs.SettleLaws.{files_told, session_synced, unwritten}
use Rattle.session_core.proofs.StartLaws.{at_grown}
use Rattle.session_core.proofs.session.SessionCore.settle.Goals as goal

pub returns-in_err-write_log-clause-refused : goal.returns-in_err-write_log-clause-refused
returns-in_err-write_log-clause-refused g c =
    let is : IsErrAnd c.from_residual.result (λ e. e ≡ c.in_err-write_log.field-0.0) = search rules in
    let failed = c.in_err-write_log.ensures in
    handed _ c.from_residual.result c.in_err-write_log.field-0.0 is
    (unwritten g.D.Disk.past c.args.self.now _ c.write_log.new.disk c.write_log.new.log c.in_err-write_log.field-0.0 c.self.view_is failed.stopped failed.kept failed.part)

pub returns-in_err-write_log-clause-later : goal.returns-in_err-write_log-clause-later
returns-in_err-write_log-clause-later g c =
    subst (λ (r : Running _). g.D.Disk.is_later r.disk.disk c.write_log.new.disk.disk × IsCounted (count_of g.D.Disk.past g.D.Disk.faults g.D.Disk.memory_refusals r.disk) (count_of g.D.Disk.past g.D.Disk.faults g.D.Disk.memory_refusals c.write_log.new.disk))
    c.self.view_is c.write_log.ensures.later

pub returns-in_err-tell_mark-clause-later : goal.returns-in_err-tell_mark-clause-later
returns-in_err-tell_mark-clause-later g c =
    let first = c.write_log.ensures.later in
    let second = c.tell_mark.ensures.later in
    subst (λ (r : Running _). g.D.Disk.is_later r.disk.disk c.tell_mark.new.disk.disk × IsCounted (count_of g.D.Disk.past g.D.Disk.faults g.D.Disk.memory_refusals r.disk) (count_of g.D.Disk.past g.D.Disk.faults g.D.Disk.memory_refusals c.tell_mark.new.disk))
    c.self.view_is (g.met.D.Disk.is_later_transitive _ _ _ first.0 second.0, counts_then _ _ _ first.1 second.1)

pub returns-clause-later : goal.returns-clause-later
returns-clause-later g c =
    let first = c.write_log.ensures.later in
    let second = c.tell_mark.ensures.later in
    subst (λ (r : Running _). g.D.Disk.is_later r.disk.disk c.tell_mark.new.disk.disk × IsCounted (count_of g.D.Disk.past g.D.Disk.faults g.D.Disk.memory_refusals r.disk) (count_of g.D.Disk.past g.D.Disk.faults g.D.Disk.memory_refusals c.tell_mark.new.disk))
    c.self.view_is (g.met.D.Disk.is_later_transitive _ _ _ first.0 second.0, counts_then _ _ _ first.1 second.1)

pub returns-in_err-write_log-clause-calls : goal.returns-in_err-write_log-clause-calls
returns-in_err-write_log-clause-calls g c =
    let first = c.write_log.ensures.calls in
    subst (λ (r : Running _). calls_of g.D.Disk.clock c.write_log.new.disk ≤ calls_of g.D.Disk.clock r.disk + (write_calls (pending_count r.log) + 1)) c.self.view_is (omega (arith, first))

pub returns-in_err-tell_mark-clause-calls : goal.returns-in_err-tell_mark-clause-calls
returns-in_err-tell_mark-clause-calls g c =
    let first = c.write_log.ensures.calls in
    let second = c.tell_mark.ensures.calls in
    subst (λ (r : Running _). calls_of g.D.Disk.clock c.tell_mark.new.disk ≤ calls_of g.D.Disk.clock r.disk + (write_calls (pending_count r.log) + 1)) c.self.view_is (omega (arith, first, second))

pub returns-clause-calls : goal.returns-clause-calls
returns-clause-calls g c =
    let first = c.write_log.ensures.calls in
    let second = c.tell_mark.ensures.calls in
    subst (λ (r : Running _). calls_of g.D.Disk.clock c.tell_mark.new.disk ≤ calls_of g.D.Disk.clock r.disk + (write_calls (pending_count r.log) + 1)) c.self.view_is (omega (arith, first, second))

-- what is told behind the write out, and behind the mark
told_behind : {D : Type 0} (past : D → Past) (r : Running D) (kept : IsSession past r) (disk mid : Past) (count : ℕ) → r.disk.stop ≡ None → mid ≡ written_past r.log (past r.disk.disk) → disk ≡ grow (Tell (Acked count)) mid
    → At (ReadsAsTold r.store (written_out r.log) r.pool) disk
told_behind past r kept disk mid count up exact told =
    at_grown (ReadsAsTold r.store (written_out r.log) r.pool) (Acked count) mid disk (λ es reads. told_mark r.store (written_out r.log) r.pool (Acked count) es reads)
    (reads_out r.store r.log r.pool (past r.disk.disk) mid kept.numbers kept.ring (kept.files up) (kept.reads up) exact) told

pub invariant_of-self-2 : goal.invariant_of-self-2
invariant_of-self-2 g c =
    let blocks = c.self.inside.store.header.blocks in
    let spaces = c.self.inside.store.spaces in
    let count : c.len-count.result ≡ length c.self.inside.journal.items = search rules in
    let up : c.self.inside.disk.stop ≡ None = subst (λ (r : Running _). r.disk.stop ≡ None) (sym c.self.view_is) c.requires.up in
    session_synced g.D.Disk.past _ c.tell_mark.new.disk c.write_log.new.log c.len-count.result c.self.invariant c.in_ok-write_log.ensures.written c.write_log.ensures.open count
    (at_grown (HasStoreFiles blocks spaces) (Acked c.len-count.result) _ _ (λ es files. files_told blocks spaces (Acked c.len-count.result) es files) c.in_ok-write_log.ensures.files c.in_ok-tell_mark.ensures.told)
    (told_behind g.D.Disk.past _ c.self.invariant _ _ c.len-count.result up c.in_ok-write_log.ensures.exact c.in_ok-tell_mark.ensures.told)
