use Rattle.std.proofs.Common.{subst}
use Rattle.std.specs.Prelude.{IfOk}
use Rattle.counted_disk.specs.Counting.{IsCounted, count_of}
use Rattle.disk_model.specs.Past.{At}
use Rattle.session_image.specs.Kept.{SessionStore}
use Rattle.engine_core.specs.Engine.{EngineState}
use Rattle.engine_core.specs.Kept.{BeginsAt}
use Rattle.engine_core.specs.Reading.{IsKindNow}
use Rattle.engine_core.proofs.KeepsReads.{kind_read, read_keeps}
use Rattle.engine_core.proofs.engine.Engine.page_kind.Goals as goal

pub invariant_of-self : goal.invariant_of-self
invariant_of-self g c =
    let call = c.page_kind.ensures in
    read_keeps g.D.Disk.past g.D.Disk.faults g.D.Disk.memory_refusals g.D.Disk.is_later g.met.D.Disk.is_later_transitive c.self.inside.first.value c.self.inside.core c.page_kind.new.self c.spaces-kept.ensures.kept c.args.space c.args.page c.page_kind.result _ _ c.self.invariant
    call.later.0 call.later.1 call.was_up call.there call.data call.refused

pub returns-clause-contents : goal.returns-clause-contents
returns-clause-contents g c =
    let call = c.page_kind.ensures in
    subst (λ (e : EngineState _). IfOk c.page_kind.result (λ kind. (store : SessionStore) → At (BeginsAt store e.first) (g.D.Disk.past e.first.disk.disk) → At (λ es. IsKindNow store e.now c.args.space c.args.page kind) (g.D.Disk.past e.now.disk.disk))) c.self.view_is
    (kind_read g.D.Disk.past g.D.Disk.faults g.D.Disk.memory_refusals g.D.Disk.is_later g.met.D.Disk.is_later_transitive c.self.inside.first.value c.self.inside.core c.page_kind.new.self c.spaces-kept.ensures.kept c.args.space c.args.page c.page_kind.result c.self.invariant
    call.was_up call.there call.kind)

pub returns-clause-later : goal.returns-clause-later
returns-clause-later g c =
    subst (λ (e : EngineState _). g.D.Disk.is_later e.now.disk.disk c.page_kind.new.self.disk.disk × IsCounted (count_of g.D.Disk.past g.D.Disk.faults g.D.Disk.memory_refusals e.now.disk) (count_of g.D.Disk.past g.D.Disk.faults g.D.Disk.memory_refusals c.page_kind.new.self.disk)) c.self.view_is
    c.page_kind.ensures.later
