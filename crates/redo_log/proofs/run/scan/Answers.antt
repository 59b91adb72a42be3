use Rattle.std.proofs.Common.{◌≡◌, ℕ, List, ◌+◌, ◌-◌, length, take, sym, ap, subst, ◌∙◌, arith}
use Rattle.std.specs.List.{Contains}
use Rattle.disk_model.specs.Event.{reads}
use Rattle.disk_model.specs.declared.names.FileName.TheVariants.{Log as LogFile}
use Rattle.disk_model.proofs.Moments.{at_each}
use Rattle.ring_log.specs.Blocks.{block_at}
use Rattle.redo_log.specs.Runs.{versions_up}
use Rattle.redo_log.proofs.RunSteps.{are_versions, take-versions}
use Rattle.redo_log.proofs.run.scan.Goals as goal

pub returns-clause-versions : goal.returns-clause-versions
returns-clause-versions g c =
    let from : ℕ = c.args.from in
    let end : ℕ = c.in_ok-end.end in
    let low = c.in_ok-end.ensures.low in
    at_each (λ es is.
    let read = block_at c.args.blocks (reads LogFile es) in
    let kept : c.truncate.new.self.items ≡ versions_up read from (end - from) =
    c.truncate.ensures.items ∙ ap (λ (l : List ℕ). take (end - from) l) is ∙ take-versions read from (length c.scan_into.new.versions.items) (end - from) (omega (arith, low.1)) in
    are_versions read from (end - from) (end - 1 + 1) c.among.result (omega (arith, low.0, c.requires.low))
    (λ v has. c.among.ensures.all v (subst (λ (l : List ℕ). Contains l v) (sym kept) has))
    (λ v has. subst (λ (l : List ℕ). Contains l v) kept (c.among.ensures.none v has)))
    c.in_ok-end.ensures.versions
