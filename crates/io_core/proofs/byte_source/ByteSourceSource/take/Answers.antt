use Rattle.std.proofs.Common.{◌≡◌, drop, Some, sym, ap, ◌∙◌}
use Rattle.io_core.proofs.Fills.{prefixed-filled}
use Rattle.io_core.specs.Memory.{SourceState}
use Rattle.io_core.proofs.byte_source.ByteSourceSource.take.Goals as goal

pub returns-clause-next : goal.returns-clause-next
returns-clause-next c =
    let whole : c.rest_from.result.now ≡ drop c.self.inside.at c.self.inside.bytes.items = c.rest_from.ensures ∙ ap (drop c.self.inside.at) c.deref.ensures.value in
    sym (ap (λ (s : SourceState). Some s.left) c.self.view_is) ∙ ap Some (sym whole)
    ∙ prefixed-filled c.rest_from.result.now c.self.inside.bytes.items c.args.into.now c.fill-count.new.into c.self.inside.at c.fill-count.result whole c.fill-count.ensures
