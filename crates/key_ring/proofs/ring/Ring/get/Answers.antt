use Rattle.std.proofs.Common.{Some, ap, ◌∙◌}
use Rattle.key_ring.specs.Ring.{ring_key}
use Rattle.key_ring.proofs.Keys.{lookup-ring_key}
use Rattle.key_ring.proofs.ring.Ring.get.Goals as goal

pub returns-in_err-key-clause-value : goal.returns-in_err-key-clause-value
returns-in_err-key-clause-value c =
    rw c.from_residual.ensures (c.in_err-key.ensures.value ∙ lookup-ring_key c.self.inside.keys.entries c.args.id c.args.version ∙ ap (λ es. ring_key es c.args.id c.args.version) c.self.view_is)

pub returns-clause-value : goal.returns-clause-value
returns-clause-value c =
    ap Some c.bytes.ensures.bytes ∙ c.in_ok-key.ensures.value ∙ lookup-ring_key c.self.inside.keys.entries c.args.id c.args.version ∙ ap (λ es. ring_key es c.args.id c.args.version) c.self.view_is
