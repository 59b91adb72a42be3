use Rattle.std.proofs.Common.{◌∙◌}
use Rattle.session_core.proofs.CurrentLaws.{other_kind, same_kind}
use Rattle.session_core.proofs.current.is_same.Goals as goal

pub returns-then-kind : goal.returns-then-kind
returns-then-kind c =
    c.are_equal.ensures
    ∙ same_kind c.args.held.now c.args.copied.now c.kind.result c.kind-2.result c.body.result.now c.body-then-kind.result.now c.requires.copied c.kind.ensures c.kind-2.ensures c.body.ensures c.body-then-kind.ensures c.if-kind.true

pub returns-else-kind : goal.returns-else-kind
returns-else-kind c = other_kind c.args.held.now c.args.copied.now c.kind.result c.kind-2.result c.requires.copied c.kind.ensures c.kind-2.ensures c.if-kind.false
