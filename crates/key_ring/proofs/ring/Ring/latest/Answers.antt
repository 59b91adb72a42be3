use Rattle.std.proofs.Common.{rules}
use Rattle.key_ring.proofs.Keys.{id_range, last_is_latest, none_of_id}
use Rattle.key_ring.proofs.ring.Ring.latest.Goals as goal

pub returns-in_err-pair-clause-absent : goal.returns-in_err-pair-clause-absent
returns-in_err-pair-clause-absent c =
    let range = id_range c.self.inside.keys c.args.id _ _ c.new.ensures.start c.new.ensures.end _ (c.range.ensures.in_range (search rules)) in
    rw c.from_residual.ensures (rw (← c.self.view_is) (none_of_id c.self.inside.keys c.args.id (range.5 c.in_err-pair.ensures.steps.0)))

pub returns-clause-found : goal.returns-clause-found
returns-clause-found c =
    let range = id_range c.self.inside.keys c.args.id _ _ c.new.ensures.start c.new.ensures.end _ (c.range.ensures.in_range (search rules)) in
    rw (← c.self.view_is) (last_is_latest c.self.inside.keys c.args.id c.in_ok-pair.pair.now _ (range.3 _ _ c.in_ok-pair.ensures.steps) (range.4 _ _ c.in_ok-pair.ensures.steps))
