use Rattle.std.proofs.Common.{◌≡◌, ◌∙◌, ap, sym}
use Rattle.page_pool.specs.Changes.{admitted}
use Rattle.page_pool.specs.Pages.{PoolState, plain_page}
use Rattle.session_core.specs.Holding.{Taken}
use Rattle.session_core.proofs.HoldLaws.{far_away}
use Rattle.session_core.proofs.PoolLaws.{held_found}
use Rattle.session_core.proofs.holding.hold_page.Goals as goal

pub admit-requires-clause-absent : goal.admit-requires-clause-absent
admit-requires-clause-absent g c = held_found c.args.name c.args.pool.now c.bring.new.pool c.bring.ensures.pool ∙ sym c.bring.ensures.held ∙ c.if-bring.false

pub returns-in-Ok-clause-meets : goal.returns-in-Ok-clause-meets
returns-in-Ok-clause-meets g c =
    Taken (plain_page c.take_home.new.into) (sym c.bring.ensures.held ∙ c.if-bring.false)
    (far_away c.args.store.now c.args.name c.args.pool.now c.is_new.result (sym c.bring.ensures.held ∙ c.if-bring.false) c.if-is_new.false c.is_new.ensures.no) c.in_ok-take_home.ensures.taken
    (c.in-Ok.ensures.admitted ∙ ap (λ (s : PoolState). record { dirty = s.dirty; clean = admitted c.args.name (plain_page c.take_home.new.into) s.clean }) c.bring.ensures.pool)
