use Rattle.std.proofs.Common.{◌++◌, ◌∷◌}
use Rattle.keyd_words.proofs.SpaceLemmas.{no_cut, behind_one, behind_two}
use Rattle.keyd_words.proofs.value.parts_of.Goals as goal

pub returns-in_err-space : goal.returns-in_err-space
returns-in_err-space c = rw c.from_residual.ensures (λ a b d e are. no_cut c.args.value.now a _ c.in_err-space.ensures are.is)

pub returns-in_err-pages : goal.returns-in_err-pages
returns-in_err-pages c =
    rw c.from_residual-in_err-pages.ensures (λ a b d e are.
    no_cut c.in_ok-space.rest.now b (d ++ (58 ∷ e)) c.in_err-pages.ensures
    (behind_one c.args.value.now c.in_ok-space.space.now c.in_ok-space.rest.now a b d e c.in_ok-space.ensures are))

pub returns-in_err-key_id : goal.returns-in_err-key_id
returns-in_err-key_id c =
    rw c.from_residual-in_err-key_id.ensures (λ a b d e are.
    no_cut c.in_ok-pages.rest.now d e c.in_err-key_id.ensures
    (behind_two c.args.value.now c.in_ok-space.space.now c.in_ok-space.rest.now c.in_ok-pages.pages.now c.in_ok-pages.rest.now a b d e c.in_ok-space.ensures c.in_ok-pages.ensures are))
