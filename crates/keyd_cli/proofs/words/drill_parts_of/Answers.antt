use Rattle.std.proofs.Common.{◌≡◌, ◌++◌, codes, rules}
use Rattle.keyd_cli.proofs.Spaces.{no_cut, behind_one, behind_two, behind_three}
use Rattle.keyd_cli.proofs.words.drill_parts_of.Goals as goal

pub returns-in_err-space : goal.returns-in_err-space
returns-in_err-space c = rw c.from_residual.ensures (λ a b d are. no_cut c.args.value.now a _ c.in_err-space.ensures are.is)

pub returns-in_err-pages : goal.returns-in_err-pages
returns-in_err-pages c =
    rw c.from_residual-in_err-pages.ensures (λ a b d are.
    no_cut c.in_ok-space.rest.now b (d ++ codes ":plain") c.in_err-pages.ensures
    (behind_one c.args.value.now c.in_ok-space.space.now c.in_ok-space.rest.now a b d c.in_ok-space.ensures are))

pub returns-in_err-key_id : goal.returns-in_err-key_id
returns-in_err-key_id c =
    rw c.from_residual-in_err-key_id.ensures (λ a b d are.
    no_cut c.in_ok-pages.rest.now d (codes "plain") c.in_err-key_id.ensures
    (behind_two c.args.value.now c.in_ok-space.space.now c.in_ok-space.rest.now c.in_ok-pages.pages.now c.in_ok-pages.rest.now a b d c.in_ok-space.ensures c.in_ok-pages.ensures are))

pub returns-then-ne : goal.returns-then-ne
returns-then-ne c a b d are =
    let kind : c.in_ok-key_id.kind.now ≡ codes "plain" =
    behind_three c.args.value.now c.in_ok-space.space.now c.in_ok-space.rest.now c.in_ok-pages.pages.now c.in_ok-pages.rest.now c.in_ok-key_id.key_id.now c.in_ok-key_id.kind.now
    a b d c.in_ok-space.ensures c.in_ok-pages.ensures c.in_ok-key_id.ensures are in
    search (rules, kind)
