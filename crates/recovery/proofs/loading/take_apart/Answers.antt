use Rattle.std.proofs.Common.{◌≡◌, sym, subst, Result}
use Rattle.std.specs.Prelude.{IfErr}
use Rattle.byte_list.specs.Fields.{be32_at}
use Rattle.page_text.specs.Text.{key_lent}
use Rattle.page_text.specs.declared.fault.OpenFault.{OpenFault}
use Rattle.recovery.specs.Loading.{HasPlace}
use Rattle.recovery.proofs.HomeTexts.{fault_placed, sized}
use Rattle.recovery.proofs.loading.take_apart.Goals as goal

pub returns-clause-taken : goal.returns-clause-taken
returns-clause-taken c =
    λ lsn plain text.
    (c.unseal.ensures.taken lsn (be32_at c.args.home.now 0) plain
    (sized c.args.space c.args.page lsn (be32_at c.args.home.now 0) (key_lent c.args.key) plain c.args.home.now c.of-text.result.bytes.now c.requires.long c.of-text.ensures.value text)).0

pub returns-clause-place : goal.returns-clause-place
returns-clause-place c = subst (λ (r : Result (Unit {0}) OpenFault). IfErr r HasPlace) (sym c.unseal.ensures.value) (fault_placed c.args.space c.args.page (key_lent c.args.key) c.of-text.result.bytes.now)
