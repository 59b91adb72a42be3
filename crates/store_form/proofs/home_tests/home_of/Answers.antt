use Rattle.std.proofs.Common.{◌∙◌, Bool, if◌then◌else◌, ap, sym}
use Rattle.byte_list.specs.Fields.{be32_at}
use Rattle.space_head.specs.declared.space.Home.TheVariants.{Unused, Clean}
use Rattle.store_form.proofs.Zeros.{zero_test}
use Rattle.store_form.proofs.home_tests.home_of.Goals as goal

pub returns-then-are_zero : goal.returns-then-are_zero
returns-then-are_zero c =
    sym (ap (λ (b : Bool). if b then Unused else Clean (be32_at c.args.bytes.now 0)) (zero_test c.args.bytes.now c.are_zero.result c.are_zero.ensures.yes c.are_zero.ensures.no ∙ c.if-are_zero.true))

pub returns : goal.returns
returns c =
    ap Clean c.be32_at.ensures
    ∙ sym (ap (λ (b : Bool). if b then Unused else Clean (be32_at c.args.bytes.now 0)) (zero_test c.args.bytes.now c.are_zero.result c.are_zero.ensures.yes c.are_zero.ensures.no ∙ c.if-are_zero.false))
