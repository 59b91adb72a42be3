use Rattle.std.proofs.Common.{◌≡◌, ◌+◌, ℕ, Option, Some, None, nat_eq, sym, ap, ◌∙◌, rules}
use Rattle.std.specs.Prelude.{IfNone}
use Rattle.store_files.specs.RingBlock.{is_ring_block, begins_mtr}
use Rattle.store_files.specs.Run.{NoWholeMtr}
use Rattle.image_log.proofs.WholeMtrs.{none_invalid, none_first}
use Rattle.image_log.proofs.run.whole_mtr.Goals as goal

at_none : {A : Type 0} (P : Type 0) (o : Option A) → P → IfNone o P
at_none P None is = is
at_none P (Some x) is = tt

pub returns-in_err-block-clause-none : goal.returns-in_err-block-clause-none
returns-in_err-block-clause-none c =
    let isnt = ap (is_ring_block (c.args.number + c.loop-i.i)) (sym c.block_at.ensures.bytes) ∙ c.in_err-block.ensures.none in
    at_none (NoWholeMtr c.args.blocks c.args.log.now c.args.number) c.from_residual.result (none_invalid c.args.blocks c.args.log.now c.args.number c.loop-i.i c.loop-i.invariant isnt)

pub returns-then-first-i-clause-none : goal.returns-then-first-i-clause-none
returns-then-first-i-clause-none c =
    let other : c.first.result ≡ nat_eq c.loop-i.i 0 → ⊥ = search rules in
    none_first c.args.blocks c.args.log.now c.args.number c.loop-i.i c.loop-i.invariant (λ e. other (c.first.ensures ∙ ap begins_mtr (c.in_ok-block.ensures.some.0 ∙ c.block_at.ensures.bytes) ∙ e))
