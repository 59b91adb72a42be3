use Rattle.std.proofs.Common.{◌+◌, sym, subst, List, ℕ, arith}
use Rattle.image_log.proofs.WholeMtrs.{Leads, leads_more, leads_run, leads_within}
use Rattle.image_log.proofs.run.run_from.Goals as goal

pub returns-in_default-clause-run : goal.returns-in_default-clause-run
returns-in_default-clause-run c = leads_run c.args.blocks c.args.log.now c.args.from c.loop-round.sizes.items c.loop-round.end c.loop-round._round c.loop-round.invariant

pub loop-round-preserved : goal.loop-round-preserved
loop-round-preserved c =
    subst (λ (xs : List ℕ). Leads c.args.blocks c.args.log.now c.args.from xs (c.loop-round.end + c.in-Some.size) (c.loop-round._round + 1)) (sym c.in_ok-push.ensures.items)
    (leads_more c.args.blocks c.args.log.now c.args.from c.loop-round.sizes.items c.loop-round.end c.loop-round._round c.in-Some.size c.loop-round.invariant c.in-Some.ensures.some)

pub unreachable-requires : goal.unreachable-requires
unreachable-requires c = leads_within c.args.blocks c.args.log.now c.args.from c.loop-round.sizes.items c.loop-round.end c.loop-round._round c.requires.some (omega arith) c.loop-round.invariant
