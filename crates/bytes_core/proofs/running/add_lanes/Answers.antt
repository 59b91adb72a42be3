use Rattle.std.proofs.Common.{◌+◌, ◌*◌, sym, ◌∙◌, arith}
use Rattle.bytes_core.proofs.Register.{after_nil, more_in}
use Rattle.bytes_core.proofs.running.add_lanes.Goals as goal

pub loop-i-init : goal.loop-i-init
loop-i-init c = record {
  first = λ p is. sym (after_nil p c.args.start);
  second = λ p is. sym (after_nil p 0);
  third = λ p is. sym (after_nil p 0);
}

pub loop-i-preserved : goal.loop-i-preserved
loop-i-preserved c =
    let i = c.loop-i.i in
    let so_far = c.loop-i.invariant in
    record {
      first = λ p is. c.add_eight-a.ensures p is ∙ more_in p c.loop-i.a c.args.start (8 * i) _ (8 * (i + 1)) c.args.first.now (so_far.first p is) (omega arith);
      second = λ p is. c.add_eight-b.ensures p is ∙ more_in p c.loop-i.b 0 (8 * i) _ (8 * (i + 1)) c.args.second.now (so_far.second p is) (omega arith);
      third = λ p is. c.add_eight-c.ensures p is ∙ more_in p c.loop-i.c 0 (8 * i) _ (8 * (i + 1)) c.args.third.now (so_far.third p is) (omega arith);
    }
