use Rattle.std.proofs.Common.{arith}
use Rattle.bytes_core.proofs.Register.{lane_skipped}
use Rattle.bytes_core.proofs.running.skip_lane.Goals as goal

pub returns : goal.returns
returns c = λ p is. lane_skipped p c.args.tables.now c.args.register is (omega arith)
