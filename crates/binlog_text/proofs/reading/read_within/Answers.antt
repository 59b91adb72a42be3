use Rattle.std.proofs.Common.{◌-◌, arith}
use Rattle.std.proofs.lemmas.Slice.{drop-put_mid}
use Rattle.binlog_text.proofs.reading.read_within.Goals as goal

pub returns-clause-rest : goal.returns-clause-rest
returns-clause-rest c =
    drop-put_mid c.args.at (c.args.to - c.args.at) c.args.bytes.now c.read_plain.new.event c.args.to (omega arith) (omega arith) (omega (arith, c.read_plain.auto.event))
