use Rattle.std.proofs.KnownBytes.{Keeps-refl, Keeps-trans}
use Rattle.io_core.proofs.Readers.{Keeps-ReadConsumes}
use Rattle.io_core.proofs.counts.read_some.Goals as goal

pub loop-init : goal.loop-init
loop-init g c = Keeps-refl (g.R.Read.remaining c.args.reader.now)

pub loop-preserved : goal.loop-preserved
loop-preserved g c =
    Keeps-trans (g.R.Read.remaining c.args.reader.now) (g.R.Read.remaining c.loop.reader) (g.R.Read.remaining c.read.new.self) c.loop.invariant c.in-Err.ensures.bytes

pub returns-in_default-clause-bytes : goal.returns-in_default-clause-bytes
returns-in_default-clause-bytes g c =
    Keeps-trans (g.R.Read.remaining c.args.reader.now) (g.R.Read.remaining c.loop.reader) (g.R.Read.remaining c.read.new.self) c.loop.invariant c.in-Err.ensures.bytes

pub returns-in_default-2-clause-bytes : goal.returns-in_default-2-clause-bytes
returns-in_default-2-clause-bytes g c =
    Keeps-ReadConsumes (g.R.Read.remaining c.args.reader.now) (g.R.Read.remaining c.loop.reader) (g.R.Read.remaining c.read.new.self) c.read.result c.read.new.buf
    c.loop.invariant c.read.ensures.bytes

pub returns-clause-bytes : goal.returns-clause-bytes
returns-clause-bytes g c =
    Keeps-ReadConsumes (g.R.Read.remaining c.args.reader.now) (g.R.Read.remaining c.loop.reader) (g.R.Read.remaining c.read-2.new.self) c.read-2.result c.read-2.new.buf
    c.loop.invariant c.read-2.ensures.bytes
