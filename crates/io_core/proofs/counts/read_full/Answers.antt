use Rattle.std.proofs.Common.{ℕ, ◌≤◌, List, length, take, sym, subst, arith}
use Rattle.std.specs.Io.KnownBytes.{Consumes}
use Rattle.std.proofs.KnownBytes.{Consumes-trans}
use Rattle.io_core.proofs.Readers.{take-filled_more, filled_more_within}
use Rattle.io_core.proofs.counts.read_full.Goals as goal

pub loop-filled-preserved : goal.loop-filled-preserved
loop-filled-preserved g c =
    let more : c.in_ok-count.count ≤ length c.read_some.new.into = omega (arith, c.in_ok-count.ensures.within, c.read_some.auto.into) in
    let P : List ℕ → Type 0 = λ l. Consumes (g.R.Read.remaining c.args.reader.now) (g.R.Read.remaining c.read_some.new.reader) l in (
      filled_more_within c.loop-filled.filled c.in_ok-count.count c.loop-filled.into c.read_some.new.into _ c.loop-filled.invariant.0 more,
      subst P (sym (take-filled_more c.loop-filled.filled c.in_ok-count.count c.loop-filled.into c.read_some.new.into _ c.loop-filled.invariant.0 more))
          (Consumes-trans (g.R.Read.remaining c.args.reader.now) (g.R.Read.remaining c.loop-filled.reader) (g.R.Read.remaining c.read_some.new.reader)
          (take c.loop-filled.filled c.loop-filled.into) (take c.in_ok-count.count c.read_some.new.into) c.loop-filled.invariant.1 c.in_ok-count.ensures.bytes.0),
    )
