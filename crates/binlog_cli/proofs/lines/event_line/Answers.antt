use Rattle.std.proofs.Common.{◌∙◌, append_assoc}
use Rattle.std.proofs.lemmas.Result.{IfOk-weaker}
use Rattle.binlog_cli.specs.EventLines.{event_line}
use Rattle.binlog_cli.proofs.lines.event_line.Goals as goal

pub returns : goal.returns
unfolding event_line
returns c =
    IfOk-weaker c.format.result _ _
    (λ s is.
    is
    ∙ rw (c.in_ok-kind.ensures, c.in_ok-cipher.ensures, c.kind.ensures, c.key.ensures, c.place-place.ensures, c.time-time.ensures, c.server-server.ensures, c.length-length.ensures, c.next-next.ensures, c.flags-flags.ensures) (simp append_assoc))
    c.format.ensures.ok
