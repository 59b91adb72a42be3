use Rattle.std.proofs.Common.{◌∙◌}
use Rattle.binlog_cli.proofs.WordsListings.{keys_end, keys_ended, log_end, log_ended}
use Rattle.binlog_cli.proofs.top.list_asked.Goals as goal

pub returns-in-Err-clause-answer : goal.returns-in-Err-clause-answer
returns-in-Err-clause-answer g c = λ values asked. record {
  here = λ fs is. keys_end values c.args.asked.now fs c.in-Err.status (g.K.Sink.given c.args.out.now) asked (c.in-Err.ensures.loads.here fs is);
}

pub returns-in-Ok-clause-answer : goal.returns-in-Ok-clause-answer
returns-in-Ok-clause-answer g c = λ values asked. record {
  here = λ fs is.
      log_end values c.args.asked.now fs _ c.list_keyed.result.status _ _ asked (c.in-Ok.ensures.loads.here fs is) (c.list_keyed.ensures.answer.here fs (c.load_ring.ensures.same ∙ is));
}

pub returns-in-Ok-clause-reached : goal.returns-in-Ok-clause-reached
returns-in-Ok-clause-reached g c = λ values asked. record {
  here = λ fs is.
      let reached = c.list_keyed.ensures.reached in
      log_ended values c.args.asked.now fs _ c.list_keyed.result.status c.list_keyed.result.reached reached.0 asked reached.1 (c.in-Ok.ensures.loads.here fs is)
      (reached.2.here fs (c.load_ring.ensures.same ∙ is));
}

pub returns-in-Err-clause-reached : goal.returns-in-Err-clause-reached
returns-in-Err-clause-reached g c = λ values asked. record { here = λ fs is. keys_ended c.in-Err.status c.in-Err.ensures.stop }
