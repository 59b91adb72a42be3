use Rattle.binlog_cli.proofs.top.binlog.Goals as goal

pub returns-clause-ends : goal.returns-clause-ends
returns-clause-ends g c = record {
  here = λ fs is. (c.list_binlog-outcome.result.reached, c.list_binlog-outcome.ensures.reached.here fs is, λ e. (c.list_binlog-outcome.ensures.due e).here fs is);
}
