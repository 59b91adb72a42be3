use Rattle.binlog_cli.specs.Words.{IsWordsListing, list_values_in}
use Rattle.binlog_cli.proofs.WordsListings.{completes}
use Rattle.binlog_cli.proofs.top.list_binlog.Goals as goal

pub returns-in-Ok-clause-answer : goal.returns-in-Ok-clause-answer
returns-in-Ok-clause-answer g c = λ other. c.list_asked.ensures.answer (list_values_in c.args.words.now) c.in-Ok.ensures.asked

pub returns-in-Ok-clause-due : goal.returns-in-Ok-clause-due
returns-in-Ok-clause-due g c = c.list_asked.ensures.due (list_values_in c.args.words.now) c.in-Ok.ensures.asked

pub returns-in-Ok-clause-complete : goal.returns-in-Ok-clause-complete
returns-in-Ok-clause-complete g c = λ taken within. record {
  here = λ fs is calm quiet.
      completes (IsWordsListing (list_values_in c.args.words.now) fs) _ _ c.list_asked.result.status _ _ _ _ _ _ ((c.list_asked.ensures.answer (list_values_in c.args.words.now) c.in-Ok.ensures.asked).here fs is)
      c.list_asked.ensures.library c.list_asked.ensures.sink c.list_asked.ensures.words calm quiet;
}

pub returns-in-Ok-clause-reached : goal.returns-in-Ok-clause-reached
returns-in-Ok-clause-reached g c = c.list_asked.ensures.reached (list_values_in c.args.words.now) c.in-Ok.ensures.asked
