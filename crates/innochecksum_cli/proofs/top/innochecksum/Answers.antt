use Rattle.std.proofs.Common.{◌≡◌, ◌⊎◌, ℕ, List, IsSome, sym, subst}
use Rattle.innochecksum_cli.specs.Inspection.{Agrees, Report}
use Rattle.innochecksum_cli.specs.declared.status.CheckStatus.TheVariants.{OutOfMemory}
use Rattle.innochecksum_cli.proofs.AskedReports.{asked_report}
use Rattle.innochecksum_cli.proofs.top.innochecksum.Goals as goal

pub returns-in-Ok-clause-answer : goal.returns-in-Ok-clause-answer
returns-in-Ok-clause-answer g c = λ other. record {
  here = λ fs is.
      subst (λ (r : Report). Agrees r (g.K.Sink.given c.args.out.now) (g.K.Sink.given c.inspect.new.out) c.inspect.result)
      (asked_report c.args.words.now c.in-Ok.asked.options c.in-Ok.asked.name.now fs c.in-Ok.ensures.options c.in-Ok.ensures.name)
      (c.inspect.ensures.answer.here fs is);
}

pub returns-in-Ok-clause-complete : goal.returns-in-Ok-clause-complete
returns-in-Ok-clause-complete g c = λ taken. record {
  here = λ fs is there files_calm out_calm.
      let ends = c.inspect.ensures.complete.here fs is (subst (λ (n : List ℕ). IsSome (fs n)) (sym c.in-Ok.ensures.name) there) files_calm out_calm in
      subst (λ (r : Report). (c.inspect.result ≡ r.status) ⊎ (c.inspect.result ≡ OutOfMemory))
      (asked_report c.args.words.now c.in-Ok.asked.options c.in-Ok.asked.name.now fs c.in-Ok.ensures.options c.in-Ok.ensures.name) ends;
}
