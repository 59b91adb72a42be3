use Rattle.std.proofs.Common.{rules, ◌≡◌, subst}
use Rattle.keyd_words.specs.Table.{row_of}
use Rattle.keyd_words.specs.Values.{IsSetTo}
use Rattle.keyd_words.specs.Settings.{Joins}
use Rattle.keyd_words.proofs.TableLemmas.{each_small}
use Rattle.keyd_words.proofs.ValueLemmas.{one_read}
use Rattle.keyd_words.proofs.setting.read_setting.Goals as goal

pub returns-then-not-joins-clause-err : goal.returns-then-not-joins-clause-err
returns-then-not-joins-clause-err c =
    let f = c.in-Some.name in
    let read = c.in_ok-value.value in
    let set : IsSetTo (row_of f).form read = subst (λ x. IsSetTo x read) c.row.ensures.form c.in_ok-value.ensures.ok.1 in
    record {
      option = f;
      named = c.in-Some.ensures.0;
      room = c.in-Some.ensures.1;
      refused = λ v are is joins.
          let same : v ≡ read = one_read (row_of f).form c.args.next v read (each_small f) are c.in_ok-value.ensures.ok.0 is set in
          let there : Joins c.args.spaces.now read = subst (Joins c.args.spaces.now) same joins in
          search (rules, c.joins.ensures.1 there, c.if-not-joins.true);
    }
