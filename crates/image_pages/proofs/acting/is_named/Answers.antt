use Rattle.std.proofs.Common.{◌≡◌, ◌∙◌, ap, sym, true≢false, List, arith, rules}
use Rattle.std.proofs.lemmas.List.{drop_all}
use Rattle.byte_list.proofs.RangeLaws.{drop_item}
use Rattle.redo_text.specs.declared.change.Change.{Change}
use Rattle.store_files.specs.Pages.{mtr_names}
use Rattle.image_pages.proofs.Named.{named_next, named_here, none_named}
use Rattle.image_pages.proofs.acting.is_named.Goals as goal
use Rattle.image_pages.proofs.acting.is_named.Goals.{else-lsn-via-then-lsn+else-mtr_names, else-lsn-via-else-lsn}

pub returns-then-mtr_names-clause-yes : goal.returns-then-mtr_names-clause-yes
returns-then-mtr_names-clause-yes c =
    let e = c.entry-item.result in
    let same : c.lsn.result ≡ c.args.lsn = search rules in
    λ _. named_here c.args.run.now c.args.space c.args.number c.args.lsn c.loop-entry.entry-index e (drop_item c.args.run.now c.loop-entry.entry-index e c.loop-entry-test.true c.entry-item.is) (sym c.lsn.ensures ∙ same)
    (ap (λ (m : List Change). mtr_names m c.args.space c.args.number) (sym c.mtr.ensures) ∙ sym c.mtr_names.ensures ∙ c.if-mtr_names.true)

pub loop-entry-preserved : goal.loop-entry-preserved
loop-entry-preserved c =
    let e = c.entry-item.result in
    named_next c.args.run.now c.args.space c.args.number c.args.lsn c.loop-entry.entry-index e c.loop-entry.invariant (drop_item c.args.run.now c.loop-entry.entry-index e c.loop-entry-test.true c.entry-item.is)
    (elim c.else-lsn.branch [
      | else-lsn-via-then-lsn+else-mtr_names w ↦ λ at named. true≢false (sym named ∙ ap (λ (m : List Change). mtr_names m c.args.space c.args.number) (sym w.mtr.ensures) ∙ sym w.mtr_names.ensures ∙ w.if-mtr_names.false)
      | else-lsn-via-else-lsn w ↦ λ at named. let other : c.lsn.result ≡ c.args.lsn → ⊥ = search rules in other (c.lsn.ensures ∙ at)
    ])

pub returns-clause-no : goal.returns-clause-no
returns-clause-no c = λ _. none_named c.args.run.now c.args.space c.args.number c.args.lsn c.loop-entry.entry-index c.loop-entry.invariant (drop_all c.loop-entry.entry-index c.args.run.now (omega arith))
