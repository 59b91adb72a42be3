use Rattle.std.proofs.Common.{◌≡◌, List, sym, subst, ◌∙◌, arith}
use Rattle.std.proofs.lemmas.List.{take_all}
use Rattle.byte_list.proofs.RangeLaws.{drop_item}
use Rattle.redo_text.specs.declared.change.Change.{Change}
use Rattle.store_image.specs.View.{Logged}
use Rattle.store_files.specs.Header.{HeldSpace}
use Rattle.crash_image.specs.Recovers.{AreOfStore, RunIsOfStore}
use Rattle.image_reader.specs.Lengths.{IsFirstForeign}
use Rattle.image_reader.proofs.Firsts.{run_more}
use Rattle.image_reader.proofs.Takes.{take_item}
use Rattle.image_reader.proofs.checks.other_pages.Goals as goal

same_are : (a b : List HeldSpace) (m n : List Change) → a ≡ b → m ≡ n → AreOfStore a m → AreOfStore b n
same_are a b m n ab mn are = subst (λ (X : Type 0). X) (λ i. AreOfStore (ab i) (mn i)) are

pub returns-then-not-are_of_store-clause-some : goal.returns-then-not-are_of_store-clause-some
returns-then-not-are_of_store-clause-some c =
    let items = c.run-entry-items.result.now in
    let left = drop_item items c.loop-entry.entry-index c.entry-item.result c.loop-entry-test.true c.entry-item.is in
    let found : IsFirstForeign c.args.header.now.spaces items c.first.result = record {
      index = c.loop-entry.entry-index;
      entry = c.entry-item.result;
      is = left;
      first_is = c.first.ensures;
      before = c.loop-entry.invariant;
      other = λ are. c.are_of_store.ensures.no c.if-not-are_of_store.true (same_are _ _ _ _ (sym c.spaces.ensures) (sym c.mtr.ensures) are);
    } in
    subst (λ (run : List (Logged (List Change))). IsFirstForeign c.args.header.now.spaces run c.first.result) c.run-entry-items.ensures found

pub loop-entry-preserved : goal.loop-entry-preserved
loop-entry-preserved c =
    let items = c.run-entry-items.result.now in
    let left = drop_item items c.loop-entry.entry-index c.entry-item.result c.loop-entry-test.true c.entry-item.is in
    let are = same_are _ _ _ _ c.spaces.ensures c.mtr.ensures (c.are_of_store.ensures.yes c.if-not-are_of_store.false) in
    subst (λ (es : List (Logged (List Change))). RunIsOfStore c.args.header.now.spaces es) (sym (take_item items c.loop-entry.entry-index c.entry-item.result _ left)) (run_more c.args.header.now.spaces _ c.entry-item.result c.loop-entry.invariant are)

pub returns-clause-none : goal.returns-clause-none
returns-clause-none c =
    let items = c.run-entry-items.result.now in
    let whole = take_all c.loop-entry.entry-index items (omega arith) in
    subst (λ (es : List (Logged (List Change))). RunIsOfStore c.args.header.now.spaces es) (whole ∙ c.run-entry-items.ensures) c.loop-entry.invariant
