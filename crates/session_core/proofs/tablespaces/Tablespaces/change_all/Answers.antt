use Rattle.std.proofs.Common.{◌+◌, ◌∙◌, List, drop, sym, ap, subst}
use Rattle.byte_list.proofs.RangeLaws.{drop_item}
use Rattle.crash_image.specs.Recovers.{AreOfStore}
use Rattle.redo_text.specs.declared.change.Change.{Change}
use Rattle.session_core.specs.SpaceChanges.{spaces_after}
use Rattle.session_core.specs.Spaces.{StoreSpaces}
use Rattle.session_core.proofs.tablespaces.Tablespaces.change_all.Goals as goal

pub change-requires : goal.change-requires
change-requires c =
    let rest = drop_item c.args.changes.now c.loop-change.change-index c.change-item.result c.loop-change-test.true c.change-item.is in
    (subst (AreOfStore c.loop-change.self.header.spaces) rest c.loop-change.invariant.of_store).0

pub loop-change-preserved : goal.loop-change-preserved
loop-change-preserved c =
    let behind = drop (c.loop-change.change-index + 1) c.args.changes.now in
    let rest = drop_item c.args.changes.now c.loop-change.change-index c.change-item.result c.loop-change-test.true c.change-item.is in
    let all = subst (AreOfStore c.loop-change.self.header.spaces) rest c.loop-change.invariant.of_store in
    record {
      after = ap (spaces_after behind) c.change.ensures ∙ sym (ap (λ (l : List Change). spaces_after l c.loop-change.self) rest) ∙ c.loop-change.invariant.after;
      of_store = subst (λ (s : StoreSpaces). AreOfStore s.header.spaces behind) (sym c.change.ensures) all.1;
    }
