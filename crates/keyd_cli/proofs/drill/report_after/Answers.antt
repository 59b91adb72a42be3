use Rattle.std.proofs.Common.{◌≡◌, List, [], ◌∷◌, map, take, IfOk, sym, ◌∙◌, ap, subst}
use Rattle.std.proofs.lemmas.List.{take-map}
use Rattle.redo_text.specs.declared.change.Change.{Change}
use Rattle.store_model.specs.declared.contents.SpaceContents.{SpaceContents}
use Rattle.store_model.specs.Fold.{fold, empty}
use Rattle.store_model.specs.Report.{report_text}
use Rattle.plain_engine.specs.declared.journal.Entry.{Entry}
use Rattle.plain_engine.specs.Stands.{contents_after, mtrs}
use Rattle.keyd_cli.specs.Drill.{info_of}
use Rattle.keyd_cli.proofs.drill.report_after.Goals as goal

pub returns : goal.returns
returns c =
    let first : c.in_ok-first.first ≡ empty (info_of c.args.space.now ∷ []) = c.in_ok-first.ensures ∙ ap (λ i. empty (i ∷ [])) c.space_info.ensures in
    let all : c.deref.result.now ≡ take c.args.kept (mtrs c.args.journal.now) = c.deref.ensures.value ∙ c.in_ok-mtrs.ensures ∙ ap (λ es. map (λ (e : Entry). e.mtr) (take c.args.kept es)) c.entries.ensures ∙ sym (take-map (λ (e : Entry). e.mtr) c.args.kept c.args.journal.now) in
    let whole : c.in_ok-contents.contents ≡ contents_after c.args.kept c.args.journal.now (empty (info_of c.args.space.now ∷ [])) =
    c.in_ok-contents.ensures ∙ ap (λ (ms : List (List Change)). fold ms c.in_ok-first.first) all ∙ ap (λ (base : List SpaceContents). fold (take c.args.kept (mtrs c.args.journal.now)) base) first in
    subst (λ (x : List SpaceContents). IfOk c.report.result (λ text. text.items ≡ report_text x)) whole c.report.ensures
