use Rattle.std.proofs.Common.{List, ℕ, sym, subst, ◌∙◌}
use Rattle.redo_text.specs.Text.{change_text}
use Rattle.redo_text.specs.Changes.{Begins, ChangePlace, change_of}
use Rattle.redo_text.proofs.ChangeLaws.{one_change, one_rest}
use Rattle.redo_text.proofs.ChangeReads.{left_behind}
use Rattle.redo_text.proofs.changes.Changes.next.Goals as goal

pub returns-clause-only : goal.returns-clause-only
returns-clause-only c = λ change rest b.
    let text : List ℕ = c.self.inside.rest.now in
    let left : List ℕ = c.change.new.cursor in
    let here : Begins text change rest = subst (λ (p : ChangePlace). Begins p.rest change rest) (sym c.self.view_is) b in
    let lent : Begins text (change_of c.in-Some.view) left = rw (sym c.new-cursor.ensures) c.in-Some.ensures.some in
    (one_change text (change_of c.in-Some.view) change left rest lent here, left_behind text (change_text (change_of c.in-Some.view)) left c.len.result lent.is c.len.ensures ∙ one_rest text (change_of c.in-Some.view) change left rest lent here)
