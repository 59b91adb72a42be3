use Rattle.std.proofs.Common.{◌≡◌, ◌∙◌, ◌+◌, ◌++◌, [], ◌∷◌, ℕ, ap, sym, subst, length, List}
use Rattle.redo_text.specs.declared.change.Change.{Change}
use Rattle.redo_text.specs.Changes.{change_of}
use Rattle.redo_text.specs.Text.{text_of, change_text}
use Rattle.image_log.proofs.ChangeLists.{ReadsUpTo, reads_next, reads_stuck, length_joined}
use Rattle.image_log.proofs.changes.changes_of.Goals as goal

pub reading-preserved : goal.reading-preserved
reading-preserved c =
    let next = rw c.in-Ok-Some.field-0-is at c.in-Ok-Some.ensures.next in
    let changes = c.reading.changes.items in
    let change = change_of c.in-Ok-Some.view in
    let items : c.push.new.self.items ≡ changes ++ change ∷ [] = c.in_ok-push-in-Ok-Some.ensures.items ∙ ap (λ (x : Change). changes ++ x ∷ []) c.in_ok-owned-in-Ok-Some.ensures in (
      subst (λ (cs : List Change). ReadsUpTo c.args.text.now cs c.next.new.self.rest) (sym items) (reads_next c.args.text.now changes c.reading.reader.rest change c.next.new.self.rest c.reading.invariant.0 next.0),
      subst (λ (cs : List Change). c.next.new.self.at ≡ length (text_of cs)) (sym items) (next.1 ∙ ap (λ (n : ℕ). n + length (change_text change)) c.reading.invariant.1 ∙ sym (length_joined changes change)),
    )

pub returns-in-Err : goal.returns-in-Err
returns-in-Err c = reads_stuck c.args.text.now c.reading.changes.items c.reading.reader.rest _ c.reading.invariant.0 (c.in-Err.ensures.next.0 ∙ c.reading.invariant.1) c.in-Err.ensures.next.1 c.in-Err.ensures.next.2
