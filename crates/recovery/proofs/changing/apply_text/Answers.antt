use Rattle.std.proofs.Common.{◌≡◌, ◌∙◌, ℕ, ◌+◌, ◌++◌, [], ◌∷◌, ap, sym, subst, length, List}
use Rattle.redo_text.specs.declared.change.Change.{Change}
use Rattle.redo_text.specs.Changes.{ChangePlace, change_of}
use Rattle.redo_text.specs.Text.{text_of, change_text}
use Rattle.image_log.proofs.ChangeLists.{ReadsUpTo, reads_first, reads_next, reads_end, reads_stuck, length_joined}
use Rattle.recovery.proofs.ChangeSteps.{made_none, made_more}
use Rattle.recovery.proofs.changing.apply_text.Goals as goal

pub changes-init : goal.changes-init
changes-init c =
    let r = c.args.round.now in
    let rest : c.new-changes.result.rest ≡ c.args.text.now = ap (λ (x : ChangePlace). x.rest) c.new-changes.ensures in
    (c.requires.holds, ([], subst (λ (l : List ℕ). ReadsUpTo c.args.text.now [] l) (sym rest) (reads_first c.args.text.now), ap (λ (x : ChangePlace). x.at) c.new-changes.ensures, made_none c.args.notes.now c.args.last.now r.info.space r.from r.end c.args.lsn c.args.pool.now))

pub changes-preserved : goal.changes-preserved
changes-preserved c =
    let r = c.args.round.now in
    let (holds, (cs, reads, place, made)) = c.changes.invariant in
    let next = rw c.in-Ok-Some.field-0-is at c.in-Ok-Some.ensures.next in
    let change = change_of c.in-Ok-Some.change in (
      c.apply_change.ensures.holds,
      (
        cs ++ change ∷ [],
        reads_next c.args.text.now cs c.changes.changes.rest change c.next.new.self.rest reads next.0,
        next.1 ∙ ap (λ (n : ℕ). n + length (change_text change)) place ∙ sym (length_joined cs change),
        made_more c.args.notes.now c.args.last.now r.info.space r.from r.end c.args.lsn cs change c.args.pool.now c.changes.pool c.apply_change.new.pool made c.apply_change.ensures.made,
      ),
    )

pub returns-in-Ok-None-clause-made : goal.returns-in-Ok-None-clause-made
returns-in-Ok-None-clause-made c =
    let (holds, (cs, reads, place, made)) = c.changes.invariant in
    let next = rw c.in-Ok-None.field-0-is at c.in-Ok-None.ensures.next in
    record { changes = cs; text_of = reads_end c.args.text.now cs c.changes.changes.rest reads next.0; made = made }

pub returns-in-Err-clause-refused : goal.returns-in-Err-clause-refused
returns-in-Err-clause-refused c =
    let (holds, (cs, reads, place, made)) = c.changes.invariant in
    reads_stuck c.args.text.now cs c.changes.changes.rest _ reads (c.in-Err.ensures.next.0 ∙ place) c.in-Err.ensures.next.1 c.in-Err.ensures.next.2
