use Rattle.std.proofs.Common.{rules, ◌≡◌, ◌∙◌, ◌+◌, ◌++◌, ℕ, List, ◌∷◌, [], length, sym, ap, subst, arith, IsErrAnd, length-append}
use Rattle.cause_core.proofs.Causes.{handed}
use Rattle.disk_model.proofs.Moments.{at_is}
use Rattle.store_form.specs.Said.{space_said}
use Rattle.recovery.specs.Notes.{AreNotesOf, HasRefusedHome, IsByHome, IsNoteOf}
use Rattle.recovery.specs.declared.notes.PageNote.{PageNote}
use Rattle.recovery.proofs.Answered.{by_home}
use Rattle.recovery.proofs.NoteSteps.{notes_more}
use Rattle.recovery.proofs.pages.note_space.Goals as goal

pub returns-in_err-note-clause-refused : goal.returns-in_err-note-clause-refused
returns-in_err-note-clause-refused g c =
    let past = g.D.Disk.past c.args.disk.now in
    let P = HasRefusedHome (space_said c.args.space.now) in
    let why = c.in_err-note.field-0.0 in
    let is : IsErrAnd c.from_residual-in_err-note.result (λ e. e ≡ why) = search rules in
    let bytes = at_is (sym c.loop-page.invariant.same) c.in_ok-read_home.ensures.bytes in
    handed (IsByHome P past) c.from_residual-in_err-note.result why is (by_home P past why c.in_err-note.ensures.kind (record {
      here = λ es now. record {
        page = c.loop-page.page;
        within = omega (arith, c.loop-page-test.true, c.loop-page.auto.page-end);
        notes = c.loop-page.notes.items;
        before = c.loop-page.invariant.count;
        taken = c.loop-page.invariant.notes.here es now;
        is = c.in_err-note.ensures.refused es (bytes.here es now) (c.requires.copies.here es now);
      };
    }))

pub loop-page-preserved : goal.loop-page-preserved
loop-page-preserved g c =
    let s = c.args.space.now.space in
    let old = c.loop-page.notes.items in
    let note = c.in_ok-note.note in
    let items : c.push.new.self.items ≡ old ++ note ∷ [] = c.in-Ok.ensures.items in
    let bytes = at_is (sym c.loop-page.invariant.same) c.in_ok-read_home.ensures.bytes in
    record {
      same = c.in_ok-read_home.ensures.same ∙ c.loop-page.invariant.same;
      long = c.in_ok-read_home.ensures.long;
      count = ap length items ∙ length-append old (note ∷ []) ∙ (let k = c.loop-page.invariant.count in omega (arith, k));
      notes = record {
        here = λ es now. subst (λ (l : List PageNote). AreNotesOf s l es) (sym items)
            (notes_more s old note es (c.loop-page.invariant.notes.here es now)
            (subst (λ (q : ℕ). IsNoteOf s q note es) (sym c.loop-page.invariant.count) (c.in_ok-note.ensures.note es (bytes.here es now) (c.requires.copies.here es now))));
      };
      calls = omega (arith, c.loop-page.invariant.calls, c.in_ok-read_home.ensures.calls);
      faults = search rules;
      memory = c.in_ok-read_home.ensures.no_refusal ∙ c.loop-page.invariant.memory;
      later = g.met.D.Disk.is_later_transitive _ _ _ c.loop-page.invariant.later c.in_ok-read_home.ensures.later;
    }
