use Rattle.std.proofs.Common.{rules, ◌≡◌, ◌∙◌, ℕ, List, sym, subst, IsErrAnd}
use Rattle.cause_core.proofs.Causes.{handed}
use Rattle.disk_model.specs.Past.{At}
use Rattle.disk_model.proofs.Moments.{at_both, at_each, at_is}
use Rattle.doublewrite.specs.declared.refuse.OpenRefuse.{OpenRefuse}
use Rattle.store_form.specs.Said.{header_said}
use Rattle.recovery.specs.Heads.{HaveWrongHead, IsByHead}
use Rattle.recovery.specs.Looking.{FoundHeads, FoundPages, IsOpenRefusal}
use Rattle.recovery.specs.Notes.{HaveRefusedHome, IsByHome}
use Rattle.recovery.specs.Stages.{checkpoint_said}
use Rattle.recovery.proofs.OpenRefusals.{found_parts, home_refused, key_refused, wrong_refused}
use Rattle.recovery.proofs.looking.find_contents.Goals as goal

pub find_copies-requires : goal.find_copies-requires
find_copies-requires g c = at_each (λ es f. f.files.have.1.0) c.requires.found

pub find_pages-requires-clause-files : goal.find_pages-requires-clause-files
find_pages-requires-clause-files g c = at_is c.in_ok-copies.ensures.same (at_each (λ es f. f.files.have.1.1) c.requires.found)

pub find_heads-requires-clause-files : goal.find_heads-requires-clause-files
find_heads-requires-clause-files g c = at_is (c.in_ok-notes.ensures.same ∙ c.in_ok-copies.ensures.same) (at_each (λ es f. f.files.have.1.1) c.requires.found)

pub returns-in_err-notes-clause-refused : goal.returns-in_err-notes-clause-refused
returns-in_err-notes-clause-refused g c =
    let keys = c.args.ring.now in
    let active = c.args.active in
    let past = g.D.Disk.past c.args.disk.now in
    let h = header_said c.args.log.now.header in
    let check = checkpoint_said c.args.log.now.checkpoint in
    let last = c.args.log.now.run.last in
    let why = c.in_err-notes.field-0.0 in
    let is : IsErrAnd c.from_residual-in_err-notes.result (λ e. e ≡ why) = search rules in
    handed (IsOpenRefusal keys active past) c.from_residual-in_err-notes.result why is
    (home_refused keys active past h check last c.requires.found why (subst (λ p. IsByHome (HaveRefusedHome h.spaces) p why) c.in_ok-copies.ensures.same c.in_err-notes.ensures.refused))

pub returns-in_err-heads-clause-refused : goal.returns-in_err-heads-clause-refused
returns-in_err-heads-clause-refused g c =
    let keys = c.args.ring.now in
    let active = c.args.active in
    let past = g.D.Disk.past c.args.disk.now in
    let h = header_said c.args.log.now.header in
    let check = checkpoint_said c.args.log.now.checkpoint in
    let last = c.args.log.now.run.last in
    let why = c.in_err-heads.field-0.0 in
    let pages : At (FoundPages h check last c.in_ok-notes.notes) past = at_both (λ es run notes. record { run = run; notes_of = notes }) c.requires.found (at_is (sym c.in_ok-copies.ensures.same) c.in_ok-notes.ensures.notes) in
    let is : IsErrAnd c.from_residual-in_err-heads.result (λ e. e ≡ why) = search rules in
    handed (IsOpenRefusal keys active past) c.from_residual-in_err-heads.result why is
    (wrong_refused keys active past h check last c.in_ok-notes.notes pages why (subst (λ p. IsByHead (HaveWrongHead h.spaces) p why) (c.in_ok-notes.ensures.same ∙ c.in_ok-copies.ensures.same) c.in_err-heads.ensures.refused))

pub returns-in_err-check_keys-clause-refused : goal.returns-in_err-check_keys-clause-refused
returns-in_err-check_keys-clause-refused g c =
    let keys = c.args.ring.now in
    let active = c.args.active in
    let past = g.D.Disk.past c.args.disk.now in
    let h = header_said c.args.log.now.header in
    let check = checkpoint_said c.args.log.now.checkpoint in
    let last = c.args.log.now.run.last in
    let why = c.in_err-check_keys.field-0.0 in
    let notes = at_is (sym c.in_ok-copies.ensures.same) c.in_ok-notes.ensures.notes in
    let heads = at_is (sym (c.in_ok-notes.ensures.same ∙ c.in_ok-copies.ensures.same)) c.in_ok-heads.ensures.heads in
    let found : At (FoundHeads h check last c.in_ok-notes.notes c.in_ok-heads.heads) past = record { here = λ es now. record { pages = record { run = c.requires.found.here es now; notes_of = notes.here es now }; heads_of = heads.here es now } } in
    let is : IsErrAnd c.from_residual-in_err-check_keys.result (λ e. e ≡ why) = search rules in
    handed (IsOpenRefusal keys active past) c.from_residual-in_err-check_keys.result why is
    (key_refused keys active past h check last c.in_ok-notes.notes c.in_ok-heads.heads c.args.log.now.run.versions c.in_ok-copies.copies found c.in_ok-copies.ensures.copies c.requires.versions why c.in_err-check_keys.ensures.kind c.in_err-check_keys.ensures.refused)

pub returns-clause-found : goal.returns-clause-found
returns-clause-found g c =
    let h = header_said c.args.log.now.header in
    let check = checkpoint_said c.args.log.now.checkpoint in
    let last = c.args.log.now.run.last in
    let notes = at_is (sym c.in_ok-copies.ensures.same) c.in_ok-notes.ensures.notes in
    let heads = at_is (sym (c.in_ok-notes.ensures.same ∙ c.in_ok-copies.ensures.same)) c.in_ok-heads.ensures.heads in
    record {
      here = λ es now.
          let pages : FoundPages h check last c.in_ok-notes.notes es = record { run = c.requires.found.here es now; notes_of = notes.here es now } in
          record {
            of_heads = record { pages = pages; heads_of = heads.here es now };
            there = λ log bounds.
                c.in_ok-check_keys.ensures.there log es
                (found_parts h check last c.args.log.now.run.versions c.in_ok-notes.notes c.in_ok-copies.copies es pages (c.in_ok-copies.ensures.copies.here es now) (c.requires.versions.here es now) log bounds);
          };
    }
