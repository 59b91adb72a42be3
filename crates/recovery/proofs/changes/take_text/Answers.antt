use Rattle.std.proofs.Common.{◌≡◌, ◌+◌, ◌<◌, ◌≤◌, ◌∙◌, ℕ, List, [], length, map, slice_index_or, sym, ap, subst, arith, ⊎_elim}
use Rattle.std.specs.Prelude.{slice_set}
use Rattle.std.proofs.lemmas.Bool.{cases_lt}
use Rattle.doublewrite.specs.Restore.{space_at}
use Rattle.redo_text.specs.Changes.{Begins, change_of}
use Rattle.redo_text.specs.declared.change.Change.{Change}
use Rattle.space_head.specs.declared.space.SpaceInfo.{SpaceInfo}
use Rattle.store_files.specs.Header.{HeldSpace}
use Rattle.store_form.specs.Said.{space_said}
use Rattle.store_model.specs.Fold.{space_of}
use Rattle.recovery.specs.Changes.{head_lsn, info_after, page_named}
use Rattle.recovery.specs.Heads.{AreInfosFor, IsInfoFor}
use Rattle.recovery.specs.Notes.{no_note}
use Rattle.recovery.specs.SpaceList.{IsPlaceOf, no_held}
use Rattle.recovery.specs.declared.notes.PageNote.{PageNote}
use Rattle.recovery.proofs.KeySteps.{pairs_long, pairs_nth}
use Rattle.recovery.proofs.NotedChanges.{fit_set, infos_set, upto_more}
use Rattle.recovery.proofs.changes.take_text.Goals as goal

pub get-requires : goal.get-requires
get-requires c = let long = pairs_long (λ (h : HeldSpace) (n : List PageNote). length n ≡ h.pages) (map space_said c.args.spaces.now) c.args.notes.now c.requires.noted in let below = c.in-Some.ensures.some.below in omega (arith, long, below)

pub get-requires-in-Ok-Some : goal.get-requires-in-Ok-Some
get-requires-in-Ok-Some c =
    let at = c.in-Some.ensures.some in
    let long = pairs_nth (λ (h : HeldSpace) (n : List PageNote). length n ≡ h.pages) (map space_said c.args.spaces.now) c.args.notes.now c.in-Some.place no_held [] c.requires.noted at.below in
    let same = ap length c.get.ensures in
    let page = at.page in
    omega (arith, long, same, page)

pub note_change-requires-clause-space : goal.note_change-requires-clause-space
note_change-requires-clause-space c = let long = pairs_long IsInfoFor (map space_said c.args.spaces.now) c.reading.changes.spaces c.reading.invariant.infos in let below = c.in-Some.ensures.some.below in omega (arith, long, below)

pub reading-preserved : goal.reading-preserved
reading-preserved c =
    let hs = map space_said c.args.spaces.now in
    let lsn = c.args.lsn in
    let now = c.reading.changes in
    let new = c.note_change.new.changes in
    let change : Change = change_of c.in-Ok-Some.view in
    let place = c.in-Some.place in
    let next = rw c.in-Ok-Some.field-0-is at c.in-Ok-Some.ensures.next in
    let head_is : c.get-in-Ok-Some.result.now.lsn ≡ head_lsn c.args.notes.now place = ap (λ (n : PageNote). n.lsn) (c.get-in-Ok-Some.ensures ∙ ap (λ (l : List PageNote). slice_index_or l 0 no_note) c.get.ensures) in
    let at : IsPlaceOf hs (space_of change) (page_named change) place =
    subst (λ (s : ℕ). IsPlaceOf hs s (page_named change) place) c.page_of-named.ensures.space (subst (λ (p : ℕ). IsPlaceOf hs c.page_of-named.result.space p place) c.page_of-named.ensures.page c.in-Some.ensures.some) in
    let set : new.last ≡ slice_set now.last place (slice_set (slice_index_or now.last place []) (page_named change) lsn) =
    c.note_change.ensures.last ∙ ap (λ (p : ℕ). slice_set now.last place (slice_set (slice_index_or now.last place []) p lsn)) c.page_of-named.ensures.page in
    let later : head_lsn c.args.notes.now place < lsn → new.spaces ≡ slice_set now.spaces place (info_after change (space_at now.spaces place)) = λ above. c.note_change.ensures.later (subst (λ (n : ℕ). n < lsn) (sym head_is) above) in
    let earlier : lsn ≤ head_lsn c.args.notes.now place → new.spaces ≡ now.spaces = λ below. c.note_change.ensures.earlier (subst (λ (n : ℕ). lsn ≤ n) (sym head_is) below) in
    record {
      upto = upto_more hs c.args.notes.now lsn c.args.text.now c.reading.reader.rest c.reading.at c.args.changes.now now c.reading.invariant.upto c.requires.order change c.next.new.self.rest _ place new next.0 at (ap (λ (n : ℕ). c.reading.at + n) c.text_bytes-at.ensures)
          c.reading.invariant.last (pairs_long IsInfoFor hs now.spaces c.reading.invariant.infos) set later earlier;
      place = next.1 ∙ (λ i. c.reading.invariant.place i + sym c.text_bytes-at.ensures i);
      last = fit_set hs now.last new.last place (page_named change) lsn c.reading.invariant.last set;
      infos = ⊎_elim (λ (above : head_lsn c.args.notes.now place < lsn). subst (AreInfosFor hs) (sym (later above)) (infos_set hs now.spaces place change c.reading.invariant.infos))
          (λ (below : lsn ≤ head_lsn c.args.notes.now place). subst (AreInfosFor hs) (sym (earlier below)) c.reading.invariant.infos) (cases_lt (head_lsn c.args.notes.now place) lsn);
    }
