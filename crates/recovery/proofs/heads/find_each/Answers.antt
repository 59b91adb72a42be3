use Rattle.std.proofs.Common.{rules, ◌≡◌, ◌∙◌, ◌+◌, ◌<◌, ◌≤◌, ◌++◌, ℕ, List, ◌∷◌, [], length, take, drop, map, slice_index_or, refl, sym, ap, subst, arith, IsErrAnd}
use Rattle.std.proofs.lemmas.List.{drop_more}
use Rattle.cause_core.proofs.Causes.{handed}
use Rattle.disk_model.specs.Event.{Event}
use Rattle.disk_model.specs.declared.names.FileName.TheVariants.{Space}
use Rattle.disk_model.proofs.Moments.{at_both, at_each, at_is}
use Rattle.page_places.specs.Texts.{pages}
use Rattle.places.proofs.FileSteps.{file_inside}
use Rattle.space_head.specs.declared.space.SpaceInfo.{SpaceInfo}
use Rattle.store_files.specs.Header.{HeldSpace}
use Rattle.store_form.specs.Said.{space_said}
use Rattle.store_form.specs.declared.header.HeaderSpace.{HeaderSpace}
use Rattle.recovery.specs.Files.{HasStoreFile, space_file}
use Rattle.recovery.specs.Heads.{AreInfosFor, IsInfoFor, HasHeadInfo, HasWrongHead, HaveHeads, HaveWrongHead, IsByHead, IsHeadInfo}
use Rattle.recovery.specs.Notes.{AreSpaceNotes, IsNoteOf, no_note}
use Rattle.recovery.specs.declared.notes.PageNote.{PageNote}
use Rattle.recovery.proofs.HeadSteps.{by_head_more}
use Rattle.recovery.proofs.WalkSteps.{all_at, all_unmap, first_at, first_map, pairs_at, pairs_left, pairs_more}
use Rattle.recovery.proofs.heads.find_each.Goals as goal

abbrev zero_space : HeaderSpace
zero_space = record { space = 0; pages = 0; key_id = 0 }

at_index : (xs : List HeaderSpace) (i : ℕ) → i < length xs → drop i xs ≡ slice_index_or xs i zero_space ∷ drop (i + 1) xs
at_index xs i lt = drop_more xs i zero_space lt

pub get-requires : goal.get-requires
get-requires g c =
    let xs = c.args.spaces.now in
    let i = c.loop-i.i in
    (pairs_at space_said (λ (h : HeldSpace) (n : List PageNote). length n ≡ h.pages) xs i _ _ c.args.notes.now [] c.requires.fit (at_index xs i (omega (arith, c.loop-i-test.true)))).0

some_pages : (n m k : ℕ) → n ≡ m → 0 < m → n ≡ k → 0 < k
some_pages n m k e lt f = omega (arith, e, lt, f)

pub get-note-requires : goal.get-note-requires
get-note-requires g c =
    let xs = c.args.spaces.now in
    let i = c.loop-i.i in
    let at = at_index xs i (omega (arith, c.loop-i-test.true)) in
    let long = (pairs_at space_said (λ (h : HeldSpace) (n : List PageNote). length n ≡ h.pages) xs i _ _ c.args.notes.now [] c.requires.fit at).1 in
    let some : 0 < (slice_index_or xs i zero_space).pages = all_at (λ (space : HeaderSpace). 0 < space.pages) xs i _ _ c.requires.some at in
    some_pages _ _ _ long some (ap length (sym c.get.ensures))

pub find_head-requires-clause-inside : goal.find_head-requires-clause-inside
find_head-requires-clause-inside g c =
    let xs = c.args.spaces.now in
    let i = c.loop-i.i in
    let x = slice_index_or xs i zero_space in
    let at = at_index xs i (omega (arith, c.loop-i-test.true)) in
    let some : 0 < x.pages = all_at (λ (space : HeaderSpace). 0 < space.pages) xs i _ _ c.requires.some at in
    at_is c.loop-i.invariant.same (at_each (λ (es : List Event) have.
    file_inside (Space x.space) (pages x.pages) 0 some 16384 refl es
    (all_at (λ (space : HeaderSpace). HasStoreFile es (space_file (space_said space))) xs i x _
    (all_unmap space_said (λ h. HasStoreFile es (space_file h)) xs (all_unmap space_file (HasStoreFile es) (map space_said xs) have)) at)) c.requires.files)

pub find_head-requires-clause-noted : goal.find_head-requires-clause-noted
find_head-requires-clause-noted g c =
    let xs = c.args.spaces.now in
    let i = c.loop-i.i in
    let x = slice_index_or xs i zero_space in
    let at = at_index xs i (omega (arith, c.loop-i-test.true)) in
    let some : 0 < x.pages = all_at (λ (space : HeaderSpace). 0 < space.pages) xs i _ _ c.requires.some at in
    at_is c.loop-i.invariant.same (at_each (λ (es : List Event) noted.
    let notes = (pairs_at space_said (AreSpaceNotes es) xs i x _ c.args.notes.now [] noted at).1 in
    subst (λ (n : PageNote). IsNoteOf x.space 0 n es) (ap (λ (l : List PageNote). slice_index_or l 0 no_note) (sym c.get.ensures) ∙ sym c.get-note.ensures)
    (notes.notes_of.each 0 (let long = notes.long in omega (arith, long, some)))) c.requires.noted)

pub returns-in_err-info-clause-refused : goal.returns-in_err-info-clause-refused
returns-in_err-info-clause-refused g c =
    let xs = c.args.spaces.now in
    let i = c.loop-i.i in
    let x = slice_index_or xs i zero_space in
    let past = g.D.Disk.past c.args.disk.now in
    let P = HasWrongHead (space_said x) in
    let Q = HaveWrongHead (map space_said xs) in
    let why = c.in_err-info.field-0.0 in
    let is : IsErrAnd c.from_residual.result (λ e. e ≡ why) = search rules in
    handed (IsByHead Q past) c.from_residual.result why is
    (by_head_more P Q (g.D.Disk.past c.loop-i.disk) past why
    (λ e at. at_both (λ (es : List Event) heads wrong.
    first_map space_said (HasHeadInfo es) (λ h. HasWrongHead h e es) xs
    (first_at (λ (space : HeaderSpace). HasHeadInfo es (space_said space)) (λ space. HasWrongHead (space_said space) e es) xs i x _
    (all_unmap space_said (HasHeadInfo es) (take i xs) (pairs_left (λ (h : HeldSpace) (info : SpaceInfo). IsHeadInfo h info es) (map space_said (take i xs)) c.loop-i.infos.items heads)) (at_index xs i (omega (arith, c.loop-i-test.true))) wrong))
    c.loop-i.invariant.heads (at_is (sym c.loop-i.invariant.same) at))
    c.in_err-info.ensures.refused)

pub loop-i-preserved : goal.loop-i-preserved
loop-i-preserved g c =
    let xs = c.args.spaces.now in
    let i = c.loop-i.i in
    let x = slice_index_or xs i zero_space in
    let at = at_index xs i (omega (arith, c.loop-i-test.true)) in
    let old = c.loop-i.infos.items in
    let new = c.in_ok-info.info in
    let items : c.push.new.self.items ≡ old ++ new ∷ [] = c.in-Ok.ensures.items in
    let found = at_is (sym c.loop-i.invariant.same) c.in_ok-info.ensures.info in
    record {
      same = c.in_ok-info.ensures.same ∙ c.loop-i.invariant.same;
      long = c.in_ok-info.ensures.long;
      heads = record {
        here = λ es now. subst (λ (l : List SpaceInfo). HaveHeads (map space_said (take (i + 1) xs)) l es) (sym items)
            (pairs_more space_said (λ (h : HeldSpace) (info : SpaceInfo). IsHeadInfo h info es) xs i x _ old new (c.loop-i.invariant.heads.here es now) at (found.here es now));
      };
      fit = subst (λ (l : List SpaceInfo). AreInfosFor (map space_said (take (i + 1) xs)) l) (sym items) (pairs_more space_said IsInfoFor xs i x _ old new c.loop-i.invariant.fit at c.in_ok-info.ensures.fits);
      calls = omega (arith, c.loop-i.invariant.calls, c.in_ok-info.ensures.calls);
      faults = search rules;
      memory = c.in_ok-info.ensures.no_refusal ∙ c.loop-i.invariant.memory;
      later = g.met.D.Disk.is_later_transitive _ _ _ c.loop-i.invariant.later c.in_ok-info.ensures.later;
    }
