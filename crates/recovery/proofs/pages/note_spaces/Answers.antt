use Rattle.std.proofs.Common.{rules, ◌≡◌, ◌∙◌, ◌+◌, ◌<◌, ◌≤◌, ◌++◌, ℕ, List, ◌∷◌, [], length, take, drop, map, slice_index_or, sym, ap, subst, arith, IsErrAnd}
use Rattle.std.proofs.lemmas.List.{drop_more}
use Rattle.cause_core.proofs.Causes.{handed}
use Rattle.disk_model.specs.Event.{Event}
use Rattle.disk_model.proofs.Moments.{at_each, at_is}
use Rattle.store_files.specs.Header.{HeldSpace, pages_together}
use Rattle.store_files.proofs.SpacesInOrder.{pages_more}
use Rattle.store_form.specs.Said.{space_said}
use Rattle.store_form.specs.declared.header.HeaderSpace.{HeaderSpace}
use Rattle.recovery.specs.Files.{HasStoreFile, space_file}
use Rattle.recovery.specs.Notes.{AreSpaceNotes, FitNotes, HasNotes, HasRefusedHome, HaveNotes, HaveRefusedHome, IsByHome}
use Rattle.recovery.specs.declared.notes.PageNote.{PageNote}
use Rattle.recovery.proofs.Answered.{home_more}
use Rattle.recovery.proofs.WalkSteps.{all_at, all_unmap, first_at, first_map, pairs_left, pairs_more}
use Rattle.recovery.proofs.pages.note_spaces.Goals as goal

abbrev zero_space : HeaderSpace
zero_space = record { space = 0; pages = 0; key_id = 0 }

at_index : (xs : List HeaderSpace) (i : ℕ) → i < length xs → drop i xs ≡ slice_index_or xs i zero_space ∷ drop (i + 1) xs
at_index xs i lt = drop_more xs i zero_space lt

rest_pages : (xs : List HeaderSpace) (i : ℕ) → i < length xs → pages_together (map space_said (drop i xs)) ≡ (slice_index_or xs i zero_space).pages + pages_together (map space_said (drop (i + 1) xs))
rest_pages xs i lt = ap (λ (l : List HeaderSpace). pages_together (map space_said l)) (at_index xs i lt) ∙ pages_more (space_said (slice_index_or xs i zero_space)) (map space_said (drop (i + 1) xs))

pub note_space-requires-clause-file : goal.note_space-requires-clause-file
note_space-requires-clause-file g c =
    let xs = c.args.spaces.now in
    let i = c.loop-i.i in
    at_is c.loop-i.invariant.same (at_each (λ (es : List Event) have.
    all_at (λ (space : HeaderSpace). HasStoreFile es (space_file (space_said space))) xs i (slice_index_or xs i zero_space) _
    (all_unmap space_said (λ h. HasStoreFile es (space_file h)) xs (all_unmap space_file (HasStoreFile es) (map space_said xs) have)) (at_index xs i (omega (arith, c.loop-i-test.true)))) c.requires.files)

pub returns-in_err-noted-clause-refused : goal.returns-in_err-noted-clause-refused
returns-in_err-noted-clause-refused g c =
    let xs = c.args.spaces.now in
    let i = c.loop-i.i in
    let x = slice_index_or xs i zero_space in
    let past = g.D.Disk.past c.args.disk.now in
    let P = HasRefusedHome (space_said x) in
    let Q = HaveRefusedHome (map space_said xs) in
    let why = c.in_err-noted.field-0.0 in
    let is : IsErrAnd c.from_residual.result (λ e. e ≡ why) = search rules in
    handed (IsByHome Q past) c.from_residual.result why is
    (home_more P Q (g.D.Disk.past c.loop-i.disk) past why c.in_err-noted.ensures.refused
    (at_each (λ (es : List Event) noted e refused.
    first_map space_said (HasNotes es) (λ h. HasRefusedHome h e es) xs
    (first_at (λ (space : HeaderSpace). HasNotes es (space_said space)) (λ space. HasRefusedHome (space_said space) e es) xs i x _
    (all_unmap space_said (HasNotes es) (take i xs) (pairs_left (AreSpaceNotes es) (map space_said (take i xs)) c.loop-i.notes.items noted)) (at_index xs i (omega (arith, c.loop-i-test.true))) refused)) c.loop-i.invariant.notes)
    (λ at. at_is (sym c.loop-i.invariant.same) at))

pub returns-in_err-noted-clause-calls : goal.returns-in_err-noted-clause-calls
returns-in_err-noted-clause-calls g c =
    let rest = rest_pages c.args.spaces.now c.loop-i.i (omega (arith, c.loop-i-test.true)) in
    let so_far = c.loop-i.invariant.calls in
    let more = c.note_space.ensures.calls in
    omega (arith, rest, so_far, more)

pub returns-in_default-clause-calls : goal.returns-in_default-clause-calls
returns-in_default-clause-calls g c =
    let rest = rest_pages c.args.spaces.now c.loop-i.i (omega (arith, c.loop-i-test.true)) in
    let so_far = c.loop-i.invariant.calls in
    let more = c.note_space.ensures.calls in
    omega (arith, rest, so_far, more)

pub loop-i-preserved : goal.loop-i-preserved
loop-i-preserved g c =
    let xs = c.args.spaces.now in
    let i = c.loop-i.i in
    let x = slice_index_or xs i zero_space in
    let lt : i < length xs = omega (arith, c.loop-i-test.true) in
    let old = c.loop-i.notes.items in
    let new = c.in_ok-noted.noted in
    let items : c.push.new.self.items ≡ old ++ new ∷ [] = c.in-Ok.ensures.items in
    let rest = rest_pages xs i lt in
    let so_far = c.loop-i.invariant.calls in
    let more = c.note_space.ensures.calls in
    let noted = at_is (sym c.loop-i.invariant.same) c.in_ok-noted.ensures.notes in
    record {
      same = c.in_ok-noted.ensures.same ∙ c.loop-i.invariant.same;
      long = c.in_ok-noted.ensures.long;
      notes = record {
        here = λ es now. subst (λ (l : List (List PageNote)). HaveNotes (map space_said (take (i + 1) xs)) l es) (sym items)
            (pairs_more space_said (AreSpaceNotes es) xs i x _ old new (c.loop-i.invariant.notes.here es now) (at_index xs i lt) (record { long = c.in_ok-noted.ensures.count; notes_of = noted.here es now }));
      };
      fit = subst (λ (l : List (List PageNote)). FitNotes (map space_said (take (i + 1) xs)) l) (sym items)
          (pairs_more space_said (λ (h : HeldSpace) (n : List PageNote). length n ≡ h.pages) xs i x _ old new c.loop-i.invariant.fit (at_index xs i lt) c.in_ok-noted.ensures.count);
      calls = omega (arith, rest, so_far, more);
      faults = search rules;
      memory = c.in_ok-noted.ensures.no_refusal ∙ c.loop-i.invariant.memory;
      later = g.met.D.Disk.is_later_transitive _ _ _ c.loop-i.invariant.later c.in_ok-noted.ensures.later;
    }
