use Rattle.std.proofs.Common.{◌≡◌, ◌<◌, ℕ, List, [], length, map, slice_index_or, sym, ap, subst, ◌∙◌, arith}
use Rattle.store_files.specs.Header.{HeldSpace}
use Rattle.store_form.specs.Said.{space_said}
use Rattle.recovery.specs.Keys.{IsCopyKey, IsLiveBy, IsTextKey, notes_at}
use Rattle.recovery.specs.Notes.{no_note}
use Rattle.recovery.specs.SpaceList.{held_at, no_held}
use Rattle.recovery.specs.declared.keys.KeyName.{KeyName}
use Rattle.recovery.specs.declared.notes.PageNote.{PageNote}
use Rattle.recovery.proofs.KeySteps.{pairs_long, pairs_nth}
use Rattle.recovery.proofs.LooksSteps.{looks_as, looks_nothing}
use Rattle.recovery.proofs.PlaceSteps.{held_said, one_place}
use Rattle.recovery.proofs.keys.look_for_copy.Goals as goal

pub get-requires : goal.get-requires
get-requires c = let long = pairs_long (λ (h : HeldSpace) (n : List PageNote). length n ≡ h.pages) (map space_said c.args.spaces.now) c.args.notes.now c.requires.fit in let below = c.in-Some.ensures.some.below in omega (arith, long, below)

pub get-note-requires : goal.get-note-requires
get-note-requires c =
    let at = c.in-Some.ensures.some in
    let long = pairs_nth (λ (h : HeldSpace) (n : List PageNote). length n ≡ h.pages) (map space_said c.args.spaces.now) c.args.notes.now c.in-Some.place no_held [] c.requires.fit at.below in
    let same = ap length c.get.ensures in
    let page = at.page in
    omega (arith, long, same, page)

pub returns-then-not-is_live : goal.returns-then-not-is_live
returns-then-not-is_live c =
    let hs = map space_said c.args.spaces.now in
    let at = c.in-Some.ensures.some in
    let note : c.get-note.result.now ≡ slice_index_or (notes_at c.args.notes.now c.in-Some.place) c.args.copied.now.page no_note = c.get-note.ensures ∙ ap (λ (l : List PageNote). slice_index_or l c.args.copied.now.page no_note) c.get.ensures in
    looks_nothing c.args.ring.now (IsCopyKey hs c.args.notes.now c.args.copied.now) c.args.least (λ x is lacks.
    let same : is.place ≡ c.in-Some.place = one_place 0 hs is.place c.in-Some.place c.requires.order is.is_place.below at.below (is.is_place.space ∙ sym at.space) in
    c.is_live.ensures.no c.if-not-is_live.true (subst (λ (n : PageNote). IsLiveBy n c.args.copied.now.lsn) (sym note) (subst (λ (i : ℕ). IsLiveBy (slice_index_or (notes_at c.args.notes.now i) c.args.copied.now.page no_note) c.args.copied.now.lsn) same is.live)))

pub returns : goal.returns
returns c =
    let hs = map space_said c.args.spaces.now in
    let at = c.in-Some.ensures.some in
    let note : c.get-note.result.now ≡ slice_index_or (notes_at c.args.notes.now c.in-Some.place) c.args.copied.now.page no_note = c.get-note.ensures ∙ ap (λ (l : List PageNote). slice_index_or l c.args.copied.now.page no_note) c.get.ensures in
    let key = ap (λ (h : HeldSpace). h.key_id) (held_said c.args.spaces.now c.in-Some.place) in
    looks_as c.args.ring.now (IsTextKey _ c.args.copied.now.version) (IsCopyKey hs c.args.notes.now c.args.copied.now) c.args.least c.look_for_text.result
    (λ x is. record { place = c.in-Some.place; is_place = at; live = subst (λ (n : PageNote). IsLiveBy n c.args.copied.now.lsn) note (c.is_live.ensures.yes c.if-not-is_live.false); key = subst (λ (id : ℕ). IsTextKey id c.args.copied.now.version x) (sym key) is })
    (λ x is.
    let same : is.place ≡ c.in-Some.place = one_place 0 hs is.place c.in-Some.place c.requires.order is.is_place.below at.below (is.is_place.space ∙ sym at.space) in
    subst (λ (id : ℕ). IsTextKey id c.args.copied.now.version x) (ap (λ (i : ℕ). (held_at hs i).key_id) same ∙ key) is.key) c.look_for_text.ensures
