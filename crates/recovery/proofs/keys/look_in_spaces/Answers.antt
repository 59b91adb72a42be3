use Rattle.std.proofs.Common.{◌≡◌, ◌⊎◌, ◌<◌, ℕ, List, [], length, map, slice_index_or, sym, ap, subst, ◌∙◌, arith}
use Rattle.std.proofs.lemmas.List.{length-map}
use Rattle.store_files.specs.Header.{HeldSpace}
use Rattle.store_form.specs.Said.{space_said}
use Rattle.recovery.specs.Keys.{IsNoteKey, IsSpaceKey, LooksFor, OneBelow, key_named, notes_at}
use Rattle.recovery.specs.SpaceList.{held_at}
use Rattle.recovery.specs.declared.keys.KeyName.{KeyName}
use Rattle.recovery.specs.declared.notes.PageNote.{PageNote}
use Rattle.recovery.proofs.KeySteps.{pairs_long}
use Rattle.recovery.proofs.LooksSteps.{looks_next, looks_then}
use Rattle.recovery.proofs.PlaceSteps.{held_said}
use Rattle.recovery.proofs.keys.look_in_spaces.Goals as goal

pub get-requires : goal.get-requires
get-requires c =
    let long = pairs_long (λ (h : HeldSpace) (n : List PageNote). length n ≡ h.pages) (map space_said c.args.spaces.now) c.args.notes.now c.requires in
    let mapped = length-map c.args.spaces.now space_said in
    let lt = c.loop-i-test.true in
    omega (arith, long, mapped, lt)

pub loop-i-preserved : goal.loop-i-preserved
loop-i-preserved c =
    let hs = map space_said c.args.spaces.now in
    let i = c.loop-i.i in
    let key = ap (λ (h : HeldSpace). h.key_id) (held_said c.args.spaces.now i) in
    looks_next c.args.ring.now (IsSpaceKey c.args.active hs c.args.notes.now) i c.args.least c.loop-i.found c.look_in_notes-found.result c.loop-i.invariant
    (subst (λ (ns : List PageNote). LooksFor c.args.ring.now (λ x. (x ≡ key_named (held_at hs i).key_id c.args.active) ⊎ OneBelow (IsNoteKey (held_at hs i).key_id ns) (length ns) x) c.loop-i.found c.look_in_notes-found.result) c.get.ensures
    (subst (λ (id : ℕ). LooksFor c.args.ring.now (λ x. (x ≡ key_named id c.args.active) ⊎ OneBelow (IsNoteKey id c.get.result.now) (length c.get.result.now) x) c.loop-i.found c.look_in_notes-found.result) (sym key)
    (looks_then c.args.ring.now (λ x. x ≡ key_named _ c.args.active) (OneBelow (IsNoteKey _ c.get.result.now) (length c.get.result.now)) c.loop-i.found c.look_for-own.result c.look_in_notes-found.result c.look_for-own.ensures c.look_in_notes-found.ensures)))
