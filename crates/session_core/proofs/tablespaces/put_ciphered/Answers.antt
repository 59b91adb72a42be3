use Rattle.std.proofs.Common.{◌≡◌, ◌∙◌, ℕ, ◌<◌, List, length, slice_index_or, slice_set, ap, sym, subst}
use Rattle.space_head.specs.declared.space.SpaceInfo.{SpaceInfo}
use Rattle.store_form.specs.Rest.{place_in}
use Rattle.store_model.specs.Fold.{made_ciphered}
use Rattle.session_core.proofs.SpaceEdits.{place_within, space_placed}
use Rattle.session_core.proofs.tablespaces.put_ciphered.Goals as goal

pub get-info-requires : goal.get-info-requires
get-info-requires c =
    let place : c.place_of-place.result ≡ place_in c.args.spaces.now c.args.space = c.place_of-place.ensures ∙ ap (λ (l : List SpaceInfo). place_in l c.args.space) c.as_slice.ensures in
    subst (λ (n : ℕ). n < length c.args.spaces.now) (sym place) (place_within c.args.spaces.now c.args.space c.requires.0 c.requires.1)

pub set-requires : goal.set-requires
set-requires c =
    let place : c.place_of-place.result ≡ place_in c.args.spaces.now c.args.space = c.place_of-place.ensures ∙ ap (λ (l : List SpaceInfo). place_in l c.args.space) c.as_slice.ensures in
    subst (λ (n : ℕ). n < length c.args.spaces.now) (sym place) (place_within c.args.spaces.now c.args.space c.requires.0 c.requires.1)

pub returns : goal.returns
returns c =
    let spaces = c.args.spaces.now in
    let place : c.place_of-place.result ≡ place_in spaces c.args.space = c.place_of-place.ensures ∙ ap (λ (l : List SpaceInfo). place_in l c.args.space) c.as_slice.ensures in
    let info = c.get-info.result.now in
    c.set.ensures ∙ ap (λ (x : SpaceInfo). slice_set spaces c.place_of-place.result (made_ciphered x)) c.get-info.ensures
    ∙ ap (λ (n : ℕ). slice_set spaces n (made_ciphered (slice_index_or spaces n info))) place ∙ space_placed spaces c.args.space made_ciphered c.requires.0 info c.requires.1
