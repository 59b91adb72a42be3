use Rattle.std.proofs.Common.{◌≡◌, ◌∙◌, ap, sym, subst, ℕ, ◌<◌, length, List, [], slice_index_or, true}
use Rattle.space_head.specs.declared.space.SpaceInfo.{SpaceInfo}
use Rattle.store_files.specs.Pages.{has_page}
use Rattle.store_form.specs.Rest.{StoreAtRest, homes_of, place_in}
use Rattle.store_form.proofs.RestLaws.{space_found}
use Rattle.store_form.proofs.rest.AtRest.homes.Goals as goal

pub get-requires : goal.get-requires
get-requires g c =
    let has = subst (λ (r : StoreAtRest _). has_page r.header.spaces c.args.space 0 ≡ true) (sym c.self.view_is) c.requires in
    let place : place_in c.self.inside.spaces c.args.space ≡ c.place_of-place.result = sym (c.place_of-place.ensures ∙ ap (λ (l : List SpaceInfo). place_in l c.args.space) c.as_slice.ensures) in
    subst (λ (n : ℕ). n < length c.self.inside.homes) place (space_found _ c.self.inside.spaces c.self.inside.homes c.args.space 0 c.self.invariant.form.have has).listed

pub returns : goal.returns
returns g c =
    let has = subst (λ (r : StoreAtRest _). has_page r.header.spaces c.args.space 0 ≡ true) (sym c.self.view_is) c.requires in
    let place : c.place_of-place.result ≡ place_in c.self.inside.spaces c.args.space = c.place_of-place.ensures ∙ ap (λ (l : List SpaceInfo). place_in l c.args.space) c.as_slice.ensures in
    let found = space_found _ c.self.inside.spaces c.self.inside.homes c.args.space 0 c.self.invariant.form.have has in
    c.as_slice-2.ensures ∙ c.get.ensures ∙ ap (λ (n : ℕ). slice_index_or c.self.inside.homes n []) place ∙ found.homes ∙ ap (λ (r : StoreAtRest _). homes_of r.spaces r.homes c.args.space) c.self.view_is
