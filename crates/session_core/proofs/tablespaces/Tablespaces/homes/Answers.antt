use Rattle.std.proofs.Common.{◌≡◌, ◌∙◌, ap, sym, subst, ℕ, ◌<◌, length, List, [], Some, slice_index_or}
use Rattle.space_head.specs.declared.space.SpaceInfo.{SpaceInfo}
use Rattle.store_form.specs.Rest.{homes_of, place_in}
use Rattle.session_core.specs.Spaces.{StoreSpaces, space_with_id}
use Rattle.session_core.proofs.SpaceLaws.{space_here}
use Rattle.session_core.proofs.tablespaces.Tablespaces.homes.Goals as goal

pub get-requires : goal.get-requires
get-requires c =
    let is = subst (λ (s : StoreSpaces). space_with_id s.spaces c.args.space ≡ Some c.requires.0) (sym c.self.view_is) c.requires.1 in
    let place : place_in c.self.inside.spaces c.args.space ≡ c.place_of-place.result = sym (c.place_of-place.ensures ∙ ap (λ (l : List SpaceInfo). place_in l c.args.space) c.as_slice.ensures) in
    subst (λ (n : ℕ). n < length c.self.inside.homes) place (space_here _ c.self.inside.spaces c.self.inside.homes c.args.space c.requires.0 c.self.invariant.spaces.have is).listed

pub returns-clause-homes : goal.returns-clause-homes
returns-clause-homes c =
    let is = subst (λ (s : StoreSpaces). space_with_id s.spaces c.args.space ≡ Some c.requires.0) (sym c.self.view_is) c.requires.1 in
    let place : c.place_of-place.result ≡ place_in c.self.inside.spaces c.args.space = c.place_of-place.ensures ∙ ap (λ (l : List SpaceInfo). place_in l c.args.space) c.as_slice.ensures in
    let found = space_here _ c.self.inside.spaces c.self.inside.homes c.args.space c.requires.0 c.self.invariant.spaces.have is in
    c.as_slice-2.ensures ∙ c.get.ensures ∙ ap (λ (n : ℕ). slice_index_or c.self.inside.homes n []) place ∙ found.homes ∙ ap (λ (s : StoreSpaces). homes_of s.spaces s.homes c.args.space) c.self.view_is

pub returns-clause-long : goal.returns-clause-long
returns-clause-long c = λ info is.
    let here : space_with_id c.self.inside.spaces c.args.space ≡ Some info = subst (λ (s : StoreSpaces). space_with_id s.spaces c.args.space ≡ Some info) (sym c.self.view_is) is in
    ap (λ (s : StoreSpaces). length (homes_of s.spaces s.homes c.args.space)) (sym c.self.view_is) ∙ (space_here _ c.self.inside.spaces c.self.inside.homes c.args.space info c.self.invariant.spaces.have here).long
