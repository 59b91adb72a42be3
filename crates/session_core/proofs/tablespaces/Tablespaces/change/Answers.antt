use Rattle.std.proofs.Common.{◌≡◌, ◌∙◌, ℕ, ◌<◌, List, Some, ap, sym, subst}
use Rattle.page_pool.specs.Changes.{page_of_change}
use Rattle.page_pool.specs.declared.names.PageName.{PageName}
use Rattle.redo_text.specs.declared.change.Change.{Change}
use Rattle.space_head.specs.declared.space.SpaceInfo.{SpaceInfo}
use Rattle.session_core.specs.Spaces.{StoreSpaces, space_with_id}
use Rattle.session_core.proofs.SpaceEdits.{space_named}
use Rattle.session_core.proofs.tablespaces.Tablespaces.change.Goals as goal

pub set_home-requires : goal.set_home-requires
set_home-requires c =
    subst (λ (n : PageName). (x : SpaceInfo) × (space_with_id c.args.self.now.spaces n.space ≡ Some x) × (n.page < x.pages)) (sym c.name_of-name.ensures)
    (space_named c.args.self.now c.args.change.now c.spaces-spaces.ensures.kept c.requires)

pub set_floor-requires : goal.set_floor-requires
set_floor-requires c =
    let found = space_named c.args.self.now c.args.change.now c.spaces-spaces.ensures.kept c.requires in
    let space : (page_of_change c.args.change.now).space ≡ c.in-Floor.space = ap (λ (x : Change). (page_of_change x).space) c.in-Floor.is in
    (found.0, ap (λ (s : StoreSpaces). space_with_id s.spaces c.in-Floor.space) c.set_home.ensures ∙ ap (λ (n : ℕ). space_with_id c.args.self.now.spaces n) (sym space) ∙ found.1)

pub set_ciphered-requires : goal.set_ciphered-requires
set_ciphered-requires c =
    let found = space_named c.args.self.now c.args.change.now c.spaces-spaces.ensures.kept c.requires in
    let space : (page_of_change c.args.change.now).space ≡ c.in-Encrypt.space = ap (λ (x : Change). (page_of_change x).space) c.in-Encrypt.is in
    (found.0, ap (λ (s : StoreSpaces). space_with_id s.spaces c.in-Encrypt.space) c.set_home.ensures ∙ ap (λ (n : ℕ). space_with_id c.args.self.now.spaces n) (sym space) ∙ found.1)
