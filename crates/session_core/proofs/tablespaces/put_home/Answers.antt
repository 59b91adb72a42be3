use Rattle.std.proofs.Common.{◌≡◌, ◌∙◌, ℕ, ◌<◌, List, [], length, slice_index_or, slice_set, ap, sym, subst, arith}
use Rattle.space_head.specs.declared.space.Home.{Home}
use Rattle.session_core.proofs.SpaceEdits.{home_placed}
use Rattle.session_core.proofs.SpaceLaws.{space_here}
use Rattle.session_core.proofs.tablespaces.put_home.Goals as goal

pub set-requires-clause-list : goal.set-requires-clause-list
set-requires-clause-list c =
    let found = space_here c.requires.lists.0 c.args.spaces.now c.args.homes.now c.args.space c.requires.there.0 c.requires.lists.1 c.requires.there.1 in
    subst (λ (n : ℕ). n < length c.args.homes.now) (sym c.place_of.ensures) found.listed

pub set-requires-clause-place : goal.set-requires-clause-place
set-requires-clause-place c =
    let found = space_here c.requires.lists.0 c.args.spaces.now c.args.homes.now c.args.space c.requires.there.0 c.requires.lists.1 c.requires.there.1 in
    let below = c.requires.there.2 in
    let long : length (slice_index_or c.args.homes.now c.place_of.result []) ≡ c.requires.there.0.pages =
    ap (λ (n : ℕ). length (slice_index_or c.args.homes.now n [])) c.place_of.ensures ∙ ap length found.homes ∙ found.long in
    omega (arith, long, below)

pub returns : goal.returns
returns c =
    let homes = c.args.homes.now in
    c.set.ensures ∙ ap (λ (n : ℕ). slice_set homes n (slice_set (slice_index_or homes n []) c.args.page c.args.home)) c.place_of.ensures
    ∙ home_placed c.requires.lists.0 c.args.spaces.now homes c.args.space c.args.page c.args.home c.requires.there.0 c.requires.lists.1 c.requires.there.1
