use Rattle.std.proofs.Common.{◌≡◌, ℕ, ◌<◌, Bool, true, false, if◌then◌else◌, length, is_some, sym, ◌∙◌, ap, subst}
use Rattle.std.specs.Prelude.{slice_get}
use Rattle.std.specs.Map.{lookup}
use Rattle.page_pool.specs.Pages.{AreClean, DirtyList, PoolState, held_page, is_dirty, is_name, is_named, place_of, without}
use Rattle.page_pool.proofs.Cleans.{dirty_absent}
use Rattle.page_pool.proofs.Entries.{name_removed}
use Rattle.page_pool.proofs.Named.{clean_without}
use Rattle.page_pool.proofs.Lists.{found_here, neither}
use Rattle.page_pool.proofs.pool.Pool.take_dirty.Goals as goal

pub invariant_of-self : goal.invariant_of-self
invariant_of-self c =
    subst (λ (l : DirtyList). AreClean l c.self.inside.clean) (sym c.remove.ensures.rest) (clean_without c.self.inside.dirty c.args.place c.self.inside.clean c.self.invariant)

pub returns-clause-gone : goal.returns-clause-gone
returns-clause-gone c =
    let place : c.args.place ≡ place_of c.args.name c.self.inside.dirty.entries = subst (λ (s : PoolState). c.args.place ≡ place_of c.args.name s.dirty.entries) (sym c.self.view_is) c.requires.0 in
    let below : c.args.place < length c.self.inside.dirty.entries = subst (λ (s : PoolState). c.args.place < length s.dirty.entries) (sym c.self.view_is) c.requires.1 in
    let dirty : is_dirty c.args.name c.self.inside.dirty ≡ true = found_here (is_named c.args.name) c.self.inside.dirty.entries c.args.place place below in
    let rest : c.remove.new.self ≡ without (place_of c.args.name c.self.inside.dirty.entries) c.self.inside.dirty = c.remove.ensures.rest ∙ ap (λ (i : ℕ). without i c.self.inside.dirty) place in
    let gone : is_dirty c.args.name c.remove.new.self ≡ false =
    ap (is_dirty c.args.name) rest ∙ name_removed c.args.name c.self.inside.dirty.entries c.entries-kept.ensures.kept.apart (subst (λ (i : ℕ). i < length c.self.inside.dirty.entries) place below) in
    neither (is_dirty c.args.name c.remove.new.self) (is_some (lookup (is_name c.args.name) c.self.inside.clean)) gone
    (dirty_absent c.self.inside.dirty c.self.inside.clean c.args.name c.self.invariant dirty)

pub returns-clause-page : goal.returns-clause-page
returns-clause-page c =
    let place : c.args.place ≡ place_of c.args.name c.self.inside.dirty.entries = subst (λ (s : PoolState). c.args.place ≡ place_of c.args.name s.dirty.entries) (sym c.self.view_is) c.requires.0 in
    let below : c.args.place < length c.self.inside.dirty.entries = subst (λ (s : PoolState). c.args.place < length s.dirty.entries) (sym c.self.view_is) c.requires.1 in
    let dirty : is_dirty c.args.name c.self.inside.dirty ≡ true = found_here (is_named c.args.name) c.self.inside.dirty.entries c.args.place place below in
    ap (held_page c.args.name) (sym c.self.view_is)
    ∙ ap (λ (b : Bool). if b then slice_get c.self.inside.dirty.pages (place_of c.args.name c.self.inside.dirty.entries) else lookup (is_name c.args.name) c.self.inside.clean) dirty
    ∙ ap (slice_get c.self.inside.dirty.pages) (sym place)
    ∙ c.remove.ensures.page
