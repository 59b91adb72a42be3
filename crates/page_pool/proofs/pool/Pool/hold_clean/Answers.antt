use Rattle.std.proofs.Common.{◌≡◌, false, is_some, sym, subst}
use Rattle.std.specs.Map.{lookup}
use Rattle.page_pool.specs.declared.names.PageName.{PageName}
use Rattle.page_pool.specs.Pages.{AreClean, PoolState, is_dirty, is_held, is_name}
use Rattle.page_pool.proofs.Cleans.{clean_admitted}
use Rattle.page_pool.proofs.Lists.{both_false}
use Rattle.page_pool.proofs.pool.Pool.hold_clean.Goals as goal

-- a page that isn't held is neither dirty nor clean
apart : (name : PageName) (s : PoolState) → is_held name s ≡ false → (is_dirty name s.dirty ≡ false) × (is_some (lookup (is_name name) s.clean) ≡ false)
apart name s h = both_false (is_dirty name s.dirty) (is_some (lookup (is_name name) s.clean)) h

pub invariant_of-self : goal.invariant_of-self
invariant_of-self c =
    let neither = apart c.args.name (record { dirty = c.self.inside.dirty; clean = c.self.inside.clean }) (subst (λ (s : PoolState). is_held c.args.name s ≡ false) (sym c.self.view_is) c.requires) in
    subst (AreClean c.self.inside.dirty) (sym c.hold.ensures) (clean_admitted c.self.inside.dirty c.self.inside.clean c.args.name c.args.frame c.self.invariant neither.0)

pub hold-requires : goal.hold-requires
hold-requires c = (apart c.args.name (record { dirty = c.self.inside.dirty; clean = c.self.inside.clean }) (subst (λ (s : PoolState). is_held c.args.name s ≡ false) (sym c.self.view_is) c.requires)).1
