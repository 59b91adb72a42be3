use Rattle.std.proofs.Common.{List, ℕ, sym, subst, ◌∙◌}
use Rattle.lru.specs.LruCache.{LruCache}
use Rattle.key_ring.specs.Local.{IsCacheOf}
use Rattle.key_ring.specs.declared.cache.LocalName.{LocalName}
use Rattle.key_ring.proofs.Locals.{found_local, promoted_cache, kept_after_put}
use Rattle.key_ring.proofs.cache.LocalCache.local.Goals as goal

pub returns-in-Some-clause-value : goal.returns-in-Some-clause-value
returns-in-Some-clause-value c =
    found_local c.args.ring.now c.self.inside.locals.entries (record { id = c.args.id; version = c.args.version; salt = c.args.salt.now }) c.in-Some.local
    (subst (IsCacheOf c.args.ring.now) (sym c.self.view_is) c.requires) (sym c.get.ensures.value ∙ sym c.in-Some.ensures)

pub returns-in-Some-clause-kept : goal.returns-in-Some-clause-kept
returns-in-Some-clause-kept c =
    subst (λ (cache : LruCache LocalName (List ℕ)). IsCacheOf c.args.ring.now cache.entries) (sym c.get.follows.holds-at-none)
    (promoted_cache c.args.ring.now c.self.inside.locals.entries _ (subst (IsCacheOf c.args.ring.now) (sym c.self.view_is) c.requires))

pub returns-in_err-local-clause-kept : goal.returns-in_err-local-clause-kept
returns-in_err-local-clause-kept c =
    subst (λ (cache : LruCache LocalName (List ℕ)). IsCacheOf c.args.ring.now cache.entries) (sym c.get.follows.holds-at-none)
    (promoted_cache c.args.ring.now c.self.inside.locals.entries _ (subst (IsCacheOf c.args.ring.now) (sym c.self.view_is) c.requires))

pub returns-clause-kept : goal.returns-clause-kept
returns-clause-kept c =
    kept_after_put c.args.ring.now c.get.follows.lender-at-none c.put.new.self (record { id = c.args.id; version = c.args.version; salt = c.args.salt.now }) c.in_ok-local.local c.put.result
    c.put.ensures.entries c.put.ensures.err
    (subst (λ (cache : LruCache LocalName (List ℕ)). IsCacheOf c.args.ring.now cache.entries) (sym c.get.follows.holds-at-none)
    (promoted_cache c.args.ring.now c.self.inside.locals.entries _ (subst (IsCacheOf c.args.ring.now) (sym c.self.view_is) c.requires)))
    c.in_ok-local.ensures
