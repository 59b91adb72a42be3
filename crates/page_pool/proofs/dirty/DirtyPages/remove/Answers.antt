use Rattle.std.proofs.Common.{◌≡◌, ◌<◌, length, Some, subst, sym, arith}
use Rattle.std.specs.Prelude.{slice_get}
use Rattle.std.proofs.lemmas.Option.{slice_get_read}
use Rattle.page_pool.specs.Pages.{DirtyList}
use Rattle.page_pool.proofs.Entries.{is_list_without}
use Rattle.page_pool.proofs.dirty.DirtyPages.remove.Goals as goal

pub invariant_of-self : goal.invariant_of-self
invariant_of-self c =
    let below : c.args.i < length c.self.inside.entries.items = subst (λ (l : DirtyList). c.args.i < length l.entries) (sym c.self.view_is) c.requires in (
      rw (c.remove.ensures.items, c.remove-2.ensures.items) (is_list_without (record { entries = c.self.inside.entries.items; pages = c.self.inside.frames.items }) c.args.i c.self.invariant.0 below),
      omega (arith, c.remove.ensures.capacity, c.self.invariant.1),
      omega (arith, c.remove-2.ensures.capacity, c.self.invariant.2),
    )

pub returns-clause-page : goal.returns-clause-page
returns-clause-page c =
    let below : c.args.i < length c.self.inside.entries.items = subst (λ (l : DirtyList). c.args.i < length l.entries) (sym c.self.view_is) c.requires in
    subst (λ (l : DirtyList). slice_get l.pages c.args.i ≡ Some c.remove-2.result) c.self.view_is
    (slice_get_read c.self.inside.frames.items (length c.self.inside.entries.items) c.args.i c.remove-2.result (sym c.self.invariant.0.one_each) below c.remove-2.ensures.value)
