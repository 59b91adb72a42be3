use Rattle.std.proofs.Common.{◌≡◌, ℕ, ◌<◌, ◌≤◌, false, List, length, ap, subst, sym, ◌∙◌, arith}
use Rattle.std.specs.List.{insert}
use Rattle.std.proofs.lemmas.List.Sums.{prefix_len-le-length}
use Rattle.store_model.specs.declared.contents.PlainPage.{PlainPage}
use Rattle.page_pool.specs.declared.names.DirtyPage.{DirtyPage}
use Rattle.page_pool.specs.Pages.{DirtyList, IsDirtyList, comes_before, entered, entry_place, is_dirty, name_of_dirty}
use Rattle.page_pool.proofs.Entries.{is_list_entered}
use Rattle.page_pool.proofs.dirty.DirtyPages.enter.Goals as goal

within : (d : DirtyPage) (ds : List DirtyPage) → entry_place d ds ≤ length ds
within d ds = prefix_len-le-length (λ (e : DirtyPage). comes_before e d) ds

pub insert-requires : goal.insert-requires
insert-requires c = let place : entry_place c.args.entry c.deref.result.now ≤ length c.deref.result.now = within c.args.entry c.deref.result.now in omega (arith, place, c.entry_place-place.ensures, c.deref.ensures.len)

-- the lists behind both insertions
entered_at : (list : DirtyList) (d : DirtyPage) (page : PlainPage) (place : ℕ) (es : List DirtyPage) (ps : List PlainPage) → place ≡ entry_place d list.entries → es ≡ insert list.entries place d → ps ≡ insert list.pages place page
    → IsDirtyList list → length list.entries < 256 → is_dirty (name_of_dirty d) list ≡ false → IsDirtyList (record { entries = es; pages = ps })
entered_at list d page place es ps at first second is room none =
    let e : insert list.entries (entry_place d list.entries) d ≡ es = sym (first ∙ ap (λ (k : ℕ). insert list.entries k d) at) in
    let p : insert list.pages (entry_place d list.entries) page ≡ ps = sym (second ∙ ap (λ (k : ℕ). insert list.pages k page) at) in
    let both : entered d page list ≡ record { entries = es; pages = ps } = λ i. record { entries = e i; pages = p i } in
    subst IsDirtyList both (is_list_entered list d page is room none)

pub invariant_of-self : goal.invariant_of-self
invariant_of-self c =
    let place : c.entry_place-place.result ≡ entry_place c.args.entry c.self.inside.entries.items = c.entry_place-place.ensures ∙ ap (entry_place c.args.entry) c.deref.ensures.value in
    let first : c.insert.new.self.items ≡ insert c.self.inside.entries.items c.entry_place-place.result c.args.entry = rw c.unwrap.ensures at c.insert.ensures.items in
    let second : c.insert-2.new.self.items ≡ insert c.self.inside.frames.items c.entry_place-place.result c.args.frame = rw c.unwrap-2.ensures at c.insert-2.ensures.items in
    let room : length c.self.inside.entries.items < 256 = subst (λ (l : DirtyList). length l.entries < 256) (sym c.self.view_is) c.requires.room in
    let none : is_dirty (name_of_dirty c.args.entry) (record { entries = c.self.inside.entries.items; pages = c.self.inside.frames.items }) ≡ false =
    subst (λ (l : DirtyList). is_dirty (name_of_dirty c.args.entry) l ≡ false) (sym c.self.view_is) c.requires.clean in (
      entered_at (record { entries = c.self.inside.entries.items; pages = c.self.inside.frames.items }) c.args.entry c.args.frame c.entry_place-place.result c.insert.new.self.items c.insert-2.new.self.items place first second c.self.invariant.0 room none,
      omega (arith, c.insert.ensures.capacity, c.self.invariant.1),
      omega (arith, c.insert-2.ensures.capacity, c.self.invariant.2),
    )
