use Rattle.std.proofs.Common.{◌≡◌, ℕ, ◌<◌, length, get_or, set, sym, ◌∙◌, ap, subst, arith}
use Rattle.redo_text.specs.Changes.{change_of}
use Rattle.redo_text.specs.declared.change.Change.{Change}
use Rattle.store_model.specs.declared.contents.PlainPage.{PlainPage}
use Rattle.page_pool.specs.declared.names.DirtyPage.{DirtyPage}
use Rattle.page_pool.specs.declared.names.PageName.{PageName}
use Rattle.page_pool.specs.Pages.{DirtyList, IsDirtyList, place_of}
use Rattle.page_pool.specs.Changes.{changed_again, changed_at, page_changed_by, stamped}
use Rattle.page_pool.proofs.Entries.{changed_at_is, is_list_changed, stamped_at}
use Rattle.page_pool.proofs.dirty.DirtyPages.change.Goals as goal

-- an LSN and a page written at the place of a page
changed_there : (list : DirtyList) (i : ℕ) (name : PageName) (lsn : ℕ) (c : Change) (x : DirtyPage) (p q : PlainPage) → IsDirtyList list → i ≡ place_of name list.entries → i < length list.entries
    → x ≡ get_or list.entries i x → p ≡ get_or list.pages i p → q ≡ page_changed_by c p
    → (record { entries = set list.entries i (record { space = x.space; page = x.page; first = x.first; lsn = lsn }); pages = set list.pages i q }) ≡ changed_again name lsn c list
changed_there list i name lsn c x p q is at below entry page new =
    let entries : set list.entries i (record { space = x.space; page = x.page; first = x.first; lsn = lsn }) ≡ stamped name lsn list.entries =
    ap (λ (k : ℕ). set list.entries k (record { space = x.space; page = x.page; first = x.first; lsn = lsn })) at
    ∙ stamped_at name lsn list.entries x (subst (λ (k : ℕ). k < length list.entries) at below) (subst (λ (k : ℕ). x ≡ get_or list.entries k x) at entry) in
    let pages : set list.pages i q ≡ changed_at (place_of name list.entries) (page_changed_by c) list.pages =
    changed_at_is (page_changed_by c) list.pages i p q (omega (arith, below, is.one_each)) page new ∙ ap (λ (k : ℕ). changed_at k (page_changed_by c) list.pages) at in
    λ j. record { entries = entries j; pages = pages j }

pub invariant_of-self : goal.invariant_of-self
invariant_of-self c =
    let place : c.args.i ≡ place_of c.args.name c.self.inside.entries.items = subst (λ (l : DirtyList). c.args.i ≡ place_of c.args.name l.entries) (sym c.self.view_is) c.requires.place.0 in
    let below : c.args.i < length c.self.inside.entries.items = subst (λ (l : DirtyList). c.args.i < length l.entries) (sym c.self.view_is) c.requires.place.1 in (
      subst IsDirtyList
          (sym (changed_there (record { entries = c.self.inside.entries.items; pages = c.self.inside.frames.items }) c.args.i c.args.name c.args.lsn (change_of c.args.change.now) c.index_mut.result.now c.index_mut-2.result.now c.change.new.self
          c.self.invariant.0 place below c.index_mut.ensures.value c.index_mut-2.ensures.value c.change.ensures))
          (is_list_changed (record { entries = c.self.inside.entries.items; pages = c.self.inside.frames.items }) c.args.name c.args.lsn (change_of c.args.change.now) c.self.invariant.0),
      c.self.invariant.1,
      c.self.invariant.2,
    )

pub returns : goal.returns
returns c =
    let place : c.args.i ≡ place_of c.args.name c.self.inside.entries.items = subst (λ (l : DirtyList). c.args.i ≡ place_of c.args.name l.entries) (sym c.self.view_is) c.requires.place.0 in
    let below : c.args.i < length c.self.inside.entries.items = subst (λ (l : DirtyList). c.args.i < length l.entries) (sym c.self.view_is) c.requires.place.1 in
    changed_there (record { entries = c.self.inside.entries.items; pages = c.self.inside.frames.items }) c.args.i c.args.name c.args.lsn (change_of c.args.change.now) c.index_mut.result.now c.index_mut-2.result.now c.change.new.self
    c.self.invariant.0 place below c.index_mut.ensures.value c.index_mut-2.ensures.value c.change.ensures
    ∙ ap (changed_again c.args.name c.args.lsn (change_of c.args.change.now)) c.self.view_is
