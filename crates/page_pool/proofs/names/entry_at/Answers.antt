use Rattle.std.proofs.Common.{◌≡◌, ℕ, ◌<◌, true, false, nat_eq, List, length, get_or, ◌∙◌, ap, subst, arith}
use Rattle.std.proofs.lemmas.Bool.Decides.{nat_tests}
use Rattle.std.proofs.lemmas.List.{get_or_default}
use Rattle.page_pool.specs.declared.names.DirtyPage.{DirtyPage}
use Rattle.page_pool.specs.declared.names.PageName.{PageName}
use Rattle.page_pool.specs.Pages.{place_of}
use Rattle.page_pool.specs.Changes.{is_dirty_at}
use Rattle.page_pool.proofs.Entries.{dirty_at_place, not_dirty_at}
use Rattle.page_pool.proofs.names.entry_at.Goals as goal

-- the test of the LSN that stands at the page's place
at_place : (name : PageName) (lsn : ℕ) (ds : List DirtyPage) (i : ℕ) (d : DirtyPage) → i ≡ place_of name ds → i < length ds → is_dirty_at name lsn ds ≡ nat_eq (get_or ds i d).lsn lsn
at_place name lsn ds i d is lt =
    dirty_at_place name lsn ds (get_or ds i d) (subst (λ (k : ℕ). k < length ds) is lt) (get_or_default ds i d (get_or ds i d) lt ∙ ap (λ (k : ℕ). get_or ds k (get_or ds i d)) is)

same : (n m : ℕ) → n ≡ m → nat_eq n m ≡ true
same n m is = grind (arith, nat_tests)

differ : (n m : ℕ) → (n ≡ m → ⊥) → nat_eq n m ≡ false
differ n m isnt = grind (arith, nat_tests)

pub returns-in-None : goal.returns-in-None
returns-in-None c = not_dirty_at c.args.name c.args.lsn c.args.dirty.now c.in-None.ensures

pub returns-then-dirty-place : goal.returns-then-dirty-place
returns-then-dirty-place c =
    (c.in-Some.ensures.0, c.in-Some.ensures.1, at_place c.args.name c.args.lsn c.args.dirty.now c.in-Some.place _ c.in-Some.ensures.0 c.in-Some.ensures.1 ∙ same _ c.args.lsn c.if-dirty-place.true)

pub returns-else-dirty-place : goal.returns-else-dirty-place
returns-else-dirty-place c =
    at_place c.args.name c.args.lsn c.args.dirty.now c.in-Some.place _ c.in-Some.ensures.0 c.in-Some.ensures.1 ∙ differ _ c.args.lsn c.if-dirty-place.false
