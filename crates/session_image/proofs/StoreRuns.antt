-- Parts of a run whose changes are of the store's pages, and files as long as the header's spaces.
use Rattle.std.proofs.Common.{◌<◌, ◌&&◌, ◌||◌, Bool, inl, inr, subst, ◌≡◌, ℕ, ◌*◌, true, nat_eq, List, [], ◌∷◌, ◌++◌, length, ap, ◌∙◌, arith}
use Rattle.std.proofs.lemmas.Bool.{cond-true, cond-false}
use Rattle.std.proofs.lemmas.Bool.Decides.{nat_tests}
use Rattle.disk_model.specs.Image.{Image}
use Rattle.disk_model.specs.declared.names.FileName.TheVariants.{Space}
use Rattle.redo_text.specs.declared.change.Change.{Change}
use Rattle.redo_text.specs.declared.change.Change.TheVariants.{Put, Kind, Touch, Floor, Encrypt}
use Rattle.page_places.proofs.Sums.{and_both}
use Rattle.store_image.specs.Journal.{IsIn}
use Rattle.store_image.specs.View.{Logged}
use Rattle.store_files.specs.Header.{HeldSpace, are_in_order}
use Rattle.store_files.specs.Pages.{has_page, mtr_names}
use Rattle.store_files.proofs.SpacesInOrder.{ordered, other_space, has_first, has_rest}
use Rattle.crash_image.specs.Recovers.{AreOfStore, RunIsOfStore, SpacesLong}
use Rattle.session_image.specs.Kept.{page_count}

own : (s p : ℕ) → (nat_eq s s && nat_eq p p) ≡ true
own s p =
    let space : nat_eq s s ≡ true = grind (arith, nat_tests) in
    let page : nat_eq p p ≡ true = grind (arith, nat_tests) in
    and_both _ _ space page

or_left : (a b : Bool) → a ≡ true → (a || b) ≡ true
or_left a b is = ap (λ (c : Bool). c || b) is

module _ (spaces : List HeldSpace) where
  pub run_front : (a b : List (Logged (List Change))) → RunIsOfStore spaces (a ++ b) → RunIsOfStore spaces a
  run_front [] b run = tt
  run_front (e ∷ a) b run = (run.0, run_front a b run.1)

  pub run_behind : (a b : List (Logged (List Change))) → RunIsOfStore spaces (a ++ b) → RunIsOfStore spaces b
  run_behind [] b run = run
  run_behind (e ∷ a) b run = run_behind a b run.1

  pub run_push : (a : List (Logged (List Change))) (e : Logged (List Change)) → RunIsOfStore spaces a → AreOfStore spaces e.mtr → RunIsOfStore spaces (a ++ e ∷ [])
  run_push [] e run new = (new, tt)
  run_push (d ∷ a) e run new = (run.0, run_push a e run.1 new)

  pub run_in : (a : List (Logged (List Change))) (e : Logged (List Change)) → RunIsOfStore spaces a → IsIn e a → AreOfStore spaces e.mtr
  run_in [] e run inside = absurd inside
  run_in (d ∷ a) e run (inl same) = subst (λ (x : Logged (List Change)). AreOfStore spaces x.mtr) same run.0
  run_in (d ∷ a) e run (inr inside) = run_in a e run.1 inside

  -- a mini-transaction names a page of the store
  pub names_page : (mtr : List Change) → 0 < length mtr → AreOfStore spaces mtr → (s : ℕ) × (p : ℕ) × (has_page spaces s p ≡ true) × (mtr_names mtr s p ≡ true)
  names_page [] some of_store = absurd (omega (arith, some))
  names_page (Put s page at bytes ∷ cs) some of_store = (s, page, of_store.0, or_left _ _ (own s page))
  names_page (Kind s page kind ∷ cs) some of_store = (s, page, of_store.0, or_left _ _ (own s page))
  names_page (Touch s page ∷ cs) some of_store = (s, page, of_store.0, or_left _ _ (own s page))
  names_page (Floor s version ∷ cs) some of_store = (s, 0, of_store.0, or_left _ _ (own s 0))
  names_page (Encrypt s ∷ cs) some of_store = (s, 0, of_store.0, or_left _ _ (own s 0))

-- each space is as long as its pages, if it is as long as the number that is looked up for it
pub spaces_long : (image : Image) (id : ℕ) (hs : List HeldSpace) → are_in_order id hs ≡ true → ((s : ℕ) → has_page hs s 0 ≡ true → length (image.bytes (Space s)) ≡ page_count hs s * 16384) → SpacesLong image hs
spaces_long image id [] order long = tt
spaces_long image id (h ∷ hs) order long =
    let o = ordered id h hs order in
    let some = o.some in
    let own : nat_eq h.space h.space ≡ true = grind (arith, nat_tests) in (
      long h.space (has_first h hs 0 (omega (arith, some))) ∙ ap (λ (n : ℕ). n * 16384) (cond-true (nat_eq h.space h.space) h.pages (page_count hs h.space) own),
      spaces_long image h.space hs o.rest (λ s there. long s (has_rest h hs s 0 o.rest there) ∙ ap (λ (n : ℕ). n * 16384) (cond-false (nat_eq h.space s) h.pages (page_count hs s) (other_space h hs s 0 o.rest there))),
    )
