-- Spaces are restored one after the other.
use Rattle.std.proofs.Common.{◌≡◌, ◌≢◌, ℕ, ◌+◌, ◌<◌, ◌≤◌, inl, inr, ⊎_elim, false, nat_eq, if◌then◌else◌, List, length, Option, Some, None, refl, sym, ap, subst, ◌∙◌, arith}
use Rattle.std.proofs.lemmas.Bool.{cases_eq, cases_lt}
use Rattle.std.proofs.lemmas.Bool.Decides.{nat_tests}
use Rattle.std.specs.Option.{option_map}
use Rattle.disk_model.specs.Event.{Event}
use Rattle.disk_model.specs.Does.{Since, IsOn}
use Rattle.disk_model.specs.Past.{Past, At}
use Rattle.disk_model.specs.declared.names.FileName.TheVariants.{Space}
use Rattle.disk_model.proofs.Moments.{at_each}
use Rattle.places.specs.Places.{shown}
use Rattle.places.specs.Batches.{From, Could}
use Rattle.places.specs.Filling.{IsFill}
use Rattle.places.proofs.Batches.{at_start}
use Rattle.places.proofs.Fills.{whole_then}
use Rattle.places.proofs.Others.{may_since, shown_since, places_since}
use Rattle.space_head.specs.declared.space.SpaceInfo.{SpaceInfo}
use Rattle.page_places.specs.Texts.{is_page_text, pages}
use Rattle.doublewrite.specs.Restore.{wanted, newest, PagesFilling, PagesRestored, space_at, AreSpacesApart, HaveAll, IsUntouched, SpacesFilling, AreRestored, SpacesRestored, HomesRestoring}
use Rattle.doublewrite.specs.declared.listing.Copied.{Copied}

pub same_want : (copies : List Copied) (s t : List Event) (z k : ℕ) → shown (Space z) 16384 k t ≡ shown (Space z) 16384 k s → wanted copies t z k ≡ wanted copies s z k
unfolding wanted
same_want copies s t z k is = ap (λ (l : List ℕ). if is_page_text k l then None else option_map (λ c. c.text) (newest copies z k)) is

-- what is told from t, where the space was untouched until then
module _ (copies : List Copied) (info : SpaceInfo) (s t m : List Event) (u : IsUntouched info s t) where
  abbrev z : ℕ
  z = info.space

  want : (k : ℕ) → wanted copies t z k ≡ wanted copies s z k
  want k = same_want copies s t z k (u.shows k)

  could : (i : ℕ) (x : Option (List ℕ)) → Could (Space z) 16384 i t x → Could (Space z) 16384 i s x
  could i x (inl may) = inl (u.may i x may)
  could i x (inr is) = inr (is ∙ ap (λ (l : List ℕ). Some l) (u.shows i))

  pub filling_from : PagesFilling copies info t m → PagesFilling copies info s m
  filling_from g = record {
    places = g.places;
    may = λ i x may. ⊎_elim
        (λ (c : Could (Space z) 16384 i t x). inl (could i x c))
        (λ (o : IsFill (wanted copies t z) info.pages i x). inr (record { bytes = o.bytes; below = o.below; wanted = sym (want i) ∙ o.wanted; left = o.left }))
        (g.may i x may);
  }

  pub restored_from : PagesRestored copies info t m → PagesRestored copies info s m
  restored_from g = record {
    filled = record {
      filling = filling_from g.filled.filling;
      new = λ i b below is. g.filled.new i b below (want i ∙ is);
      old = λ i out. g.filled.old i (λ lt. want i ∙ out lt) ∙ u.shows i;
    };
    settled = λ start. g.settled (λ i x may. start i x (u.may i x may) ∙ ap (λ (l : List ℕ). Some l) (sym (u.shows i)));
  }

-- of an untouched space nothing is written
untouched_filling : (copies : List Copied) (info : SpaceInfo) (s m : List Event) → IsUntouched info s m → PagesFilling copies info s m
untouched_filling copies info s m u = record { places = u.has; may = λ i x may. inl (inl (u.may i x may)) }

still_untouched : (info : SpaceInfo) (y : ℕ) (s t m : List Event) → info.space ≢ y → Since (IsOn (Space y)) t m → IsUntouched info s t → IsUntouched info s m
still_untouched info y s t m other since u =
    let apart : nat_eq info.space y ≡ false = grind (arith, nat_tests) in
    record {
      has = places_since (Space y) (Space info.space) apart (pages info.pages) t m since u.has;
      may = λ i x may. u.may i x (may_since (Space y) (Space info.space) apart 16384 i t m x since may);
      shows = λ i. shown_since (Space y) (Space info.space) apart 16384 i t m since ∙ u.shows i;
    }

still_restored : (copies : List Copied) (info : SpaceInfo) (y : ℕ) (s t m : List Event) → info.space ≢ y → Since (IsOn (Space y)) t m → PagesRestored copies info s t → PagesRestored copies info s m
still_restored copies info y s t m other since g =
    let apart : nat_eq info.space y ≡ false = grind (arith, nat_tests) in
    whole_then (Space info.space) (pages info.pages) (wanted copies s info.space) s (Space y) apart info.pages t m since g

module _ (copies : List Copied) (spaces : List SpaceInfo) (apart : AreSpacesApart spaces) where
  others : (i k : ℕ) → i ≢ k → i < length spaces → k < length spaces → (space_at spaces i).space ≢ (space_at spaces k).space
  others i k ne li lk = ⊎_elim (λ (lt : i < k). apart i k lt lk) (λ (ge : k ≤ i). λ same. apart k i (omega (arith, ge, ne)) li (sym same)) (cases_lt i k)

  pub spaces_begin : (first : Past) → At (HaveAll spaces) first → At (From (AreRestored copies spaces 0) first) first
  spaces_begin first has = at_start (λ s h. record {
    done = λ i below lt. absurd (omega (arith, below));
    rest = λ i le lt. record { has = h i lt; may = λ j x may. may; shows = λ j. refl };
  }) has

  -- each space is as it was, or restored
  all_filling : (k : ℕ) (s m : List Event) → AreRestored copies spaces k s m → SpacesFilling copies spaces s m
  all_filling k s m a i lt = ⊎_elim
      (λ (below : i < k). (a.done i below lt).filled.filling)
      (λ (le : k ≤ i). untouched_filling copies (space_at spaces i) s m (a.rest i le lt))
      (cases_lt i k)

  pub spaces_now : (k : ℕ) (first : Past) (es : List Event) → From (AreRestored copies spaces k) first es → From (SpacesFilling copies spaces) first es
  spaces_now k first es r = at_each (λ s a. all_filling k s es a) r

  -- while the next space is restored
  pub next_filling : (k : ℕ) → k < length spaces → (s t m : List Event) → AreRestored copies spaces k s t → Since (IsOn (Space (space_at spaces k).space)) t m → PagesFilling copies (space_at spaces k) t m
      → SpacesFilling copies spaces s m
  next_filling k lk s t m a since g i lt = ⊎_elim
      (λ (e : i ≡ k). subst (λ (j : ℕ). PagesFilling copies (space_at spaces j) s m) (sym e) (filling_from copies (space_at spaces k) s t m (a.rest k (omega arith) lk) g))
      (λ (ne : i ≢ k). ⊎_elim
      (λ (below : i < k). (still_restored copies (space_at spaces i) (space_at spaces k).space s t m (others i k ne lt lk) since (a.done i below lt)).filled.filling)
      (λ (le : k ≤ i). untouched_filling copies (space_at spaces i) s m (still_untouched (space_at spaces i) (space_at spaces k).space s t m (others i k ne lt lk) since (a.rest i le lt)))
      (cases_lt i k))
      (cases_eq i k)

  -- behind it
  pub next_restored : (k : ℕ) → k < length spaces → (s t m : List Event) → AreRestored copies spaces k s t → Since (IsOn (Space (space_at spaces k).space)) t m → PagesRestored copies (space_at spaces k) t m
      → AreRestored copies spaces (k + 1) s m
  next_restored k lk s t m a since g = record {
    done = λ i below lt. ⊎_elim
        (λ (e : i ≡ k). subst (λ (j : ℕ). PagesRestored copies (space_at spaces j) s m) (sym e) (restored_from copies (space_at spaces k) s t m (a.rest k (omega arith) lk) g))
        (λ (ne : i ≢ k). still_restored copies (space_at spaces i) (space_at spaces k).space s t m (others i k ne lt lk) since (a.done i (omega (arith, below, ne)) lt))
        (cases_eq i k);
    rest = λ i le lt. still_untouched (space_at spaces i) (space_at spaces k).space s t m (others i k (λ e. omega (arith, e, le)) lt lk) since (a.rest i (omega (arith, le)) lt);
  }

  -- each space has its places all the while
  pub all_places : (k : ℕ) (s m : List Event) → HaveAll spaces s → AreRestored copies spaces k s m → HaveAll spaces m
  all_places k s m has a i lt = (all_filling k s m a i lt).places

  pub all_done : (k : ℕ) → k ≡ length spaces → (first : Past) (es : List Event) → From (AreRestored copies spaces k) first es → From (SpacesRestored copies spaces) first es
  all_done k all first es r = at_each (λ s a i lt. a.done i (omega (arith, lt, all)) lt) r

-- before the first write
pub restoring_begin : (spaces : List SpaceInfo) (first : Past) → At (HaveAll spaces) first → At (From (HomesRestoring spaces) first) first
restoring_begin spaces first has = at_start (λ s h i lt. record { places = h i lt; may = λ j x may. inl (inl may) }) has
