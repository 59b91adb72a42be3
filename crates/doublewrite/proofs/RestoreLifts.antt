-- What restore makes of the places of a store: at each moment what an opening may leave (MayRestore), and at Ok that each torn home is restored.
use Rattle.std.proofs.Common.{◌≡◌, ◌≢◌, ◌⊎◌, ℕ, zero, suc, ◌<◌, ◌≤◌, true, false, nat_eq, List, length, Option, Some, None, refl, sym, ap, subst, ◌∙◌, inl, inr, ⊎_elim, arith, Result}
use Rattle.std.proofs.lemmas.Bool.{cases_eq, cases_lt}
use Rattle.std.proofs.lemmas.Bool.Decides.{nat_tests}
use Rattle.disk_model.specs.Event.{Event, marks}
use Rattle.disk_model.specs.Does.{Since, Does}
use Rattle.disk_model.specs.Past.{Past, At}
use Rattle.disk_model.specs.declared.names.FileName.TheVariants.{Double, Space}
use Rattle.disk_model.proofs.Layers.{since_each, lift}
use Rattle.places.specs.Places.{shown, MayRead, Whole, IsTorn}
use Rattle.places.specs.Batches.{IsFileSettled, From}
use Rattle.places.specs.Beside.{LeavesFile}
use Rattle.places.proofs.Steps.{settled_honest}
use Rattle.places.proofs.LeftAlone.{leaves_file, may_left_alone, shown_left_alone, marks_left_alone}
use Rattle.space_head.specs.declared.space.SpaceInfo.{SpaceInfo}
use Rattle.store_image.specs.View.{Text, Held, Holds, Slot, View, HasNoHome, IsChosen}
use Rattle.store_image.specs.Recovers.{Theory, PageContents}
use Rattle.store_image.specs.Places.{LogView, log_of}
use Rattle.store_image.specs.Groups.{IsNoText}
use Rattle.store_image.specs.Opening.{IsRestoring, AsItWas, Written, MayRestore, ReadsRestoring, Restored as RestoredStage, AllRestored}
use Rattle.page_places.specs.Texts.{held, slot_held}
use Rattle.page_places.specs.Views.{places_by, IsNoSlot, IsReadAs}
use Rattle.page_places.proofs.Stages.{read_within}
use Rattle.doublewrite.specs.Chosen.{ChosenMay, ChosenHold}
use Rattle.doublewrite.specs.Restore.{HomesRestored, HomesRestoring, IsRestoreEvent, space_at}
use Rattle.doublewrite.proofs.NewestCopy.{restoring_may, restored_chosen}

-- a space is one of the list, or none of it
pub listed_or_not : (spaces : List SpaceInfo) (n z : ℕ) → ((i : ℕ) × (i < n) × ((space_at spaces i).space ≡ z)) ⊎ ((i : ℕ) → i < n → (space_at spaces i).space ≢ z)
listed_or_not spaces zero z = inr (λ i lt. absurd (omega (arith, lt)))
listed_or_not spaces (suc n) z = by (listed_or_not spaces n z) (cases_eq (space_at spaces n).space z)
  where
    by : ((i : ℕ) × (i < n) × ((space_at spaces i).space ≡ z)) ⊎ ((i : ℕ) → i < n → (space_at spaces i).space ≢ z) → ((space_at spaces n).space ≡ z) ⊎ ((space_at spaces n).space ≢ z)
        → ((i : ℕ) × (i < suc n) × ((space_at spaces i).space ≡ z)) ⊎ ((i : ℕ) → i < suc n → (space_at spaces i).space ≢ z)
    by (inl (i, lt, is)) last = inl (i, omega (arith, lt), is)
    by (inr none) (inl is) = inl (n, omega arith, is)
    by (inr none) (inr differs) = inr (λ i lt is. ⊎_elim (λ (less : i < n). none i less is) (λ (ge : n ≤ i). let e : i ≡ n = omega (arith, lt, ge) in differs (subst (λ (k : ℕ). (space_at spaces k).space ≡ z) e is)) (cases_lt i n))

-- On a disk that read as a view with nothing pending.
module _ {M : Type 0} (v : View M) (may_log : LogView M → Type 0) (spaces : List SpaceInfo) (s m : List Event) (opened : IsReadAs may_log v s) (since : Since (IsRestoreEvent spaces) s m) where
  double_since : Since (LeavesFile Double) s m
  double_since = since_each (λ e on. leaves_file (Space (space_at spaces on.0).space) Double refl e on.2) since

  -- a space that isn't listed
  space_since : (z : ℕ) → ((i : ℕ) → i < length spaces → (space_at spaces i).space ≢ z) → Since (LeavesFile (Space z)) s m
  space_since z none = since_each (λ e on. leaves_file (Space (space_at spaces on.0).space) (Space z) (other (space_at spaces on.0).space (none on.0 on.1)) e on.2) since
    where
      other : (y : ℕ) → y ≢ z → nat_eq z y ≡ false
      other y ne = let flip : z ≢ y = λ e. ne (sym e) in grind (arith, nat_tests)

  -- what was pending nowhere reads as the view
  read_home : (z p : ℕ) (h : Held) → MayRead (held p) IsNoText (Space z) 16384 p s h → h ≡ v.home z p
  read_home z p h may = (read_within may_log v s opened).may_home z p h may

  home_unlisted : (z p : ℕ) (h : Held) → ((i : ℕ) → i < length spaces → (space_at spaces i).space ≢ z) → MayRead (held p) IsNoText (Space z) 16384 p m h → MayRead (held p) IsNoText (Space z) 16384 p s h
  home_unlisted z p h none (Whole bytes may is) = Whole bytes (may_left_alone (Space z) 16384 p s m (Some bytes) (space_since z none) may) is
  home_unlisted z p h none (IsTorn may torn) = IsTorn (may_left_alone (Space z) 16384 p s m None (space_since z none) may) torn

  pub slot_may : (i : ℕ) (h : Option Slot) → MayRead slot_held IsNoSlot Double 16896 i m h → h ≡ v.slot i
  slot_may i h (Whole bytes may is) =
      let same : bytes ≡ shown Double 16896 i s = let e = opened.double i (Some bytes) (may_left_alone Double 16896 i s m (Some bytes) double_since may) in cc in
      is ∙ ap slot_held same ∙ sym (opened.slot i)
  slot_may i h (IsTorn may torn) = absurd (let e = opened.double i None (may_left_alone Double 16896 i s m None double_since may) in cc)

  pub slot_reads : (i : ℕ) → slot_held (shown Double 16896 i m) ≡ v.slot i
  slot_reads i = ap slot_held (shown_left_alone Double 16896 i s m double_since) ∙ sym (opened.slot i)

  pub told_same : marks m ≡ v.told
  told_same = marks_left_alone (IsRestoreEvent spaces) (λ e on. (Space (space_at spaces on.0).space, on.2)) s m since ∙ sym opened.told

  -- a home of a listed page, at a moment inside
  abbrev pub IsLeft : ℕ → ℕ → Held → Type 0
  IsLeft z p h = (h ≡ v.home z p) ⊎ ((t : Text) × IsChosen v z p (Some t) × ((h ≡ Holds t) ⊎ IsNoText h) × HasNoHome v z p)

  home_listed : (i p : ℕ) (h : Held) → i < length spaces → HomesRestoring spaces s m → MayRead (held p) IsNoText (Space (space_at spaces i).space) 16384 p m h → IsLeft (space_at spaces i).space p h
  home_listed i p h lt filling at = ⊎_elim
      (λ (old : MayRead (held p) IsNoText (Space (space_at spaces i).space) 16384 p s h). inl (read_home (space_at spaces i).space p h old))
      (λ new. inr new)
      (restoring_may v s (space_at spaces i) p (opened.home (space_at spaces i).space p) opened.slot m
      (settled_honest (Space (space_at spaces i).space) 16384 p s (opened.spaces (space_at spaces i).space p)) (filling i lt) h at)

  pub home_left : HomesRestoring spaces s m → (z p : ℕ) (h : Held) → MayRead (held p) IsNoText (Space z) 16384 p m h → IsLeft z p h
  home_left filling z p h may = ⊎_elim
      (λ (listed : (i : ℕ) × (i < length spaces) × ((space_at spaces i).space ≡ z)).
      subst (λ (y : ℕ). MayRead (held p) IsNoText (Space y) 16384 p m h → IsLeft y p h) listed.2 (home_listed listed.0 p h listed.1 filling) may)
      (λ (none : (i : ℕ) → i < length spaces → (space_at spaces i).space ≢ z). inl (read_home z p h (home_unlisted z p h none may)))
      (listed_or_not spaces (length spaces) z)

  -- at each moment inside, and after a refusal
  pub chosen_may : HomesRestoring spaces s m → ChosenMay v m
  chosen_may filling = record { homes = home_left filling; slots = slot_may }

  -- at Ok
  pub all_settled : HomesRestored spaces s m → (z : ℕ) → IsFileSettled (Space z) 16384 m
  all_settled restored z = ⊎_elim
      (λ (one : (i : ℕ) × (i < length spaces) × ((space_at spaces i).space ≡ z)).
      subst (λ (y : ℕ). IsFileSettled (Space y) 16384 m) one.2 ((restored one.0 one.1).settled (opened.spaces (space_at spaces one.0).space)))
      (λ (none : (i : ℕ) → i < length spaces → (space_at spaces i).space ≢ z). λ p x may.
      opened.spaces z p x (may_left_alone (Space z) 16384 p s m x (space_since z none) may) ∙ ap (λ (y : List ℕ). Some y) (sym (shown_left_alone (Space z) 16384 p s m (space_since z none))))
      (listed_or_not spaces (length spaces) z)

  pub home_settled : HomesRestored spaces s m → (z p : ℕ) (h : Held) → MayRead (held p) IsNoText (Space z) 16384 p m h → h ≡ held p (shown (Space z) 16384 p m)
  home_settled restored z p h (Whole bytes may is) = let same : bytes ≡ shown (Space z) 16384 p m = let e = all_settled restored z p (Some bytes) may in cc in is ∙ ap (held p) same
  home_settled restored z p h (IsTorn may torn) = absurd (let e = all_settled restored z p None may in cc)

  listed_chosen : HomesRestored spaces s m → (i p : ℕ) (t : Text) → i < length spaces → p < (space_at spaces i).pages → IsChosen v (space_at spaces i).space p (Some t) → held p (shown (Space (space_at spaces i).space) 16384 p m) ≡ Holds t
  listed_chosen restored i p t lt below at = restored_chosen v s (space_at spaces i) p (opened.home (space_at spaces i).space p) opened.slot m below (restored i lt) t at

  pub chosen_hold : HomesRestored spaces s m → ChosenHold v spaces m
  chosen_hold restored = record {
    may = chosen_may (λ i lt. (restored i lt).filled.filling);
    homes = λ i p t h lt below at may. home_settled restored (space_at spaces i).space p h may ∙ listed_chosen restored i p t lt below at;
    settled = home_settled restored;
  }

-- the whole call
pub restore_chosen : {X : Type 0} {spaces : List SpaceInfo} {old new : Past} {result : Result (Unit {0}) X} → Does (From (HomesRestoring spaces) old) (IsRestoreEvent spaces) (From (HomesRestored spaces) old) old new result
    → (v : View (Unit {0})) → At (IsReadAs (λ l. l ≡ log_of v) v) old → Does (ChosenMay v) (IsRestoreEvent spaces) (ChosenHold v spaces) old new result
restore_chosen {spaces = spaces} {old = old} does v opened =
    lift {U = λ s. (old ≡ Some s) × IsReadAs (λ l. l ≡ log_of v) v s} (record { here = λ s is. (is, opened.here s is) })
    (λ s m u since r. chosen_may v (λ l. l ≡ log_of v) spaces s m u.1 since (r.here s u.0))
    (λ s m u since r. chosen_hold v (λ l. l ≡ log_of v) spaces s m u.1 since (r.here s u.0)) (λ e k. k) does

module _ (T : Theory) (v : View T.M) (c : PageContents T) (active : ℕ) (may_log : LogView T.M → Type 0) (spaces : List SpaceInfo) (s m : List Event) (opened : IsReadAs may_log v s) (since : Since (IsRestoreEvent spaces) s m) where
  open T use {M, has}

  -- At each moment inside, and after a refusal.
  pub restore_within : HomesRestoring spaces s m → MayRestore T v c active (places_by may_log m)
  restore_within filling = record {
    homes = λ z p h here may. by z p h (home_left v may_log spaces s m opened since filling z p h may);
    slots = λ i h may. slot_may v may_log spaces s m opened since i h may;
    log = opened.log;
    told = told_same v may_log spaces s m opened since;
  }
    where
      by : (z p : ℕ) (h : Held) → IsLeft v may_log spaces s m opened since z p h → IsRestoring T v c active z p h
      by z p h (inl same) = AsItWas same
      by z p h (inr (t, chosen, left, none)) = Written t none chosen left

  -- At Ok, where each page of the store is one of a listed space.
  module _ (restored : HomesRestored spaces s m) (filling : HomesRestoring spaces s m) (listed : (z p : ℕ) → has z p ≡ true → (i : ℕ) × (i < length spaces) × ((space_at spaces i).space ≡ z) × (p < (space_at spaces i).pages)) where
    home_chosen : (z p : ℕ) (t : Text) → has z p ≡ true → IsChosen v z p (Some t) → held p (shown (Space z) 16384 p m) ≡ Holds t
    home_chosen z p t here chosen =
        let (i, lt, is, below) = listed z p here in
        subst (λ (y : ℕ). IsChosen v y p (Some t) → held p (shown (Space y) 16384 p m) ≡ Holds t) is
        (λ at. restored_chosen v s (space_at spaces i) p (opened.home (space_at spaces i).space p) opened.slot m below (restored i lt) t at) chosen

    pub restore_restores : RestoredStage T v c active (places_by may_log m)
    restore_restores = record {
      may = restore_within filling;
      reads = λ z p here. by z p here (home_left v may_log spaces s m opened since filling z p (held p (shown (Space z) 16384 p m)) (Whole (shown (Space z) 16384 p m) (settled_honest (Space z) 16384 p m (all_settled v may_log spaces s m opened since restored z p)) refl));
      slot_reads = slot_reads v may_log spaces s m opened since;
      homes_settled = λ z p h may. home_settled v may_log spaces s m opened since restored z p h may;
    }
      where
        by : (z p : ℕ) → has z p ≡ true → IsLeft v may_log spaces s m opened since z p (held p (shown (Space z) 16384 p m)) → ReadsRestoring T v c active z p (held p (shown (Space z) 16384 p m))
        by z p here (inl same) = inl same
        by z p here (inr (t, chosen, left, none)) = inr (t, none, chosen, home_chosen z p t here chosen)

    pub restore_all : AllRestored T v c active (places_by may_log m)
    restore_all z p t here none chosen = home_chosen z p t here chosen
