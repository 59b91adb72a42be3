-- The newest copy of a page is the one that its chosen text is read from, and restoring leaves each home with its chosen text.
use Rattle.std.proofs.Common.{◌≡◌, ◌≢◌, ℕ, zero, suc, ◌<◌, ◌≤◌, ◌⊎◌, inl, inr, ⊎_elim, ◌&&◌, Bool, true, false, true≢false, nat_eq, nat_le, if◌then◌else◌, List, [], ◌∷◌, ◌++◌, Option, Some, None, refl, sym, ap, subst, ◌∙◌, arith}
use Rattle.std.proofs.lemmas.Bool.{cases_lt}
use Rattle.std.proofs.lemmas.Bool.Decides.{nat_tests}
use Rattle.std.specs.Option.{option_map}
use Rattle.std.proofs.lemmas.Option.{same_Some, none-some}
use Rattle.disk_model.specs.Event.{Event}
use Rattle.disk_model.specs.declared.names.FileName.TheVariants.{Double, Space}
use Rattle.places.specs.Places.{shown, May, IsWritten, MayRead, Whole, IsTorn}
use Rattle.places.specs.Batches.{Could}
use Rattle.places.specs.Filling.{IsFill}
use Rattle.store_image.specs.Groups.{IsNoText}
use Rattle.space_head.specs.declared.space.SpaceInfo.{SpaceInfo}
use Rattle.store_image.specs.View.{Text, Held, Holds, Zero, Slot, View, IsCopy, IsChosen, Home, Copy, Unused}
use Rattle.page_places.specs.Texts.{held, slot_held, is_page_text, text_in}
use Rattle.page_places.proofs.Texts.{held-text, held_is, slot_is}
use Rattle.doublewrite.specs.Copies.{as_copied, as_list, copies_to}
use Rattle.doublewrite.specs.Restore.{newer, is_of, newest_from, newest, wanted, PagesFilling, PagesRestored}
use Rattle.doublewrite.specs.declared.listing.Copied.{Copied}

newest-append : (best : Option Copied) (xs ys : List Copied) (z p : ℕ) → newest_from best (xs ++ ys) z p ≡ newest_from (newest_from best xs z p) ys z p
newest-append best [] ys z p = refl
newest-append best (x ∷ xs) ys z p = newest-append (if is_of x z p then newer x best else best) xs ys z p

module _ (es : List Event) (z p : ℕ) where
  abbrev slot : ℕ → Option Slot
  slot i = slot_held (shown Double 16896 i es)

  abbrev IsSlotOf : ℕ → Text → Type 0
  IsSlotOf i t = slot i ≡ Some (record { space = z; page = p; text = t })

  -- of the first n slots
  pub record IsBest (n : ℕ) (c : Copied) : Type 0 where
    pub text : Text
    pub below : c.index < n
    pub is : IsSlotOf c.index text
    pub lsn : c.lsn ≡ text.lsn
    pub bytes : c.text ≡ text.bytes
    pub most : (j : ℕ) (u : Text) → j < n → IsSlotOf j u → u.lsn ≤ text.lsn
    pub first : (j : ℕ) (u : Text) → j < n → IsSlotOf j u → u.lsn ≡ text.lsn → c.index ≤ j

  abbrev pub Best : ℕ → Option Copied → Type 0
  Best n None = (j : ℕ) (u : Text) → j < n → IsSlotOf j u → ⊥
  Best n (Some c) = IsBest n c

  up_to : (n j : ℕ) → j < suc n → (j < n) ⊎ (j ≡ n)
  up_to n j lt = ⊎_elim (λ (l : j < n). inl l) (λ (ge : n ≤ j). inr (omega (arith, lt, ge))) (cases_lt j n)

  -- a slot that isn't one of the page
  skipped : (n : ℕ) → ((u : Text) → IsSlotOf n u → ⊥) → (o : Option Copied) → Best n o → Best (suc n) o
  skipped n other None best = λ j u lt is. ⊎_elim (λ (l : j < n). best j u l is) (λ (e : j ≡ n). other u (subst (λ (k : ℕ). IsSlotOf k u) e is)) (up_to n j lt)
  skipped n other (Some c) best = record {
    text = best.text;
    below = let b = best.below in omega arith;
    is = best.is;
    lsn = best.lsn;
    bytes = best.bytes;
    most = λ j u lt is. ⊎_elim (λ (l : j < n). best.most j u l is) (λ (e : j ≡ n). absurd (other u (subst (λ (k : ℕ). IsSlotOf k u) e is))) (up_to n j lt);
    first = λ j u lt is same. ⊎_elim (λ (l : j < n). best.first j u l is same) (λ (e : j ≡ n). absurd (other u (subst (λ (k : ℕ). IsSlotOf k u) e is))) (up_to n j lt);
  }

  one_text : (n : ℕ) (t u : Text) → IsSlotOf n t → IsSlotOf n u → t ≡ u
  one_text n t u a b = ap (λ (x : Slot). x.text) (same_Some _ _ (sym a ∙ b))

  -- a slot of the page
  taken : (n : ℕ) (t : Text) → IsSlotOf n t → (o : Option Copied) → Best n o → Best (suc n) (newer (record { index = n; space = z; page = p; lsn = t.lsn; version = t.version; text = t.bytes }) o)
  taken n t is None best = record {
    text = t;
    below = omega arith;
    is = is;
    lsn = refl;
    bytes = refl;
    most = λ j u lt here. ⊎_elim (λ (l : j < n). absurd (best j u l here)) (λ (e : j ≡ n). let same = one_text n t u is (subst (λ (k : ℕ). IsSlotOf k u) e here) in omega (arith, ap (λ (x : Text). x.lsn) same)) (up_to n j lt);
    first = λ j u lt here same. ⊎_elim (λ (l : j < n). absurd (best j u l here)) (λ (e : j ≡ n). omega (arith, e)) (up_to n j lt);
  }
  taken n t is (Some c) best = by (nat_le t.lsn c.lsn) refl
    where
      new : Copied
      new = record { index = n; space = z; page = p; lsn = t.lsn; version = t.version; text = t.bytes }

      by : (b : Bool) → nat_le t.lsn c.lsn ≡ b → Best (suc n) (if b then Some c else Some new)
      by true le =
          let less : t.lsn ≤ c.lsn = grind (arith, nat_tests) in
          record {
            text = best.text;
            below = let b = best.below in omega arith;
            is = best.is;
            lsn = best.lsn;
            bytes = best.bytes;
            most = λ j u lt here. ⊎_elim (λ (l : j < n). best.most j u l here)
                (λ (e : j ≡ n). let same = one_text n t u is (subst (λ (k : ℕ). IsSlotOf k u) e here) in omega (arith, ap (λ (x : Text). x.lsn) same, less, best.lsn)) (up_to n j lt);
            first = λ j u lt here same. ⊎_elim (λ (l : j < n). best.first j u l here same) (λ (e : j ≡ n). omega (arith, e, best.below)) (up_to n j lt);
          }
      by false le =
          let more : c.lsn < t.lsn = grind (arith, nat_tests) in
          record {
            text = t;
            below = omega arith;
            is = is;
            lsn = refl;
            bytes = refl;
            most = λ j u lt here. ⊎_elim (λ (l : j < n). let m = best.most j u l here in omega (arith, m, more, best.lsn))
                (λ (e : j ≡ n). let same = one_text n t u is (subst (λ (k : ℕ). IsSlotOf k u) e here) in omega (arith, ap (λ (x : Text). x.lsn) same)) (up_to n j lt);
            first = λ j u lt here same. ⊎_elim (λ (l : j < n). let m = best.most j u l here in absurd (omega (arith, m, more, best.lsn, same))) (λ (e : j ≡ n). omega (arith, e)) (up_to n j lt);
          }

  one_slot : (n : ℕ) (o : Option Copied) → Best n o → Best (suc n) (newest_from o (as_list (as_copied n (slot n))) z p)
  one_slot n o best = by (slot n) refl
    where
      of : (x : Slot) → slot n ≡ Some x → (a b : Bool) → nat_eq x.space z ≡ a → nat_eq x.page p ≡ b
          → Best (suc n) (if a && b then newer (record { index = n; space = x.space; page = x.page; lsn = x.text.lsn; version = x.text.version; text = x.text.bytes }) o else o)
      of x is false b sa sb = skipped n (λ u here. let e : x.space ≡ z = ap (λ (y : Slot). y.space) (same_Some _ _ (sym is ∙ here)) in true≢false (grind (arith, nat_tests))) o best
      of x is true false sa sb = skipped n (λ u here. let e : x.page ≡ p = ap (λ (y : Slot). y.page) (same_Some _ _ (sym is ∙ here)) in true≢false (grind (arith, nat_tests))) o best
      of x is true true sa sb =
          let e : x.space ≡ z = grind (arith, nat_tests) in
          let f : x.page ≡ p = grind (arith, nat_tests) in
          let whole : slot n ≡ Some (record { space = z; page = p; text = x.text }) =
          is ∙ ap (λ (k : ℕ). Some (record { space = k; page = x.page; text = x.text })) e ∙ ap (λ (k : ℕ). Some (record { space = z; page = k; text = x.text })) f in
          subst (λ (k : ℕ). Best (suc n) (newer (record { index = n; space = k; page = x.page; lsn = x.text.lsn; version = x.text.version; text = x.text.bytes }) o)) (sym e)
          (subst (λ (k : ℕ). Best (suc n) (newer (record { index = n; space = z; page = k; lsn = x.text.lsn; version = x.text.version; text = x.text.bytes }) o)) (sym f) (taken n x.text whole o best))

      by : (h : Option Slot) → slot n ≡ h → Best (suc n) (newest_from o (as_list (as_copied n h)) z p)
      by None is = skipped n (λ u here. let no : None ≡ Some (record { space = z; page = p; text = u }) = sym is ∙ here in absurd (cc)) o best
      by (Some x) is = of x is (nat_eq x.space z) (nat_eq x.page p) refl refl

  pub newest_is : (n : ℕ) → Best n (newest (copies_to n es) z p)
  unfolding copies_to
  newest_is zero = λ j u lt is. absurd (omega (arith, lt))
  newest_is (suc n) = subst (Best (suc n)) (sym (newest-append None (copies_to n es) (as_list (as_copied n (slot n))) z p)) (one_slot n (newest (copies_to n es) z p) (newest_is n))

-- Of a restored space, where a view is the disk as it read at the start.
module _ {M : Type 0} (v : View M) (s : List Event) (info : SpaceInfo) (p : ℕ) (home_is : v.home info.space p ≡ held p (shown (Space info.space) 16384 p s))
    (slots_are : (i : ℕ) → v.slot i ≡ slot_held (shown Double 16896 i s)) where
  abbrev z : ℕ
  z = info.space

  want_text : is_page_text p (shown (Space z) 16384 p s) ≡ true → wanted (copies_to 64 s) s z p ≡ None
  unfolding wanted
  want_text is = ap (λ (b : Bool). if b then None else option_map (λ c. c.text) (newest (copies_to 64 s) z p)) is

  want_copy : (o : Option Copied) → is_page_text p (shown (Space z) 16384 p s) ≡ false → newest (copies_to 64 s) z p ≡ o → wanted (copies_to 64 s) s z p ≡ option_map (λ c. c.text) o
  unfolding wanted
  want_copy o is same = ap (λ (b : Bool). if b then None else option_map (λ c. c.text) (newest (copies_to 64 s) z p)) is ∙ ap (λ (q : Option Copied). option_map (λ c. c.text) q) same

  no_home : ((t : Text) → v.home z p ≢ Holds t) → is_page_text p (shown (Space z) 16384 p s) ≡ false
  no_home none = by (is_page_text p (shown (Space z) 16384 p s)) refl
    where
      by : (b : Bool) → is_page_text p (shown (Space z) 16384 p s) ≡ b → b ≡ false
      by true is = absurd (none (text_in (shown (Space z) 16384 p s)) (home_is ∙ held-text p (shown (Space z) 16384 p s) is))
      by false is = refl

  best : Best s z p 64 (newest (copies_to 64 s) z p)
  best = newest_is s z p 64

  no_text : is_page_text p (shown (Space z) 16384 p s) ≡ false → (t : Text) → v.home z p ≢ Holds t
  no_text torn t is = true≢false (sym (held_is p (shown (Space z) 16384 p s) t (sym home_is ∙ is)).0 ∙ torn)

  -- the newest copy is the chosen text
  copy_chosen : (c : Copied) → is_page_text p (shown (Space z) 16384 p s) ≡ false → (b : IsBest s z p 64 c) → IsChosen v z p (Some b.text)
  copy_chosen c torn b = Copy c.index b.text (no_text torn) (record { within = b.below; is = slots_are c.index ∙ b.is })
      (λ j u copy. b.most j u copy.within (sym (slots_are j) ∙ copy.is)) (λ j u copy same. b.first j u copy.within (sym (slots_are j) ∙ copy.is) same) refl

  -- what is written home is the chosen text, where that is a copy
  pub wanted_chosen : (bytes : List ℕ) → wanted (copies_to 64 s) s z p ≡ Some bytes → (t : Text) × IsChosen v z p (Some t) × (held p bytes ≡ Holds t) × ((u : Text) → v.home z p ≢ Holds u)
  wanted_chosen bytes is = by (is_page_text p (shown (Space z) 16384 p s)) refl
    where
      of : is_page_text p (shown (Space z) 16384 p s) ≡ false → (o : Option Copied) → newest (copies_to 64 s) z p ≡ o → Best s z p 64 o → (t : Text) × IsChosen v z p (Some t) × (held p bytes ≡ Holds t) × ((u : Text) → v.home z p ≢ Holds u)
      of torn None e b = absurd (none-some bytes (sym (want_copy None torn e) ∙ is))
      of torn (Some c) e b =
          let valid = slot_is (shown Double 16896 c.index s) (record { space = z; page = p; text = b.text }) b.is in
          let here : bytes ≡ b.text.bytes = sym (same_Some c.text bytes (sym (want_copy (Some c) torn e) ∙ is)) ∙ b.bytes in
          (b.text, copy_chosen c torn b, ap (held p) here ∙ held-text p b.text.bytes valid.0 ∙ ap Holds valid.1, no_text torn)

      by : (b : Bool) → is_page_text p (shown (Space z) 16384 p s) ≡ b → (t : Text) × IsChosen v z p (Some t) × (held p bytes ≡ Holds t) × ((u : Text) → v.home z p ≢ Holds u)
      by true text = absurd (none-some bytes (sym (want_text text) ∙ is))
      by false torn = of torn (newest (copies_to 64 s) z p) refl best

  -- What a home may hold at each moment inside: what it could before, or its chosen copy, or it is torn.
  pub restoring_may : (m : List Event) → May (Space z) 16384 p s (Some (shown (Space z) 16384 p s)) → PagesFilling (copies_to 64 s) info s m → (h : Held) → MayRead (held p) IsNoText (Space z) 16384 p m h
      → MayRead (held p) IsNoText (Space z) 16384 p s h ⊎ ((t : Text) × IsChosen v z p (Some t) × ((h ≡ Holds t) ⊎ IsNoText h) × ((u : Text) → v.home z p ≢ Holds u))
  restoring_may m honest g h (Whole bytes may is) = by (g.may p (Some bytes) may)
    where
      left : (b : List ℕ) → IsWritten b (Some bytes) → bytes ≡ b
      left b (inl e) = cc
      left b (inr e) = absurd (cc)

      by : Could (Space z) 16384 p s (Some bytes) ⊎ IsFill (wanted (copies_to 64 s) s z) info.pages p (Some bytes)
          → MayRead (held p) IsNoText (Space z) 16384 p s h ⊎ ((t : Text) × IsChosen v z p (Some t) × ((h ≡ Holds t) ⊎ IsNoText h) × ((u : Text) → v.home z p ≢ Holds u))
      by (inl (inl earlier)) = inl (Whole bytes earlier is)
      by (inl (inr same)) = inl (Whole bytes (subst (May (Space z) 16384 p s) (sym same) honest) is)
      by (inr o) = let c = wanted_chosen o.bytes o.wanted in inr (c.0, c.1, inl (is ∙ ap (held p) (left o.bytes o.left) ∙ c.2), c.3)
  restoring_may m honest g h (IsTorn may torn) = by (g.may p None may)
    where
      by : Could (Space z) 16384 p s None ⊎ IsFill (wanted (copies_to 64 s) s z) info.pages p None → MayRead (held p) IsNoText (Space z) 16384 p s h ⊎ ((t : Text) × IsChosen v z p (Some t) × ((h ≡ Holds t) ⊎ IsNoText h) × ((u : Text) → v.home z p ≢ Holds u))
      by (inl (inl earlier)) = inl (IsTorn earlier torn)
      by (inl (inr same)) = absurd (cc)
      by (inr o) = let c = wanted_chosen o.bytes o.wanted in inr (c.0, c.1, inr torn, c.3)

  module _ (m : List Event) (below : p < info.pages) (restored : PagesRestored (copies_to 64 s) info s m) where
    stays : wanted (copies_to 64 s) s z p ≡ None → shown (Space z) 16384 p m ≡ shown (Space z) 16384 p s
    stays none = restored.filled.old p (λ lt. none)

    from_copy : (i : ℕ) (t : Text) → ((u : Text) → v.home z p ≢ Holds u) → IsCopy v z p i t → ((j : ℕ) (u : Text) → IsCopy v z p j u → u.lsn ≤ t.lsn) → ((j : ℕ) (u : Text) → IsCopy v z p j u → u.lsn ≡ t.lsn → i ≤ j)
        → held p (shown (Space z) 16384 p m) ≡ Holds t
    from_copy i t none copy most first = by (newest (copies_to 64 s) z p) refl best
      where
        slot_here : slot_held (shown Double 16896 i s) ≡ Some (record { space = z; page = p; text = t })
        slot_here = sym (slots_are i) ∙ copy.is

        by : (o : Option Copied) → newest (copies_to 64 s) z p ≡ o → Best s z p 64 o → held p (shown (Space z) 16384 p m) ≡ Holds t
        by None is b = absurd (b i t copy.within slot_here)
        by (Some c) is b =
            let other : IsCopy v z p c.index b.text = record { within = b.below; is = slots_are c.index ∙ b.is } in
            let up = b.most i t copy.within slot_here in
            let down = most c.index b.text other in
            let one : b.text.lsn ≡ t.lsn = omega (arith, up, down) in
            let index : c.index ≡ i = let x = b.first i t copy.within slot_here (sym one) in let y = first c.index b.text other one in omega (arith, x, y) in
            let text : b.text ≡ t = one_text s z p i b.text t (subst (λ (k : ℕ). slot_held (shown Double 16896 k s) ≡ Some (record { space = z; page = p; text = b.text })) index b.is) slot_here in
            let bytes : shown (Space z) 16384 p m ≡ t.bytes = restored.filled.new p c.text below (want_copy (Some c) (no_home none) is) ∙ b.bytes ∙ ap (λ (x : Text). x.bytes) text in
            let valid = slot_is (shown Double 16896 i s) (record { space = z; page = p; text = t }) slot_here in
            ap (held p) bytes ∙ held-text p t.bytes valid.0 ∙ ap Holds valid.1

    -- the home of a page that has a chosen text holds it
    pub restored_chosen : (t : Text) → IsChosen v z p (Some t) → held p (shown (Space z) 16384 p m) ≡ Holds t
    restored_chosen t (Home u home is) =
        let text = held_is p (shown (Space z) 16384 p s) u (sym home_is ∙ home) in
        ap (held p) (stays (want_text text.0)) ∙ sym home_is ∙ home ∙ ap Holds (sym (same_Some t u is))
    restored_chosen t (Copy i u none copy most first is) = from_copy i u none copy most first ∙ ap Holds (sym (same_Some t u is))
    restored_chosen t (Unused home none is) = absurd (cc)

    -- and that of an unused page reads as it did
    pub restored_unused : IsChosen v z p None → shown (Space z) 16384 p m ≡ shown (Space z) 16384 p s
    restored_unused (Home u home is) = absurd (cc)
    restored_unused (Copy i u none copy most first is) = absurd (cc)
    restored_unused (Unused home none is) = by (newest (copies_to 64 s) z p) refl best
      where
        zero_no : (t : Text) → v.home z p ≢ Holds t
        zero_no t e = let x : Zero ≡ Holds t = sym home ∙ e in cc

        by : (o : Option Copied) → newest (copies_to 64 s) z p ≡ o → Best s z p 64 o → shown (Space z) 16384 p m ≡ shown (Space z) 16384 p s
        by None same b = stays (want_copy None (no_home zero_no) same)
        by (Some c) same b = absurd (none c.index b.text (record { within = b.below; is = slots_are c.index ∙ b.is }))
