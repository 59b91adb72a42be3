-- The run is read block by block.
use Rattle.std.proofs.Common.{◌≡◌, ◌≢◌, ℕ, zero, suc, ◌+◌, ◌<◌, ◌≤◌, ⊎_elim, Bool, true, false, true≢false, nat_eq, if◌then◌else◌, List, [], ◌∷◌, ◌++◌, refl, sym, ap, subst, ◌∙◌, arith}
use Rattle.std.proofs.lemmas.Bool.{cases_lt, cases_eq, eq-eqb, ne_eqb}
use Rattle.store_image.specs.View.{Logged}
use Rattle.store_image.specs.Places.{LogView}
use Rattle.ring_log.specs.Blocks.{block_at}
use Rattle.ring_log.specs.Ring.{Form, IsWholeMtr, AreWholeEntries, IsRingLog}
use Rattle.ring_log.specs.Scans.{AreWholeMtrs, IsRingRun, IsScanned, Goes, Stops}
use Rattle.ring_log.proofs.Entries.{same_end, number_up}

module _ {M : Type 0} (N : ℕ) (F : Form M) (read : ℕ → List ℕ) (from : ℕ) where
  open F use {is_block, starts, ends}

  pub read_none : IsScanned N F read from from from
  read_none = record {
    parts = [];
    whole = refl;
    low = omega arith;
    order = omega arith;
    valid = λ m low high. absurd (omega (arith, low, high));
    first = λ lt. absurd (omega (arith, lt));
    others = λ m low high. absurd (omega (arith, low, high));
    before = λ m low high. absurd (omega (arith, low, high));
  }

  whole_more : (n end z : ℕ) (parts : List ℕ) → AreWholeMtrs N F read n parts end → IsWholeMtr N F read end z → AreWholeMtrs N F read n (parts ++ z ∷ []) z
  whole_more n end z [] is w = (subst (λ (i : ℕ). IsWholeMtr N F read i z) (sym is) w, refl)
  whole_more n end z (y ∷ parts) is w = (is.0, whole_more y end z parts is.1 w)

  -- one block more
  pub read_more : (end n next : ℕ) → IsScanned N F read from end n → Goes N F n end (read n) next → IsScanned N F read from next (n + 1)
  read_more end n next r (few, valid, starts_is, next_is) = by (ends (read n)) refl next_is
    where
      valid_up : (m : ℕ) → end ≤ m → m < n + 1 → is_block m (read m) ≡ true
      valid_up m low high = ⊎_elim (λ (lt : m < n). r.valid m low lt) (λ (ge : n ≤ m). let e : m ≡ n = omega (arith, high, ge) in subst (λ (i : ℕ). is_block i (read i) ≡ true) (sym e) valid) (cases_lt m n)

      first_up : starts (read end) ≡ true
      first_up = ⊎_elim (λ (lt : end < n). r.first lt) (λ (ge : n ≤ end). let order = r.order in let e : end ≡ n = omega arith in ap (λ (i : ℕ). starts (read i)) e ∙ starts_is ∙ eq-eqb end n e) (cases_lt end n)

      others_up : (m : ℕ) → end < m → m < n + 1 → starts (read m) ≡ false
      others_up m gt high = ⊎_elim (λ (lt : m < n). r.others m gt lt)
          (λ (ge : n ≤ m). let e : m ≡ n = omega (arith, high, ge) in ap (λ (i : ℕ). starts (read i)) e ∙ starts_is ∙ ne_eqb end n (λ same. omega (arith, same, e, gt))) (cases_lt m n)

      by : (b : Bool) → ends (read n) ≡ b → next ≡ (if b then n + 1 else end) → IsScanned N F read from next (n + 1)
      by true last is = subst (λ (i : ℕ). IsScanned N F read from i (n + 1)) (sym is) (record {
        parts = r.parts ++ (n + 1) ∷ [];
        whole = whole_more from end (n + 1) r.parts r.whole (record {
          some = let order = r.order in omega arith;
          most = omega (arith, few);
          valid = valid_up;
          first = first_up;
          others = others_up;
          before = λ m low high. r.before m low (omega (arith, high));
          last = λ m e. let same : m ≡ n = omega (arith, e) in ap (λ (i : ℕ). ends (read i)) same ∙ last;
        });
        low = let low = r.low in let order = r.order in omega arith;
        order = omega arith;
        valid = λ m low high. absurd (omega (arith, low, high));
        first = λ lt. absurd (omega (arith, lt));
        others = λ m low high. absurd (omega (arith, low, high));
        before = λ m low high. absurd (omega (arith, low, high));
      })
      by false is_later is = subst (λ (i : ℕ). IsScanned N F read from i (n + 1)) (sym is) (record {
        parts = r.parts;
        whole = r.whole;
        low = r.low;
        order = let order = r.order in omega arith;
        valid = valid_up;
        first = λ lt. first_up;
        others = others_up;
        before = λ m low high. ⊎_elim (λ (lt : m < n). r.before m low lt) (λ (ge : n ≤ m). let e : m ≡ n = omega (arith, high, ge) in ap (λ (i : ℕ). ends (read i)) e ∙ is_later) (cases_lt m n);
      })

  -- what ends among the blocks that were read has ended
  inner : (end n z : ℕ) → IsScanned N F read from end n → IsWholeMtr N F read end z → z ≤ n → ⊥
  inner end n zero r w le = let some = w.some in omega arith
  inner end n (suc m) r w le = let some = w.some in true≢false (sym (w.last m (omega arith)) ∙ r.before m (omega (arith, some)) (omega (arith, le)))

  -- the run ends at a block that doesn't go on
  pub read_stops : (end n : ℕ) → n ≤ from + N → IsScanned N F read from end n → Stops N F n end (read n) → IsRingRun N F read from end
  read_stops end n le r stops = record {
    parts = r.parts;
    whole = r.whole;
    few = let order = r.order in omega arith;
    longest = λ z w high. ⊎_elim (λ (lt : n < z). stops (let most = w.most in omega (arith, most, lt)) (w.valid n r.order lt) (start z w lt)) (λ (ge : z ≤ n). inner end n z r w ge) (cases_lt n z);
  }
    where
      start : (z : ℕ) → IsWholeMtr N F read end z → n < z → starts (read n) ≡ nat_eq end n
      start z w lt = ⊎_elim (λ (e : end ≡ n). ap (λ (i : ℕ). starts (read i)) (sym e) ∙ w.first ∙ sym (eq-eqb end n e))
          (λ (ne : end ≢ n). let order = r.order in w.others n (omega (arith, ne)) lt ∙ sym (ne_eqb end n ne)) (cases_eq end n)

  -- or where all blocks were read
  pub read_all : (end n : ℕ) → n ≡ from + N → IsScanned N F read from end n → IsRingRun N F read from end
  read_all end n is r = record {
    parts = r.parts;
    whole = r.whole;
    few = let order = r.order in omega (arith, is);
    longest = λ z w high. inner end n z r w (omega (arith, is, high));
  }

  whole_up : (n end : ℕ) (parts : List ℕ) → AreWholeMtrs N F read n parts end → n ≤ end
  whole_up n end [] is = omega arith
  whole_up n end (z ∷ parts) is = let up = whole_up z end parts is.1 in let some = (is.0).some in omega arith

  -- there is one longest run
  one_end_of : (n x y : ℕ) (parts : List ℕ) (es : List (Logged M)) → AreWholeMtrs N F read n parts x → AreWholeEntries N F read n es y → x ≤ from + N → y ≤ from + N
      → ((z : ℕ) → IsWholeMtr N F read x z → z ≤ from + N → ⊥) → ((z : ℕ) → IsWholeMtr N F read y z → z ≤ from + N → ⊥) → x ≡ y
  one_end_of n x y [] [] is it lx ly nx ny = sym is ∙ it
  one_end_of n x y [] (e ∷ es) is (k, w, mtr, first, lsn, rest) lx ly nx ny = let up = number_up N F read (n + k) y es rest in absurd (nx (n + k) (subst (λ (i : ℕ). IsWholeMtr N F read i (n + k)) is w) (omega (arith, up, ly)))
  one_end_of n x y (z ∷ parts) [] (v, more) it lx ly nx ny = let up = whole_up z x parts more in absurd (ny z (subst (λ (i : ℕ). IsWholeMtr N F read i z) it v) (omega (arith, up, lx)))
  one_end_of n x y (z ∷ parts) (e ∷ es) (v, more) (k, w, mtr, first, lsn, rest) lx ly nx ny =
      let same : n + k ≡ z = same_end N F read n (n + k) z w v in
      one_end_of z x y parts es more (subst (λ (i : ℕ). AreWholeEntries N F read i es y) same rest) lx ly nx ny

-- The run that is read from the newest checkpoint on ends where what the file says ends.
pub run_of_log : {M : Type 0} (N : ℕ) (F : Form M) (file : List ℕ) (l : LogView M) (end : ℕ) → IsRingLog N F file l → IsRingRun N F (block_at N file) l.from end → end ≡ l.end
run_of_log N F file l end is run = one_end_of N F (block_at N file) l.from l.from end l.end run.parts l.run run.whole is.run run.few is.few run.longest is.longest
