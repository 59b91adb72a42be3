-- Whole mini-transactions, block by block, and a run of them, one after another.
use Rattle.std.proofs.Common.{◌≡◌, ◌≢◌, ◌⊎◌, ℕ, ◌+◌, ◌-◌, ◌*◌, ◌<◌, ◌≤◌, true, false, true≢false, nat_eq, List, [], ◌∷◌, ◌++◌, refl, sym, ap, subst, ◌∙◌, arith, inl, inr, ⊎_elim, append_assoc}
use Rattle.std.proofs.Math.Nat.{add-mod_right}
use Rattle.std.proofs.lemmas.Bool.{cases_lt}
use Rattle.std.proofs.lemmas.Bool.Decides.{nat_tests}
use Rattle.std.proofs.lemmas.List.{append-nil}
use Rattle.places.specs.Places.{place}
use Rattle.redo_text.specs.Reading.{number_of}
use Rattle.store_files.specs.RingBlock.{is_ring_block, begins_mtr, ends_mtr}
use Rattle.store_files.specs.Run.{block_at, MakeWholeMtr, MakeWholeMtrs}
use Rattle.store_files.proofs.RingBlocks.{block_number}

module _ (blocks : ℕ) (file : List ℕ) where
  abbrev at : ℕ → List ℕ
  at n = block_at blocks file n

  -- the first i blocks from n on begin a mini-transaction, and don't end it
  pub record Begun (n i : ℕ) : Type 0 where
    pub valid : (j : ℕ) → j < i → is_ring_block (n + j) (at (n + j)) ≡ true
    pub first : (j : ℕ) → j < i → begins_mtr (at (n + j)) ≡ nat_eq j 0
    pub going : (j : ℕ) → j < i → ends_mtr (at (n + j)) ≡ false

  pub begun_none : (n : ℕ) → Begun n 0
  begun_none n = record { valid = λ j lt. absurd (omega (arith, lt)); first = λ j lt. absurd (omega (arith, lt)); going = λ j lt. absurd (omega (arith, lt)) }

  up_to : (i j : ℕ) → j < i + 1 → (j < i) ⊎ (j ≡ i)
  up_to i j lt = ⊎_elim (λ (l : j < i). inl l) (λ (ge : i ≤ j). inr (omega (arith, lt, ge))) (cases_lt j i)

  pub begun_more : (n i : ℕ) → Begun n i → is_ring_block (n + i) (at (n + i)) ≡ true → begins_mtr (at (n + i)) ≡ nat_eq i 0 → ends_mtr (at (n + i)) ≡ false → Begun n (i + 1)
  begun_more n i b valid first going = record {
    valid = λ j lt. ⊎_elim (λ (l : j < i). b.valid j l) (λ (e : j ≡ i). subst (λ (k : ℕ). is_ring_block (n + k) (at (n + k)) ≡ true) (sym e) valid) (up_to i j lt);
    first = λ j lt. ⊎_elim (λ (l : j < i). b.first j l) (λ (e : j ≡ i). subst (λ (k : ℕ). begins_mtr (at (n + k)) ≡ nat_eq k 0) (sym e) first) (up_to i j lt);
    going = λ j lt. ⊎_elim (λ (l : j < i). b.going j l) (λ (e : j ≡ i). subst (λ (k : ℕ). ends_mtr (at (n + k)) ≡ false) (sym e) going) (up_to i j lt);
  }

  -- a whole mini-transaction has more blocks than those that don't end it
  pub begun_below : (n i k : ℕ) → Begun n i → MakeWholeMtr blocks file n k → i < k
  begun_below n i k b w = ⊎_elim (λ (l : i < k). l) (λ (le : k ≤ i). absurd (by le)) (cases_lt i k)
    where
      by : k ≤ i → ⊥
      by le =
          let s = w.some in
          let j : ℕ = k - 1 in
          let below : j < k = omega arith in
          let ends : nat_eq (j + 1) k ≡ true = let e : j + 1 ≡ k = omega arith in grind (arith, nat_tests) in
          true≢false (sym ends ∙ sym (w.last j below) ∙ b.going j (omega arith))

  -- the next block ends it
  pub begun_whole : (n i : ℕ) → i < 16 → Begun n i → is_ring_block (n + i) (at (n + i)) ≡ true → begins_mtr (at (n + i)) ≡ nat_eq i 0 → ends_mtr (at (n + i)) ≡ true → MakeWholeMtr blocks file n (i + 1)
  begun_whole n i lt b valid first ends = record {
    some = omega arith;
    few = omega arith;
    valid = λ j lt. ⊎_elim (λ (l : j < i). b.valid j l) (λ (e : j ≡ i). subst (λ (k : ℕ). is_ring_block (n + k) (at (n + k)) ≡ true) (sym e) valid) (up_to i j lt);
    first = λ j lt. ⊎_elim (λ (l : j < i). b.first j l) (λ (e : j ≡ i). subst (λ (k : ℕ). begins_mtr (at (n + k)) ≡ nat_eq k 0) (sym e) first) (up_to i j lt);
    last = λ j lt. ⊎_elim (λ (l : j < i). b.going j l ∙ sym (not_end j l)) (λ (e : j ≡ i). subst (λ (k : ℕ). ends_mtr (at (n + k)) ≡ nat_eq (k + 1) (i + 1)) (sym e) (ends ∙ sym same)) (up_to i j lt);
  }
    where
      not_end : (j : ℕ) → j < i → nat_eq (j + 1) (i + 1) ≡ false
      not_end j l = grind (arith, nat_tests)

      same : nat_eq (i + 1) (i + 1) ≡ true
      same = grind (arith, nat_tests)

  -- why there is none
  pub none_invalid : (n i : ℕ) → Begun n i → is_ring_block (n + i) (at (n + i)) ≡ false → (k : ℕ) → MakeWholeMtr blocks file n k → ⊥
  none_invalid n i b isnt k w = true≢false (sym (w.valid i (begun_below n i k b w)) ∙ isnt)

  pub none_first : (n i : ℕ) → Begun n i → begins_mtr (at (n + i)) ≢ nat_eq i 0 → (k : ℕ) → MakeWholeMtr blocks file n k → ⊥
  none_first n i b isnt k w = isnt (w.first i (begun_below n i k b w))

  pub none_long : (n : ℕ) → Begun n 16 → (k : ℕ) → MakeWholeMtr blocks file n k → ⊥
  none_long n b k w = let lt = begun_below n 16 k b w in let few = w.few in absurd (omega (arith, lt, few))

  -- ---- a run

  -- So many rounds have found whole mini-transactions of these sizes from `from` up to `end`.
  pub record Leads (from : ℕ) (sizes : List ℕ) (end round : ℕ) : Type 0 where
    pub more : (ks : List ℕ) (to : ℕ) → MakeWholeMtrs blocks file end ks to → MakeWholeMtrs blocks file from (sizes ++ ks) to
    pub valid : (m : ℕ) → from ≤ m → m < end → is_ring_block m (at m) ≡ true
    pub least : from + round ≤ end
    pub most : end ≤ from + 16 * round

  pub leads_none : (from : ℕ) → Leads from [] from 0
  leads_none from = record { more = λ ks to w. w; valid = λ m ge lt. absurd (omega (arith, ge, lt)); least = omega arith; most = omega arith }

  pub leads_more : (from : ℕ) (sizes : List ℕ) (end round k : ℕ) → Leads from sizes end round → MakeWholeMtr blocks file end k → Leads from (sizes ++ k ∷ []) (end + k) (round + 1)
  leads_more from sizes end round k leads w =
      let some = w.some in
      let few = w.few in
      let least = leads.least in
      let most = leads.most in record {
        more = λ ks to rest. subst (λ (xs : List ℕ). MakeWholeMtrs blocks file from xs to) (sym (append_assoc sizes (k ∷ []) ks)) (leads.more (k ∷ ks) to (w, rest));
        valid = λ m ge lt. ⊎_elim (λ (l : m < end). leads.valid m ge l) (λ (le : end ≤ m). by m le lt) (cases_lt m end);
        least = omega (arith, least, some);
        most = omega (arith, most, few);
      }
    where
      by : (m : ℕ) → end ≤ m → m < end + k → is_ring_block m (at m) ≡ true
      by m le lt = let e : end + (m - end) ≡ m = omega (arith, le) in subst (λ (n : ℕ). is_ring_block n (at n) ≡ true) e (w.valid (m - end) (omega (arith, le, lt)))

  pub leads_run : (from : ℕ) (sizes : List ℕ) (end round : ℕ) → Leads from sizes end round → MakeWholeMtrs blocks file from sizes end
  leads_run from sizes end round leads = subst (λ (xs : List ℕ). MakeWholeMtrs blocks file from xs end) (append-nil sizes) (leads.more [] end refl)

  same_place : (n : ℕ) → at (n + blocks) ≡ at n
  same_place n = ap (λ (k : ℕ). place 4096 (3 + k) file) (add-mod_right n blocks)

  -- A run is no longer than the ring.
  pub leads_within : (from : ℕ) (sizes : List ℕ) (end round : ℕ) → 0 < blocks → blocks < round → Leads from sizes end round → ⊥
  leads_within from sizes end round some above leads =
      let least = leads.least in
      let one : is_ring_block from (at from) ≡ true = leads.valid from (omega arith) (omega (arith, least, above)) in
      let two : is_ring_block (from + blocks) (at (from + blocks)) ≡ true = leads.valid (from + blocks) (omega arith) (omega (arith, least, above)) in
      let other : number_of (at from) ≡ from + blocks = ap number_of (sym (same_place from)) ∙ block_number (from + blocks) (at (from + blocks)) two in
      let own : number_of (at from) ≡ from = block_number from (at from) one in
      omega (arith, some, sym own ∙ other)

  -- the numbers of a run ascend
  pub mtrs_ascend : (n : ℕ) (ks : List ℕ) (end : ℕ) → MakeWholeMtrs blocks file n ks end → n ≤ end
  mtrs_ascend n [] end is = omega (arith, is)
  mtrs_ascend n (k ∷ ks) end (w, rest) = let le = mtrs_ascend (n + k) ks end rest in omega (arith, le)
