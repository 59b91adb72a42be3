-- Mini-transactions in a row of blocks.
use Rattle.std.proofs.Common.{◌≡◌, ℕ, zero, suc, ◌+◌, ◌*◌, ◌<◌, ◌≤◌, ⊎_elim, true≢false, List, [], ◌∷◌, ◌++◌, refl, sym, ap, subst, ◌∙◌, arith}
use Rattle.std.proofs.lemmas.Bool.{cases_eq, cases_lt}
use Rattle.store_image.specs.View.{block_bytes, Logged}
use Rattle.ring_log.specs.Ring.{Form, IsForm, IsWholeMtr, listed_blocks, AreWholeEntries}

module _ {M : Type 0} (N : ℕ) (F : Form M) where
  open F use {is_block, starts, ends, IsMtr}

  abbrev Journal : Type 0
  Journal = List (Logged M)

  -- two readings that agree
  abbrev pub Agree : (ℕ → List ℕ) → (ℕ → List ℕ) → ℕ → ℕ → Type 0
  Agree a b n end = (m : ℕ) → n ≤ m → m < end → a m ≡ b m

  pub whole_agree : (a b : ℕ → List ℕ) (n end : ℕ) → Agree a b n end → IsWholeMtr N F a n end → IsWholeMtr N F b n end
  whole_agree a b n end same w = record {
    some = w.some;
    most = w.most;
    valid = λ m le lt. ap (is_block m) (sym (same m le lt)) ∙ w.valid m le lt;
    first = ap starts (sym (same n (omega arith) w.some)) ∙ w.first;
    others = λ m gt lt. ap starts (sym (same m (omega (arith, gt)) lt)) ∙ w.others m gt lt;
    before = λ m le lt. ap ends (sym (same m le (omega (arith, lt)))) ∙ w.before m le lt;
    last = λ m is. ap ends (sym (same m (let some = w.some in omega (arith, is)) (omega (arith, is)))) ∙ w.last m is;
  }

  listed_agree : (a b : ℕ → List ℕ) (k n : ℕ) → Agree a b n (n + k) → listed_blocks N F a n k ≡ listed_blocks N F b n k
  listed_agree a b zero n same = refl
  listed_agree a b (suc k) n same =
      ap (λ (x : List ℕ). x ∷ listed_blocks N F a (n + 1) k) (same n (omega arith) (omega arith))
      ∙ ap (λ (l : List (List ℕ)). b n ∷ l) (listed_agree a b k (n + 1) (λ m le lt. same m (omega arith) (omega arith)))

  pub number_up : (a : ℕ → List ℕ) (n end : ℕ) (es : Journal) → AreWholeEntries N F a n es end → n ≤ end
  number_up a n end [] is = omega arith
  number_up a n end (e ∷ es) (k, w, mtr, first, lsn, rest) = let up = number_up a (n + k) end es rest in omega (arith, up)

  pub entries_agree : (a b : ℕ → List ℕ) (n end : ℕ) (es : Journal) → Agree a b n end → AreWholeEntries N F a n es end → AreWholeEntries N F b n es end
  entries_agree a b n end [] same is = is
  entries_agree a b n end (e ∷ es) same (k, w, mtr, first, lsn, rest) =
      let up : n + k ≤ end = number_up a (n + k) end es rest in
      let here : Agree a b n (n + k) = λ m le lt. same m le (omega (arith, lt, up)) in (
        k,
        whole_agree a b n (n + k) here w,
        subst (λ (l : List (List ℕ)). IsMtr n l e.mtr) (listed_agree a b k n here) mtr,
        first,
        lsn,
        entries_agree a b (n + k) end es (λ m le lt. same m (omega arith) lt) rest,
      )

  -- of whole ones from one number on, one can't end inside the other
  pub one_end : (a : ℕ → List ℕ) (n x y : ℕ) → IsWholeMtr N F a n x → IsWholeMtr N F a n y → x ≤ y → x ≡ y
  one_end a n x y v w le = ⊎_elim
      (λ (e : x ≡ y). e)
      (λ (ne : x ≡ y → ⊥).
      let pos = v.some in
      let back : (m : ℕ) × (m + 1 ≡ x) = back x pos in
      absurd (true≢false (sym (v.last back.0 back.1) ∙ w.before back.0 (omega (arith, back.1)) (omega (arith, back.1, ne)))))
      (cases_eq x y)
    where
      back : (x : ℕ) → n < x → (m : ℕ) × (m + 1 ≡ x)
      back zero lt = absurd (omega arith)
      back (suc m) lt = (m, omega arith)

  pub same_end : (a : ℕ → List ℕ) (n x y : ℕ) → IsWholeMtr N F a n x → IsWholeMtr N F a n y → x ≡ y
  same_end a n x y v w = ⊎_elim (λ (lt : x < y). one_end a n x y v w (omega arith)) (λ (ge : y ≤ x). sym (one_end a n y x w v ge)) (cases_lt x y)

  -- The whole mini-transactions among the blocks below a number: they end at the greatest bound up to it.
  pub record Cut (a : ℕ → List ℕ) (n k next : ℕ) (es : Journal) : Type 0 where
    pub before : Journal
    pub behind : Journal
    pub end : ℕ
    pub is : es ≡ before ++ behind
    pub left : AreWholeEntries N F a n before end
    pub right : AreWholeEntries N F a end behind next
    pub low : end ≤ k
    pub stops : (x : ℕ) → IsWholeMtr N F a end x → x ≤ k → (x ≤ next) → ⊥

  pub cut_at : (a : ℕ → List ℕ) (n k next : ℕ) (es : Journal) → AreWholeEntries N F a n es next → n ≤ k → Cut a n k next es
  cut_at a n k next [] is le = record { before = []; behind = []; end = n; is = refl; left = refl; right = is; low = le; stops = λ x w low high. let some = w.some in omega (arith, is, high) }
  cut_at a n k next (e ∷ es) (c, w, mtr, first, lsn, rest) le = ⊎_elim
      (λ (past : k < n + c). record {
        before = [];
        behind = e ∷ es;
        end = n;
        is = refl;
        left = refl;
        right = (c, w, mtr, first, lsn, rest);
        low = le;
        stops = λ x v low high. let same = same_end a n x (n + c) v w in omega (arith, same, low, past);
      })
      (λ (more : n + c ≤ k). take_one (cut_at a (n + c) k next es rest more))
      (cases_lt k (n + c))
    where
      take_one : Cut a (n + c) k next es → Cut a n k next (e ∷ es)
      take_one cut = record {
        before = e ∷ cut.before;
        behind = cut.behind;
        end = cut.end;
        is = ap (λ (l : Journal). e ∷ l) cut.is;
        left = (c, w, mtr, first, lsn, cut.left);
        right = cut.right;
        low = cut.low;
        stops = cut.stops;
      }

  heads : (d e : Logged M) (ds es : Journal) → d ∷ ds ≡ e ∷ es → d ≡ e
  heads d e ds es is = cc

  tails : (d e : Logged M) (ds es : Journal) → d ∷ ds ≡ e ∷ es → ds ≡ es
  tails d e ds es is = cc

  nil_cons : (d : Logged M) (ds : Journal) → [] ≡ d ∷ ds → ⊥
  nil_cons d ds is = cc

  -- what stands behind a bound
  pub behind_bound : (a : ℕ → List ℕ) (n m next : ℕ) (journal before behind : Journal) → AreWholeEntries N F a n journal next → journal ≡ before ++ behind → AreWholeEntries N F a n before m → AreWholeEntries N F a m behind next
  behind_bound a n m next journal [] behind all is left = subst (λ (i : ℕ). AreWholeEntries N F a i behind next) left (subst (λ (l : Journal). AreWholeEntries N F a n l next) is all)
  behind_bound a n m next [] (d ∷ before) behind all is left = absurd (nil_cons d (before ++ behind) is)
  behind_bound a n m next (e ∷ es) (d ∷ before) behind (k, w, mtr, first, lsn, rest) is (k', w', mtr', first', lsn', rest') =
      let same : n + k ≡ n + k' = same_end a n (n + k) (n + k') w w' in
      behind_bound a (n + k) m next es before behind rest (tails e d es (before ++ behind) is) (subst (λ (i : ℕ). AreWholeEntries N F a i before m) (sym same) rest')

  -- The mini-transactions up to a bound aren't cut short: a run from another bound to the greatest end up to k reaches it.
  pub reaches : (a : ℕ → List ℕ) (n m next : ℕ) (es before behind : Journal) → AreWholeEntries N F a n es next → es ≡ before ++ behind → AreWholeEntries N F a n before m → (k : ℕ) → m ≤ k → (cut : Cut a n k next es) → m ≤ cut.end
  reaches a n m next es before behind all is left k le cut = by es before cut.before n all is left cut.left cut.is
    where
      by : (es before done : Journal) (n : ℕ) → AreWholeEntries N F a n es next → es ≡ before ++ behind → AreWholeEntries N F a n before m → AreWholeEntries N F a n done cut.end → es ≡ done ++ cut.behind → m ≤ cut.end
      by es [] done n all is left run parts = let up = number_up a n cut.end done run in omega (arith, left, up)
      by [] (d ∷ before) done n all is left run parts = absurd (nil_cons d (before ++ behind) is)
      by (e ∷ es) (d ∷ before) [] n (k0, w0, mtr0, first0, lsn0, rest0) is (k', w', mtr', first', lsn', rest') run parts =
          let high : n + k' ≤ m = number_up a (n + k') m before rest' in
          let one : n + k0 ≡ n + k' = same_end a n (n + k0) (n + k') w0 w' in
          let top : n + k0 ≤ next = number_up a (n + k0) next es rest0 in
          absurd (cut.stops (n + k') (subst (λ (i : ℕ). IsWholeMtr N F a i (n + k')) run w') (omega (arith, high, le)) (omega (arith, one, top)))
      by (e ∷ es) (d ∷ before) (c ∷ done) n (k0, w0, mtr0, first0, lsn0, rest0) is (k', w', mtr', first', lsn', rest') (k2, w2, mtr2, first2, lsn2, rest2) parts =
          let one : n + k0 ≡ n + k' = same_end a n (n + k0) (n + k') w0 w' in
          let two : n + k0 ≡ n + k2 = same_end a n (n + k0) (n + k2) w0 w2 in
          by es before done (n + k0) rest0 (tails e d es (before ++ behind) is) (subst (λ (i : ℕ). AreWholeEntries N F a i before m) (sym one) rest')
          (subst (λ (i : ℕ). AreWholeEntries N F a i done cut.end) (sym two) rest2) (tails e c es (done ++ cut.behind) parts)

  -- the mini-transactions between two bounds
  pub record Between (a : ℕ → List ℕ) (low high : ℕ) (behind rest : Journal) : Type 0 where
    pub mid : Journal
    pub is : AreWholeEntries N F a low mid high
    pub parts : behind ≡ mid ++ rest

  pub between : (a : ℕ → List ℕ) (n low high next : ℕ) (es before behind front rest : Journal) → AreWholeEntries N F a n es next → es ≡ before ++ behind → AreWholeEntries N F a n before low
      → es ≡ front ++ rest → AreWholeEntries N F a n front high → low ≤ high → Between a low high behind rest
  between a n low high next es [] behind front rest all is left parts right le = record { mid = front; is = subst (λ (i : ℕ). AreWholeEntries N F a i front high) left right; parts = sym is ∙ parts }
  between a n low high next [] (d ∷ before) behind front rest all is left parts right le = absurd (nil_cons d (before ++ behind) is)
  between a n low high next (e ∷ es) (d ∷ before) behind [] rest all is (k, w, mtr, first, lsn, more) parts right le =
      let up = number_up a (n + k) low before more in
      let some = w.some in
      absurd (omega (arith, right, le, up, some))
  between a n low high next (e ∷ es) (d ∷ before) behind (c ∷ front) rest (k0, w0, mtr0, first0, lsn0, rest0) is (k, w, mtr, first, lsn, more) parts (k2, w2, mtr2, first2, lsn2, more2) le =
      let one : n + k0 ≡ n + k = same_end a n (n + k0) (n + k) w0 w in
      let two : n + k0 ≡ n + k2 = same_end a n (n + k0) (n + k2) w0 w2 in
      between a (n + k0) low high next es before behind front rest rest0 (tails e d es (before ++ behind) is) (subst (λ (i : ℕ). AreWholeEntries N F a i before low) (sym one) more)
      (tails e c es (front ++ rest) parts) (subst (λ (i : ℕ). AreWholeEntries N F a i front high) (sym two) more2) le

  one_entry : IsForm F → (a : ℕ → List ℕ) (n : ℕ) (d e : Logged M) (k : ℕ) → IsMtr n (listed_blocks N F a n k) d.mtr → IsMtr n (listed_blocks N F a n k) e.mtr → d.first ≡ n → e.first ≡ n → d.lsn ≡ (n + k) * block_bytes → e.lsn ≡ (n + k) * block_bytes → d ≡ e
  one_entry L a n d e k x y first first' lsn lsn' =
      let one : d.first ≡ e.first = first ∙ sym first' in
      let two : d.lsn ≡ e.lsn = lsn ∙ sym lsn' in
      let three : d.mtr ≡ e.mtr = L.mtr_one n (listed_blocks N F a n k) d.mtr e.mtr x y in
      λ i. record { first = one i; lsn = two i; mtr = three i }

  -- A file has one longest run of whole mini-transactions.
  pub one_run : IsForm F → (a : ℕ → List ℕ) (n limit x y : ℕ) (ds es : Journal) → AreWholeEntries N F a n ds x → AreWholeEntries N F a n es y → x ≤ limit → y ≤ limit → ((z : ℕ) → IsWholeMtr N F a x z → z ≤ limit → ⊥) → ((z : ℕ) → IsWholeMtr N F a y z → z ≤ limit → ⊥)
      → (ds ≡ es) × (x ≡ y)
  one_run L a n limit x y [] [] is is' le le' none none' = (refl, sym is ∙ is')
  one_run L a n limit x y [] (e ∷ es) is (k, w, mtr, first, lsn, rest) le le' none none' =
      let up = number_up a (n + k) y es rest in absurd (none (n + k) (subst (λ (i : ℕ). IsWholeMtr N F a i (n + k)) is w) (omega (arith, up, le')))
  one_run L a n limit x y (d ∷ ds) [] (k, w, mtr, first, lsn, rest) is le le' none none' =
      let up = number_up a (n + k) x ds rest in absurd (none' (n + k) (subst (λ (i : ℕ). IsWholeMtr N F a i (n + k)) is w) (omega (arith, up, le)))
  one_run L a n limit x y (d ∷ ds) (e ∷ es) (k, w, mtr, first, lsn, rest) (k', w', mtr', first', lsn', rest') le le' none none' =
      let same : n + k ≡ n + k' = same_end a n (n + k) (n + k') w w' in
      let count : k' ≡ k = omega (arith, same) in
      let entry : d ≡ e = one_entry L a n d e k mtr (subst (λ (i : ℕ). IsMtr n (listed_blocks N F a n i) e.mtr) count mtr') first first' lsn (lsn' ∙ ap (λ (i : ℕ). (n + i) * block_bytes) count) in
      let more = one_run L a (n + k) limit x y ds es rest (subst (λ (i : ℕ). AreWholeEntries N F a (n + i) es y) count rest') le le' none none' in
      (ap (λ (h : Logged M). h ∷ ds) entry ∙ ap (λ (l : Journal). e ∷ l) more.0, more.1)
