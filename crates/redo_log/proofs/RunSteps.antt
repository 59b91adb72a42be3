-- The versions of the blocks of a run.
use Rattle.std.proofs.Common.{◌≡◌, ℕ, zero, suc, ◌+◌, ◌-◌, ◌<◌, ◌≤◌, ⊎_elim, List, [], ◌∷◌, ◌++◌, length, take, get_or, refl, sym, ap, ◌∙◌, arith, length-append}
use Rattle.std.specs.List.{Contains}
use Rattle.std.proofs.lemmas.Bool.{cases_lt}
use Rattle.std.proofs.lemmas.List.{get_or_append_left, get_or-append_right, take-append-le, take_all}
use Rattle.redo_text.specs.Reading.{block_version}
use Rattle.redo_log.specs.Runs.{versions_up, AreVersions}

module _ (read : ℕ → List ℕ) (from : ℕ) where
  pub versions_more : (k : ℕ) → versions_up read from (k + 1) ≡ versions_up read from k ++ block_version (read (from + k)) ∷ []
  versions_more k = let e : k + 1 ≡ suc k = omega arith in ap (versions_up read from) e

  pub length-versions : (k : ℕ) → length (versions_up read from k) ≡ k
  length-versions zero = refl
  length-versions (suc k) = omega (arith, length-append (versions_up read from k) (block_version (read (from + k)) ∷ []), length-versions k)

  pub versions-at : (k j : ℕ) (d : ℕ) → j < k → get_or (versions_up read from k) j d ≡ block_version (read (from + j))
  versions-at zero j d lt = absurd (omega (arith, lt))
  versions-at (suc k) j d lt = ⊎_elim
      (λ (b : j < k). get_or_append_left (versions_up read from k) (block_version (read (from + k)) ∷ []) d j (omega (arith, b, length-versions k)) ∙ versions-at k j d b)
      (λ (ge : k ≤ j).
      let none : j - k ≡ 0 = omega (arith, lt, ge) in
      let e : k ≡ j = omega (arith, lt, ge) in
      get_or-append_right (versions_up read from k) (block_version (read (from + k)) ∷ []) k j d (length-versions k) ge
      ∙ ap (λ (i : ℕ). get_or (block_version (read (from + k)) ∷ []) i d) none ∙ ap (λ (i : ℕ). block_version (read (from + i))) e)
      (cases_lt j k)

  -- the first of them
  pub take-versions : (k n : ℕ) → n ≤ k → take n (versions_up read from k) ≡ versions_up read from n
  take-versions zero n le = let e : n ≡ 0 = omega (arith, le) in ap (λ (i : ℕ). take i []) e ∙ ap (λ (i : ℕ). versions_up read from i) (sym e)
  take-versions (suc k) n le = ⊎_elim
      (λ (b : n < suc k). take-append-le n (versions_up read from k) (block_version (read (from + k)) ∷ []) (omega (arith, b, length-versions k)) ∙ take-versions k n (omega (arith, b)))
      (λ (ge : suc k ≤ n). let e : n ≡ suc k = omega (arith, le, ge) in take_all n (versions_up read from (suc k)) (omega (arith, e, length-versions (suc k))) ∙ ap (λ (i : ℕ). versions_up read from i) (sym e))
      (cases_lt n (suc k))

  -- those among them, ascending or in any order
  pub are_versions : (k : ℕ) (end : ℕ) (versions : List ℕ) → end ≡ from + k → ((v : ℕ) → Contains (versions_up read from k) v → Contains versions v) → ((v : ℕ) → Contains versions v → Contains (versions_up read from k) v)
      → AreVersions read from end versions
  are_versions k end versions is all none = record {
    all = λ n low high.
        let e : from + (n - from) ≡ n = omega (arith, low) in
        let lt : n - from < k = omega (arith, low, high, is) in
        all (block_version (read n)) (n - from, omega (arith, lt, length-versions k), versions-at k (n - from) (block_version (read n)) lt ∙ ap (λ (i : ℕ). block_version (read i)) e);
    none = λ v has.
        let c = none v has in
        (from + c.0, omega arith, omega (arith, c.1, length-versions k, is), sym (versions-at k c.0 v (omega (arith, c.1, length-versions k))) ∙ c.2);
  }
