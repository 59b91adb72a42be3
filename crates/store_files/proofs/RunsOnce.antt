-- What a log's file says under the keys is one thing.
use Rattle.std.proofs.Common.{◌≡◌, ◌⊎◌, ℕ, zero, suc, ◌+◌, ◌-◌, ◌*◌, ◌<◌, ◌≤◌, true, false, true≢false, nat_eq, List, [], ◌∷◌, ◌++◌, refl, sym, ap, ap₂, subst, ◌∙◌, arith, inl, inr}
use Rattle.std.proofs.lemmas.Bool.Decides.{nat_tests}
use Rattle.std.proofs.lemmas.Bool.{cases_lt}
use Rattle.std.proofs.lemmas.Option.{same_Some}
use Rattle.key_ring.specs.Ring.{RingEntry}
use Rattle.places.specs.Places.{place}
use Rattle.store_image.specs.Places.{LogView}
use Rattle.store_image.specs.View.{Logged}
use Rattle.store_image.specs.Checkpoint.{HeldCheckpoint, side_of}
use Rattle.redo_text.specs.declared.change.Change.{Change}
use Rattle.redo_text.proofs.ChangeLaws.{one_list}
use Rattle.store_files.specs.Checkpoint.{checkpoint_in, IsNewestCheckpoint}
use Rattle.store_files.specs.Header.{HeldHeader}
use Rattle.store_files.specs.RingBlock.{block_text, IsMtrText}
use Rattle.store_files.specs.Run.{block_at, MakeWholeMtr, HasText, AreLogEntries, IsLogOf}

pub newest_one : (file : List ℕ) (c d : HeldCheckpoint) → IsNewestCheckpoint file c → IsNewestCheckpoint file d → c ≡ d
newest_one file c d nc nd =
    let a = nd.newest (side_of c.sequence) c nc.is in
    let b = nc.newest (side_of d.sequence) d nd.is in
    let same : c.sequence ≡ d.sequence = omega (arith, a, b) in
    same_Some c d (sym nc.is ∙ ap (λ (s : ℕ). checkpoint_in (side_of s) (place 4096 (side_of s) file)) same ∙ nd.is)

not_less : (blocks : ℕ) (file : List ℕ) (n k j : ℕ) → MakeWholeMtr blocks file n k → MakeWholeMtr blocks file n j → k < j → ⊥
not_less blocks file n k j wk wj lt =
    let s = wk.some in
    let i : ℕ = k - 1 in
    let below_k : i < k = omega arith in
    let below_j : i < j = omega arith in
    let ends : nat_eq (i + 1) k ≡ true = let e : i + 1 ≡ k = omega arith in grind (arith, nat_tests) in
    let is_later : nat_eq (i + 1) j ≡ false = let e : i + 1 ≡ k = omega arith in grind (arith, nat_tests) in
    true≢false (sym ends ∙ sym (wk.last i below_k) ∙ wj.last i below_j ∙ is_later)

pub whole_one : (blocks : ℕ) (file : List ℕ) (n k j : ℕ) → MakeWholeMtr blocks file n k → MakeWholeMtr blocks file n j → k ≡ j
whole_one blocks file n k j wk wj = by (cases_lt k j) (cases_lt j k)
  where
    by : (k < j) ⊎ (j ≤ k) → (j < k) ⊎ (k ≤ j) → k ≡ j
    by (inl lt) other = absurd (not_less blocks file n k j wk wj lt)
    by (inr le) (inl lt) = absurd (not_less blocks file n j k wj wk lt)
    by (inr le) (inr ge) = omega (arith, le, ge)

-- a text is that of one list of changes
pub changes_one : (text : List ℕ) (cs ds : List Change) → IsMtrText text cs → IsMtrText text ds → cs ≡ ds
changes_one text cs ds a b = one_list cs ds a.allowed b.allowed (sym a.is ∙ b.is)

module _ (header : HeldHeader) (keys : List RingEntry) (file : List ℕ) where
  pub text_one : (n k : ℕ) (t u : List ℕ) → HasText header keys file n k t → HasText header keys file n k u → t ≡ u
  text_one n zero t u ht hu = ht ∙ sym hu
  text_one n (suc k) t u (l, r, kl, hr, et) (m, s, km, hs, eu) =
      let same : l ≡ m = same_Some l m (sym kl ∙ km) in
      let rest : r ≡ s = text_one (n + 1) k r s hr hs in
      et ∙ ap₂ (λ (x y : List ℕ). block_text header.algorithm x (block_at header.blocks file n) ++ y) same rest ∙ sym eu

  abbrev Ends : ℕ → Type 0
  Ends end = (k : ℕ) → MakeWholeMtr header.blocks file end k → ⊥

  pub entries_one : (n : ℕ) (es ds : List (Logged (List Change))) (end stop : ℕ) → AreLogEntries header keys file n es end → AreLogEntries header keys file n ds stop → Ends end → Ends stop → (es ≡ ds) × (end ≡ stop)
  entries_one n [] [] end stop a b le ls = (refl, sym a ∙ b)
  entries_one n [] (d ∷ ds) end stop a (k, t, w, h, r, f, x, more) le ls = absurd (le k (subst (λ (m : ℕ). MakeWholeMtr header.blocks file m k) a w))
  entries_one n (e ∷ es) [] end stop (k, t, w, h, r, f, x, more) b le ls = absurd (ls k (subst (λ (m : ℕ). MakeWholeMtr header.blocks file m k) b w))
  entries_one n (e ∷ es) (d ∷ ds) end stop (k, t, w, ht, re, fe, xe, more) (j, u, v, hu, rd, fd, xd, others) le ls =
      let same : k ≡ j = whole_one header.blocks file n k j w v in
      let texts : t ≡ u = text_one n k t u ht (subst (λ (m : ℕ). HasText header keys file n m u) (sym same) hu) in
      let mtr : e.mtr ≡ d.mtr = changes_one u e.mtr d.mtr (subst (λ (x : List ℕ). IsMtrText x e.mtr) texts re) rd in
      let first : e.first ≡ d.first = fe ∙ sym fd in
      let lsn : e.lsn ≡ d.lsn = xe ∙ ap (λ (m : ℕ). (n + m) * 4096) same ∙ sym xd in
      let rest = entries_one (n + k) es ds end stop more (subst (λ (m : ℕ). AreLogEntries header keys file (n + m) ds stop) (sym same) others) le ls in
      ((λ i. record { first = first i; lsn = lsn i; mtr = mtr i } ∷ rest.0 i), rest.1)

  pub log_one : (l m : LogView (List Change)) → IsLogOf header keys file l → IsLogOf header keys file m → l ≡ m
  log_one l m il im =
      let c = newest_one file _ _ il.run.newest im.run.newest in
      let from : l.from ≡ m.from = λ i. (c i).from in
      let rest = entries_one l.from l.run m.run l.end m.end il.entries (subst (λ (n : ℕ). AreLogEntries header keys file n m.run m.end) (sym from) im.entries) il.run.longest im.run.longest in
      (λ i. record { from = from i; end = rest.1 i; run = rest.0 i })
