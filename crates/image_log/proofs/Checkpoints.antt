-- The newest of two checkpoints.
use Rattle.std.proofs.Common.{◌≡◌, ◌⊎◌, ℕ, zero, suc, ◌+◌, ◌%◌, ◌<◌, ◌≤◌, Bool, true, false, nat_eq, if◌then◌else◌, List, Option, Some, None, refl, sym, ap, subst, ◌∙◌, arith, inl, inr, ⊎_elim}
use Rattle.std.specs.Prelude.{codes, option_map, IfSome, IfNone}
use Rattle.std.specs.Str.{bytes_eq}
use Rattle.std.proofs.lemmas.Bool.Decides.{nat_tests}
use Rattle.std.proofs.lemmas.Option.{same_Some, none-some}
use Rattle.byte_list.specs.Bytes.{range}
use Rattle.byte_list.specs.Fields.{be64_at}
use Rattle.places.specs.Places.{place}
use Rattle.page_places.specs.Texts.{ends_in_sum}
use Rattle.page_places.proofs.Sums.{and_left, and_right}
use Rattle.store_image.specs.Checkpoint.{HeldCheckpoint, side_of}
use Rattle.image_log.specs.Logs.{checkpoint_of}
use Rattle.image_log.specs.declared.checkpoint.RunStart.{RunStart}
use Rattle.store_files.specs.Checkpoint.{checkpoint_in, is_checkpoint, IsNewestCheckpoint}

side_tested : (i : ℕ) (b : List ℕ) → is_checkpoint i b ≡ true → i ≡ side_of (be64_at b 8)
unfolding is_checkpoint
side_tested i b is = let test : nat_eq i (side_of (be64_at b 8)) ≡ true = and_left _ _ (and_right (bytes_eq (range 0 8 b) (codes "KEYCHK01")) _ (and_right (ends_in_sum b) _ is)) in grind (arith, nat_tests)

-- a valid checkpoint stands on the side of its sequence
side_is : (i : ℕ) (b : List ℕ) (c : HeldCheckpoint) → checkpoint_in i b ≡ Some c → i ≡ side_of c.sequence
unfolding checkpoint_in
side_is i b c is = by (is_checkpoint i b) refl is
  where
    by : (t : Bool) → is_checkpoint i b ≡ t → (if t then Some (record { sequence = be64_at b 8; from = be64_at b 16 }) else None) ≡ Some c → i ≡ side_of c.sequence
    by true valid e = side_tested i b valid ∙ ap (λ (d : HeldCheckpoint). side_of d.sequence) (same_Some (record { sequence = be64_at b 8; from = be64_at b 16 }) c e)
    by false valid e = absurd cc

module _ (file : List ℕ) where
  abbrev at : ℕ → Option HeldCheckpoint
  at i = checkpoint_in i (place 4096 i file)

  two_sides : (c : HeldCheckpoint) (i : ℕ) → at i ≡ Some c → (i ≡ 1) ⊎ (i ≡ 2)
  two_sides c i is = let e : i ≡ 1 + c.sequence % 2 = side_is i (place 4096 i file) c is in by e
    where
      by : i ≡ 1 + c.sequence % 2 → (i ≡ 1) ⊎ (i ≡ 2)
      by e = ⊎_elim (λ (z : c.sequence % 2 ≡ 0). inl (omega (arith, e, z))) (λ (o : c.sequence % 2 ≡ 1). inr (omega (arith, e, o))) (parity (c.sequence % 2) (omega arith))
        where
          parity : (n : ℕ) → n < 2 → (n ≡ 0) ⊎ (n ≡ 1)
          parity zero lt = inl refl
          parity (suc zero) lt = inr refl
          parity (suc (suc n)) lt = absurd (omega (arith, lt))

  -- what stands on a side and isn't older than what stands on the other
  pub newest_at : (i j : ℕ) (c : HeldCheckpoint) → ((k : ℕ) → (k ≡ 1) ⊎ (k ≡ 2) → (k ≡ i) ⊎ (k ≡ j)) → at i ≡ Some c → ((d : HeldCheckpoint) → at j ≡ Some d → d.sequence ≤ c.sequence) → IsNewestCheckpoint file c
  newest_at i j c both is other = record {
    is = subst (λ (k : ℕ). at k ≡ Some c) (side_is i (place 4096 i file) c is) is;
    newest = λ k d there. ⊎_elim
        (λ (e : k ≡ i). let same : d ≡ c = same_Some d c (sym there ∙ ap at e ∙ is) in let s : d.sequence ≡ c.sequence = ap (λ (x : HeldCheckpoint). x.sequence) same in omega (arith, s))
        (λ (e : k ≡ j). other d (sym (ap at e) ∙ there)) (both k (two_sides d k there));
  }

  pub newest_first : (c : HeldCheckpoint) → at 1 ≡ Some c → ((d : HeldCheckpoint) → at 2 ≡ Some d → d.sequence ≤ c.sequence) → IsNewestCheckpoint file c
  newest_first c is other = newest_at 1 2 c (λ k e. e) is other

  pub newest_second : (c : HeldCheckpoint) → at 2 ≡ Some c → ((d : HeldCheckpoint) → at 1 ≡ Some d → d.sequence ≤ c.sequence) → IsNewestCheckpoint file c
  newest_second c is other = newest_at 2 1 c (λ k e. ⊎_elim (λ (a : k ≡ 1). inr a) (λ (b : k ≡ 2). inl b) e) is other

  pub none_newest : at 1 ≡ None → at 2 ≡ None → (c : HeldCheckpoint) → IsNewestCheckpoint file c → ⊥
  none_newest first second c newest =
      ⊎_elim (λ (e : side_of c.sequence ≡ 1). none-some c (sym first ∙ ap at (sym e) ∙ newest.is)) (λ (e : side_of c.sequence ≡ 2). none-some c (sym second ∙ ap at (sym e) ∙ newest.is)) (two_sides c (side_of c.sequence) newest.is)

  pub only_one : (i : ℕ) (c d : HeldCheckpoint) → at i ≡ Some c → at i ≡ Some d → d ≡ c
  only_one i c d a b = same_Some d c (sym b ∙ a)

  pub none_there : (i : ℕ) (d : HeldCheckpoint) → at i ≡ None → at i ≡ Some d → ⊥
  none_there i d none some = none-some d (sym none ∙ some)

  pub newest_left : (o : Option RunStart) → at 1 ≡ None → at 2 ≡ option_map checkpoint_of o → IfSome o (λ c. IsNewestCheckpoint file (checkpoint_of c))
  newest_left (Some c) none is = newest_second (checkpoint_of c) is (λ d there. absurd (none_there 1 d none there))
  newest_left None none is = tt

  pub none_left : (o : Option RunStart) → at 1 ≡ None → at 2 ≡ option_map checkpoint_of o → IfNone o ((c : HeldCheckpoint) → IsNewestCheckpoint file c → ⊥)
  none_left (Some c) none is = tt
  none_left None none is = none_newest none is

  pub later_second : (a b : RunStart) → at 1 ≡ Some (checkpoint_of a) → at 2 ≡ Some (checkpoint_of b) → a.sequence < b.sequence → IsNewestCheckpoint file (checkpoint_of b)
  later_second a b first second lt =
      newest_second (checkpoint_of b) second (λ d there. let s : d.sequence ≡ a.sequence = ap (λ (x : HeldCheckpoint). x.sequence) (only_one 1 (checkpoint_of a) d first there) in omega (arith, s, lt))

  pub later_first : (a b : RunStart) → at 1 ≡ Some (checkpoint_of a) → at 2 ≡ Some (checkpoint_of b) → b.sequence ≤ a.sequence → IsNewestCheckpoint file (checkpoint_of a)
  later_first a b first second le =
      newest_first (checkpoint_of a) first (λ d there. let s : d.sequence ≡ b.sequence = ap (λ (x : HeldCheckpoint). x.sequence) (only_one 2 (checkpoint_of b) d second there) in omega (arith, s, le))

  pub alone_first : (a : RunStart) → at 1 ≡ Some (checkpoint_of a) → at 2 ≡ None → IsNewestCheckpoint file (checkpoint_of a)
  alone_first a first none = newest_first (checkpoint_of a) first (λ d there. absurd (none_there 2 d none there))
