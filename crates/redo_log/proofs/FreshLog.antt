-- A log that was made is a ring with nothing in it.
use Rattle.std.proofs.Common.{◌≡◌, ◌≢◌, ℕ, ◌+◌, ◌-◌, ◌*◌, ◌<◌, ◌≤◌, inl, inr, List, ◌∷◌, take, drop, replicate, Option, Some, refl, sym, ap, subst, ◌∙◌, arith}
use Rattle.std.proofs.lemmas.List.{drop-replicate, take-replicate}
use Rattle.std.specs.Int.{from_be_bytes, w64}
use Rattle.std.proofs.lemmas.Option.{none-some}
use Rattle.disk_model.specs.Event.{Event, Make}
use Rattle.disk_model.specs.declared.names.FileName.TheVariants.{Log as LogFile}
use Rattle.byte_list.specs.Bytes.{range, zeros}
use Rattle.byte_list.specs.Fields.{be64_at}
use Rattle.places.specs.Places.{place, May}
use Rattle.places.proofs.Apart.{before}
use Rattle.places.proofs.Steps.{places_make}
use Rattle.ring_log.specs.Blocks.{place_in_ring}
use Rattle.ring_log.specs.Ring.{HasNoBlockFrom, IsBehind, IsSynced, IsOther, RingReady}
use Rattle.store_files.proofs.RingBlocks.{block_number}
use Rattle.redo_log.specs.Blocks.{Keys, redo_form}
use Rattle.redo_log.specs.Events.{CheckSettled}
use Rattle.redo_log.specs.Fresh.{IsFresh, fresh_ring}
use Rattle.redo_log.proofs.CheckLaws.{check_is, checkpoint_is, made_check}
use Rattle.byte_list.proofs.RangeLaws.{length-zeros}
use Rattle.crash_image.specs.LogForm.{log_places}

-- a place of zero bytes
zero_at : (n size i at : ℕ) → i * size + size ≤ n → at + 8 ≤ size → range at 8 (place size i (zeros n)) ≡ replicate 8 0
unfolding zeros place
zero_at n size i at fits within =
    ap (λ (l : List ℕ). take 8 (drop at (take size l))) (drop-replicate (i * size) n 0)
    ∙ ap (λ (l : List ℕ). take 8 (drop at l)) (take-replicate size (n - i * size) 0 (omega (arith, fits)))
    ∙ ap (λ (l : List ℕ). take 8 l) (drop-replicate at size 0)
    ∙ take-replicate 8 (size - at) 0 (omega (arith, within))

zero_number : (b : List ℕ) (at : ℕ) → range at 8 b ≡ replicate 8 0 → be64_at b at ≡ 0
unfolding be64_at
zero_number b at is = ap (λ (l : List ℕ). from_be_bytes w64 l) is

pub fresh_make : (blocks : ℕ) (es : List Event) → IsFresh blocks (Make LogFile ((3 + blocks) * 4096) ∷ es)
fresh_make blocks es = record { shows = λ i. refl; places = places_make LogFile (log_places blocks) ((3 + blocks) * 4096) es (omega arith) (length-zeros ((3 + blocks) * 4096)) }

module _ (keys : Keys) (blocks : ℕ) (least : 32 ≤ blocks) (s m : List Event) (made : IsFresh blocks s) (t : CheckSettled blocks 1 2 s m) where
  abbrev zero_place : ℕ → List ℕ
  zero_place i = place 4096 i (zeros ((3 + blocks) * 4096))

  within : (i : ℕ) → i < 3 + blocks → i * 4096 + 4096 ≤ (3 + blocks) * 4096
  within i lt = before 4096 i (3 + blocks) lt

  first_zero : (i : ℕ) → i < 3 + blocks → be64_at (zero_place i) 0 ≡ 0
  first_zero i lt = zero_number (zero_place i) 0 (zero_at ((3 + blocks) * 4096) 4096 i 0 (within i lt) (omega arith))

  second_zero : (i : ℕ) → i < 3 + blocks → be64_at (zero_place i) 8 ≡ 0
  second_zero i lt = zero_number (zero_place i) 8 (zero_at ((3 + blocks) * 4096) 4096 i 8 (within i lt) (omega arith))

  -- each place but that of the checkpoint is zero bytes
  others : (i : ℕ) → 2 ≢ i → (x : Option (List ℕ)) → May LogFile 4096 i m x → x ≡ Some (zero_place i)
  others i ne x may = t.settled i x may ∙ ap (λ (l : List ℕ). Some l) (t.wrote.old i (λ j lt. ne) ∙ made.shows i)

  none_there : (n i : ℕ) → 2 ≤ n → i < 3 + blocks → HasNoBlockFrom blocks (redo_form keys) n (zero_place i)
  none_there n i low lt m le is = let p = block_number m (zero_place i) is in omega (arith, p, first_zero i lt, le, low)

  pub fresh_ready : RingReady blocks (redo_form keys) (fresh_ring blocks) m
  fresh_ready = record {
    ringed = record {
      places = t.wrote.writing.places;
      at = record {
        is = record {
          some = omega arith;
          began = omega arith;
          order = omega arith;
          room = omega arith;
          later = λ f is. absurd (none-some f is);
          valid = λ n low high. absurd (omega (arith, low, high));
        };
        header = λ x may. others 0 (λ e. omega (arith, e)) x may;
        check = λ x may. subst (IsSynced blocks (redo_form keys) (fresh_ring blocks)) (sym (t.settled 2 x may ∙ ap (λ (l : List ℕ). Some l) (t.wrote.new 0 (omega arith)))) (made_check 1 2 (omega arith) (omega arith) (omega arith));
        other = λ x may. subst (IsOther blocks (redo_form keys) (fresh_ring blocks)) (sym (others 1 (λ e. omega (arith, e)) x may)) (inl (λ c is.
            let p = checkpoint_is 1 (zero_place 1) c is in
            let q = (check_is 1 (zero_place 1) p.0).some in
            omega (arith, q, second_zero 1 (omega arith))));
        front = λ n x low high may. absurd (omega (arith, low, high));
        rest = λ n x low high may. subst (IsBehind blocks (redo_form keys) (fresh_ring blocks) n) (sym (others (place_in_ring blocks n) (λ e. omega (arith, e)) x may)) (inr (none_there n (place_in_ring blocks n) low (omega (arith, least))));
      };
    };
    settled = t.settled;
    all = refl;
    none = refl;
  }
