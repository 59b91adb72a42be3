-- The files of a store as it is created, place by place.
use Rattle.std.proofs.Common.{◌≡◌, ◌≢◌, ◌⊎◌, ℕ, zero, suc, ◌+◌, ◌-◌, ◌*◌, ◌%◌, ◌<◌, ◌≤◌, ◌&&◌, Bool, true, false, nat_eq, nat_le, List, [], ◌∷◌, length, Some, refl, sym, ap, ◌∙◌, subst, inl, inr, arith, length-append}
use Rattle.std.proofs.lemmas.Bool.Decides.{nat_tests}
use Rattle.std.specs.Int.{to_be_bytes, w32}
use Rattle.bytes_core.specs.Crc.{crc32c}
use Rattle.byte_list.specs.Bytes.{put, range, zeros}
use Rattle.byte_list.proofs.PutLaws.{length-put, range-put_same, range-put_before, range-put_after}
use Rattle.byte_list.proofs.RangeLaws.{length-zeros, range-zeros}
use Rattle.page_places.proofs.Sums.{and_left, and_right}
use Rattle.places.specs.Places.{place}
use Rattle.redo_log.specs.Check.{check_bytes}
use Rattle.redo_log.proofs.CheckLaws.{check_is, checkpoint_is, length-check, made_check}
use Rattle.space_head.specs.declared.space.SpaceInfo.{SpaceInfo}
use Rattle.store_image.specs.Checkpoint.{HeldCheckpoint, side_of}
use Rattle.store_files.specs.Checkpoint.{IsNewestCheckpoint, checkpoint_in}
use Rattle.store_files.specs.Header.{HeldHeader, IsWritableHeader, are_allowed, are_in_order, header_bytes, header_front, header_in, pages_together}
use Rattle.store_files.specs.RingBlock.{is_ring_block}
use Rattle.store_files.specs.Run.{IsClear, IsRun, MakeWholeMtr, block_at}
use Rattle.store_files.proofs.HeadersWritten.{header_back}
use Rattle.store_form.specs.Creation.{first_text}
use Rattle.store_form.specs.Made.{IsMadeInfo}
use Rattle.store_form.proofs.FirstTexts.{length-first}
use Rattle.store_form.proofs.HeaderWrites.{header_front-long}
use Rattle.store_form.proofs.ZeroPlaces.{zero_checkpoint, zero_ring_block}

-- the log's file with its first checkpoint, and with the header too
unfoldable pub log_begun : ℕ → List ℕ
log_begun blocks = put 8192 (check_bytes 1 2) (zeros ((3 + blocks) * 4096))

unfoldable pub log_made : HeldHeader → List ℕ
log_made header = put 0 (header_bytes header) (log_begun header.blocks)

-- the file of a space with its page 0
unfoldable pub space_made : SpaceInfo → List ℕ
space_made info = put 0 (first_text info) (zeros (info.pages * 16384))

-- ---- the log without a header

module _ (blocks : ℕ) where
  abbrev z : List ℕ
  z = zeros ((3 + blocks) * 4096)

  abbrev check : List ℕ
  check = check_bytes 1 2

  lz : length (zeros ((3 + blocks) * 4096)) ≡ (3 + blocks) * 4096
  lz = length-zeros ((3 + blocks) * 4096)

  lc : length (check_bytes 1 2) ≡ 4096
  lc = length-check 1 2 (omega arith) (omega arith) (omega arith)

  pub length-begun : length (log_begun blocks) ≡ (3 + blocks) * 4096
  unfolding log_begun
  length-begun = length-put 8192 check z (omega (arith, lz, lc)) ∙ lz

  pub begun_first : range 0 4096 (log_begun blocks) ≡ zeros 4096
  unfolding log_begun
  begun_first = range-put_before 8192 check z (omega (arith, lz, lc)) 0 4096 (omega arith) ∙ range-zeros 0 4096 ((3 + blocks) * 4096) (omega arith)

  pub begun_check : range 8192 4096 (log_begun blocks) ≡ check_bytes 1 2
  unfolding log_begun
  begun_check = range-put_same 8192 check z (omega (arith, lz, lc)) 4096 (sym lc)

  pub begun_other : (i : ℕ) → i ≢ 2 → i < 3 + blocks → range (i * 4096) 4096 (log_begun blocks) ≡ zeros 4096
  unfolding log_begun
  begun_other i other within = by (below_or i other) ∙ range-zeros (i * 4096) 4096 ((3 + blocks) * 4096) (omega (arith, within))
    where
      below_or : (i : ℕ) → i ≢ 2 → (i < 2) ⊎ (2 < i)
      below_or zero ne = inl (omega arith)
      below_or (suc zero) ne = inl (omega arith)
      below_or (suc (suc zero)) ne = absurd (ne refl)
      below_or (suc (suc (suc i))) ne = inr (omega arith)

      by : (i < 2) ⊎ (2 < i) → range (i * 4096) 4096 (put 8192 check z) ≡ range (i * 4096) 4096 z
      by (inl lt) = range-put_before 8192 check z (omega (arith, lz, lc)) (i * 4096) 4096 (omega (arith, lt))
      by (inr gt) = range-put_after 8192 check z (omega (arith, lz, lc)) (i * 4096) 4096 (omega (arith, gt, lc))

-- ---- the log

module _ (header : HeldHeader) (w : IsWritableHeader header) where
  pub least_blocks : 32 ≤ header.blocks
  unfolding are_allowed
  least_blocks = let t : nat_le 32 header.blocks ≡ true = and_left (nat_le 32 header.blocks) _ w.allowed in grind (arith, nat_tests)

  few_spaces : length header.spaces ≤ 16
  unfolding are_allowed
  few_spaces =
      let a = and_right (nat_le 32 header.blocks) _ w.allowed in
      let b = and_right (nat_le header.blocks 4096) _ a in
      let c = and_right (nat_le 1 (length header.spaces)) _ b in
      let t : nat_le (length header.spaces) 16 ≡ true = and_left (nat_le (length header.spaces) 16) _ c in
      grind (arith, nat_tests)

  pub length-header : length (header_bytes header) ≡ 4096
  unfolding header_bytes
  length-header = length-append (header_front header) (to_be_bytes w32 (crc32c (header_front header))) ∙ omega (arith, header_front-long header w.salt_long few_spaces)

  abbrev begun : List ℕ
  begun = log_begun header.blocks

  inside : 0 + length (header_bytes header) ≤ length (log_begun header.blocks)
  inside = let a = length-begun header.blocks in omega (arith, a, length-header)

  pub length-made : length (log_made header) ≡ (3 + header.blocks) * 4096
  unfolding log_made
  length-made = length-put 0 (header_bytes header) begun inside ∙ length-begun header.blocks

  pub made_header : header_in (place 4096 0 (log_made header)) ≡ Some header
  unfolding log_made place
  made_header = ap header_in (range-put_same 0 (header_bytes header) begun inside 4096 (sym length-header)) ∙ header_back header w

  made_behind : (i : ℕ) → 1 ≤ i → place 4096 i (log_made header) ≡ range (i * 4096) 4096 (log_begun header.blocks)
  unfolding log_made place
  made_behind i some = range-put_after 0 (header_bytes header) begun inside (i * 4096) 4096 (omega (arith, length-header, some))

  made_checkpoint : place 4096 2 (log_made header) ≡ check_bytes 1 2
  made_checkpoint = made_behind 2 (omega arith) ∙ begun_check header.blocks

  made_other : (i : ℕ) → 1 ≤ i → i ≢ 2 → i < 3 + header.blocks → place 4096 i (log_made header) ≡ zeros 4096
  made_other i some other within = made_behind i some ∙ begun_other header.blocks i other within

  -- its newest checkpoint is the first one
  first_check : HeldCheckpoint
  first_check = record { sequence = 1; from = 2 }

  pub made_newest : IsNewestCheckpoint (log_made header) (record { sequence = 1; from = 2 })
  made_newest = record {
    is = ap (λ (b : List ℕ). checkpoint_in 2 b) made_checkpoint ∙ made_check 1 2 (omega arith) (omega arith) (omega arith);
    newest = λ i d is. no_later i d is (side_is i d is);
  }
    where
      side_is : (i : ℕ) (d : HeldCheckpoint) → checkpoint_in i (place 4096 i (log_made header)) ≡ Some d → (i ≡ 1) ⊎ (i ≡ 2)
      side_is i d is = let at = (check_is i (place 4096 i (log_made header)) (checkpoint_is i (place 4096 i (log_made header)) d is).0).at in one_or_two i (omega (arith, at)) (omega (arith, at))
        where
          one_or_two : (i : ℕ) → 1 ≤ i → i ≤ 2 → (i ≡ 1) ⊎ (i ≡ 2)
          one_or_two zero low high = absurd (omega (arith, low))
          one_or_two (suc zero) low high = inl refl
          one_or_two (suc (suc zero)) low high = inr refl
          one_or_two (suc (suc (suc i))) low high = absurd (omega (arith, high))

      no_later : (i : ℕ) (d : HeldCheckpoint) → checkpoint_in i (place 4096 i (log_made header)) ≡ Some d → (i ≡ 1) ⊎ (i ≡ 2) → d.sequence ≤ 1
      no_later i d is (inl one) =
          let zero_there : place 4096 i (log_made header) ≡ zeros 4096 = made_other i (omega (arith, one)) (λ e. omega (arith, e, one)) (omega (arith, one)) in
          absurd (zero_checkpoint i 4096 d (omega arith) (ap (λ (b : List ℕ). checkpoint_in i b) (sym zero_there) ∙ is))
      no_later i d is (inr two) =
          let here : checkpoint_in i (place 4096 i (log_made header)) ≡ Some (record { sequence = 1; from = 2 }) =
          ap (λ (k : ℕ). checkpoint_in k (place 4096 k (log_made header))) two ∙ ap (λ (b : List ℕ). checkpoint_in 2 b) made_checkpoint ∙ made_check 1 2 (omega arith) (omega arith) (omega arith) in
          let same : Some (record { sequence = 1; from = 2 }) ≡ Some d = sym here ∙ is in
          omega (arith, one_sequence d same)
        where
          one_sequence : (d : HeldCheckpoint) → Some (record { sequence = 1; from = 2 }) ≡ Some d → d.sequence ≡ 1
          one_sequence d e = let s : record { sequence = 1; from = 2 } ≡ d = cc in sym (ap (λ (c : HeldCheckpoint). c.sequence) s)

  -- no place of the ring has a block
  pub made_clear : (n : ℕ) → 1 ≤ n → IsClear header.blocks (log_made header) n
  made_clear n some i m lt le is =
      zero_ring_block m 4096 (omega (arith, some, le)) (omega arith) (ap (λ (b : List ℕ). is_ring_block m b) (sym (made_other (3 + i) (omega arith) (λ e. omega (arith, e)) (omega (arith, lt)))) ∙ is)

  no_mtr : (n k : ℕ) → 1 ≤ n → MakeWholeMtr header.blocks (log_made header) n k → ⊥
  no_mtr n k some mtr =
      let valid = mtr.valid 0 mtr.some in
      let low : (n + 0) % header.blocks < header.blocks = omega (arith, least_blocks) in
      made_clear n some ((n + 0) % header.blocks) (n + 0) low (omega arith) valid

  -- the run is empty
  pub made_run : IsRun header.blocks (log_made header) 2 2
  made_run = record {
    sequence = 1;
    newest = made_newest;
    sizes = [];
    whole = refl;
    longest = λ k mtr. no_mtr 2 k (omega arith) mtr;
  }

-- ---- a space

module _ (info : SpaceInfo) (made : IsMadeInfo info) (some : 2 ≤ info.pages) where
  first_inside : 0 + length (first_text info) ≤ length (zeros (info.pages * 16384))
  first_inside = let a = length-zeros (info.pages * 16384) in omega (arith, a, length-first info made, some)

  pub length-space : length (space_made info) ≡ info.pages * 16384
  unfolding space_made
  length-space = length-put 0 (first_text info) (zeros (info.pages * 16384)) first_inside ∙ length-zeros (info.pages * 16384)

  pub space_first : place 16384 0 (space_made info) ≡ first_text info
  unfolding space_made place
  space_first = range-put_same 0 (first_text info) (zeros (info.pages * 16384)) first_inside 16384 (sym (length-first info made))

  pub space_other : (p : ℕ) → p ≢ 0 → p < info.pages → place 16384 p (space_made info) ≡ zeros 16384
  unfolding space_made place
  space_other p ne below =
      let low : 1 ≤ p = omega (arith, ne) in
      range-put_after 0 (first_text info) (zeros (info.pages * 16384)) first_inside (p * 16384) 16384 (omega (arith, length-first info made, low))
      ∙ range-zeros (p * 16384) 16384 (info.pages * 16384) (omega (arith, below))
