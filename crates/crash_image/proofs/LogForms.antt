-- What the ring's law says of a log's file is what the file says under the keys.
use Rattle.std.proofs.Common.{◌≡◌, ◌⊎◌, ℕ, zero, suc, ◌+◌, ◌-◌, ◌<◌, ◌≤◌, Bool, true, false, nat_eq, if◌then◌else◌, List, [], ◌∷◌, ◌++◌, Some, None, refl, sym, ap, ap₂, subst, ◌∙◌, arith, inl, inr}
use Rattle.std.specs.Prelude.{codes}
use Rattle.std.specs.Str.{bytes_eq}
use Rattle.std.proofs.Math.Nat.{add-mod_right}
use Rattle.std.proofs.lemmas.Bool.Decides.{nat_tests}
use Rattle.std.proofs.lemmas.Bool.{cases_lt}
use Rattle.key_ring.specs.Ring.{RingEntry}
use Rattle.places.specs.Places.{place}
use Rattle.byte_list.specs.Fields.{be64_at}
use Rattle.byte_list.specs.Bytes.{range}
use Rattle.page_places.specs.Texts.{ends_in_sum}
use Rattle.page_places.proofs.Sums.{and_left, and_right}
use Rattle.ring_log.specs.Ring as ring
use Rattle.ring_log.specs.Ring.{Form, IsForm, listed_blocks}
use Rattle.store_image.specs.Checkpoint.{HeldCheckpoint, front_blocks, side_of}
use Rattle.store_image.specs.Places.{LogView}
use Rattle.store_image.specs.View.{Logged, block_bytes}
use Rattle.redo_text.specs.declared.change.Change.{Change}
use Rattle.store_files.specs.Checkpoint.{checkpoint_in, is_checkpoint}
use Rattle.store_files.specs.Header.{HeldHeader}
use Rattle.store_files.specs.RingBlock.{is_ring_block, begins_mtr, ends_mtr, block_text, IsMtrText}
use Rattle.store_files.specs.Run.{block_at, MakeWholeMtr, MakeWholeMtrs, HasText, AreLogEntries, IsLogOf, IsClear}
use Rattle.store_files.proofs.RingBlocks.{block_number, block_sum}
use Rattle.store_files.proofs.RunsOnce.{changes_one}
use Rattle.crash_image.specs.LogForm.{AreTexts, log_form}
use Rattle.std.proofs.lemmas.Option.{same_Some}

-- ---- what is valid

check_is : (i : ℕ) (b : List ℕ) (c : HeldCheckpoint) → checkpoint_in i b ≡ Some c → (is_checkpoint i b ≡ true) × (be64_at b 8 ≡ c.sequence)
unfolding checkpoint_in
check_is i b c is = by (is_checkpoint i b) is
  where
    by : (v : Bool) → (if v then Some (record { sequence = be64_at b 8; from = be64_at b 16 }) else None) ≡ Some c → (v ≡ true) × (be64_at b 8 ≡ c.sequence)
    by true e = (refl, ap (λ (x : HeldCheckpoint). x.sequence) (same_Some _ c e))
    by false e = absurd (cc)

checkpoint_parts : (i : ℕ) (b : List ℕ) → is_checkpoint i b ≡ true → (ends_in_sum b ≡ true) × (i ≡ side_of (be64_at b 8))
unfolding is_checkpoint
checkpoint_parts i b valid =
    let placed : nat_eq i (side_of (be64_at b 8)) ≡ true = and_left _ _ (and_right (bytes_eq (range 0 8 b) (codes "KEYCHK01")) _ (and_right (ends_in_sum b) _ valid)) in
    (and_left _ _ valid, grind (arith, nat_tests))

module _ (header : HeldHeader) (keys : List RingEntry) where
  texts_one : (bs : List (List ℕ)) (t u : List ℕ) → AreTexts header keys bs t → AreTexts header keys bs u → t ≡ u
  texts_one [] t u a b = a ∙ sym b
  texts_one (x ∷ xs) t u (l, r, kl, hr, et) (m, s, km, hs, eu) =
      let same : l ≡ m = same_Some l m (sym kl ∙ km) in
      et ∙ ap₂ (λ (k e : List ℕ). block_text header.algorithm k x ++ e) same (texts_one xs r s hr hs) ∙ sym eu

  -- the laws that the ring asks of a form
  pub is_form : IsForm (log_form header keys)
  is_form = record {
    block_one = λ n m b x y. sym (block_number n b x) ∙ block_number m b y;
    block_passes = block_sum;
    check_passes = λ i b c is. (checkpoint_parts i b (check_is i b c is).0).0;
    check_side = λ i b c is. let k = check_is i b c is in (checkpoint_parts i b k.0).1 ∙ ap side_of k.1;
    mtr_one = λ n bs x y (t, ht, rx) (u, hu, ry). changes_one u x y (subst (λ (l : List ℕ). IsMtrText l x) (texts_one bs t u ht hu) rx) ry;
  }

module _ (header : HeldHeader) (keys : List RingEntry) (file : List ℕ) where
  abbrev F : Form (List Change)
  F = log_form header keys

  abbrev N : ℕ
  N = header.blocks

  -- the ring block of a number
  abbrev read : ℕ → List ℕ
  read = block_at N file

  -- ---- whole mini-transactions, both ways

  whole_here : (n k : ℕ) → ring.IsWholeMtr N F read n (n + k) → MakeWholeMtr N file n k
  whole_here n k w =
      record {
        some = let s = w.some in omega (arith, s);
        few = let s = w.most in omega (arith, s);
        valid = λ i lt. w.valid (n + i) (omega arith) (omega (arith, lt));
        first = first;
        last = last;
      }
    where
      first : (i : ℕ) → i < k → begins_mtr (block_at N file (n + i)) ≡ nat_eq i 0
      first zero lt =
          let e : n + 0 ≡ n = omega arith in
          let z : nat_eq 0 0 ≡ true = grind (arith, nat_tests) in
          ap (λ (m : ℕ). begins_mtr (read m)) e ∙ w.first ∙ sym z
      first (suc i) lt =
          let z : nat_eq (suc i) 0 ≡ false = grind (arith, nat_tests) in
          w.others (n + suc i) (omega arith) (omega (arith, lt)) ∙ sym z

      last : (i : ℕ) → i < k → ends_mtr (block_at N file (n + i)) ≡ nat_eq (i + 1) k
      last i lt = by (nat_eq (i + 1) k) refl
        where
          by : (b : Bool) → nat_eq (i + 1) k ≡ b → ends_mtr (block_at N file (n + i)) ≡ b
          by true is = let e : i + 1 ≡ k = grind (arith, nat_tests) in w.last (n + i) (omega (arith, e))
          by false isnt = let e : i + 1 < k = grind (arith, nat_tests) in w.before (n + i) (omega arith) (omega (arith, e))

  whole_there : (n k : ℕ) → MakeWholeMtr N file n k → ring.IsWholeMtr N F read n (n + k)
  whole_there n k w =
      record {
        some = let s = w.some in omega (arith, s);
        most = let s = w.few in omega (arith, s);
        valid = λ m le lt. back (λ x. is_ring_block m (read x) ≡ true) m le (λ i e. ap (λ (y : ℕ). is_ring_block y (read (n + i))) (sym e) ∙ w.valid i (omega (arith, lt, e)));
        first = ap (λ (m : ℕ). begins_mtr (read m)) plus_none ∙ w.first 0 w.some ∙ zero_is;
        others = λ m lt below. back (λ x. begins_mtr (read x) ≡ false) m (omega (arith, lt)) (λ i e. w.first i (omega (arith, below, e)) ∙ not_zero i (omega (arith, lt, e)));
        before = λ m le below. back (λ x. ends_mtr (read x) ≡ false) m le (λ i e. w.last i (omega (arith, below, e)) ∙ not_last i (omega (arith, below, e)));
        last = λ m e. let s = w.some in back (λ x. ends_mtr (read x) ≡ true) m (omega (arith, e, s)) (λ i f. w.last i (omega (arith, e, f)) ∙ is_at_last i (omega (arith, e, f)));
      }
    where
      plus_none : n ≡ n + 0
      plus_none = omega arith

      zero_is : nat_eq 0 0 ≡ true
      zero_is = grind (arith, nat_tests)

      not_zero : (i : ℕ) → 0 < i → nat_eq i 0 ≡ false
      not_zero i some = grind (arith, nat_tests)

      not_last : (i : ℕ) → i + 1 < k → nat_eq (i + 1) k ≡ false
      not_last i below = grind (arith, nat_tests)

      is_at_last : (i : ℕ) → i + 1 ≡ k → nat_eq (i + 1) k ≡ true
      is_at_last i e = grind (arith, nat_tests)

      -- a number from n on is n and some more
      back : (P : ℕ → Type 0) (m : ℕ) → n ≤ m → ((i : ℕ) → n + i ≡ m → P (n + i)) → P m
      back P m le f = let e : n + (m - n) ≡ m = omega (arith, le) in subst P e (f (m - n) e)

  -- ---- texts and entries

  texts_here : (n k : ℕ) (text : List ℕ) → AreTexts header keys (listed_blocks N F read n k) text → HasText header keys file n k text
  texts_here n zero text is = is
  texts_here n (suc k) text (local, rest, key, more, e) =
      (local, rest, key, texts_here (n + 1) k rest more, e)

  entries_here : (n : ℕ) (es : List (Logged (List Change))) (end : ℕ) → ring.AreWholeEntries N F read n es end → AreLogEntries header keys file n es end
  entries_here n [] end is = is
  entries_here n (e ∷ es) end (k, w, (text, texts, reads), first, lsn, rest) = (k, text, whole_here n k w, texts_here n k text texts, reads, first, lsn, entries_here (n + k) es end rest)

  -- how many blocks each entry has
  sizes_here : (n : ℕ) (es : List (Logged (List Change))) (end : ℕ) → ring.AreWholeEntries N F read n es end → (sizes : List ℕ) × MakeWholeMtrs N file n sizes end
  sizes_here n [] end is = ([], is)
  sizes_here n (e ∷ es) end (k, w, mtr, first, lsn, rest) = let more = sizes_here (n + k) es end rest in (k ∷ more.0, (whole_here n k w, more.1))

  -- ---- the end of the run

  same_place : (n : ℕ) → block_at N file (n + N) ≡ block_at N file n
  same_place n = ap (λ (m : ℕ). place block_bytes (front_blocks + m) file) (add-mod_right n N)

  two_numbers : (n : ℕ) → 0 < N → is_ring_block n (block_at N file n) ≡ true → is_ring_block (n + N) (block_at N file (n + N)) ≡ true → ⊥
  two_numbers n some x y =
      let here : is_ring_block (n + N) (block_at N file n) ≡ true = ap (is_ring_block (n + N)) (sym (same_place n)) ∙ y in
      let same : n ≡ n + N = sym (block_number n (block_at N file n) x) ∙ block_number (n + N) (block_at N file n) here in
      omega (arith, same, some)

  -- a whole mini-transaction behind the run stays within the ring, since a place has one number
  within_ring : 16 ≤ N → (from : ℕ) (es : List (Logged (List Change))) (end k : ℕ) → ring.AreWholeEntries N F read from es end → end ≤ from + N → MakeWholeMtr N file end k → end + k ≤ from + N
  within_ring big from [] end k is few w = let f = w.few in omega (arith, is, f, big)
  within_ring big from (e ∷ es) end k (j, v, mtr, first, lsn, rest) few w = by (cases_lt (from + N) (end + k))
    where
      i : ℕ
      i = from + N - end

      by : (from + N < end + k) ⊎ (end + k ≤ from + N) → end + k ≤ from + N
      by (inr le) = le
      by (inl past) =
          let e : end + i ≡ from + N = omega (arith, few) in
          let here : is_ring_block (end + i) (block_at N file (end + i)) ≡ true = w.valid i (omega (arith, past, few)) in
          let s = v.some in
          let own : is_ring_block from (block_at N file from) ≡ true = v.valid from (omega arith) s in
          absurd (two_numbers from (omega (arith, big)) own (subst (λ (m : ℕ). is_ring_block m (block_at N file m) ≡ true) e here))

  -- What the ring's law says of the file, the file says under the keys.
  pub log_is : 16 ≤ N → (l : LogView (List Change)) → ring.IsRingLog N F file l → IsLogOf header keys file l
  log_is big l is =
      let sizes = sizes_here l.from l.run l.end is.run in
      record {
        run = record {
          sequence = is.sequence;
          newest = record {
            is = is.check;
            newest = is.newest;
          };
          sizes = sizes.0;
          whole = sizes.1;
          longest = λ k w. is.longest (l.end + k) (whole_there l.end k w) (within_ring big l.from l.run l.end k is.run is.few w);
        };
        entries = entries_here l.from l.run l.end is.run;
      }

  -- no ring block has a number of n or more
  pub clear_is : (n : ℕ) → ring.IsRingClear N F file n → IsClear N file (n + N)
  clear_is n clear = clear

  -- ---- and back: what the file says under the keys, the ring's law says

  texts_there : (n k : ℕ) (text : List ℕ) → HasText header keys file n k text → AreTexts header keys (listed_blocks N F read n k) text
  texts_there n zero text is = is
  texts_there n (suc k) text (local, rest, key, more, e) =
      (local, rest, key, texts_there (n + 1) k rest more, e)

  entries_there : (n : ℕ) (es : List (Logged (List Change))) (end : ℕ) → AreLogEntries header keys file n es end → ring.AreWholeEntries N F read n es end
  entries_there n [] end is = is
  entries_there n (e ∷ es) end (k, text, w, texts, reads, first, lsn, rest) = (k, whole_there n k w, (text, texts_there n k text texts, reads), first, lsn, entries_there (n + k) es end rest)

  -- each block of the run is valid
  pub valid_in : (n : ℕ) (es : List (Logged (List Change))) (end : ℕ) → AreLogEntries header keys file n es end → (m : ℕ) → n ≤ m → m < end → is_ring_block m (block_at N file m) ≡ true
  valid_in n [] end is m low high = absurd (omega (arith, is, low, high))
  valid_in n (e ∷ es) end (k, text, w, texts, reads, first, lsn, rest) m low high = by (valid_in (n + k) es end rest m) (cases_lt m (n + k))
    where
      by : (n + k ≤ m → m < end → is_ring_block m (block_at N file m) ≡ true) → (m < n + k) ⊎ (n + k ≤ m) → is_ring_block m (block_at N file m) ≡ true
      by behind (inl lt) = let here : n + (m - n) ≡ m = omega (arith, low) in subst (λ (i : ℕ). is_ring_block i (block_at N file i) ≡ true) here (w.valid (m - n) (omega (arith, lt, low)))
      by behind (inr ge) = behind ge high

  -- so that the run is no longer than the ring
  no_longer : 0 < N → (from : ℕ) (es : List (Logged (List Change))) (end : ℕ) → AreLogEntries header keys file from es end → end ≤ from + N
  no_longer some from es end is = by (cases_lt (from + N) end)
    where
      by : (from + N < end) ⊎ (end ≤ from + N) → end ≤ from + N
      by (inr le) = le
      by (inl past) = absurd (two_numbers from some (valid_in from es end is from (omega arith) (omega (arith, past))) (valid_in from es end is (from + N) (omega arith) past))

  -- What the file says under the keys, the ring's law says of it.
  pub ring_log_is : 0 < N → (l : LogView (List Change)) → IsLogOf header keys file l → ring.IsRingLog N F file l
  ring_log_is some l is = record {
    sequence = is.run.sequence;
    check = is.run.newest.is;
    newest = is.run.newest.newest;
    run = entries_there l.from l.run l.end is.entries;
    few = no_longer some l.from l.run l.end is.entries;
    longest = λ end w le.
        let more = w.some in
        let parts : l.end + (end - l.end) ≡ end = omega (arith, more) in
        is.run.longest (end - l.end) (whole_here l.end (end - l.end) (subst (λ (z : ℕ). ring.IsWholeMtr N F read l.end z) (sym parts) w));
  }
