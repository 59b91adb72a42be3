-- The modes undo themselves.
use Rattle.std.proofs.Common.{◌≡◌, ℕ, zero, suc, ◌+◌, ◌-◌, ◌*◌, ◌/◌, ◌%◌, ◌^◌, ◌<◌, ◌≤◌, List, [], ◌∷◌, ◌++◌, length, take, drop, refl, sym, ap, ap₂, ◌∙◌, arith, inl, inr, length-append, length-drop, append_assoc}
use Rattle.std.proofs.lemmas.Bool.{cases_lt}
use Rattle.std.proofs.lemmas.List.{append-nil, drop-drop, drop_all, drop_at, take-append-drop, take_at}
use Rattle.std.proofs.Math.Seq.{take-add}
use Rattle.byte_list.proofs.XorLaws.{xored_append, length-xored}
use Rattle.aes_core.specs.Cipher.{AreBytes, IsCipherBlock, IsKey, decrypted, encrypted, round_count, schedule, xored}
use Rattle.std.specs.Int.{byte_at, from_be_bytes, to_be_bytes, w128}
use Rattle.aes_core.specs.Modes.{text_block, block_before, cbc_blocks, cbc_tail, chain, counter_at, ctr, joined, key_stream, masked_tail, tail_of, uncbc_blocks, uncbc_tail, whole_blocks}
use Rattle.aes_core.proofs.BlockLoop.{AreBlocks, length-text_block, length-joined, joined_more}
use Rattle.aes_core.proofs.Inverse.{byte_at-lt, block_decrypted, block_encrypted, block_xored, decrypted-encrypted, encrypted-decrypted}
use Rattle.aes_core.proofs.Schedule.{keys_of}
use Rattle.byte_list.proofs.ByteLaws.{bytes_made, bytes_drop, bytes_take}
use Rattle.byte_list.proofs.XorLaws.{xored_twice}

-- ---- texts of blocks

pub joined_same : (f g : ℕ → List ℕ) (n : ℕ) → ((i : ℕ) → i < n → f i ≡ g i) → joined f n ≡ joined g n
unfolding joined
joined_same f g zero h = refl
joined_same f g (suc n) h = ap₂ (λ (a b : List ℕ). a ++ b) (joined_same f g n (λ i lt. h i (omega arith))) (h n (omega arith))

pub joined_blocks : (xs : List ℕ) (n : ℕ) → joined (text_block xs) n ≡ take (16 * n) xs
unfolding joined
joined_blocks xs zero = refl
joined_blocks xs (suc n) =
    let e : 16 * n + 16 ≡ 16 * suc n = omega arith in
    ap (λ (l : List ℕ). l ++ text_block xs n) (joined_blocks xs n) ∙ sym (take-add (16 * n) 16 xs) ∙ ap (λ (k : ℕ). take k xs) e

pub block_of_joined : (f : ℕ → List ℕ) (rest : List ℕ) (n i : ℕ) → AreBlocks f n → i < n → text_block (joined f n ++ rest) i ≡ f i
unfolding joined
block_of_joined f rest zero i h lt = absurd (omega arith)
block_of_joined f rest (suc n) i h lt =
    let fewer : AreBlocks f n = record { long = λ j l. h.long j (omega arith) } in
    let regrouped : joined f n ++ f n ++ rest ≡ joined f n ++ (f n ++ rest) = append_assoc (joined f n) (f n) rest in
    elim (cases_lt i n) [
      | inl less ↦ ap (λ (l : List ℕ). text_block l i) regrouped ∙ block_of_joined f (f n ++ rest) n i fewer less
      | inr more ↦
          let e : i ≡ n = omega arith in
          rw e
          (ap (λ (l : List ℕ). take 16 (drop (16 * n) l)) regrouped
          ∙ ap (take 16) (drop_at (joined f n) (f n ++ rest) (16 * n) (length-joined f n fewer)) ∙ take_at (f n) rest 16 (h.long n (omega arith)))
    ]

-- ---- CTR

xored_joined : (g : ℕ → List ℕ) (xs rest : List ℕ) (n : ℕ) → AreBlocks g n → 16 * n ≤ length xs
    → xored xs (joined g n ++ rest) ≡ joined (λ i. xored (text_block xs i) (g i)) n ++ xored (drop (16 * n) xs) rest
unfolding joined
xored_joined g xs rest zero h le = refl
xored_joined g xs rest (suc n) h le =
    let fewer : AreBlocks g n = record { long = λ j l. h.long j (omega arith) } in
    let f = λ (i : ℕ). xored (text_block xs i) (g i) in
    let at : drop (16 * n + 16) xs ≡ drop (16 * suc n) xs = (let e : 16 * n + 16 ≡ 16 * suc n = omega arith in ap (λ (k : ℕ). drop k xs) e) in
    let split : drop (16 * n) xs ≡ text_block xs n ++ drop (16 * suc n) xs =
    sym (take-append-drop 16 (drop (16 * n) xs)) ∙ ap (λ (l : List ℕ). text_block xs n ++ l) (drop-drop 16 (16 * n) xs ∙ at) in
    ap (xored xs) (append_assoc (joined g n) (g n) rest)
    ∙ xored_joined g xs (g n ++ rest) n fewer (omega arith)
    ∙ ap (λ (l : List ℕ). joined f n ++ l)
    (ap (λ (l : List ℕ). xored l (g n ++ rest)) split
    ∙ xored_append (text_block xs n) (drop (16 * suc n) xs) (g n) rest (length-text_block xs n (omega arith) ∙ sym (h.long n (omega arith))))
    ∙ sym (append_assoc (joined f n) (f n) (xored (drop (16 * suc n) xs) rest))

pub ctr_is : (key counter xs : List ℕ) (n : ℕ) → n ≡ whole_blocks xs → AreBlocks (λ j. encrypted key (counter_at counter j)) n
    → joined (λ j. xored (text_block xs j) (encrypted key (counter_at counter j))) n ++ xored (drop (16 * n) xs) (encrypted key (counter_at counter n)) ≡ ctr key counter xs
ctr_is key counter xs n e h =
    let g = λ (j : ℕ). encrypted key (counter_at counter j) in
    sym (xored_joined g xs (g n) n h (omega arith)) ∙ ap (xored xs) (sym (joined_more g n)) ∙ ap (λ (k : ℕ). xored xs (joined g (k + 1))) e

pub ctr_twice : (key counter xs : List ℕ) → AreBlocks (λ j. encrypted key (counter_at counter j)) (whole_blocks xs + 1) → ctr key counter (ctr key counter xs) ≡ xs
ctr_twice key counter xs h =
    let g = λ (j : ℕ). encrypted key (counter_at counter j) in
    let stream : List ℕ = key_stream key counter (whole_blocks xs + 1) in
    let enough : length xs ≤ length stream = omega (arith, length-joined g (whole_blocks xs + 1) h) in
    ap (λ (n : ℕ). xored (ctr key counter xs) (key_stream key counter (n / 16 + 1))) (length-xored xs stream enough) ∙ xored_twice xs stream enough

-- ---- CBC

-- whole blocks leave no tail
pub no_tail : (key iv xs : List ℕ) → length xs % 16 ≡ 0 → masked_tail key iv xs ≡ []
no_tail key iv xs h =
    let all : length xs ≤ 16 * (length xs / 16) = omega arith in
    ap (λ (l : List ℕ). xored l (encrypted key iv)) (drop_all (16 * (length xs / 16)) xs all)

-- a whole block of a text
pub block_of_text : (xs : List ℕ) (i : ℕ) → AreBytes xs → 16 * i + 16 ≤ length xs → IsCipherBlock (text_block xs i)
block_of_text xs i b h = record { long = length-text_block xs i h; bytes = bytes_take 16 (drop (16 * i) xs) (bytes_drop (16 * i) xs b) }

module _ (key iv : List ℕ) (k : IsKey key) (v : IsCipherBlock iv) where
  block_E : (s : List ℕ) → IsCipherBlock s → IsCipherBlock (encrypted key s)
  block_E s h = block_encrypted (schedule key) s (round_count key) (keys_of key k) h

  block_D : (s : List ℕ) → IsCipherBlock s → IsCipherBlock (decrypted key s)
  block_D s h = block_decrypted (schedule key) s (round_count key) (keys_of key k) h

  DE : (s : List ℕ) → IsCipherBlock s → decrypted key (encrypted key s) ≡ s
  DE s h = decrypted-encrypted (schedule key) s (round_count key) (omega arith) (keys_of key k) h

  ED : (s : List ℕ) → IsCipherBlock s → encrypted key (decrypted key s) ≡ s
  ED s h = encrypted-decrypted (schedule key) s (round_count key) (omega arith) (keys_of key k) h

  cancelled : (s t : List ℕ) → IsCipherBlock s → IsCipherBlock t → xored (xored s t) t ≡ s
  cancelled s t h g = xored_twice s t (omega (arith, h.long, g.long))

  block_chain : (xs : List ℕ) (i : ℕ) → AreBytes xs → 16 * i ≤ length xs → IsCipherBlock (chain key iv xs i)
  unfolding chain
  block_chain xs zero b h = v
  block_chain xs (suc i) b h = block_E _ (block_xored (text_block xs i) (chain key iv xs i) (block_of_text xs i b (omega arith)) (block_chain xs i b (omega arith)))

  block_of_before : (xs : List ℕ) (i : ℕ) → AreBytes xs → 16 * i ≤ length xs → IsCipherBlock (block_before iv xs i)
  block_of_before xs zero b h = v
  block_of_before xs (suc i) b h = block_of_text xs i b (omega arith)

  -- a text of blocks and a masked tail is as long as the text
  length-masked : (f : ℕ → List ℕ) (xs : List ℕ) → AreBlocks f (whole_blocks xs) → length (joined f (whole_blocks xs) ++ masked_tail key iv xs) ≡ length xs
  length-masked f xs h =
      let n : ℕ = whole_blocks xs in
      let e : IsCipherBlock (encrypted key iv) = block_E iv v in
      let d : length (tail_of xs) ≡ length xs - 16 * n = length-drop (16 * n) xs in
      omega (arith, length-append (joined f n) (masked_tail key iv xs), length-joined f n h, length-xored (tail_of xs) (encrypted key iv) (omega (arith, e.long, d)), d)

  -- the tail is masked twice
  tail_back : (f : ℕ → List ℕ) (xs ys : List ℕ) → AreBlocks f (whole_blocks xs) → ys ≡ joined f (whole_blocks xs) ++ masked_tail key iv xs → whole_blocks ys ≡ whole_blocks xs
      → masked_tail key iv ys ≡ tail_of xs
  tail_back f xs ys h e same =
      let n : ℕ = whole_blocks xs in
      let m : IsCipherBlock (encrypted key iv) = block_E iv v in
      ap₂ (λ (i : ℕ) (l : List ℕ). xored (drop (16 * i) l) (encrypted key iv)) same e
      ∙ ap (λ (l : List ℕ). xored l (encrypted key iv)) (drop_at (joined f n) (masked_tail key iv xs) (16 * n) (length-joined f n h))
      ∙ xored_twice (tail_of xs) (encrypted key iv) (omega (arith, m.long, length-drop (16 * n) xs))

  pub cbc_undone : (p : List ℕ) → AreBytes p → uncbc_tail key iv (cbc_tail key iv p) ≡ p
  unfolding chain
  cbc_undone p b =
      let n : ℕ = whole_blocks p in
      let f = λ (i : ℕ). chain key iv p (suc i) in
      let c : List ℕ = cbc_tail key iv p in
      let blocks : AreBlocks f n = record { long = λ i lt. (block_chain p (suc i) b (omega arith)).long } in
      let same : whole_blocks c ≡ n = ap (λ (m : ℕ). m / 16) (length-masked f p blocks) in
      let at : (i : ℕ) → i < n → text_block c i ≡ f i = λ i lt. block_of_joined f (masked_tail key iv p) n i blocks lt in
      let before : (i : ℕ) → i < n → block_before iv c i ≡ chain key iv p i = before_is p c n f at in
      let each : (i : ℕ) → i < n → xored (decrypted key (text_block c i)) (block_before iv c i) ≡ text_block p i = λ i lt.
      let x : List ℕ = xored (text_block p i) (chain key iv p i) in
      let hp : IsCipherBlock (text_block p i) = block_of_text p i b (omega arith) in
      let hc : IsCipherBlock (chain key iv p i) = block_chain p i b (omega arith) in
      ap₂ (λ (y z : List ℕ). xored (decrypted key y) z) (at i lt) (before i lt)
      ∙ ap (λ (y : List ℕ). xored y (chain key iv p i)) (DE x (block_xored _ _ hp hc))
      ∙ cancelled (text_block p i) (chain key iv p i) hp hc in
      ap (λ (m : ℕ). uncbc_blocks key iv c m ++ masked_tail key iv c) same
      ∙ ap₂ (λ (y z : List ℕ). y ++ z)
      (joined_same (λ i. xored (decrypted key (text_block c i)) (block_before iv c i)) (text_block p) n each ∙ joined_blocks p n) (tail_back f p c blocks refl same)
      ∙ take-append-drop (16 * n) p
    where
      before_is : (p c : List ℕ) (n : ℕ) (f : ℕ → List ℕ) → ((i : ℕ) → i < n → text_block c i ≡ chain key iv p (suc i)) → (i : ℕ) → i < n → block_before iv c i ≡ chain key iv p i
      before_is p c n f at zero lt = refl
      before_is p c n f at (suc i) lt = at i (omega arith)

  pub cbc_redone : (c : List ℕ) → AreBytes c → cbc_tail key iv (uncbc_tail key iv c) ≡ c
  unfolding chain
  cbc_redone c b =
      let n : ℕ = whole_blocks c in
      let h = λ (i : ℕ). xored (decrypted key (text_block c i)) (block_before iv c i) in
      let p : List ℕ = uncbc_tail key iv c in
      let hd : (i : ℕ) → i < n → IsCipherBlock (decrypted key (text_block c i)) = λ i lt. block_D _ (block_of_text c i b (omega arith)) in
      let hb : (i : ℕ) → i < n → IsCipherBlock (block_before iv c i) = λ i lt. block_of_before c i b (omega arith) in
      let blocks : AreBlocks h n = record { long = λ i lt. (block_xored _ _ (hd i lt) (hb i lt)).long } in
      let same : whole_blocks p ≡ n = ap (λ (m : ℕ). m / 16) (length-masked h c blocks) in
      let at : (i : ℕ) → i < n → text_block p i ≡ h i = λ i lt. block_of_joined h (masked_tail key iv c) n i blocks lt in
      let each : (i : ℕ) → i < n → chain key iv p (suc i) ≡ text_block c i = λ i lt. chain_is c p n b (omega arith) at (suc i) (omega arith) in
      ap (λ (m : ℕ). cbc_blocks key iv p m ++ masked_tail key iv p) same
      ∙ ap₂ (λ (y z : List ℕ). y ++ z) (joined_same (λ i. chain key iv p (suc i)) (text_block c) n each ∙ joined_blocks c n) (tail_back h c p blocks refl same)
      ∙ take-append-drop (16 * n) c
    where
      chain_is : (c p : List ℕ) (n : ℕ) → AreBytes c → 16 * n ≤ length c
          → ((i : ℕ) → i < n → text_block p i ≡ xored (decrypted key (text_block c i)) (block_before iv c i))
          → (i : ℕ) → i ≤ n → chain key iv p i ≡ block_before iv c i
      chain_is c p n b room at zero le = refl
      chain_is c p n b room at (suc i) le =
          let hc : IsCipherBlock (text_block c i) = block_of_text c i b (omega arith) in
          ap₂ (λ (y z : List ℕ). encrypted key (xored y z)) (at i (omega arith)) (chain_is c p n b room at i (omega arith))
          ∙ ap (encrypted key) (cancelled (decrypted key (text_block c i)) (block_before iv c i) (block_D _ hc) (block_of_before c i b (omega arith)))
          ∙ ED (text_block c i) hc

  -- the text that comes of whole blocks: its length, and its last block
  pub undone_blocks : (c : List ℕ) (n : ℕ) → AreBytes c → 16 * n ≤ length c → AreBlocks (λ i. xored (decrypted key (text_block c i)) (block_before iv c i)) n
  undone_blocks c n b le =
      record { long = λ i lt. (block_xored _ _ (block_D _ (block_of_text c i b (omega arith))) (block_of_before c i b (omega arith))).long }

  pub length-undone : (c : List ℕ) → AreBytes c → length (uncbc_tail key iv c) ≡ length c
  length-undone c b = length-masked (λ i. xored (decrypted key (text_block c i)) (block_before iv c i)) c (undone_blocks c (whole_blocks c) b (omega arith))

  pub length-done : (p : List ℕ) → AreBytes p → length (cbc_tail key iv p) ≡ length p
  length-done p b =
      length-masked (λ i. chain key iv p (suc i)) p (record { long = λ i lt. (block_chain p (suc i) b (omega arith)).long })

  pub last_undone : (c : List ℕ) (n : ℕ) → AreBytes c → length c ≡ 16 * suc n
      → drop (length c - 16) (uncbc_tail key iv c) ≡ xored (decrypted key (text_block c n)) (block_before iv c n)
  unfolding joined
  last_undone c n b long =
      let h = λ (i : ℕ). xored (decrypted key (text_block c i)) (block_before iv c i) in
      let whole : whole_blocks c ≡ suc n = omega arith in
      let at : length c - 16 ≡ 16 * n = omega arith in
      let tail : masked_tail key iv c ≡ [] = no_tail key iv c (omega arith) in
      ap₂ (λ (m k : ℕ). drop m (joined h k ++ masked_tail key iv c)) at whole
      ∙ ap (λ (t : List ℕ). drop (16 * n) (joined h n ++ h n ++ t)) tail
      ∙ ap (drop (16 * n)) (append-nil (joined h n ++ h n))
      ∙ drop_at (joined h n) (h n) (16 * n) (length-joined h n (undone_blocks c n b (omega arith)))

-- ---- the key stream is blocks

pub block_of_number : (n : ℕ) → IsCipherBlock (to_be_bytes w128 n)
block_of_number n = record {
  long = refl;
  bytes = bytes_made (λ k. byte_at k n) (λ k. byte_at-lt k n) (15 ∷ 14 ∷ 13 ∷ 12 ∷ 11 ∷ 10 ∷ 9 ∷ 8 ∷ 7 ∷ 6 ∷ 5 ∷ 4 ∷ 3 ∷ 2 ∷ 1 ∷ 0 ∷ []);
}

pub stream_blocks : (key counter : List ℕ) → IsKey key → (n : ℕ) → AreBlocks (λ j. encrypted key (counter_at counter j)) n
stream_blocks key counter k n =
    record { long = λ i lt. (block_encrypted (schedule key) (counter_at counter i) (round_count key) (keys_of key k) (block_of_number ((from_be_bytes w128 counter + i) % 2 ^ 128))).long }
