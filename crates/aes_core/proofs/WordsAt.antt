-- A round by tables is a round.
use Rattle.std.proofs.Common.{slice_index, ◌++◌, ap₂, ◌≡◌, ℕ, zero, suc, ◌≤◌, length, take, drop, ◌+◌, ◌-◌, ◌*◌, ◌/◌, ◌%◌, ◌^◌, ◌<◌, List, [], ◌∷◌, map, get_or, bit_and, bit_xor, refl, sym, ap, ◌∙◌, arith}
use Rattle.std.specs.Int.{byte_at, from_le_bytes, to_le_bytes, w32}
use Rattle.std.specs.List.{range_with_len}
use Rattle.std.proofs.lemmas.Nat.{and_mask, le_bytes_4, xor_mod, xor_shr}
use lib.Bits.{xor_assoc, xor_zero_l, xor_zero_r}
use Rattle.aes_core.specs.Field.{product_of, sub_byte, times, inv_sub_byte}
use Rattle.aes_core.specs.Cipher.{bytes_of, circulant_times, round_key, state_of, sub_bytes, inv_mix_columns, xored}
use Rattle.aes_core.specs.declared.tables.TheConstants.{INV_ROUNDS, INV_SUB, LAST, ROUNDS, SUB}
use Rattle.aes_core.proofs.Inverse.{sixteen_of}
use Rattle.aes_core.proofs.Linear.{row_times-xor}
use Rattle.aes_core.proofs.ByTable.{everywhere, sub_at, inv_sub_at}
use Rattle.byte_list.proofs.ByteLaws.{bytes_four}
use Rattle.byte_list.proofs.XorLaws.{xor_swap}

-- the tables one by one
abbrev pub ROUND_0 : List ℕ
ROUND_0 = get_or ROUNDS 0 []

abbrev pub ROUND_1 : List ℕ
ROUND_1 = get_or ROUNDS 1 []

abbrev pub ROUND_2 : List ℕ
ROUND_2 = get_or ROUNDS 2 []

abbrev pub ROUND_3 : List ℕ
ROUND_3 = get_or ROUNDS 3 []

abbrev pub LAST_0 : List ℕ
LAST_0 = get_or LAST 0 []

abbrev pub LAST_1 : List ℕ
LAST_1 = get_or LAST 1 []

abbrev pub LAST_2 : List ℕ
LAST_2 = get_or LAST 2 []

abbrev pub LAST_3 : List ℕ
LAST_3 = get_or LAST 3 []

abbrev INV_ROUND_0 : List ℕ
INV_ROUND_0 = get_or INV_ROUNDS 0 []

abbrev INV_ROUND_1 : List ℕ
INV_ROUND_1 = get_or INV_ROUNDS 1 []

abbrev INV_ROUND_2 : List ℕ
INV_ROUND_2 = get_or INV_ROUNDS 2 []

abbrev INV_ROUND_3 : List ℕ
INV_ROUND_3 = get_or INV_ROUNDS 3 []

pub bytes_xor : (a b : ℕ) → to_le_bytes w32 (bit_xor a b) ≡ xored (to_le_bytes w32 a) (to_le_bytes w32 b)
bytes_xor a b =
    let at : (k : ℕ) → bit_xor a b / 2 ^ k % 2 ^ 8 ≡ bit_xor (a / 2 ^ k % 2 ^ 8) (b / 2 ^ k % 2 ^ 8) =
    λ k. ap (λ (n : ℕ). n % 2 ^ 8) (xor_shr a b k) ∙ xor_mod (a / 2 ^ k) (b / 2 ^ k) 8 in
    (λ i. xor_mod a b 8 i ∷ at 8 i ∷ at 16 i ∷ at 24 i ∷ [])

-- four words and a key, by their bytes
four_summed : (w0 w1 w2 w3 key : ℕ) (c0 c1 c2 c3 : List ℕ) → to_le_bytes w32 w0 ≡ c0 → to_le_bytes w32 w1 ≡ c1 → to_le_bytes w32 w2 ≡ c2 → to_le_bytes w32 w3 ≡ c3
    → to_le_bytes w32 (bit_xor (bit_xor (bit_xor (bit_xor w0 w1) w2) w3) key) ≡ xored (xored (xored (xored c0 c1) c2) c3) (to_le_bytes w32 key)
four_summed w0 w1 w2 w3 key c0 c1 c2 c3 e0 e1 e2 e3 =
    bytes_xor (bit_xor (bit_xor (bit_xor w0 w1) w2) w3) key
    ∙ ap (λ (x : List ℕ). xored x (to_le_bytes w32 key))
    (bytes_xor (bit_xor (bit_xor w0 w1) w2) w3
    ∙ ap (λ (x : List ℕ). xored x (to_le_bytes w32 w3))
    (bytes_xor (bit_xor w0 w1) w2 ∙ ap (λ (x : List ℕ). xored x (to_le_bytes w32 w2)) (bytes_xor w0 w1))
    ∙ (λ i. xored (xored (xored (e0 i) (e1 i)) (e2 i)) (e3 i)))

-- ---- the four columns of a round, each added up in the order in which its bytes are looked up

xor_into : (m n k : ℕ) → bit_xor n (bit_xor m k) ≡ bit_xor (bit_xor m n) k
xor_into m n k = xor_swap n m k ∙ sym (xor_assoc m n k)

-- what is looked up, and then the key
looked_first : (x y z w key : ℕ) → bit_xor w (bit_xor z (bit_xor y (bit_xor x key))) ≡ bit_xor (bit_xor (bit_xor (bit_xor x y) z) w) key
looked_first x y z w key =
    ap (λ (n : ℕ). bit_xor w (bit_xor z n)) (xor_into x y key) ∙ ap (bit_xor w) (xor_into (bit_xor x y) z key) ∙ xor_into (bit_xor (bit_xor x y) z) w key

-- the first that was added goes last
turned : (x y z w key : ℕ) → bit_xor w (bit_xor z (bit_xor y (bit_xor x key))) ≡ bit_xor x (bit_xor w (bit_xor z (bit_xor y key)))
turned x y z w key =
    ap (λ (n : ℕ). bit_xor w (bit_xor z n)) (xor_swap y x key) ∙ ap (bit_xor w) (xor_swap z x (bit_xor y key)) ∙ xor_swap w x (bit_xor z (bit_xor y key))

-- From one column, added up from its byte of row 0 on, all four: row by row the byte of a word is looked up by l0, l1, l2, l3.
pub in_turn : (l0 l1 l2 l3 : ℕ → ℕ) (made : ℕ → ℕ → ℕ → ℕ → ℕ → List ℕ)
    → ((a b c d key : ℕ) → d < 2 ^ 32 → to_le_bytes w32 (bit_xor (l3 d) (bit_xor (l2 c) (bit_xor (l1 b) (bit_xor (l0 a) key)))) ≡ made a b c d key)
    → (a b c d p q r s : ℕ) → a < 2 ^ 32 → b < 2 ^ 32 → c < 2 ^ 32 → d < 2 ^ 32
    → to_le_bytes w32 (bit_xor (l3 d) (bit_xor (l2 c) (bit_xor (l1 b) (bit_xor (l0 a) p))))
    ++ to_le_bytes w32 (bit_xor (l2 d) (bit_xor (l1 c) (bit_xor (l0 b) (bit_xor (l3 a) q))))
    ++ to_le_bytes w32 (bit_xor (l1 d) (bit_xor (l0 c) (bit_xor (l3 b) (bit_xor (l2 a) r))))
    ++ to_le_bytes w32 (bit_xor (l0 d) (bit_xor (l3 c) (bit_xor (l2 b) (bit_xor (l1 a) s))))
    ≡ made a b c d p ++ made b c d a q ++ made c d a b r ++ made d a b c s
in_turn l0 l1 l2 l3 made one a b c d p q r s ha hb hc hd =
    let ep = one a b c d p hd in
    let eq = ap (to_le_bytes w32) (turned (l3 a) (l0 b) (l1 c) (l2 d) q) ∙ one b c d a q ha in
    let er = ap (to_le_bytes w32) (turned (l2 a) (l3 b) (l0 c) (l1 d) r ∙ turned (l3 b) (l0 c) (l1 d) (l2 a) r) ∙ one c d a b r hb in
    let es = ap (to_le_bytes w32) (turned (l1 a) (l2 b) (l3 c) (l0 d) s ∙ turned (l2 b) (l3 c) (l0 d) (l1 a) s ∙ turned (l3 c) (l0 d) (l1 a) (l2 b) s) ∙ one d a b c s hc in
    (λ i. ep i ++ eq i ++ er i ++ es i)

-- ---- a table of words, by the bytes of what it has for a byte

-- what a table has, where it was made of another by the bytes of its words
read_of : (table other : List ℕ) (made : ℕ → List ℕ) (g : ℕ → ℕ) → map (λ a. to_le_bytes w32 (get_or table a 0)) (range_with_len 0 256) ≡ map (λ a. made (get_or other a 0)) (range_with_len 0 256)
    → ((a : ℕ) → a < 256 → get_or other a 0 ≡ g a) → (a : ℕ) → a < 256 → to_le_bytes w32 (get_or table a 0) ≡ made (g a)
read_of table other made g computed at a h = everywhere (λ a. to_le_bytes w32 (get_or table a 0)) (λ a. made (get_or other a 0)) computed a h ∙ ap made (at a h)

-- A byte of each of four words is looked up, in a table of its own, and the words found are added up with a key.
module _ (t0 t1 t2 t3 : List ℕ) (g0 g1 g2 g3 : ℕ → List ℕ)
    (read_0 : (a : ℕ) → a < 256 → to_le_bytes w32 (get_or t0 a 0) ≡ g0 a) (read_1 : (a : ℕ) → a < 256 → to_le_bytes w32 (get_or t1 a 0) ≡ g1 a)
    (read_2 : (a : ℕ) → a < 256 → to_le_bytes w32 (get_or t2 a 0) ≡ g2 a) (read_3 : (a : ℕ) → a < 256 → to_le_bytes w32 (get_or t3 a 0) ≡ g3 a) where
  looked_up : (a b c d key : ℕ) → d < 2 ^ 32
      → to_le_bytes w32 (bit_xor (bit_xor (bit_xor (bit_xor (get_or t0 (bit_and a 255) 0) (get_or t1 (bit_and (b / 256) 255) 0)) (get_or t2 (bit_and (c / 65536) 255) 0)) (get_or t3 (d / 16777216) 0)) key)
      ≡ xored (xored (xored (xored (g0 (byte_at 0 a)) (g1 (byte_at 1 b))) (g2 (byte_at 2 c))) (g3 (byte_at 3 d))) (to_le_bytes w32 key)
  looked_up a b c d key hd =
      let top : d / 16777216 ≡ d / 16777216 % 256 = omega arith in
      let e0 = ap (λ (n : ℕ). to_le_bytes w32 (get_or t0 n 0)) (and_mask a 8) ∙ read_0 (a % 256) (omega arith) in
      let e1 = ap (λ (n : ℕ). to_le_bytes w32 (get_or t1 n 0)) (and_mask (b / 256) 8) ∙ read_1 (b / 256 % 256) (omega arith) in
      let e2 = ap (λ (n : ℕ). to_le_bytes w32 (get_or t2 n 0)) (and_mask (c / 65536) 8) ∙ read_2 (c / 65536 % 256) (omega arith) in
      let e3 = ap (λ (n : ℕ). to_le_bytes w32 (get_or t3 n 0)) top ∙ read_3 (d / 16777216 % 256) (omega arith) in
      four_summed _ _ _ _ key _ _ _ _ e0 e1 e2 e3

  -- the same, each added to those before it
  looked_up_first : (a b c d key : ℕ) → d < 2 ^ 32
      → to_le_bytes w32 (bit_xor (get_or t3 (d / 16777216) 0) (bit_xor (get_or t2 (bit_and (c / 65536) 255) 0) (bit_xor (get_or t1 (bit_and (b / 256) 255) 0) (bit_xor (get_or t0 (bit_and a 255) 0) key))))
      ≡ xored (xored (xored (xored (g0 (byte_at 0 a)) (g1 (byte_at 1 b))) (g2 (byte_at 2 c))) (g3 (byte_at 3 d))) (to_le_bytes w32 key)
  looked_up_first a b c d key hd = ap (to_le_bytes w32) (looked_first (get_or t0 (bit_and a 255) 0) (get_or t1 (bit_and (b / 256) 255) 0) (get_or t2 (bit_and (c / 65536) 255) 0) (get_or t3 (d / 16777216) 0) key) ∙ looked_up a b c d key hd

-- ---- a round

column_0 : map (λ a. to_le_bytes w32 (get_or ROUND_0 a 0)) (range_with_len 0 256)
    ≡ map (λ a. times 2 (get_or SUB a 0) ∷ times 1 (get_or SUB a 0) ∷ times 1 (get_or SUB a 0) ∷ times 3 (get_or SUB a 0) ∷ []) (range_with_len 0 256)
unfolding product_of
column_0 = refl

column_1 : map (λ a. to_le_bytes w32 (get_or ROUND_1 a 0)) (range_with_len 0 256)
    ≡ map (λ a. times 3 (get_or SUB a 0) ∷ times 2 (get_or SUB a 0) ∷ times 1 (get_or SUB a 0) ∷ times 1 (get_or SUB a 0) ∷ []) (range_with_len 0 256)
unfolding product_of
column_1 = refl

column_2 : map (λ a. to_le_bytes w32 (get_or ROUND_2 a 0)) (range_with_len 0 256)
    ≡ map (λ a. times 1 (get_or SUB a 0) ∷ times 3 (get_or SUB a 0) ∷ times 2 (get_or SUB a 0) ∷ times 1 (get_or SUB a 0) ∷ []) (range_with_len 0 256)
unfolding product_of
column_2 = refl

column_3 : map (λ a. to_le_bytes w32 (get_or ROUND_3 a 0)) (range_with_len 0 256)
    ≡ map (λ a. times 1 (get_or SUB a 0) ∷ times 1 (get_or SUB a 0) ∷ times 3 (get_or SUB a 0) ∷ times 2 (get_or SUB a 0) ∷ []) (range_with_len 0 256)
unfolding product_of
column_3 = refl

pub column_is : (a b c d key : ℕ) → d < 2 ^ 32
    → to_le_bytes w32 (bit_xor (get_or ROUND_3 (d / 16777216) 0) (bit_xor (get_or ROUND_2 (bit_and (c / 65536) 255) 0) (bit_xor (get_or ROUND_1 (bit_and (b / 256) 255) 0) (bit_xor (get_or ROUND_0 (bit_and a 255) 0) key))))
    ≡ xored (circulant_times 2 3 1 1 (sub_byte (byte_at 0 a)) (sub_byte (byte_at 1 b)) (sub_byte (byte_at 2 c)) (sub_byte (byte_at 3 d))) (to_le_bytes w32 key)
column_is = looked_up_first ROUND_0 ROUND_1 ROUND_2 ROUND_3 _ _ _ _
    (read_of ROUND_0 SUB (λ (x : ℕ). times 2 x ∷ times 1 x ∷ times 1 x ∷ times 3 x ∷ []) sub_byte column_0 sub_at)
    (read_of ROUND_1 SUB (λ (x : ℕ). times 3 x ∷ times 2 x ∷ times 1 x ∷ times 1 x ∷ []) sub_byte column_1 sub_at)
    (read_of ROUND_2 SUB (λ (x : ℕ). times 1 x ∷ times 3 x ∷ times 2 x ∷ times 1 x ∷ []) sub_byte column_2 sub_at)
    (read_of ROUND_3 SUB (λ (x : ℕ). times 1 x ∷ times 1 x ∷ times 3 x ∷ times 2 x ∷ []) sub_byte column_3 sub_at)

-- ---- the last round

last_0 : map (λ a. to_le_bytes w32 (get_or LAST_0 a 0)) (range_with_len 0 256) ≡ map (λ a. get_or SUB a 0 ∷ 0 ∷ 0 ∷ 0 ∷ []) (range_with_len 0 256)
last_0 = refl

last_1 : map (λ a. to_le_bytes w32 (get_or LAST_1 a 0)) (range_with_len 0 256) ≡ map (λ a. 0 ∷ get_or SUB a 0 ∷ 0 ∷ 0 ∷ []) (range_with_len 0 256)
last_1 = refl

last_2 : map (λ a. to_le_bytes w32 (get_or LAST_2 a 0)) (range_with_len 0 256) ≡ map (λ a. 0 ∷ 0 ∷ get_or SUB a 0 ∷ 0 ∷ []) (range_with_len 0 256)
last_2 = refl

last_3 : map (λ a. to_le_bytes w32 (get_or LAST_3 a 0)) (range_with_len 0 256) ≡ map (λ a. 0 ∷ 0 ∷ 0 ∷ get_or SUB a 0 ∷ []) (range_with_len 0 256)
last_3 = refl

apart : (a b c d : ℕ)
    → xored (xored (xored (a ∷ 0 ∷ 0 ∷ 0 ∷ []) (0 ∷ b ∷ 0 ∷ 0 ∷ [])) (0 ∷ 0 ∷ c ∷ 0 ∷ [])) (0 ∷ 0 ∷ 0 ∷ d ∷ []) ≡ a ∷ b ∷ c ∷ d ∷ []
apart a b c d =
    let ea : bit_xor (bit_xor (bit_xor a 0) 0) 0 ≡ a = xor_zero_r (bit_xor (bit_xor a 0) 0) ∙ xor_zero_r (bit_xor a 0) ∙ xor_zero_r a in
    let eb : bit_xor (bit_xor (bit_xor 0 b) 0) 0 ≡ b = xor_zero_r (bit_xor (bit_xor 0 b) 0) ∙ xor_zero_r (bit_xor 0 b) ∙ xor_zero_l b in
    let ec : bit_xor (bit_xor 0 c) 0 ≡ c = xor_zero_r (bit_xor 0 c) ∙ xor_zero_l c in
    let ed : bit_xor 0 d ≡ d = xor_zero_l d in
    (λ i. ea i ∷ eb i ∷ ec i ∷ ed i ∷ [])

pub last_column_is : (a b c d key : ℕ) → d < 2 ^ 32
    → to_le_bytes w32 (bit_xor (get_or LAST_3 (d / 16777216) 0) (bit_xor (get_or LAST_2 (bit_and (c / 65536) 255) 0) (bit_xor (get_or LAST_1 (bit_and (b / 256) 255) 0) (bit_xor (get_or LAST_0 (bit_and a 255) 0) key))))
    ≡ xored (sub_bytes (byte_at 0 a ∷ byte_at 1 b ∷ byte_at 2 c ∷ byte_at 3 d ∷ [])) (to_le_bytes w32 key)
last_column_is a b c d key hd =
    looked_up_first LAST_0 LAST_1 LAST_2 LAST_3 _ _ _ _
    (read_of LAST_0 SUB (λ (x : ℕ). x ∷ 0 ∷ 0 ∷ 0 ∷ []) sub_byte last_0 sub_at)
    (read_of LAST_1 SUB (λ (x : ℕ). 0 ∷ x ∷ 0 ∷ 0 ∷ []) sub_byte last_1 sub_at)
    (read_of LAST_2 SUB (λ (x : ℕ). 0 ∷ 0 ∷ x ∷ 0 ∷ []) sub_byte last_2 sub_at)
    (read_of LAST_3 SUB (λ (x : ℕ). 0 ∷ 0 ∷ 0 ∷ x ∷ []) sub_byte last_3 sub_at) a b c d key hd
    ∙ ap (λ (x : List ℕ). xored x (to_le_bytes w32 key)) (apart (sub_byte (byte_at 0 a)) (sub_byte (byte_at 1 b)) (sub_byte (byte_at 2 c)) (sub_byte (byte_at 3 d)))

-- ---- words loaded

pub bytes_from : (a b c d n : ℕ) → a < 256 → b < 256 → c < 256 → d < 256 → n ≡ from_le_bytes w32 (a ∷ b ∷ c ∷ d ∷ []) → to_le_bytes w32 n ≡ a ∷ b ∷ c ∷ d ∷ []
bytes_from a b c d n ha hb hc hd e = le_bytes_4 (a ∷ b ∷ c ∷ d ∷ []) n refl (bytes_four a b c d ha hb hc hd) e

-- a column loaded and a key added
pub loaded : (a b c d n k : ℕ) → a < 256 → b < 256 → c < 256 → d < 256 → n ≡ from_le_bytes w32 (a ∷ b ∷ c ∷ d ∷ [])
    → to_le_bytes w32 (bit_xor n k) ≡ xored (a ∷ b ∷ c ∷ d ∷ []) (to_le_bytes w32 k)
loaded a b c d n k ha hb hc hd e = bytes_xor n k ∙ ap (λ (x : List ℕ). xored x (to_le_bytes w32 k)) (bytes_from a b c d n ha hb hc hd e)

-- ---- the keys of the rounds as words

key_words_first : (w : List ℕ) → 4 ≤ length w → state_of (take 4 (drop (4 * 0) w)) ≡ round_key (bytes_of w) 0
key_words_first [] h = absurd (omega arith)
key_words_first (a ∷ []) h = absurd (omega arith)
key_words_first (a ∷ b ∷ []) h = absurd (omega arith)
key_words_first (a ∷ b ∷ c ∷ []) h = absurd (omega arith)
key_words_first (a ∷ b ∷ c ∷ d ∷ w) h = refl

-- four words from place 4 * r on are the bytes from place 16 * r on
pub key_words : (w : List ℕ) (r : ℕ) → 4 * r + 4 ≤ length w → state_of (take 4 (drop (4 * r) w)) ≡ round_key (bytes_of w) r
key_words w zero h = key_words_first w (omega arith)
key_words [] (suc r) h = absurd (omega arith)
key_words (a ∷ []) (suc r) h = absurd (omega arith)
key_words (a ∷ b ∷ []) (suc r) h = absurd (omega arith)
key_words (a ∷ b ∷ c ∷ []) (suc r) h = absurd (omega arith)
key_words (a ∷ b ∷ c ∷ d ∷ w) (suc r) h =
    let e : 4 * suc r ≡ suc (suc (suc (suc (4 * r)))) = omega arith in
    let f : 16 * suc r ≡ suc (suc (suc (suc (suc (suc (suc (suc (suc (suc (suc (suc (suc (suc (suc (suc (16 * r)))))))))))))))) = omega arith in
    ap (λ (n : ℕ). state_of (take 4 (drop n (a ∷ b ∷ c ∷ d ∷ w)))) e ∙ key_words w r (omega arith)
    ∙ ap (λ (n : ℕ). take 16 (drop n (bytes_of (a ∷ b ∷ c ∷ d ∷ w)))) (sym f)

-- the key of round r, as a round reads it
pub key_at : (w : List ℕ) (r : ℕ) → 4 * r + 4 ≤ length w → state_of (take (4 * r + 4 - 4 * r) (drop (4 * r) w)) ≡ round_key (bytes_of w) r
key_at w r h =
    let e : 4 * r + 4 - 4 * r ≡ 4 = omega arith in
    ap (λ (n : ℕ). state_of (take n (drop (4 * r) w))) e ∙ key_words w r h

-- ---- the way back

inv_column_0 : map (λ a. to_le_bytes w32 (get_or INV_ROUND_0 a 0)) (range_with_len 0 256)
    ≡ map (λ a. times 14 (get_or INV_SUB a 0) ∷ times 9 (get_or INV_SUB a 0) ∷ times 13 (get_or INV_SUB a 0) ∷ times 11 (get_or INV_SUB a 0) ∷ []) (range_with_len 0 256)
unfolding product_of
inv_column_0 = refl

inv_column_1 : map (λ a. to_le_bytes w32 (get_or INV_ROUND_1 a 0)) (range_with_len 0 256)
    ≡ map (λ a. times 11 (get_or INV_SUB a 0) ∷ times 14 (get_or INV_SUB a 0) ∷ times 9 (get_or INV_SUB a 0) ∷ times 13 (get_or INV_SUB a 0) ∷ []) (range_with_len 0 256)
unfolding product_of
inv_column_1 = refl

inv_column_2 : map (λ a. to_le_bytes w32 (get_or INV_ROUND_2 a 0)) (range_with_len 0 256)
    ≡ map (λ a. times 13 (get_or INV_SUB a 0) ∷ times 11 (get_or INV_SUB a 0) ∷ times 14 (get_or INV_SUB a 0) ∷ times 9 (get_or INV_SUB a 0) ∷ []) (range_with_len 0 256)
unfolding product_of
inv_column_2 = refl

inv_column_3 : map (λ a. to_le_bytes w32 (get_or INV_ROUND_3 a 0)) (range_with_len 0 256)
    ≡ map (λ a. times 9 (get_or INV_SUB a 0) ∷ times 13 (get_or INV_SUB a 0) ∷ times 11 (get_or INV_SUB a 0) ∷ times 14 (get_or INV_SUB a 0) ∷ []) (range_with_len 0 256)
unfolding product_of
inv_column_3 = refl

pub inv_column_is : (a b c d key : ℕ) → d < 2 ^ 32
    → to_le_bytes w32 (bit_xor (bit_xor (bit_xor (bit_xor (get_or INV_ROUND_0 (bit_and a 255) 0) (get_or INV_ROUND_1 (bit_and (b / 256) 255) 0)) (get_or INV_ROUND_2 (bit_and (c / 65536) 255) 0)) (get_or INV_ROUND_3 (d / 16777216) 0)) key)
    ≡ xored (circulant_times 14 11 13 9 (inv_sub_byte (byte_at 0 a)) (inv_sub_byte (byte_at 1 b)) (inv_sub_byte (byte_at 2 c)) (inv_sub_byte (byte_at 3 d))) (to_le_bytes w32 key)
inv_column_is = looked_up INV_ROUND_0 INV_ROUND_1 INV_ROUND_2 INV_ROUND_3 _ _ _ _
    (read_of INV_ROUND_0 INV_SUB (λ (x : ℕ). times 14 x ∷ times 9 x ∷ times 13 x ∷ times 11 x ∷ []) inv_sub_byte inv_column_0 inv_sub_at)
    (read_of INV_ROUND_1 INV_SUB (λ (x : ℕ). times 11 x ∷ times 14 x ∷ times 9 x ∷ times 13 x ∷ []) inv_sub_byte inv_column_1 inv_sub_at)
    (read_of INV_ROUND_2 INV_SUB (λ (x : ℕ). times 13 x ∷ times 11 x ∷ times 14 x ∷ times 9 x ∷ []) inv_sub_byte inv_column_2 inv_sub_at)
    (read_of INV_ROUND_3 INV_SUB (λ (x : ℕ). times 9 x ∷ times 13 x ∷ times 11 x ∷ times 14 x ∷ []) inv_sub_byte inv_column_3 inv_sub_at)

-- ---- the inverse of MixColumns is linear

four_rows : (m n o p a b c d e f g h : ℕ)
    → circulant_times m n o p (bit_xor a e) (bit_xor b f) (bit_xor c g) (bit_xor d h) ≡ xored (circulant_times m n o p a b c d) (circulant_times m n o p e f g h)
four_rows m n o p a b c d e f g h =
    (λ i. row_times-xor m n o p a b c d e f g h i ∷ row_times-xor p m n o a b c d e f g h i ∷ row_times-xor o p m n a b c d e f g h i ∷ row_times-xor n o p m a b c d e f g h i ∷ [])

inv_mix_cells : (x y : ℕ → ℕ)
    → inv_mix_columns (xored (x 0 ∷ x 1 ∷ x 2 ∷ x 3 ∷ x 4 ∷ x 5 ∷ x 6 ∷ x 7 ∷ x 8 ∷ x 9 ∷ x 10 ∷ x 11 ∷ x 12 ∷ x 13 ∷ x 14 ∷ x 15 ∷ [])
    (y 0 ∷ y 1 ∷ y 2 ∷ y 3 ∷ y 4 ∷ y 5 ∷ y 6 ∷ y 7 ∷ y 8 ∷ y 9 ∷ y 10 ∷ y 11 ∷ y 12 ∷ y 13 ∷ y 14 ∷ y 15 ∷ []))
    ≡ xored (inv_mix_columns (x 0 ∷ x 1 ∷ x 2 ∷ x 3 ∷ x 4 ∷ x 5 ∷ x 6 ∷ x 7 ∷ x 8 ∷ x 9 ∷ x 10 ∷ x 11 ∷ x 12 ∷ x 13 ∷ x 14 ∷ x 15 ∷ []))
    (inv_mix_columns (y 0 ∷ y 1 ∷ y 2 ∷ y 3 ∷ y 4 ∷ y 5 ∷ y 6 ∷ y 7 ∷ y 8 ∷ y 9 ∷ y 10 ∷ y 11 ∷ y 12 ∷ y 13 ∷ y 14 ∷ y 15 ∷ []))
inv_mix_cells x y =
    let e0 = four_rows 14 11 13 9 (x 0) (x 1) (x 2) (x 3) (y 0) (y 1) (y 2) (y 3) in
    let e1 = four_rows 14 11 13 9 (x 4) (x 5) (x 6) (x 7) (y 4) (y 5) (y 6) (y 7) in
    let e2 = four_rows 14 11 13 9 (x 8) (x 9) (x 10) (x 11) (y 8) (y 9) (y 10) (y 11) in
    let e3 = four_rows 14 11 13 9 (x 12) (x 13) (x 14) (x 15) (y 12) (y 13) (y 14) (y 15) in
    (λ i. e0 i ++ e1 i ++ e2 i ++ e3 i)

pub inv_mix_xored : (a b : List ℕ) → length a ≡ 16 → length b ≡ 16 → inv_mix_columns (xored a b) ≡ xored (inv_mix_columns a) (inv_mix_columns b)
inv_mix_xored a b ha hb =
    ap₂ (λ (s t : List ℕ). inv_mix_columns (xored s t)) (sixteen_of a ha) (sixteen_of b hb)
    ∙ inv_mix_cells (λ k. slice_index a k) (λ k. slice_index b k)
