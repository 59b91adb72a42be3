-- Exchanges of bits between vectors of bytes, and the transposition that twelve of them make.
use Rattle.std.proofs.Common.{◌≡◌, ℕ, ◌+◌, ◌-◌, ◌*◌, ◌/◌, ◌%◌, ◌^◌, ◌==◌, ◌<◌, Bool, true, false, List, [], ◌∷◌, length, map, get_or, replicate, bit_and, bit_xor, refl, sym, subst, ap, ap₂, ◌∙◌, arith, Fits, w8}
use Rattle.std.specs.Prelude.{if◌then◌else◌, slice_index}
use Rattle.std.specs.Int.{bit_at}
use Rattle.std.specs.List.{range_with_len}
use Rattle.std.proofs.lemmas.Simd.{Each1-get_or, get_or-replicate, length-zip2, zip2-map}
use Rattle.std.proofs.lemmas.Grind.{same_number_lists}
use Rattle.std.proofs.lemmas.List.{get_or-map, length-map}
use Rattle.std.proofs.lemmas.List.FromFn.{get_or-map-range_with_len}
use lib.Bits.{xor_zero_r}
use lib.Lanes.{Each1, number_l, zip2}
use Rattle.aes_core.specs.Planes.{AreExchanged, ArePlanes, bits_in, block_in, bits_of_byte, exchanged_high, exchanged_low}
use Rattle.aes_core.proofs.ByTable.{everywhere}
use Rattle.aes_core.proofs.PlaneLists.{bits_of_xor, byte_in, each_of_eight, eight, eight_of, number_of_bits, plane_at, zip2_at}

-- ---- an exchange between two bytes

-- where only one of two may be other than 0
one_of : (c : Bool) (p q : ℕ) → bit_xor (if c then p else 0) (if c then 0 else q) ≡ (if c then p else q)
one_of true p q = xor_zero_r p
one_of false p q = refl

low_joined : (k : ℕ) (xs ys : List ℕ) → zip2 bit_xor (exchanged_low k xs []) (exchanged_low k [] ys) ≡ exchanged_low k xs ys
low_joined k xs ys =
    zip2-map bit_xor (λ i. if i / k % 2 == 0 then slice_index xs i else 0) (λ i. if i / k % 2 == 0 then 0 else slice_index ys (i - k)) (range_with_len 0 8)
    ∙ (λ t. map (λ i. one_of (i / k % 2 == 0) (slice_index xs i) (slice_index ys (i - k)) t) (range_with_len 0 8))

high_joined : (k : ℕ) (xs ys : List ℕ) → zip2 bit_xor (exchanged_high k xs []) (exchanged_high k [] ys) ≡ exchanged_high k xs ys
high_joined k xs ys =
    zip2-map bit_xor (λ i. if i / k % 2 == 0 then slice_index xs (i + k) else 0) (λ i. if i / k % 2 == 0 then 0 else slice_index ys i) (range_with_len 0 8)
    ∙ (λ t. map (λ i. one_of (i / k % 2 == 0) (slice_index xs (i + k)) (slice_index ys i) t) (range_with_len 0 8))

-- ---- and between two vectors, lane by lane

abbrev shl : ℕ → ℕ → ℕ
shl x s = x * 2 ^ s % 256

abbrev shr : ℕ → ℕ → ℕ
shr x s = x / 2 ^ s

-- two functions that are one on each byte, to be computed
abbrev pub AreSame : {Y : Type 0} (f g : ℕ → Y) → Type 0
AreSame f g = map f (range_with_len 0 256) ≡ map g (range_with_len 0 256)

splat_lane : (f : ℕ → ℕ → ℕ) (v : List ℕ) (s j : ℕ) → length v ≡ 16 → j < 16 → get_or (zip2 f v (replicate 16 s)) j 0 ≡ f (get_or v j 0) s
splat_lane f v s j long h =
    zip2_at f v (replicate 16 s) j long refl h ∙ ap (f (get_or v j 0)) (get_or-replicate 16 j s 0 h)

splat_long : (f : ℕ → ℕ → ℕ) (v : List ℕ) (s : ℕ) → length v ≡ 16 → length (zip2 f v (replicate 16 s)) ≡ 16
splat_long f v s long = length-zip2 f v (replicate 16 s) long ∙ long

-- by a splat, and then by another
splats_lane : (f g : ℕ → ℕ → ℕ) (v : List ℕ) (s t j : ℕ) → length v ≡ 16 → j < 16
    → get_or (zip2 g (zip2 f v (replicate 16 s)) (replicate 16 t)) j 0 ≡ g (f (get_or v j 0) s) t
splats_lane f g v s t j long h =
    splat_lane g (zip2 f v (replicate 16 s)) t j (splat_long f v s long) h ∙ ap (λ (n : ℕ). g n t) (splat_lane f v s j long h)

splats_long : (f g : ℕ → ℕ → ℕ) (v : List ℕ) (s t : ℕ) → length v ≡ 16 → length (zip2 g (zip2 f v (replicate 16 s)) (replicate 16 t)) ≡ 16
splats_long f g v s t long = splat_long g (zip2 f v (replicate 16 s)) t (splat_long f v s long)

-- the XOR of two vectors whose lanes have known bits
xor_lane : (v w : List ℕ) (j x y : ℕ) (xs ys : List ℕ) → length v ≡ 16 → length w ≡ 16 → j < 16
    → get_or v j 0 ≡ x → get_or w j 0 ≡ y → bits_of_byte x ≡ xs → bits_of_byte y ≡ ys
    → bits_of_byte (get_or (zip2 bit_xor v w) j 0) ≡ zip2 bit_xor xs ys
xor_lane v w j x y xs ys long_v long_w h is_x is_y bits_x bits_y =
    ap bits_of_byte (zip2_at bit_xor v w j long_v long_w h ∙ ap₂ bit_xor is_x is_y)
    ∙ bits_of_xor x y ∙ ap₂ (zip2 bit_xor) bits_x bits_y

lane-lt : (v : List ℕ) (j : ℕ) → Each1 (Fits w8) v → length v ≡ 16 → j < 16 → get_or v j 0 < 256
lane-lt v j fit long h = (Each1-get_or (Fits w8) v j 0 (omega arith) fit).fits

-- an exchange by shifts of k places, a mask m and its complement n, by what they make of each byte
pub exchanged : (k m n : ℕ)
    → AreSame (λ x. bits_of_byte (bit_and x m)) (λ x. exchanged_low k (bits_of_byte x) [])
    → AreSame (λ y. bits_of_byte (shl (bit_and y m) k)) (λ y. exchanged_low k [] (bits_of_byte y))
    → AreSame (λ x. bits_of_byte (bit_and (shr x k) m)) (λ x. exchanged_high k (bits_of_byte x) [])
    → AreSame (λ y. bits_of_byte (bit_and y n)) (λ y. exchanged_high k [] (bits_of_byte y))
    → (a b : List ℕ) → (length a ≡ 16) × Each1 (Fits w8) a → (length b ≡ 16) × Each1 (Fits w8) b
    → AreExchanged k a b
    (zip2 bit_xor (zip2 bit_and a (replicate 16 m)) (zip2 shl (zip2 bit_and b (replicate 16 m)) (replicate 16 k)))
    (zip2 bit_xor (zip2 bit_and (zip2 shr a (replicate 16 k)) (replicate 16 m)) (zip2 bit_and b (replicate 16 n)))
exchanged k m n low_kept low_moved high_moved high_kept a b (long_a, fit_a) (long_b, fit_b) =
    record {
      low = λ j h.
          let x = get_or a j 0 in
          let y = get_or b j 0 in
          xor_lane (zip2 bit_and a (replicate 16 m)) (zip2 shl (zip2 bit_and b (replicate 16 m)) (replicate 16 k)) j
          (bit_and x m) (shl (bit_and y m) k) (exchanged_low k (bits_of_byte x) []) (exchanged_low k [] (bits_of_byte y))
          (splat_long bit_and a m long_a) (splats_long bit_and shl b m k long_b) h
          (splat_lane bit_and a m j long_a h) (splats_lane bit_and shl b m k j long_b h)
          (everywhere (λ x. bits_of_byte (bit_and x m)) (λ x. exchanged_low k (bits_of_byte x) []) low_kept x (lane-lt a j fit_a long_a h))
          (everywhere (λ y. bits_of_byte (shl (bit_and y m) k)) (λ y. exchanged_low k [] (bits_of_byte y)) low_moved y (lane-lt b j fit_b long_b h))
          ∙ low_joined k (bits_of_byte x) (bits_of_byte y);
      high = λ j h.
          let x = get_or a j 0 in
          let y = get_or b j 0 in
          xor_lane (zip2 bit_and (zip2 shr a (replicate 16 k)) (replicate 16 m)) (zip2 bit_and b (replicate 16 n)) j
          (bit_and (shr x k) m) (bit_and y n) (exchanged_high k (bits_of_byte x) []) (exchanged_high k [] (bits_of_byte y))
          (splats_long shr bit_and a k m long_a) (splat_long bit_and b n long_b) h
          (splats_lane shr bit_and a k m j long_a h) (splat_lane bit_and b n j long_b h)
          (everywhere (λ x. bits_of_byte (bit_and (shr x k) m)) (λ x. exchanged_high k (bits_of_byte x) []) high_moved x (lane-lt a j fit_a long_a h))
          (everywhere (λ y. bits_of_byte (bit_and y n)) (λ y. exchanged_high k [] (bits_of_byte y)) high_kept y (lane-lt b j fit_b long_b h))
          ∙ high_joined k (bits_of_byte x) (bits_of_byte y);
    }

-- ---- twelve exchanges in a row

-- the bits of lane j after an exchange, where they are known before it
low_after : {k : ℕ} {a b x y : List ℕ} → AreExchanged k a b x y → {j : ℕ} → j < 16 → {xs ys : List ℕ}
    → bits_of_byte (slice_index a j) ≡ xs → bits_of_byte (slice_index b j) ≡ ys → bits_of_byte (slice_index x j) ≡ exchanged_low k xs ys
low_after {k = k} done h is_a is_b = done.low _ h ∙ ap₂ (exchanged_low k) is_a is_b

high_after : {k : ℕ} {a b x y : List ℕ} → AreExchanged k a b x y → {j : ℕ} → j < 16 → {xs ys : List ℕ}
    → bits_of_byte (slice_index a j) ≡ xs → bits_of_byte (slice_index b j) ≡ ys → bits_of_byte (slice_index y j) ≡ exchanged_high k xs ys
high_after {k = k} done h is_a is_b = done.high _ h ∙ ap₂ (exchanged_high k) is_a is_b

-- bit b of lane j of row r is bit r of lane j of plane b
pub record AreTransposed (rows planes : List (List ℕ)) : Type 0 where
  pub bits : (r : ℕ) → r < 8 → (j : ℕ) → j < 16 → bits_of_byte (slice_index (get_or planes r []) j) ≡ bits_in rows j r

pub transposed : {a b c d e f g h a1 b1 c1 d1 e1 f1 g1 h1 a2 b2 c2 d2 e2 f2 g2 h2 a3 b3 c3 d3 e3 f3 g3 h3 : List ℕ}
    → AreExchanged 1 a b a1 b1 → AreExchanged 1 c d c1 d1 → AreExchanged 1 e f e1 f1 → AreExchanged 1 g h g1 h1
    → AreExchanged 2 a1 c1 a2 c2 → AreExchanged 2 b1 d1 b2 d2 → AreExchanged 2 e1 g1 e2 g2 → AreExchanged 2 f1 h1 f2 h2
    → AreExchanged 4 a2 e2 a3 e3 → AreExchanged 4 b2 f2 b3 f3 → AreExchanged 4 c2 g2 c3 g3 → AreExchanged 4 d2 h2 d3 h3
    → AreTransposed (a ∷ b ∷ c ∷ d ∷ e ∷ f ∷ g ∷ h ∷ []) (a3 ∷ b3 ∷ c3 ∷ d3 ∷ e3 ∷ f3 ∷ g3 ∷ h3 ∷ [])
transposed {a = a} {b = b} {c = c} {d = d} {e = e} {f = f} {g = g} {h = h} {a3 = a3} {b3 = b3} {c3 = c3} {d3 = d3} {e3 = e3} {f3 = f3} {g3 = g3} {h3 = h3}
    ab cd ef gh ac bd eg fh ae bf cg dh =
    record {
      bits = λ r hr j lt.
          let ra = low_after ab lt refl refl in
          let rb = high_after ab lt refl refl in
          let rc = low_after cd lt refl refl in
          let rd = high_after cd lt refl refl in
          let re = low_after ef lt refl refl in
          let rf = high_after ef lt refl refl in
          let rg = low_after gh lt refl refl in
          let rh = high_after gh lt refl refl in
          let sa = low_after ac lt ra rc in
          let sb = low_after bd lt rb rd in
          let sc = high_after ac lt ra rc in
          let sd = high_after bd lt rb rd in
          let se = low_after eg lt re rg in
          let sf = low_after fh lt rf rh in
          let sg = high_after eg lt re rg in
          let sh = high_after fh lt rf rh in
          each_of_eight
          (λ r. bits_of_byte (slice_index (get_or (a3 ∷ b3 ∷ c3 ∷ d3 ∷ e3 ∷ f3 ∷ g3 ∷ h3 ∷ []) r []) j) ≡ bits_in (a ∷ b ∷ c ∷ d ∷ e ∷ f ∷ g ∷ h ∷ []) j r)
          (low_after ae lt sa se) (low_after bf lt sb sf) (low_after cg lt sc sg) (low_after dh lt sd sh)
          (high_after ae lt sa se) (high_after bf lt sb sf) (high_after cg lt sc sg) (high_after dh lt sd sh)
          r hr;
    }

pub transposed_whole : {rows planes : List (List ℕ)} → ArePlanes rows → AreTransposed (eight (plane_at rows)) planes → AreTransposed rows planes
transposed_whole {rows = rows} {planes = planes} are bits = subst (λ (l : List (List ℕ)). AreTransposed l planes) (sym (eight_of rows are.count)) bits

-- ---- from the bits to the blocks

pub unpacked : {rows planes : List (List ℕ)} → ArePlanes planes → AreTransposed rows planes
    → (b : ℕ) → b < 8 → get_or planes b [] ≡ block_in rows b
unpacked {rows = rows} {planes = planes} are bits b h =
    same_number_lists _ _ (are.long b h) (λ j lt.
    let x = slice_index (get_or planes b []) j in
    let here : j < 16 = omega (arith, are.long b h) in
    sym (number_of_bits x (are.bytes b j))
    ∙ ap (number_l 2) (bits.bits b h j here)
    ∙ sym (get_or-map-range_with_len (λ j. byte_in rows j b) 0 16 j j 0 here (omega arith)))

-- the planes of the planes are the rows
pub flipped : {rows planes : List (List ℕ)} → ArePlanes rows → ArePlanes planes → AreTransposed rows planes → AreTransposed planes rows
flipped {rows = rows} {planes = planes} are_rows are_planes bits =
    record {
      bits = λ r hr j hj.
          same_number_lists _ _ (sym (length-map planes (λ plane. bit_at (slice_index plane j) r) ∙ are_planes.count)) (λ b hb.
          get_or-map-range_with_len (bit_at (slice_index (get_or rows r []) j)) 0 8 b b 0 hb (omega arith)
          ∙ sym (get_or-map (λ row. bit_at (slice_index row j) b) rows r [] 0 (omega (arith, are_rows.count)))
          ∙ sym (ap (λ l. get_or l r 0) (bits.bits b hb j hj))
          ∙ get_or-map-range_with_len (bit_at (slice_index (get_or planes b []) j)) 0 8 r r 0 hr (omega arith)
          ∙ sym (get_or-map (λ plane. bit_at (slice_index plane j) r) planes b [] 0 (omega (arith, are_planes.count))));
    }
