use Rattle.std.proofs.Common.{◌≡◌, ℕ, zero, suc, List, [], ◌∷◌, ◌+◌, ◌-◌, ◌*◌, ◌/◌, ◌<◌, ◌≤◌, ◌++◌, length, get_or, drop, refl, sym, ap, ap₂, ◌∙◌, arith}
use borrow.Rule.Slice.PartMut.{put_mid}
use Rattle.aes_core.specs.Cipher.{decrypted, xored}
use Rattle.aes_core.specs.Modes.{text_block, block_before, joined}
use Rattle.aes_core.specs.Planes.{ArePlanes}
use Rattle.aes_core.proofs.BlockLoop.{Written, written_ahead, written_many, written_none}
use Rattle.aes_core.proofs.ModeLaws.{joined_same}
use Rattle.aes_core.proofs.PlaneLists.{plane_is}
use Rattle.aes_core.proofs.modes.decrypt_eights.Goals as goal

-- the cipher block before block k of eight
before_at : (iv xs before : List ℕ) (cipher : List (List ℕ)) (n k : ℕ) → before ≡ block_before iv xs n
    → ((k : ℕ) → k < 8 → get_or cipher k [] ≡ text_block xs (n + k)) → k < 8 → get_or (before ∷ cipher) k [] ≡ block_before iv xs (n + k)
before_at iv xs before cipher n zero first read lt =
    let e : n ≡ n + 0 = omega arith in
    first ∙ ap (block_before iv xs) e
before_at iv xs before cipher n (suc k) first read lt =
    let e : suc (n + k) ≡ n + suc k = omega arith in
    read k (omega arith) ∙ ap (block_before iv xs) e

-- eight blocks on
eight_more : (key iv xs now ys before : List ℕ) (cipher text : List (List ℕ)) (i a k : ℕ)
    → Written (λ j. xored (decrypted key (text_block xs j)) (block_before iv xs j)) xs now (8 * i) → 128 * i + 128 ≤ length xs → a ≡ 16 * (8 * i) → k ≡ 128
    → before ≡ block_before iv xs (8 * i) → ArePlanes text → ((k : ℕ) → k < 8 → get_or cipher k [] ≡ text_block now (8 * i + k))
    → ((k : ℕ) → k < 8 → get_or text k [] ≡ xored (decrypted key (get_or cipher k [])) (get_or (before ∷ cipher) k []))
    → ys ≡ joined (λ k. get_or text k []) 8
    → (get_or cipher 7 [] ≡ block_before iv xs (8 * (i + 1))) × Written (λ j. xored (decrypted key (text_block xs j)) (block_before iv xs j)) xs (put_mid a k now ys) (8 * (i + 1))
eight_more key iv xs now ys before cipher text i a k w room ea ek first planes read chained made =
    let h = λ (j : ℕ). xored (decrypted key (text_block xs j)) (block_before iv xs j) in
    let n : ℕ = 8 * i in
    let at : (k : ℕ) → k < 8 → get_or cipher k [] ≡ text_block xs (n + k) = λ k lt. read k lt ∙ written_ahead h xs now n (n + k) w (omega arith) in
    let each : (k : ℕ) → k < 8 → get_or text k [] ≡ h (n + k) =
    λ k lt. chained k lt ∙ ap₂ (λ (c b : List ℕ). xored (decrypted key c) b) (at k lt) (before_at iv xs before cipher n k first at lt) in
    let is : ys ≡ joined (λ k. h (n + k)) 8 = made ∙ joined_same (λ k. get_or text k []) (λ k. h (n + k)) 8 each in
    let e : n + 8 ≡ 8 * (i + 1) = omega arith in
    let last : suc (n + 7) ≡ 8 * (i + 1) = omega arith in (
      at 7 (omega arith) ∙ ap (block_before iv xs) last,
      rw (← e) (written_many h xs now ys n 8 a k w (omega arith) ea ek is (record { long = λ k lt. ap length (sym (each k lt)) ∙ planes.long k lt })),
    )

pub returns-then-bytes-lt128 : goal.returns-then-bytes-lt128
returns-then-bytes-lt128 c =
    let xs : List ℕ = c.args.bytes.now in
    let h = λ (j : ℕ). xored (decrypted c.args.key.now (text_block xs j)) (block_before c.args.iv.now xs j) in
    let e : 0 ≡ length xs / 128 = omega arith in
    record {
      value = (written_none h xs).text ∙ ap (λ (n : ℕ). joined h (8 * n) ++ drop (128 * n) xs) e;
      before = ap (λ (n : ℕ). block_before c.args.iv.now xs (8 * n)) e;
      known = λ i. omega (arith, c.type_inv.bytes i);
    }

pub loop-i-init : goal.loop-i-init
loop-i-init c = (
  (λ i. omega (arith, c.type_inv.bytes i)),
  record { long = c.told-iv; bytes = c.fits-iv },
  refl,
  written_none _ c.args.bytes.now,
)

pub plain_eight-text-requires : goal.plain_eight-text-requires
plain_eight-text-requires c = record { key = c.planes-planes.ensures; cipher = c.eight_of-cipher.ensures.planes; before = c.loop-i.invariant.1 }

pub loop-i-preserved : goal.loop-i-preserved
loop-i-preserved c =
    let i : ℕ = c.loop-i.i in
    let more = eight_more c.args.key.now c.args.iv.now c.args.bytes.now c.loop-i.bytes c.put_eight.new.to c.loop-i.before c.eight_of-cipher.result c.plain_eight-text.result
    i (128 * i) (128 * i + 128 - 128 * i) c.loop-i.invariant.3 (omega arith) (omega arith) (omega arith) c.loop-i.invariant.2
    c.plain_eight-text.ensures.planes c.eight_of-cipher.ensures.value c.plain_eight-text.ensures.value c.put_eight.ensures in
    (c.loop-i.invariant.0, plane_is c.eight_of-cipher.result c.eight_of-cipher.ensures.planes 7 (omega arith), more.0, more.1)

pub returns : goal.returns
returns c =
    let xs : List ℕ = c.args.bytes.now in
    let h = λ (j : ℕ). xored (decrypted c.args.key.now (text_block xs j)) (block_before c.args.iv.now xs j) in
    let e : c.loop-i.i ≡ length xs / 128 = omega arith in
    let m : 16 * (8 * (length xs / 128)) ≡ 128 * (length xs / 128) = omega arith in
    record {
      value = c.loop-i.invariant.3.text ∙ ap (λ (n : ℕ). joined h (8 * n) ++ drop (16 * (8 * n)) xs) e
          ∙ ap (λ (n : ℕ). joined h (8 * (length xs / 128)) ++ drop n xs) m;
      before = c.loop-i.invariant.2 ∙ ap (λ (n : ℕ). block_before c.args.iv.now xs (8 * n)) e;
      known = c.loop-i.invariant.0;
    }
