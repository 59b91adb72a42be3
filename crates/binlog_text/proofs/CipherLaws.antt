-- The length's place in an event, taken out and put back.
use Rattle.std.proofs.Common.{◌≡◌, ℕ, ◌+◌, ◌≤◌, List, ◌++◌, length, take, drop, sym, ap, ◌∙◌, arith, append_assoc, length-append, length-take, length-drop}
use Rattle.std.proofs.lemmas.List.{take_at, drop_at, drop-drop, take-append-drop}
use Rattle.std.proofs.Math.Seq.{take-append-add, drop-append-add}
use Rattle.byte_list.specs.Bytes.{AreBytes, put, range}
use Rattle.byte_list.proofs.ByteLaws.{bytes_append, bytes_drop, bytes_range, bytes_take}
use Rattle.byte_list.proofs.RangeLaws.{length-range, range-add, range_at}
use Rattle.byte_list.proofs.PutLaws.{put_parts}
use Rattle.binlog_text.specs.Cipher.{with_length, without_length}

-- the parts of an event before and after its length
pub length-without : (e : List ℕ) → 13 ≤ length e → length (without_length e) + 4 ≡ length e
length-without e long =
    omega (arith, length-append (range 4 5 e) (take 4 e ++ drop 13 e), length-append (take 4 e) (drop 13 e), length-range 4 5 e (omega arith), length-take 4 e, length-drop 13 e)

pub length-with : (rest bytes : List ℕ) → length (with_length rest bytes) ≡ length (range 5 4 rest) + (length (take 5 rest) + (length bytes + length (drop 9 rest)))
length-with rest bytes =
    omega (arith, length-append (range 5 4 rest) (take 5 rest ++ (bytes ++ drop 9 rest)), length-append (take 5 rest) (bytes ++ drop 9 rest), length-append bytes (drop 9 rest))

-- an event of 19 bytes or more has at least 15 behind its time
pub rest_long : (rest bytes : List ℕ) → length bytes ≡ 4 → 19 ≤ length (with_length rest bytes) → 15 ≤ length rest
rest_long rest bytes four long =
    omega (arith, length-with rest bytes, length-take 4 (drop 5 rest), length-drop 5 rest, length-take 5 rest, length-drop 9 rest)

-- four parts that are joined
module _ (t a l d : List ℕ) (et : length t ≡ 4) (ea : length a ≡ 5) (el : length l ≡ 4) where
  abbrev joined : List ℕ
  joined = t ++ (a ++ (l ++ d))

  pub take-joined : take 4 joined ≡ t
  take-joined = take_at t (a ++ (l ++ d)) 4 et

  pub drop_9-joined : drop 9 joined ≡ l ++ d
  drop_9-joined = sym (drop-drop 5 4 joined) ∙ ap (drop 5) (drop_at t (a ++ (l ++ d)) 4 et) ∙ drop_at a (l ++ d) 5 ea

  pub range_9-joined : range 9 4 joined ≡ l
  range_9-joined = ap (take 4) drop_9-joined ∙ take_at l d 4 el

  pub drop_13-joined : drop 13 joined ≡ d
  drop_13-joined = sym (drop-drop 4 9 joined) ∙ ap (drop 4) drop_9-joined ∙ drop_at l d 4 el

  pub range_4-joined : range 4 5 joined ≡ a
  range_4-joined = range_at t a (l ++ d) 4 5 et ea

  pub without-joined : without_length joined ≡ a ++ (t ++ d)
  without-joined = λ i. range_4-joined i ++ (take-joined i ++ drop_13-joined i)

module _ (rest bytes : List ℕ) (long : 9 ≤ length rest) (four : length bytes ≡ 4) where
  -- what was put together comes apart
  pub without-with : without_length (with_length rest bytes) ≡ rest
  without-with =
      without-joined (range 5 4 rest) (take 5 rest) bytes (drop 9 rest) (length-range 5 4 rest (omega arith)) (omega (arith, length-take 5 rest)) four
      ∙ ap (λ (x : List ℕ). take 5 rest ++ x) (ap (λ (x : List ℕ). range 5 4 rest ++ x) (sym (drop-drop 4 5 rest)) ∙ take-append-drop 4 (drop 5 rest))
      ∙ take-append-drop 5 rest

  pub range-with : range 9 4 (with_length rest bytes) ≡ bytes
  range-with = range_9-joined (range 5 4 rest) (take 5 rest) bytes (drop 9 rest) (length-range 5 4 rest (omega arith)) (omega (arith, length-take 5 rest)) four

-- and what came apart is put together again
pub with-without : (e : List ℕ) → 13 ≤ length e → with_length (without_length e) (range 9 4 e) ≡ e
with-without e long =
    let a = range 4 5 e in
    let t = take 4 e in
    let d = drop 13 e in
    let ea : length a ≡ 5 = length-range 4 5 e (omega arith) in
    let et : length t ≡ 4 = omega (arith, length-take 4 e) in
    let third : drop 9 (a ++ (t ++ d)) ≡ d = sym (drop-drop 4 5 (a ++ (t ++ d))) ∙ ap (drop 4) (drop_at a (t ++ d) 5 ea) ∙ drop_at t d 4 et in
    (λ i. range_at a t d 5 4 ea et i ++ (take_at a (t ++ d) 5 ea i ++ (range 9 4 e ++ third i)))
    ∙ ap (λ (x : List ℕ). t ++ (a ++ x)) (ap (λ (x : List ℕ). range 9 4 e ++ x) (sym (drop-drop 4 9 e)) ∙ take-append-drop 4 (drop 9 e))
    ∙ ap (λ (x : List ℕ). t ++ x) (ap (λ (x : List ℕ). a ++ x) (sym (drop-drop 5 4 e)) ∙ take-append-drop 5 (drop 4 e))
    ∙ take-append-drop 4 e

-- the time copied over the length
pub hidden : (e : List ℕ) → 13 ≤ length e → put 9 (range 0 4 e) e ≡ take 4 e ++ without_length e
hidden e long =
    let four : length (range 0 4 e) ≡ 4 = length-range 0 4 e (omega arith) in
    put_parts 9 (range 0 4 e) e
    ∙ (λ i. range-add 0 4 5 e i ++ (range 0 4 e ++ drop (9 + four i) e))
    ∙ append_assoc (take 4 e) (range 4 5 e) (take 4 e ++ drop 13 e)

-- and what then stands behind the time
pub behind : (e h : List ℕ) → 13 ≤ length e → h ≡ take 4 e ++ without_length e → drop 4 h ≡ without_length e
behind e h long is = ap (drop 4) is ∙ drop_at (take 4 e) (without_length e) 4 (omega (arith, length-take 4 e))

-- what stands in the length's place moved to the front, and the length put there
pub shown_step : (e bytes : List ℕ) → 13 ≤ length e → length bytes ≡ 4 → put 9 bytes (put 0 (range 9 4 e) e) ≡ with_length (drop 4 e) bytes
shown_step e bytes long four =
    let m = range 9 4 e in
    let d = drop 4 e in
    let em : length m ≡ 4 = length-range 9 4 e (omega arith) in
    let first : put 0 m e ≡ m ++ d = put_parts 0 m e ∙ ap (λ (n : ℕ). m ++ drop (0 + n) e) em in
    let front : take 9 (m ++ d) ≡ m ++ take 5 d = ap (λ (n : ℕ). take (n + 5) (m ++ d)) (sym em) ∙ take-append-add m d 5 in
    let back : drop (9 + length bytes) (m ++ d) ≡ drop 9 d = ap (λ (n : ℕ). drop (9 + n) (m ++ d)) four ∙ ap (λ (n : ℕ). drop (n + 9) (m ++ d)) (sym em) ∙ drop-append-add m d 9 in
    let moved : m ≡ range 5 4 d = ap (take 4) (sym (drop-drop 5 4 e)) in
    ap (put 9 bytes) first
    ∙ put_parts 9 bytes (m ++ d)
    ∙ (λ i. front i ++ (bytes ++ back i))
    ∙ append_assoc m (take 5 d) (bytes ++ drop 9 d)
    ∙ ap (λ (x : List ℕ). x ++ (take 5 d ++ (bytes ++ drop 9 d))) moved

pub bytes_without : (e : List ℕ) → AreBytes e → AreBytes (without_length e)
bytes_without e b =
    bytes_append (range 4 5 e) (take 4 e ++ drop 13 e) (bytes_range 4 5 e b) (bytes_append (take 4 e) (drop 13 e) (bytes_take 4 e b) (bytes_drop 13 e b))
