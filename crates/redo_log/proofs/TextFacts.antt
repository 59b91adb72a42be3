-- The blocks that redo_text makes, as blocks of a ring: their text comes back.
use Rattle.std.proofs.Common.{◌≡◌, ℕ, ◌+◌, ◌-◌, ◌*◌, ◌^◌, ◌<◌, ◌≤◌, ⊎_elim, true, false, true≢false, nat_eq, List, length, drop, sym, ap, ◌∙◌, arith, length-drop}
use Rattle.std.proofs.lemmas.Bool.{cases_lt, eq-eqb}
use Rattle.std.proofs.lemmas.List.{take_all, length-take-le}
use Rattle.byte_list.specs.Bytes.{AreBytes}
use Rattle.byte_list.proofs.ByteLaws.{bytes_take, bytes_drop}
use Rattle.redo_text.specs.declared.key.RedoKey.{RedoKey}
use Rattle.redo_text.specs.Block.{block_count, nth_block, text_part}
use Rattle.redo_text.specs.Reading.{block_version, block_flags, is_first, is_last}
use Rattle.store_files.specs.RingBlock.{is_ring_block, block_text}
use Rattle.store_files.proofs.RingBlocks.{ring_block_back, ring_block_text}
use Rattle.redo_log.specs.Append.{IsRedoKey}

-- block k of a text
pub record IsNth (key : RedoKey) (first : ℕ) (text : List ℕ) (k : ℕ) (b : List ℕ) : Type 0 where
  pub valid : is_ring_block (first + k) b ≡ true
  pub version : block_version b ≡ key.version
  pub first_is : is_first (block_flags b) ≡ nat_eq k 0
  pub last_is : is_last (block_flags b) ≡ nat_eq (k + 1) (block_count text)
  pub text_is : block_text key.algorithm key.local b ≡ text_part text k

part_long : (text : List ℕ) (k : ℕ) → k < block_count text → (1 ≤ length (text_part text k)) × (length (text_part text k) ≤ 4076) × (nat_eq (k + 1) (block_count text) ≡ false → length (text_part text k) ≡ 4076)
part_long text k lt = ⊎_elim
    (λ (less : length rest < 4076).
    let e : length (text_part text k) ≡ length rest = ap length (take_all 4076 rest (omega (arith, less))) in
    (omega (arith, e, left, within), omega (arith, e, less), λ ne. absurd (omega (arith, less, left, further ne))))
    (λ (ge : 4076 ≤ length rest).
    let e : length (text_part text k) ≡ 4076 = length-take-le 4076 rest ge in
    (omega (arith, e), omega (arith, e), λ ne. e))
    (cases_lt (length rest) 4076)
  where
    rest : List ℕ
    rest = drop (4076 * k) text

    left : length rest ≡ length text - 4076 * k
    left = length-drop (4076 * k) text

    within : 4076 * k < length text
    within = omega (arith, lt)

    further : nat_eq (k + 1) (block_count text) ≡ false → 4076 * k + 4076 < length text
    further ne =
        let other : k + 1 ≡ block_count text → ⊥ = λ e. true≢false (sym (eq-eqb (k + 1) (block_count text) e) ∙ ne) in
        let more : k + 1 < block_count text = omega (arith, lt, other) in
        omega (arith, more)

pub nth_is : (key : RedoKey) → IsRedoKey key → (first : ℕ) (text : List ℕ) → AreBytes text → first + block_count text < 2 ^ 64 → (k : ℕ) → k < block_count text → length (nth_block key first text k) ≡ 4096 → IsNth key first text k (nth_block key first text k)
nth_is key keyed first text bytes small k lt long =
    let part : List ℕ = text_part text k in
    let p = part_long text k lt in
    let inner : AreBytes (text_part text k) = bytes_take 4076 (drop (4076 * k) text) (bytes_drop (4076 * k) text bytes) in
    let q = λ (e : nat_eq (k + 1) (block_count text) ≡ false). p.2 e in
    let t = ring_block_back key (first + k) (nat_eq k 0) (nat_eq (k + 1) (block_count text)) part long (omega (arith, small, lt)) keyed.some keyed.small p.0 p.1 q in
    record {
      valid = t.0;
      version = t.1;
      first_is = t.2;
      last_is = t.3;
      text_is = ring_block_text key (first + k) (nat_eq k 0) (nat_eq (k + 1) (block_count text)) part long (omega (arith, small, lt)) keyed.some keyed.small p.0 p.1 q keyed.cipher inner;
    }
