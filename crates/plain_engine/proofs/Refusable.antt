-- The unsynced writes are blocks, which are refused once they are torn.
use Rattle.std.proofs.Common.{◌≡◌, ℕ, ◌-◌, ◌*◌, ◌<◌, ◌≤◌, Bool, true, false, true≢false, not, if◌then◌else◌, List, [], ◌∷◌, ◌++◌, length, take, drop, refl, sym, ◌∙◌, ap, subst, inl, inr, ⊎_elim, arith}
use Rattle.std.proofs.lemmas.Bool.{cases_eq, cases_lt}
use Rattle.std.proofs.lemmas.Bool.Decides.{nat_tests}
use Rattle.std.proofs.Math.ListN.{length-set}
use Rattle.std.specs.Int.{to_be_bytes, w32}
use Rattle.bytes_core.specs.Crc.{crc32c}
use Rattle.bytes_core.specs.LastByte.{EndsInCrc32c}
use Rattle.bytes_core.proofs.LastByte.{inverted-not_ends, ends-append}
use Rattle.disk_model.specs.Event.{Event, same_file}
use Rattle.disk_model.specs.Crash.{Pending, unsynced_writes, other_writes, synced_bytes, torn_bytes}
use Rattle.disk_model.specs.Lucky.{IsSameOrApart, AreApart, AreRefusable}
use Rattle.disk_model.specs.declared.names.FileName.{FileName}
use Rattle.disk_model.specs.declared.names.FileName.TheVariants.{Log}
use Rattle.disk_model.proofs.FilesLemmas.{same_file-≡}
use Rattle.plain_engine.specs.Block.{log_bytes, plain_sealed, same_bytes, sums_up, IsLogBlock, block_head}
use Rattle.plain_engine.specs.Log.{ring_place}
use Rattle.plain_engine.specs.Stands.{passes, IsBlockWrite, AreBlockWrites, AllRefusable}
use Rattle.plain_engine.specs.Layer.{PlainMoment}
use Rattle.plain_engine.proofs.Places.{place_high}
use Rattle.plain_engine.proofs.Sums.{IsLogBlock-length}

same_bytes-≡ : (xs ys : List ℕ) → same_bytes xs ys ≡ true → xs ≡ ys
same_bytes-≡ [] [] same = refl
same_bytes-≡ [] (y ∷ ys) same = absurd (true≢false (sym same))
same_bytes-≡ (x ∷ xs) [] same = absurd (true≢false (sym same))
same_bytes-≡ (x ∷ xs) (y ∷ ys) same =
    let rest : same_bytes xs ys ≡ true = grind (arith, nat_tests) in
    let here : x ≡ y = grind (arith, nat_tests) in
    cons here (same_bytes-≡ xs ys rest)
  where
    cons : {a b : ℕ} {xs ys : List ℕ} → a ≡ b → xs ≡ ys → a ∷ xs ≡ b ∷ ys
    cons {a} {b} {xs} {ys} e es = ap (λ (n : ℕ). n ∷ xs) e ∙ ap (λ (l : List ℕ). b ∷ l) es

-- a block that sums up ends in its checksum
sums_up-ends : (block : List ℕ) → length block ≡ 4096 → sums_up block ≡ true → EndsInCrc32c block
unfolding sums_up
sums_up-ends block size sums =
    let at : 4092 ≡ length block - 4 = omega (arith, size) in
    record {
      long = omega (arith, size);
      sum = subst (λ (n : ℕ). drop n block ≡ to_be_bytes w32 (crc32c (take n block))) at (same_bytes-≡ _ _ sums);
    }

IsLogBlock-ends : {number : ℕ} {text block : List ℕ} → IsLogBlock number text block → EndsInCrc32c block
unfolding plain_sealed
IsLogBlock-ends {number} {text} b = subst EndsInCrc32c (sym b.is) (ends-append (block_head number (length text) ++ text ++ b.rest))

-- a block whose last byte is inverted doesn't sum up
torn_refused : (bytes : List ℕ) → length bytes ≡ 4096 → EndsInCrc32c bytes → sums_up (torn_bytes bytes) ≡ false
torn_refused bytes size ends = by (sums_up (torn_bytes bytes)) refl
  where
    by : (b : Bool) → sums_up (torn_bytes bytes) ≡ b → sums_up (torn_bytes bytes) ≡ false
    by true is = absurd (inverted-not_ends bytes ends (sums_up-ends (torn_bytes bytes) (length-set bytes (length bytes - 1) _ ∙ size) is))
    by false is = is

-- the write of a ring block
pub block_write : (number : ℕ) (text bytes : List ℕ) → IsLogBlock number text bytes → IsBlockWrite (record { file = Log; at = ring_place number * 4096; bytes = bytes })
block_write number text bytes b = record { file = refl; place = ring_place number; within = place_high number; at = refl; size = IsLogBlock-length b; sum = IsLogBlock-ends b }

pub others_are : (f : FileName) (ws : List Pending) → AreBlockWrites ws → AreBlockWrites (other_writes f ws)
others_are f [] are = tt
others_are f (w ∷ ws) are = by (others_are f ws are.1) (not (same_file f w.file))
  where
    by : AreBlockWrites (other_writes f ws) → (b : Bool) → AreBlockWrites (if b then w ∷ other_writes f ws else other_writes f ws)
    by rest true = (are.0, rest)
    by rest false = rest

same_or_apart : (v w : Pending) → IsBlockWrite v → IsBlockWrite w → IsSameOrApart v.at (length v.bytes) w.at (length w.bytes)
same_or_apart v w a b = ⊎_elim
    (λ (e : a.place ≡ b.place). inl (a.at ∙ ap (λ (n : ℕ). n * 4096) e ∙ sym b.at, a.size ∙ sym b.size))
    (λ (ne : a.place ≡ b.place → ⊥). ⊎_elim
    (λ (lt : a.place < b.place). inr (inl (omega (arith, lt, a.at, b.at, a.size))))
    (λ (ge : b.place ≤ a.place). inr (inr (omega (arith, ge, ne, a.at, b.at, b.size))))
    (cases_lt a.place b.place))
    (cases_eq a.place b.place)

are_apart : (f : FileName) (v : Pending) (ws : List Pending) → IsBlockWrite v → AreBlockWrites ws → AreApart f v.at (length v.bytes) ws
are_apart f v [] a are = tt
are_apart f v (w ∷ ws) a are = (λ same. same_or_apart v w a are.0, are_apart f v ws a are.1)

are_refusable : (f : FileName) (size : ℕ) → (f ≡ Log → size ≡ log_bytes) → (ws : List Pending) → AreBlockWrites ws → AreRefusable f (passes f) size ws
are_refusable f size is [] are = tt
are_refusable f size is (w ∷ ws) are =
    let b = are.0 in (
      λ same.
          let log : f ≡ Log = same_file-≡ f w.file same ∙ b.file in (
            omega (arith, is log, b.at, b.size, b.within),
            subst (λ (g : FileName). passes g (torn_bytes w.bytes) ≡ false) (sym log) (torn_refused w.bytes b.size b.sum),
            are_apart f w ws b are.1,
          ),
      are_refusable f size is ws are.1,
    )

pub all_refusable : (blocks : List (List ℕ)) (settled acked : ℕ) (es : List Event) → PlainMoment blocks settled acked es → AllRefusable es
all_refusable blocks settled acked es m = λ f. are_refusable f (length (synced_bytes f es)) (λ is. ap (λ (g : FileName). length (synced_bytes g es)) is ∙ m.synced.size) (unsynced_writes es) m.pending
