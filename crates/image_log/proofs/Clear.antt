-- Places of the ring without late blocks.
use Rattle.std.proofs.Common.{◌≡◌, ℕ, ◌+◌, ◌<◌, ◌≤◌, true, false, true≢false, List, sym, ap, subst, ◌∙◌, arith, ⊎_elim}
use Rattle.std.proofs.lemmas.Bool.{cases_lt}
use Rattle.places.specs.Places.{place}
use Rattle.redo_text.specs.Reading.{number_of}
use Rattle.store_files.specs.RingBlock.{is_ring_block}
use Rattle.store_files.proofs.RingBlocks.{block_number}

pub clear_more : (file : List ℕ) (n i : ℕ) → ((j m : ℕ) → j < i → n ≤ m → is_ring_block m (place 4096 (3 + j) file) ≡ true → ⊥) → ((m : ℕ) → n ≤ m → is_ring_block m (place 4096 (3 + i) file) ≡ true → ⊥)
    → (j m : ℕ) → j < i + 1 → n ≤ m → is_ring_block m (place 4096 (3 + j) file) ≡ true → ⊥
clear_more file n i before here j m lt le valid =
    ⊎_elim (λ (l : j < i). before j m l le valid)
    (λ (ge : i ≤ j). let e : j ≡ i = omega (arith, lt, ge) in here m le (subst (λ (k : ℕ). is_ring_block m (place 4096 (3 + k) file) ≡ true) e valid)) (cases_lt j i)

-- a block is a valid one of no other number than its own
pub other_number : (x : List ℕ) (found : ℕ) → found ≡ number_of x → is_ring_block found x ≡ false → (m : ℕ) → is_ring_block m x ≡ true → ⊥
other_number x found is none m valid = true≢false (sym valid ∙ ap (λ (k : ℕ). is_ring_block k x) (sym (block_number m x valid) ∙ sym is) ∙ none)

pub lower_number : (x : List ℕ) (found n : ℕ) → found ≡ number_of x → found < n → (m : ℕ) → n ≤ m → is_ring_block m x ≡ true → ⊥
lower_number x found n is lt m le valid = let e : number_of x ≡ m = block_number m x valid in omega (arith, is, e, lt, le)
