-- The text of a mini-transaction, block by block.
use Rattle.std.proofs.Common.{◌≡◌, ◌≢◌, ℕ, zero, suc, ◌+◌, ◌-◌, ◌<◌, ◌≤◌, List, [], ◌++◌, Some, None, refl, sym, ap, subst, ◌∙◌, arith, append_assoc, ⊎_elim}
use Rattle.std.proofs.lemmas.Bool.{cases_lt}
use Rattle.std.proofs.lemmas.List.{append-nil}
use Rattle.std.proofs.lemmas.Option.{none-some}
use Rattle.key_ring.specs.Ring.{RingEntry}
use Rattle.key_ring.specs.Local.{local_key}
use Rattle.redo_text.specs.Reading.{block_version}
use Rattle.store_files.specs.Header.{HeldHeader}
use Rattle.store_files.specs.RingBlock.{block_text}
use Rattle.store_files.specs.Run.{block_at, HasText}
use Rattle.image_log.specs.Logs.{IsBlockText, LacksKey, block_key}

module _ (header : HeldHeader) (keys : List RingEntry) (file : List ℕ) where
  -- the text of the first i of so many blocks: what the rest has, behind it, is the text of all, and the text of all has such a rest
  pub record Reads (number count : ℕ) (text : List ℕ) (i : ℕ) : Type 0 where
    pub more : (rest : List ℕ) → HasText header keys file (number + i) (count - i) rest → HasText header keys file number count (text ++ rest)
    pub back : (all : List ℕ) → HasText header keys file number count all → (rest : List ℕ) × HasText header keys file (number + i) (count - i) rest
    pub keyed : (j : ℕ) → j < i → block_key header keys file (number + j) ≢ None

  pub reads_none : (number count : ℕ) → Reads number count [] 0
  reads_none number count =
      let n : number + 0 ≡ number = omega arith in
      let k : count - 0 ≡ count = omega arith in
      let same : (rest : List ℕ) → HasText header keys file (number + 0) (count - 0) rest ≡ HasText header keys file number count rest = λ rest i. HasText header keys file (n i) (k i) rest in record {
        more = λ rest has. subst (λ (X : Type 0). X) (same rest) has;
        back = λ all has. (all, subst (λ (X : Type 0). X) (sym (same all)) has);
        keyed = λ j lt. absurd (omega (arith, lt));
      }

  abbrev here : ℕ → List ℕ
  here n = block_at header.blocks file n

  -- what stands behind the first block
  tail_of : (n k m : ℕ) (rest : List ℕ) → k ≡ suc m → HasText header keys file n k rest → (tail : List ℕ) × HasText header keys file (n + 1) m tail
  tail_of n k m rest is has = by (subst (λ (j : ℕ). HasText header keys file n j rest) is has)
    where
      by : HasText header keys file n (suc m) rest → (tail : List ℕ) × HasText header keys file (n + 1) m tail
      by (local, tail, key, has, is) = (tail, has)

  -- one block in front
  front : (n k m : ℕ) (local rest : List ℕ) → k ≡ suc m → local_key keys 1 (block_version (here n)) header.salt ≡ Some local → HasText header keys file (n + 1) m rest → HasText header keys file n k (block_text header.algorithm local (here n) ++ rest)
  front n k m local rest is key has = subst (λ (j : ℕ). HasText header keys file n j (block_text header.algorithm local (here n) ++ rest)) (sym is) (local, rest, key, has, refl)

  pub reads_more : (number count : ℕ) (text part : List ℕ) (i : ℕ) → i < count → Reads number count text i → IsBlockText header keys (here (number + i)) (Some part) → Reads number count (text ++ part) (i + 1)
  reads_more number count text part i lt reads (local, key, same) = record {
    more = λ rest has.
        let is : count - i ≡ suc (count - (i + 1)) = omega arith in
        let f : number + (i + 1) ≡ number + i + 1 = omega arith in
        let moved : HasText header keys file (number + i + 1) (count - (i + 1)) rest = subst (λ (n : ℕ). HasText header keys file n (count - (i + 1)) rest) f has in
        let whole = reads.more (block_text header.algorithm local (here (number + i)) ++ rest) (front (number + i) (count - i) (count - (i + 1)) local rest is key moved) in
        subst (λ (xs : List ℕ). HasText header keys file number count xs) (ap (λ (x : List ℕ). text ++ (x ++ rest)) (sym same) ∙ sym (append_assoc text part rest)) whole;
    back = λ all has.
        let is : count - i ≡ suc (count - (i + 1)) = omega arith in
        let f : number + i + 1 ≡ number + (i + 1) = omega arith in
        let r = reads.back all has in
        let t = tail_of (number + i) (count - i) (count - (i + 1)) r.0 is r.1 in
        (t.0, subst (λ (n : ℕ). HasText header keys file n (count - (i + 1)) t.0) f t.1);
    keyed = λ j below.
        ⊎_elim (λ (l : j < i). reads.keyed j l)
        (λ (ge : i ≤ j). let e : i ≡ j = omega (arith, below, ge) in subst (λ (n : ℕ). block_key header keys file (number + n) ≢ None) e (λ none. none-some local (sym none ∙ key))) (cases_lt j i);
  }

  pub reads_all : (number count : ℕ) (text : List ℕ) → Reads number count text count → HasText header keys file number count text
  reads_all number count text reads =
      let e : count - count ≡ 0 = omega arith in
      subst (λ (xs : List ℕ). HasText header keys file number count xs) (append-nil text) (reads.more [] (subst (λ (k : ℕ). HasText header keys file (number + count) k []) (sym e) refl))

  -- a block whose key is missing
  pub reads_missing : (number count : ℕ) (text : List ℕ) (i version : ℕ) → i < count → Reads number count text i → version ≡ block_version (here (number + i)) → IsBlockText header keys (here (number + i)) None → LacksKey header keys file number count (number + i) version
  reads_missing number count text i version lt reads is none = record { index = i; within = lt; number_is = refl; version_is = is; none = none; before = reads.keyed }

  -- blocks with a text have all keys
  pub text_keyed : (n k i : ℕ) (text : List ℕ) → i < k → HasText header keys file n k text → block_key header keys file (n + i) ≢ None
  text_keyed n zero i text lt has none = absurd (omega (arith, lt))
  text_keyed n (suc k) zero text lt (local, rest, key, has, is) none = none-some local (sym (subst (λ (m : ℕ). block_key header keys file m ≡ None) (omega arith) none) ∙ key)
  text_keyed n (suc k) (suc i) text lt (local, rest, key, has, is) none = text_keyed (n + 1) k i rest (omega (arith, lt)) has (subst (λ (m : ℕ). block_key header keys file m ≡ None) (omega arith) none)
