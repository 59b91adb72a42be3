-- A line's words that can stand have no fault, and words that can't have one.
use Rattle.std.proofs.Common.{◌≡◌, ◌⊎◌, ℕ, ◌<◌, ◌≤◌, ◌^◌, List, [], ◌∷◌, ap, sym, ◌∙◌, subst, inl, inr, refl, arith, drop}
use Rattle.script_core.specs.Words.{Word, IsNumber, NotNumber}
use Rattle.script_core.specs.Batches.{IsOut}
use Rattle.script_core.specs.Fields.{Field, Numeral, PageType, Bytes, Byte, FreeBatch, HeldBatch, End, Takes, FitsField, Misfit, FaultAt, Passes, FaultIn}
use Rattle.script_core.specs.declared.act.Act.{Act}
use Rattle.script_core.specs.declared.fault.LineFault.{LineFault}
use Rattle.script_core.specs.declared.fault.LineFault.TheVariants.{Missing}
use Rattle.script_core.proofs.NumberLemmas.{number_numeral}

-- a number is no word that isn't one
no_number : (word : Word) (low high n : ℕ) (kind : LineFault) → high < 2 ^ 32 → IsNumber word low high n → NotNumber word low high kind → ⊥
no_number word low high n kind top is (inl (named, not)) = not (number_numeral word low high n top is).0
no_number word low high n kind top is (inr (named, numeral, outside)) =
    let value = (number_numeral word low high n top is).1 in
    elim outside [ inl less ↦ omega (arith, less, value, is.from) | inr more ↦ omega (arith, more, value, is.to) ]

one_not_number : (word : Word) (low high : ℕ) (a b : LineFault) → NotNumber word low high a → NotNumber word low high b → a ≡ b
one_not_number word low high a b (inl x) (inl y) = x.0 ∙ sym y.0
one_not_number word low high a b (inl x) (inr y) = absurd (x.1 y.1)
one_not_number word low high a b (inr x) (inl y) = absurd (y.1 x.1)
one_not_number word low high a b (inr x) (inr y) = x.0 ∙ sym y.0

wider : (word : Word) (low high n : ℕ) → high ≤ 65535 → IsNumber word low high n → IsNumber word 0 65535 n
wider word low high n top is = record { spelled = is.spelled; from = omega arith; to = omega (arith, is.to, top) }

same_value : (word : Word) (low high m n l h : ℕ) → high < 2 ^ 32 → h < 2 ^ 32 → IsNumber word low high m → IsNumber word l h n → m ≡ n
same_value word low high m n l h top bound p q = sym (number_numeral word low high m top p).1 ∙ (number_numeral word l h n bound q).1

-- the bounds of a field's number are those of a u32
abbrev pub IsBounded : Field → Type 0
IsBounded (Numeral low high) = high < 2 ^ 32
IsBounded _ = Unit {0}

abbrev pub AreBounded : List Field → Type 0
AreBounded [] = Unit {0}
AreBounded (field ∷ fields) = IsBounded field × AreBounded fields

module _ (before : List Act) where
  fits_no_misfit : (field : Field) (word : Word) (kind : LineFault) → IsBounded field → FitsField before field word → Misfit before field word kind → ⊥
  unfolding FitsField Misfit
  fits_no_misfit (Numeral low high) word kind bound fits misfit = no_number word low high fits.0 kind bound fits.1 misfit
  fits_no_misfit PageType word kind bound fits (inl not) = no_number word 0 65535 fits.0 kind (omega arith) fits.1.number not
  fits_no_misfit PageType word kind bound fits (inr (named, (n, is))) =
      let same = same_value word 0 65535 fits.0 n 8 9 (omega arith) (omega arith) fits.1.number is in
      elim fits.1.other [ inl less ↦ omega (arith, less, same, is.from) | inr more ↦ omega (arith, more, same, is.to) ]
  fits_no_misfit Bytes word kind bound fits misfit = misfit.1 fits.0 fits.1
  fits_no_misfit Byte word kind bound fits misfit = misfit.1 fits.0 fits.1
  fits_no_misfit FreeBatch word kind bound fits (inl not) = no_number word 1 16 fits.0 kind (omega arith) fits.1 not
  fits_no_misfit FreeBatch word kind bound fits (inr (named, (b, is, out))) = fits.2 (subst (λ n. IsOut n before) (same_value word 1 16 b fits.0 1 16 (omega arith) (omega arith) is fits.1) out)
  fits_no_misfit HeldBatch word kind bound fits (inl not) = no_number word 1 16 fits.0 kind (omega arith) fits.1 not
  fits_no_misfit HeldBatch word kind bound fits (inr (named, (b, is, free))) = free (subst (λ n. IsOut n before) (same_value word 1 16 fits.0 b 1 16 (omega arith) (omega arith) fits.1 is) fits.2)
  fits_no_misfit End word kind bound fits misfit = fits

  one_misfit : (field : Field) (word : Word) (a b : LineFault) → IsBounded field → Misfit before field word a → Misfit before field word b → a ≡ b
  unfolding Misfit
  one_misfit (Numeral low high) word a b bound p q = one_not_number word low high a b p q
  one_misfit PageType word a b bound (inl p) (inl q) = one_not_number word 0 65535 a b p q
  one_misfit PageType word a b bound (inl p) (inr (named, (n, is))) = absurd (no_number word 0 65535 n a (omega arith) (wider word 8 9 n (omega arith) is) p)
  one_misfit PageType word a b bound (inr (named, (n, is))) (inl q) = absurd (no_number word 0 65535 n b (omega arith) (wider word 8 9 n (omega arith) is) q)
  one_misfit PageType word a b bound (inr p) (inr q) = p.0 ∙ sym q.0
  one_misfit Bytes word a b bound p q = p.0 ∙ sym q.0
  one_misfit Byte word a b bound p q = p.0 ∙ sym q.0
  one_misfit FreeBatch word a b bound (inl p) (inl q) = one_not_number word 1 16 a b p q
  one_misfit FreeBatch word a b bound (inl p) (inr (named, (n, is, out))) = absurd (no_number word 1 16 n a (omega arith) is p)
  one_misfit FreeBatch word a b bound (inr (named, (n, is, out))) (inl q) = absurd (no_number word 1 16 n b (omega arith) is q)
  one_misfit FreeBatch word a b bound (inr p) (inr q) = p.0 ∙ sym q.0
  one_misfit HeldBatch word a b bound (inl p) (inl q) = one_not_number word 1 16 a b p q
  one_misfit HeldBatch word a b bound (inl p) (inr (named, (n, is, out))) = absurd (no_number word 1 16 n a (omega arith) is p)
  one_misfit HeldBatch word a b bound (inr (named, (n, is, out))) (inl q) = absurd (no_number word 1 16 n b (omega arith) is q)
  one_misfit HeldBatch word a b bound (inr p) (inr q) = p.0 ∙ sym q.0
  one_misfit End word a b bound p q = p ∙ sym q

  -- a field that asks for a word, and one that ends the line
  passes_word : (field : Field) (words rest : List Word) → Passes before field words rest → Takes words rest (FitsField before field) ⊎ ((field ≡ End) × (words ≡ []) × (rest ≡ []))
  unfolding Passes
  passes_word (Numeral low high) words rest passes = inl passes
  passes_word PageType words rest passes = inl passes
  passes_word Bytes words rest passes = inl passes
  passes_word Byte words rest passes = inl passes
  passes_word FreeBatch words rest passes = inl passes
  passes_word HeldBatch words rest passes = inl passes
  passes_word End words rest passes = inr (refl, passes.0, passes.1)

  fault_word : (field : Field) (word : Word) (rest : List Word) (kind : LineFault) → FaultAt before field (word ∷ rest) kind → Misfit before field word kind
  unfolding FaultAt
  fault_word (Numeral low high) word rest kind fault = fault
  fault_word PageType word rest kind fault = fault
  fault_word Bytes word rest kind fault = fault
  fault_word Byte word rest kind fault = fault
  fault_word FreeBatch word rest kind fault = fault
  fault_word HeldBatch word rest kind fault = fault
  fault_word End word rest kind fault = fault

  fault_none : (field : Field) (a : LineFault) → FaultAt before field [] a → (a ≡ Missing) × (field ≡ End → ⊥)
  unfolding FaultAt
  fault_none (Numeral low high) a fault = (fault, λ e. cc e)
  fault_none PageType a fault = (fault, λ e. cc e)
  fault_none Bytes a fault = (fault, λ e. cc e)
  fault_none Byte a fault = (fault, λ e. cc e)
  fault_none FreeBatch a fault = (fault, λ e. cc e)
  fault_none HeldBatch a fault = (fault, λ e. cc e)
  fault_none End a fault = absurd fault

  pub no_fault_there : (field : Field) (words rest : List Word) (kind : LineFault) → IsBounded field → Passes before field words rest → FaultAt before field words kind → ⊥
  no_fault_there field words rest kind bound passes fault =
      elim (passes_word field words rest passes) [
        | inl t ↦ fits_no_misfit field t.word kind bound t.has (fault_word field t.word rest kind (subst (λ ws. FaultAt before field ws kind) t.begins fault))
        | inr end ↦ (fault_none field kind (subst (λ ws. FaultAt before field ws kind) end.1 fault)).1 end.0
      ]

  pub one_fault_there : (field : Field) (words : List Word) (a b : LineFault) → IsBounded field → FaultAt before field words a → FaultAt before field words b → a ≡ b
  one_fault_there field [] a b bound p q = (fault_none field a p).0 ∙ sym (fault_none field b q).0
  one_fault_there field (word ∷ rest) a b bound p q = one_misfit field word a b bound (fault_word field word rest a p) (fault_word field word rest b q)

  pub one_rest : (field : Field) (words r s : List Word) → Passes before field words r → Passes before field words s → r ≡ s
  one_rest field words r s p q =
      elim (passes_word field words r p) [
        | inl t ↦ elim (passes_word field words s q) [
          | inl u ↦ ap (λ ws. drop 1 ws) (sym t.begins ∙ u.begins)
          | inr end ↦ absurd (nothing t.word r (sym t.begins ∙ end.1))
        ]
        | inr end ↦ elim (passes_word field words s q) [
          | inl u ↦ absurd (nothing u.word s (sym u.begins ∙ end.1))
          | inr other ↦ end.2 ∙ sym other.2
        ]
      ]
    where
      nothing : (w : Word) (ws : List Word) → w ∷ ws ≡ [] → ⊥
      nothing w ws e = cc e

  -- all fields can stand
  unfoldable pub AllPass : List Field → List Word → Type 0
  AllPass [] words = Unit {0}
  AllPass (field ∷ fields) words = (rest : List Word) × Passes before field words rest × AllPass fields rest

  pub no_fault : (fields : List Field) (words : List Word) (kind : LineFault) → AreBounded fields → AllPass fields words → FaultIn before fields words kind → ⊥
  unfolding FaultIn AllPass
  no_fault [] words kind bound pass fault = fault
  no_fault (field ∷ fields) words kind bound pass (inl fault) = no_fault_there field words pass.0 kind bound.0 pass.1 fault
  no_fault (field ∷ fields) words kind bound pass (inr (rest, passes, fault)) =
      no_fault fields rest kind bound.1 (subst (AllPass fields) (one_rest field words pass.0 rest pass.1 passes) pass.2) fault

  pub one_fault : (fields : List Field) (words : List Word) (a b : LineFault) → AreBounded fields → FaultIn before fields words a → FaultIn before fields words b → a ≡ b
  unfolding FaultIn
  one_fault [] words a b bound p q = absurd p
  one_fault (field ∷ fields) words a b bound (inl p) (inl q) = one_fault_there field words a b bound.0 p q
  one_fault (field ∷ fields) words a b bound (inl p) (inr (rest, passes, q)) = absurd (no_fault_there field words rest a bound.0 passes p)
  one_fault (field ∷ fields) words a b bound (inr (rest, passes, p)) (inl q) = absurd (no_fault_there field words rest b bound.0 passes q)
  one_fault (field ∷ fields) words a b bound (inr (rest, passes, p)) (inr (left, also, q)) =
      one_fault fields left a b bound.1 (subst (λ ws. FaultIn before fields ws a) (one_rest field words rest left passes also) p) q
