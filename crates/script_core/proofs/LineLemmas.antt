-- Fields in a row: the words of each, and the first that can't stand.
use Rattle.std.proofs.Common.{◌≡◌, ℕ, List, ◌∷◌, ap, inl, inr}
use Rattle.script_core.specs.Words.{Word, IsNumber}
use Rattle.script_core.specs.Batches.{IsOut}
use Rattle.script_core.specs.Fields.{Field, Numeral, FreeBatch, HeldBatch, Takes, FitsField, FaultAt, Passes, FaultIn}
use Rattle.script_core.specs.declared.act.Act.{Act}
use Rattle.script_core.specs.declared.fault.LineFault.{LineFault}

-- one word more in front
pub onto : (word : Word) {a b : List Word} → a ≡ b → ◌≡◌ {A = List Word} (word ∷ a) (word ∷ b)
onto word is = ap (λ ws. word ∷ ws) is

module _ (before : List Act) where
  -- the first field can't stand
  pub here : (field : Field) (fields : List Field) (words : List Word) (kind : LineFault) → FaultAt before field words kind → FaultIn before (field ∷ fields) words kind
  unfolding FaultIn
  here field fields words kind fault = inl fault

  behind : (field : Field) (fields : List Field) (words rest : List Word) (kind : LineFault) → Passes before field words rest → FaultIn before fields rest kind → FaultIn before (field ∷ fields) words kind
  unfolding FaultIn
  behind field fields words rest kind passes fault = inr (rest, passes, fault)

  pub passes_number : {low high n : ℕ} {words rest : List Word} → Takes words rest (λ word. IsNumber word low high n) → Passes before (Numeral low high) words rest
  unfolding Passes FitsField
  passes_number {low} {high} {n} t = record { word = t.word; begins = t.begins; has = (n, t.has) }

  -- a number stands first, and what is wrong is behind it
  pub behind_number : {low high n : ℕ} {words rest : List Word} → Takes words rest (λ word. IsNumber word low high n) → (fields : List Field) (kind : LineFault) → FaultIn before fields rest kind → FaultIn before (Numeral low high ∷ fields) words kind
  behind_number {low} {high} {n} {words} {rest} t fields kind fault = behind (Numeral low high) fields words rest kind (passes_number t) fault

  pub behind_free : {b : ℕ} {words rest : List Word} → Takes words rest (λ word. IsNumber word 1 16 b) → (IsOut b before → ⊥) → (fields : List Field) (kind : LineFault) → FaultIn before fields rest kind → FaultIn before (FreeBatch ∷ fields) words kind
  unfolding Passes FitsField
  behind_free {b} {words} {rest} t free fields kind fault = behind FreeBatch fields words rest kind (record { word = t.word; begins = t.begins; has = (b, t.has, free) }) fault

  pub behind_held : {b : ℕ} {words rest : List Word} → Takes words rest (λ word. IsNumber word 1 16 b) → IsOut b before → (fields : List Field) (kind : LineFault) → FaultIn before fields rest kind → FaultIn before (HeldBatch ∷ fields) words kind
  unfolding Passes FitsField
  behind_held {b} {words} {rest} t held fields kind fault = behind HeldBatch fields words rest kind (record { word = t.word; begins = t.begins; has = (b, t.has, held) }) fault
