-- One field of a line: what stands first, and what is wrong where another word does.
use Rattle.std.proofs.Common.{◌≡◌, ℕ, List, [], ◌∷◌, sym, subst, inl, Result, Ok, Err, IfOk, IfErr}
use Rattle.script_core.specs.Words.{Word, NotNumber}
use Rattle.script_core.specs.Fields.{Field, Numeral, PageType, Bytes, Byte, FreeBatch, HeldBatch, End, Misfit, FaultAt, ForFault}
use Rattle.script_core.specs.declared.fault.LineError.{LineError}
use Rattle.script_core.specs.declared.fault.LineError.TheVariants.{Fault, OutOfMemory}
use Rattle.script_core.specs.declared.act.Act.{Act}
use Rattle.script_core.specs.declared.fault.LineFault.{LineFault}
use Rattle.script_core.specs.declared.fault.LineFault.TheVariants.{Missing}

-- each refusal of the one kind is one of the other
pub err_more : {T E : Type 0} (P Q : E → Type 0) (r : Result T E) → IfErr r P → ((e : E) → P e → Q e) → IfErr r Q
err_more P Q (Ok v) p more = tt
err_more P Q (Err e) p more = more e p

pub ok_more : {T E : Type 0} (P Q : T → Type 0) (r : Result T E) → IfOk r P → ((x : T) → P x → Q x) → IfOk r Q
ok_more P Q (Ok v) p more = more v p
ok_more P Q (Err e) p more = tt

pub fault_more : (P Q : LineFault → Type 0) (e : LineError) → ForFault e P → ((kind : LineFault) → P kind → Q kind) → ForFault e Q
fault_more P Q (Fault kind) p more = more kind p
fault_more P Q OutOfMemory p more = tt

-- a field that asks for a word
abbrev pub AsksWord : Field → Type 0
AsksWord End = ⊥
AsksWord _ = Unit {0}

module _ (before : List Act) where
  none_there : (field : Field) (kind : LineFault) → AsksWord field → kind ≡ Missing → FaultAt before field [] kind
  unfolding FaultAt
  none_there (Numeral low high) kind asks is = is
  none_there PageType kind asks is = is
  none_there Bytes kind asks is = is
  none_there Byte kind asks is = is
  none_there FreeBatch kind asks is = is
  none_there HeldBatch kind asks is = is
  none_there End kind asks is = absurd asks

  -- no word is left
  pub missing : (field : Field) (words : List Word) (kind : LineFault) → AsksWord field → words ≡ [] → kind ≡ Missing → FaultAt before field words kind
  missing field words kind asks none is = subst (λ ws. FaultAt before field ws kind) (sym none) (none_there field kind asks is)

  misfit_there : (field : Field) (word : Word) (rest : List Word) (kind : LineFault) → Misfit before field word kind → FaultAt before field (word ∷ rest) kind
  unfolding FaultAt
  misfit_there (Numeral low high) word rest kind misfit = misfit
  misfit_there PageType word rest kind misfit = misfit
  misfit_there Bytes word rest kind misfit = misfit
  misfit_there Byte word rest kind misfit = misfit
  misfit_there FreeBatch word rest kind misfit = misfit
  misfit_there HeldBatch word rest kind misfit = misfit
  misfit_there End word rest kind misfit = misfit

  -- the next word can't stand here
  pub misfits : (field : Field) (words : List Word) (word : Word) (rest : List Word) (kind : LineFault) → words ≡ word ∷ rest → Misfit before field word kind → FaultAt before field words kind
  misfits field words word rest kind is misfit = subst (λ ws. FaultAt before field ws kind) (sym is) (misfit_there field word rest kind misfit)

  first_misfit : (field : Field) (word : Word) (rest : List Word) (kind : LineFault) → FaultAt before field (word ∷ rest) kind → Misfit before field word kind
  unfolding FaultAt
  first_misfit (Numeral low high) word rest kind fault = fault
  first_misfit PageType word rest kind fault = fault
  first_misfit Bytes word rest kind fault = fault
  first_misfit Byte word rest kind fault = fault
  first_misfit FreeBatch word rest kind fault = fault
  first_misfit HeldBatch word rest kind fault = fault
  first_misfit End word rest kind fault = fault

  -- a field that fails for want of a number, or for what the number is
  pub from_number : (field : Field) (low high : ℕ) (words : List Word) (kind : LineFault) → AsksWord field → ((word : Word) → NotNumber word low high kind → Misfit before field word kind)
      → FaultAt before (Numeral low high) words kind → FaultAt before field words kind
  unfolding FaultAt Misfit
  from_number field low high words kind asks gives fault = by words fault
    where
      by : (ws : List Word) → FaultAt before (Numeral low high) ws kind → FaultAt before field ws kind
      by [] is = none_there field kind asks is
      by (word ∷ rest) is = misfit_there field word rest kind (gives word is)

  pub page_type : (words : List Word) (kind : LineFault) → FaultAt before (Numeral 0 65535) words kind → FaultAt before PageType words kind
  unfolding Misfit
  page_type words kind fault = from_number PageType 0 65535 words kind tt gives fault
    where
      gives : (word : Word) → NotNumber word 0 65535 kind → Misfit before PageType word kind
      gives word not = inl not

  pub free_batch : (words : List Word) (kind : LineFault) → FaultAt before (Numeral 1 16) words kind → FaultAt before FreeBatch words kind
  unfolding Misfit
  free_batch words kind fault = from_number FreeBatch 1 16 words kind tt gives fault
    where
      gives : (word : Word) → NotNumber word 1 16 kind → Misfit before FreeBatch word kind
      gives word not = inl not

  pub held_batch : (words : List Word) (kind : LineFault) → FaultAt before (Numeral 1 16) words kind → FaultAt before HeldBatch words kind
  unfolding Misfit
  held_batch words kind fault = from_number HeldBatch 1 16 words kind tt gives fault
    where
      gives : (word : Word) → NotNumber word 1 16 kind → Misfit before HeldBatch word kind
      gives word not = inl not
