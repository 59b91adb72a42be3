-- The keys of a file, from its bytes and its text.
use Rattle.std.proofs.Common.{◌≡◌, ℕ, List, Option, Result, Ok, Err, MatchResult, IsErrOf, refl, sym, ap, subst, inl, inr, ◌∙◌, ◌⊎◌}
use Rattle.io_core.specs.Files.{Files}
use Rattle.key_file.specs.declared.fault.KeyFault.{KeyFault}
use Rattle.key_file.specs.declared.fault.KeyFault.TheVariants as key
use Rattle.key_file.specs.declared.load_fault.LoadFault.{LoadFault}
use Rattle.key_file.specs.declared.load_fault.LoadFault.TheVariants.{KeyFile}
use Rattle.key_file.specs.declared.derivation.KeyDigest.{KeyDigest}
use Rattle.key_file.specs.declared.keys.KeyItem.{KeyItem}
use Rattle.key_file.specs.Plain.{ReadsPlain}
use Rattle.key_file.specs.Load.{IsOutside, KeysOf, KeysOfText, TextOf, contents, load_fault_of}

module _ (files : Files) (index : ℕ) (filekey : Option (List ℕ)) (digest : KeyDigest) (name bytes : List ℕ) (whole : contents index key.TooLarge name (files name) ≡ Ok bytes) where
  of_text : (t : Result (List ℕ) LoadFault) (r : Result (List KeyItem) LoadFault) → TextOf files index filekey digest bytes t → KeysOfText index t r → KeysOf files index filekey digest name r
  of_text t r text keys = subst
      (λ (c : Result (List ℕ) LoadFault).
      MatchResult c (λ b. (u : Result (List ℕ) LoadFault) × TextOf files index filekey digest b u × KeysOfText index u r) (λ fault. r ≡ Err fault))
      (sym whole) (t, text, keys)

  -- a file without a text
  pub text_refused : (fault : LoadFault) → IsOutside fault ⊎ TextOf files index filekey digest bytes (Err fault)
      → IsOutside fault ⊎ KeysOf files index filekey digest name (Err fault)
  text_refused fault (inl outside) = inl outside
  text_refused fault (inr text) = inr (of_text (Err fault) (Err fault) text refl)

  -- a text that reads
  pub keys_read : (text : List ℕ) (keys : List KeyItem) → TextOf files index filekey digest bytes (Ok text) → ReadsPlain text (Ok keys)
      → KeysOf files index filekey digest name (Ok keys)
  keys_read text keys t reads = of_text (Ok text) (Ok keys) t reads

  named : (text : List ℕ) (fault : KeyFault) → TextOf files index filekey digest bytes (Ok text) → ReadsPlain text (Err fault)
      → KeysOf files index filekey digest name (Err (KeyFile index fault))
  named text fault t reads = of_text (Ok text) (Err (KeyFile index fault)) t (refl, reads)

  -- a text that does not read
  pub keys_refused : (text : List ℕ) (fault : KeyFault) → TextOf files index filekey digest bytes (Ok text) → (fault ≡ key.OutOfMemory) ⊎ ReadsPlain text (Err fault)
      → IsOutside (load_fault_of index fault) ⊎ KeysOf files index filekey digest name (Err (load_fault_of index fault))
  keys_refused text key.OutOfMemory t h = inl tt
  keys_refused text fault t (inl memory) = cc
  keys_refused text fault t (inr reads) = inr (named text fault t reads)

-- a fault that was handed on is the one that it was
pub fault_handed : {T U : Type 0} (r : Result T LoadFault) (x f e : LoadFault) → r ≡ Err x → x ≡ f → r ≡ Err e → IsErrOf {T = U} (Err f) e
fault_handed r x f e at same is =
    let both : Err x ≡ Err e = sym at ∙ is in
    let same_fault : x ≡ e = cc in
    ap Err (sym same ∙ same_fault)
