-- An enciphered file has at most one text under a password and a digest, and one answer but for want of
-- memory.
use Rattle.std.proofs.Common.{◌≡◌, ℕ, List, length, Result, Ok, Err, refl, sym, ap, ◌∙◌, inl, inr, arith}
use Rattle.aes_core.specs.Cipher.{AreBytes}
use Rattle.aes_core.proofs.Padding.{ends_padded, long_padded, padded_more, padded_whole, room, taken_is}
use Rattle.key_file.specs.declared.derivation.KeyDigest.{KeyDigest}
use Rattle.key_file.specs.declared.fault.KeyFault.{KeyFault}
use Rattle.key_file.specs.declared.fault.KeyFault.TheVariants.{ShortSalted, CipherLength, Padding, OutOfMemory}
use Rattle.key_file.specs.Salted.{Deciphers, IsSaltedText, IsWholeBlocks, cipher_text, salt_of}
use Rattle.key_file.proofs.DerivedKeys.{iv_is_block, key_is_key}

module _ (digest : KeyDigest) (password bytes : List ℕ) where
  -- a cipher text that a text gives is some whole blocks
  whole_of : (text : List ℕ) → AreBytes text → IsSaltedText digest password bytes text → IsWholeBlocks (length (cipher_text bytes))
  whole_of text are is =
      let long = long_padded _ _ (key_is_key digest password (salt_of bytes)) (iv_is_block digest password (salt_of bytes)) text (cipher_text bytes) are is in
      (omega (arith, long, padded_more text), omega (arith, long, padded_whole text))

  -- two lists of bytes that give the same cipher text are equal
  pub text_unique : (text other : List ℕ) → Deciphers digest password bytes (Ok text) → Deciphers digest password bytes (Ok other) → text ≡ other
  text_unique text other h k =
      let key = key_is_key digest password (salt_of bytes) in
      let iv = iv_is_block digest password (salt_of bytes) in
      let ends = ends_padded _ _ key iv other (cipher_text bytes) k.1 k.2 in
      sym (taken_is _ _ key iv text (cipher_text bytes) (room other) h.1 h.2 ends) ∙ taken_is _ _ key iv other (cipher_text bytes) (room other) k.1 k.2 ends

  -- an answer of text, and each refusal, excludes the others
  of_text : (text : List ℕ) → Deciphers digest password bytes (Ok text) → (r : Result (List ℕ) KeyFault) → (r ≡ Err OutOfMemory → ⊥) → Deciphers digest password bytes r → Ok text ≡ r
  of_text text h (Ok other) free k = ap Ok (text_unique text other h k)
  of_text text h (Err (ShortSalted n)) free k = absurd (omega (arith, h.0, k.0, k.1))
  of_text text h (Err (CipherLength n)) free k =
      let whole = whole_of text h.1 h.2 in
      elim k.2 [ inl none ↦ absurd (omega (arith, whole.0, k.1, none)) | inr some ↦ absurd (omega (arith, whole.1, k.1, some)) ]
  of_text text h (Err Padding) free k = absurd (k.2 text h.1 h.2)
  of_text text h (Err OutOfMemory) free k = absurd (free refl)
  of_text text h (Err _) free k = absurd k

  of_short : (m : ℕ) → Deciphers digest password bytes (Err (ShortSalted m)) → (r : Result (List ℕ) KeyFault) → (r ≡ Err OutOfMemory → ⊥) → Deciphers digest password bytes r
      → Err (ShortSalted m) ≡ r
  of_short m h (Ok other) free k = absurd (omega (arith, k.0, h.0, h.1))
  of_short m h (Err (ShortSalted n)) free k = ap (λ (i : ℕ). Err (ShortSalted i)) (h.0 ∙ sym k.0)
  of_short m h (Err (CipherLength n)) free k = absurd (omega (arith, k.0, h.0, h.1))
  of_short m h (Err Padding) free k = absurd (omega (arith, k.0, h.0, h.1))
  of_short m h (Err OutOfMemory) free k = absurd (free refl)
  of_short m h (Err _) free k = absurd k

  not_whole : (m : ℕ) → Deciphers digest password bytes (Err (CipherLength m)) → IsWholeBlocks (length (cipher_text bytes)) → ⊥
  not_whole m h whole = elim h.2 [ inl none ↦ omega (arith, whole.0, h.1, none) | inr some ↦ omega (arith, whole.1, h.1, some) ]

  of_length : (m : ℕ) → Deciphers digest password bytes (Err (CipherLength m)) → (r : Result (List ℕ) KeyFault) → (r ≡ Err OutOfMemory → ⊥) → Deciphers digest password bytes r
      → Err (CipherLength m) ≡ r
  of_length m h (Ok other) free k = absurd (not_whole m h (whole_of other k.1 k.2))
  of_length m h (Err (ShortSalted n)) free k = absurd (omega (arith, h.0, k.0, k.1))
  of_length m h (Err (CipherLength n)) free k = ap (λ (i : ℕ). Err (CipherLength i)) (h.1 ∙ sym k.1)
  of_length m h (Err Padding) free k = absurd (not_whole m h k.1)
  of_length m h (Err OutOfMemory) free k = absurd (free refl)
  of_length m h (Err _) free k = absurd k

  of_padding : Deciphers digest password bytes (Err Padding) → (r : Result (List ℕ) KeyFault) → (r ≡ Err OutOfMemory → ⊥) → Deciphers digest password bytes r → Err Padding ≡ r
  of_padding h (Ok other) free k = absurd (h.2 other k.1 k.2)
  of_padding h (Err (ShortSalted n)) free k = absurd (omega (arith, h.0, k.0, k.1))
  of_padding h (Err (CipherLength n)) free k = absurd (not_whole n k h.1)
  of_padding h (Err Padding) free k = refl
  of_padding h (Err OutOfMemory) free k = absurd (free refl)
  of_padding h (Err _) free k = absurd k

  pub Deciphers-unique : (r s : Result (List ℕ) KeyFault) → (r ≡ Err OutOfMemory → ⊥) → (s ≡ Err OutOfMemory → ⊥)
      → Deciphers digest password bytes r → Deciphers digest password bytes s → r ≡ s
  Deciphers-unique (Ok text) s free free' h k = of_text text h s free' k
  Deciphers-unique (Err (ShortSalted n)) s free free' h k = of_short n h s free' k
  Deciphers-unique (Err (CipherLength n)) s free free' h k = of_length n h s free' k
  Deciphers-unique (Err Padding) s free free' h k = of_padding h s free' k
  Deciphers-unique (Err OutOfMemory) s free free' h k = absurd (free refl)
  Deciphers-unique (Err _) s free free' h k = absurd h
