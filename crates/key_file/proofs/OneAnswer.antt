-- Key files have one answer: what the definitions relate to them is unique, up to the order of a ring.
use Rattle.std.proofs.Common.{◌≡◌, ◌≢◌, ℕ, ◌+◌, ◌==◌, Bool, true, false, List, [], ◌∷◌, Option, Some, None, Result, Ok, Err, MatchResult, refl, sym, ap, ap₂, ◌∙◌, subst, cond, ◌⊎◌, inl, inr}
use Rattle.std.specs.Bool.{MatchBool}
use Rattle.io_core.specs.Files.{Files}
use Rattle.key_ring.specs.Ring.{RingEntry}
use Rattle.key_ring.specs.Ring.{ring_key as key_under}
use Rattle.key_file.specs.declared.derivation.KeyDigest.{KeyDigest}
use Rattle.key_file.specs.declared.fault.KeyFault.{KeyFault}
use Rattle.key_file.specs.declared.fault.KeyFault.TheVariants as key
use Rattle.key_file.specs.declared.load_fault.LoadFault.{LoadFault}
use Rattle.key_file.specs.declared.load_fault.LoadFault.TheVariants.{KeyFile}
use Rattle.key_file.specs.declared.keys.KeyItem.{KeyItem}
use Rattle.key_file.specs.Plain.{key_in}
use Rattle.key_file.specs.Load.{Deciphered, IsOutside, KeysIn, KeysOf, KeysOfText, Opened, TextOf, contents, is_salted, secret_of}
use Rattle.key_file.specs.Loaded.{HasKeysOfVersion, IsSameAnswer, IsTheAnswer, LoadsFrom}
use Rattle.key_file.proofs.OneText.{Deciphers-unique}
use Rattle.key_file.proofs.Unique.{ReadsPlain-unique}

-- ---- the text of a file

-- a fault as the answer for a key file, and as that for its bytes
abbrev refused : {T : Type 0} → ℕ → KeyFault → Result T LoadFault
refused i fault = Err (KeyFile i fault)

abbrev no_text : {T : Type 0} → KeyFault → Result T KeyFault
no_text fault = Err fault

ok_is_no_want : (text : List ℕ) → Ok text ≡ no_text key.OutOfMemory → ⊥
ok_is_no_want text e = cc

err_is_no_want : (fault : KeyFault) → fault ≢ key.OutOfMemory → no_text {T = List ℕ} fault ≡ no_text key.OutOfMemory → ⊥
err_is_no_want fault other e = let same : fault ≡ key.OutOfMemory = cc in other same

same_faults : {T : Type 0} (i j index : ℕ) (f g : KeyFault) → i ≡ index → j ≡ index → no_text {T = T} f ≡ no_text g → refused {T = T} i f ≡ refused j g
same_faults i j index f g a b e = let same : f ≡ g = cc in ap₂ (λ (n : ℕ) (x : KeyFault). refused n x) (a ∙ sym b) same

Deciphered-unique : (index : ℕ) (digest : KeyDigest) (password bytes : List ℕ) (r s : Result (List ℕ) LoadFault)
    → Deciphered index digest password bytes r → Deciphered index digest password bytes s → r ≡ s
Deciphered-unique index digest password bytes (Ok text) (Ok other) h k =
    let same = Deciphers-unique digest password bytes (Ok text) (Ok other) (ok_is_no_want text) (ok_is_no_want other) h k in cc
Deciphered-unique index digest password bytes (Ok text) (Err (KeyFile j g)) h k =
    let same = Deciphers-unique digest password bytes (Ok text) (Err g) (ok_is_no_want text) (err_is_no_want g k.1) h k.2 in cc
Deciphered-unique index digest password bytes (Err (KeyFile i f)) (Ok other) h k =
    let same = Deciphers-unique digest password bytes (Err f) (Ok other) (err_is_no_want f h.1) (ok_is_no_want other) h.2 k in cc
Deciphered-unique index digest password bytes (Err (KeyFile i f)) (Err (KeyFile j g)) h k =
    same_faults i j index f g h.0 k.0 (Deciphers-unique digest password bytes (Err f) (Err g) (err_is_no_want f h.1) (err_is_no_want g k.1) h.2 k.2)
Deciphered-unique index digest password bytes (Ok text) (Err _) h k = absurd k
Deciphered-unique index digest password bytes (Err (KeyFile i f)) (Err _) h k = absurd k
Deciphered-unique index digest password bytes (Err _) s h k = absurd h

-- what is unique in each case is unique
of_result : {T A E : Type 0} (c : Result A E) (P : A → T → Type 0) (Q : E → T → Type 0)
    → ((a : A) (r s : T) → P a r → P a s → r ≡ s) → ((e : E) (r s : T) → Q e r → Q e s → r ≡ s)
    → (r s : T) → MatchResult c (λ a. P a r) (λ e. Q e r) → MatchResult c (λ a. P a s) (λ e. Q e s) → r ≡ s
of_result (Ok a) P Q one two r s h k = one a r s h k
of_result (Err e) P Q one two r s h k = two e r s h k

of_bool : {T : Type 0} (b : Bool) (P Q : T → Type 0) → ((r s : T) → P r → P s → r ≡ s) → ((r s : T) → Q r → Q s → r ≡ s)
    → (r s : T) → MatchBool b (P r) (Q r) → MatchBool b (P s) (Q s) → r ≡ s
of_bool true P Q one two r s h k = one r s h k
of_bool false P Q one two r s h k = two r s h k

module _ (files : Files) (index : ℕ) (digest : KeyDigest) where
  Opened-unique : (filekey : Option (List ℕ)) (bytes : List ℕ) (r s : Result (List ℕ) LoadFault)
      → Opened files index filekey digest bytes r → Opened files index filekey digest bytes s → r ≡ s
  Opened-unique None bytes r s h k = h ∙ sym k
  Opened-unique (Some filekey) bytes r s h k =
      of_result (secret_of files index filekey) (λ password r. Deciphered index digest password bytes r) (λ fault r. r ≡ Err fault)
      (λ password r s. Deciphered-unique index digest password bytes r s) (λ fault r s h k. h ∙ sym k) r s h k

  TextOf-unique : (filekey : Option (List ℕ)) (bytes : List ℕ) (r s : Result (List ℕ) LoadFault)
      → TextOf files index filekey digest bytes r → TextOf files index filekey digest bytes s → r ≡ s
  TextOf-unique filekey bytes r s h k =
      of_bool (is_salted bytes) (λ r. Opened files index filekey digest bytes r) (λ r. r ≡ Ok bytes)
      (λ r s. Opened-unique filekey bytes r s) (λ r s h k. h ∙ sym k) r s h k

-- ---- the keys of a file

KeysIn-unique : (index : ℕ) (text : List ℕ) (r s : Result (List KeyItem) LoadFault) → KeysIn index text r → KeysIn index text s → r ≡ s
KeysIn-unique index text (Ok keys) (Ok other) h k = let same = ReadsPlain-unique text (Ok keys) (Ok other) h k in cc
KeysIn-unique index text (Ok keys) (Err (KeyFile j g)) h k = let same = ReadsPlain-unique text (Ok keys) (Err g) h k.1 in cc
KeysIn-unique index text (Err (KeyFile i f)) (Ok other) h k = let same = ReadsPlain-unique text (Err f) (Ok other) h.1 k in cc
KeysIn-unique index text (Err (KeyFile i f)) (Err (KeyFile j g)) h k = same_faults i j index f g h.0 k.0 (ReadsPlain-unique text (Err f) (Err g) h.1 k.1)
KeysIn-unique index text (Ok keys) (Err _) h k = absurd k
KeysIn-unique index text (Err (KeyFile i f)) (Err _) h k = absurd k
KeysIn-unique index text (Err _) s h k = absurd h

KeysOfText-unique : (index : ℕ) (t u : Result (List ℕ) LoadFault) → t ≡ u → (r s : Result (List KeyItem) LoadFault) → KeysOfText index t r → KeysOfText index u s → r ≡ s
KeysOfText-unique index (Ok text) (Ok other) e r s h k =
    KeysIn-unique index text r s h (let same : other ≡ text = cc in subst (λ (t : List ℕ). KeysIn index t s) same k)
KeysOfText-unique index (Ok text) (Err g) e r s h k = cc
KeysOfText-unique index (Err f) (Ok other) e r s h k = cc
KeysOfText-unique index (Err f) (Err g) e r s h k = cc

KeysOf-unique : (files : Files) (index : ℕ) (filekey : Option (List ℕ)) (digest : KeyDigest) (name : List ℕ) (r s : Result (List KeyItem) LoadFault)
    → KeysOf files index filekey digest name r → KeysOf files index filekey digest name s → r ≡ s
KeysOf-unique files index filekey digest name r s h k =
    of_result (contents index key.TooLarge name (files name))
    (λ bytes r. (text : Result (List ℕ) LoadFault) × TextOf files index filekey digest bytes text × KeysOfText index text r) (λ fault r. r ≡ Err fault)
    (λ bytes r s h k. KeysOfText-unique index h.0 k.0 (TextOf-unique files index digest filekey bytes h.0 k.0 h.1 k.1) r s h.2 k.2) (λ fault r s h k. h ∙ sym k) r s h k

-- ---- the ring

-- two rings have the same keys
abbrev AreSame : List RingEntry → List RingEntry → Type 0
AreSame ring other = (id v : ℕ) → key_under ring id v ≡ key_under other id v

same_next : (ring other next after : List RingEntry) (keys more : List KeyItem) (version : ℕ) → AreSame ring other → keys ≡ more
    → HasKeysOfVersion ring keys version next → HasKeysOfVersion other more version after → AreSame next after
same_next ring other next after keys more version same e h k id v =
    h.keys_are id v ∙ ap₂ (λ (a b : Option (List ℕ)). cond (v == version) a b) (ap (λ (l : List KeyItem). key_in l id) e) (same id v) ∙ sym (k.keys_are id v)

module _ (files : Files) (filekey : Option (List ℕ)) (digest : KeyDigest) where
  same_keys : (n : ℕ) (name : List ℕ) (keys more : List KeyItem) → KeysOf files n filekey digest name (Ok keys) → KeysOf files n filekey digest name (Ok more) → keys ≡ more
  same_keys n name keys more h k = let same = KeysOf-unique files n filekey digest name (Ok keys) (Ok more) h k in cc

  no_keys : (n : ℕ) (name : List ℕ) (keys : List KeyItem) (fault : LoadFault) → KeysOf files n filekey digest name (Ok keys) → KeysOf files n filekey digest name (Err fault) → ⊥
  no_keys n name keys fault h k = let same = KeysOf-unique files n filekey digest name (Ok keys) (Err fault) h k in cc

  pub LoadsFrom-unique : (names : List (List ℕ)) (n : ℕ) (ring other : List RingEntry) → AreSame ring other → (r s : Result (List RingEntry) LoadFault)
      → LoadsFrom files filekey digest n names ring r → LoadsFrom files filekey digest n names other s → IsSameAnswer r s
  LoadsFrom-unique [] n ring other same (Ok a) (Ok b) h k = λ id v. let x : a ≡ ring = cc in let y : b ≡ other = cc in
      ap (λ (l : List RingEntry). key_under l id v) x ∙ same id v ∙ sym (ap (λ (l : List RingEntry). key_under l id v) y)
  LoadsFrom-unique [] n ring other same (Ok a) (Err g) h k = cc
  LoadsFrom-unique [] n ring other same (Err f) s h k = cc
  LoadsFrom-unique (name ∷ names) n ring other same (Ok a) (Ok b) h k =
      LoadsFrom-unique names (n + 1) h.2.ring k.2.ring (same_next ring other h.2.ring k.2.ring h.0 k.0 (n + 1) same (same_keys n name h.0 k.0 h.1 k.1) h.2.added k.2.added)
      (Ok a) (Ok b) h.2.rest_loads k.2.rest_loads
  LoadsFrom-unique (name ∷ names) n ring other same (Ok a) (Err g) h (inl k) = no_keys n name h.0 g h.1 k
  LoadsFrom-unique (name ∷ names) n ring other same (Ok a) (Err g) h (inr k) =
      LoadsFrom-unique names (n + 1) h.2.ring k.2.ring (same_next ring other h.2.ring k.2.ring h.0 k.0 (n + 1) same (same_keys n name h.0 k.0 h.1 k.1) h.2.added k.2.added)
      (Ok a) (Err g) h.2.rest_loads k.2.rest_loads
  LoadsFrom-unique (name ∷ names) n ring other same (Err f) (Ok b) (inl h) k = no_keys n name k.0 f k.1 h
  LoadsFrom-unique (name ∷ names) n ring other same (Err f) (Ok b) (inr h) k =
      LoadsFrom-unique names (n + 1) h.2.ring k.2.ring (same_next ring other h.2.ring k.2.ring h.0 k.0 (n + 1) same (same_keys n name h.0 k.0 h.1 k.1) h.2.added k.2.added)
      (Err f) (Ok b) h.2.rest_loads k.2.rest_loads
  LoadsFrom-unique (name ∷ names) n ring other same (Err f) (Err g) (inl h) (inl k) =
      let same = KeysOf-unique files n filekey digest name (Err f) (Err g) h k in cc
  LoadsFrom-unique (name ∷ names) n ring other same (Err f) (Err g) (inl h) (inr k) = absurd (no_keys n name k.0 f k.1 h)
  LoadsFrom-unique (name ∷ names) n ring other same (Err f) (Err g) (inr h) (inl k) = absurd (no_keys n name h.0 g h.1 k)
  LoadsFrom-unique (name ∷ names) n ring other same (Err f) (Err g) (inr h) (inr k) =
      LoadsFrom-unique names (n + 1) h.2.ring k.2.ring (same_next ring other h.2.ring k.2.ring h.0 k.0 (n + 1) same (same_keys n name h.0 k.0 h.1 k.1) h.2.added k.2.added)
      (Err f) (Err g) h.2.rest_loads k.2.rest_loads

  -- what the files give is the answer
  pub the_answer : (names : List (List ℕ)) (r : Result (List RingEntry) LoadFault) → LoadsFrom files filekey digest 0 names [] r → IsTheAnswer files filekey digest names r
  the_answer names r h other k = LoadsFrom-unique names 0 [] [] (λ id v. refl) r other h k

  pub the_only : (names : List (List ℕ)) (r : Result (List RingEntry) LoadFault)
      → MatchResult r (λ ring. LoadsFrom files filekey digest 0 names [] (Ok ring)) (λ fault. IsOutside fault ⊎ LoadsFrom files filekey digest 0 names [] (Err fault))
      → MatchResult r (λ ring. IsTheAnswer files filekey digest names (Ok ring)) (λ fault. IsOutside fault ⊎ IsTheAnswer files filekey digest names (Err fault))
  the_only names (Ok ring) h = the_answer names (Ok ring) h
  the_only names (Err fault) (inl outside) = inl outside
  the_only names (Err fault) (inr h) = inr (the_answer names (Err fault) h)
