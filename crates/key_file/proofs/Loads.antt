-- The files of names, one after the other: what they give, and which of them is called for.
use Rattle.std.proofs.Common.{◌≡◌, ℕ, ◌+◌, ◌<◌, ◌≤◌, List, [], ◌∷◌, length, drop, get_or, Option, Result, Ok, Err, refl, sym, ap, subst, ◌∙◌, inl, inr, arith}
use Rattle.std.proofs.lemmas.List.{drop_more, length-drop}
use Rattle.io_core.specs.Files.{Files}
use Rattle.key_ring.specs.Ring.{RingEntry}
use Rattle.key_file.specs.declared.load_fault.LoadFault.{LoadFault}
use Rattle.key_file.specs.declared.derivation.KeyDigest.{KeyDigest}
use Rattle.key_file.specs.declared.keys.KeyItem.{KeyItem}
use Rattle.key_file.specs.Load.{KeysOf}
use Rattle.key_file.specs.Loaded.{CallsFor, HasKeysOfVersion, IsDue, LoadsFrom}

no_names : (names : List (List ℕ)) → length names ≡ 0 → names ≡ []
no_names [] h = refl
no_names (n ∷ ns) h = absurd (omega arith)

module _ (files : Files) (filekey : Option (List ℕ)) (digest : KeyDigest) (names : List (List ℕ)) where
  -- the file of index i gives keys
  more : (i : ℕ) (name : List ℕ) (ring next : List RingEntry) (keys : List KeyItem) → KeysOf files i filekey digest name (Ok keys) → HasKeysOfVersion ring keys (i + 1) next
      → (rest : List (List ℕ)) (r : Result (List RingEntry) LoadFault) → LoadsFrom files filekey digest (i + 1) rest next r → LoadsFrom files filekey digest i (name ∷ rest) ring r
  more i name ring next keys gives has rest (Ok last) h = (keys, gives, record { ring = next; added = has; rest_loads = h })
  more i name ring next keys gives has rest (Err fault) h = inr (keys, gives, record { ring = next; added = has; rest_loads = h })

  pub loads_more : (i : ℕ) (name : List ℕ) → i < length names → get_or names i name ≡ name → (ring next : List RingEntry) (keys : List KeyItem)
      → KeysOf files i filekey digest name (Ok keys) → HasKeysOfVersion ring keys (i + 1) next
      → (r : Result (List RingEntry) LoadFault) → LoadsFrom files filekey digest (i + 1) (drop (i + 1) names) next r → LoadsFrom files filekey digest i (drop i names) ring r
  loads_more i name within is ring next keys gives has r h =
      subst (λ (ns : List (List ℕ)). LoadsFrom files filekey digest i ns ring r) (sym (drop_more names i name within ∙ ap (λ (x : List ℕ). x ∷ drop (i + 1) names) is))
      (more i name ring next keys gives has (drop (i + 1) names) r h)

  -- the file of index i does not read
  pub loads_stop : (i : ℕ) (name : List ℕ) → i < length names → get_or names i name ≡ name → (ring : List RingEntry) (fault : LoadFault)
      → KeysOf files i filekey digest name (Err fault) → LoadsFrom files filekey digest i (drop i names) ring (Err fault)
  loads_stop i name within is ring fault gives =
      subst (λ (ns : List (List ℕ)). LoadsFrom files filekey digest i ns ring (Err fault)) (sym (drop_more names i name within ∙ ap (λ (x : List ℕ). x ∷ drop (i + 1) names) is))
      (inl gives)

  -- there is no further file
  pub loads_end : (i : ℕ) → length names ≤ i → (ring : List RingEntry) → LoadsFrom files filekey digest i (drop i names) ring (Ok ring)
  loads_end i long ring =
      subst (λ (ns : List (List ℕ)). LoadsFrom files filekey digest i ns ring (Ok ring)) (sym (no_names (drop i names) (omega (arith, length-drop i names)))) refl

  -- the file of index i calls for a file
  pub due_here : (i : ℕ) (name : List ℕ) → i < length names → get_or names i name ≡ name → (due : List ℕ)
      → CallsFor files i filekey name due → IsDue files filekey digest i (drop i names) due
  due_here i name within is due calls =
      subst (λ (ns : List (List ℕ)). IsDue files filekey digest i ns due) (sym (drop_more names i name within ∙ ap (λ (x : List ℕ). x ∷ drop (i + 1) names) is)) (inl calls)

  -- the file of index i gives keys, and a later one calls for a file
  pub due_later : (i : ℕ) (name : List ℕ) → i < length names → get_or names i name ≡ name → (keys : List KeyItem) → KeysOf files i filekey digest name (Ok keys)
      → (due : List ℕ) → IsDue files filekey digest (i + 1) (drop (i + 1) names) due → IsDue files filekey digest i (drop i names) due
  due_later i name within is keys gives due h =
      subst (λ (ns : List (List ℕ)). IsDue files filekey digest i ns due) (sym (drop_more names i name within ∙ ap (λ (x : List ℕ). x ∷ drop (i + 1) names) is))
      (inr (keys, gives, h))
