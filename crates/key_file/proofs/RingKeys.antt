-- A ring that takes in the keys of a file, one by one.
use Rattle.std.proofs.Common.{◌≡◌, ◌≢◌, ℕ, suc, zero, ◌+◌, ◌<◌, ◌≤◌, false, eqb, List, [], ◌∷◌, length, drop, get_or, Option, Some, None, IsNone, slice_get, refl, sym, ap, subst, ◌∙◌, inl, inr, arith}
use Rattle.std.specs.Option.{is_some}
use Rattle.std.proofs.lemmas.Bool.{eq-eqb, cases_eq, and_right, ne_eqb}
use Rattle.std.proofs.lemmas.List.{drop_more, get_or-drop, get_or_default, length-drop}
use Rattle.key_ring.specs.Ring.{RingEntry, HasAdded, ring_key}
use Rattle.key_file.specs.declared.keys.KeyItem.{KeyItem}
use Rattle.key_file.specs.Plain.{IsAscending, first_some, key_in}
use Rattle.key_file.specs.Loaded.{HasKeysOfVersion}
use Rattle.key_file.proofs.Gathering.{first_some-none}

is_none : (o : Option (List ℕ)) → IsNone o → o ≡ None
is_none (Some x) h = cc
is_none None h = refl

-- no key of an id below all
pub key_in_below : (keys : List KeyItem) (id : ℕ) → ((j : ℕ) (d : KeyItem) → j < length keys → id < (get_or keys j d).id) → key_in keys id ≡ None
key_in_below [] id h = refl
key_in_below (k ∷ ks) id h =
    let first : id < k.id = h 0 k (omega arith) in
    rw (ne_eqb k.id id (λ e. omega arith)) (key_in_below ks id (λ j d l. h (suc j) d (omega arith)))

-- the keys after the i-th have larger ids
later_keys : (keys : List KeyItem) (i : ℕ) (d : KeyItem) → IsAscending keys → i < length keys → key_in (drop (i + 1) keys) (get_or keys i d).id ≡ None
later_keys keys i d up h = key_in_below (drop (i + 1) keys) (get_or keys i d).id (λ j e l.
    let within : i + 1 + j < length keys = omega (arith, length-drop (i + 1) keys) in
    let same : get_or keys i d ≡ get_or keys i e = get_or_default keys i d e h in
    let after : (get_or keys i e).id < (get_or keys (i + 1 + j) e).id = up i (i + 1 + j) e (omega arith) within in
    rw (get_or-drop (i + 1) keys j e, same) after)

no_items : (keys : List KeyItem) → length keys ≡ 0 → keys ≡ []
no_items [] h = refl
no_items (k ∷ ks) h = absurd (omega arith)

-- the ring has the keys of the version up to the i-th, and of that version none from there on
pub record HasFirst (first : List RingEntry) (keys : List KeyItem) (version i : ℕ) (ring : List RingEntry) : Type 0 where
  pub found : (id : ℕ) → key_in keys id ≡ first_some (key_in (drop i keys) id) (ring_key ring id version)
  pub others : (id v : ℕ) → v ≢ version → ring_key ring id v ≡ ring_key first id v
  pub absent : (j : ℕ) (d : KeyItem) → i ≤ j → j < length keys → (id : ℕ) → (get_or keys j d).id ≤ id → ring_key ring id version ≡ None

module _ (first : List RingEntry) (keys : List KeyItem) (version : ℕ) where
  pub first_start : ((id : ℕ) → IsNone (ring_key first id version)) → HasFirst first keys version 0 first
  first_start none = record {
    found = λ id. rw (is_none (ring_key first id version) (none id)) (sym (first_some-none (key_in keys id)));
    others = λ id v ne. refl;
    absent = λ j d from within id above. is_none (ring_key first id version) (none id);
  }

  pub first_end : (i : ℕ) (ring : List RingEntry) → length keys ≤ i → HasFirst first keys version i ring → HasKeysOfVersion first keys version ring
  first_end i ring long h =
      let over : drop i keys ≡ [] = no_items (drop i keys) (omega (arith, length-drop i keys)) in
      record {
        keys_are = λ id v. elim (cases_eq v version) [
          | inl same ↦ rw (eq-eqb v version same) (ap (ring_key ring id) same ∙ sym (h.found id ∙ ap (λ (ks : List KeyItem). first_some (key_in ks id) (ring_key ring id version)) over))
          | inr other ↦ rw (ne_eqb v version other) (h.others id v other)
        ];
      }

  pub place_is_free : (i : ℕ) (d : KeyItem) → i < length keys → (ring : List RingEntry) → HasFirst first keys version i ring → IsNone (ring_key ring (get_or keys i d).id version)
  place_is_free i d within ring h = ap is_some (h.absent i d (omega arith) within (get_or keys i d).id (omega arith))

  module _ (up : IsAscending keys) (i : ℕ) (d : KeyItem) (within : i < length keys) (ring next : List RingEntry) (h : HasFirst first keys version i ring)
      (added : HasAdded ring next (get_or keys i d).id version (get_or keys i d).key) where
    here : (id : ℕ) → key_in keys id ≡ first_some (key_in (get_or keys i d ∷ drop (i + 1) keys) id) (ring_key ring id version)
    here id = h.found id ∙ ap (λ (ks : List KeyItem). first_some (key_in ks id) (ring_key ring id version)) (drop_more keys i d within)

    other_id : (id : ℕ) → (id ≡ (get_or keys i d).id → ⊥) → ring_key next id version ≡ ring_key ring id version
    other_id id ne = added.keys id version ∙ rw (ne_eqb id (get_or keys i d).id ne) refl

    found_next : (id : ℕ) → key_in keys id ≡ first_some (key_in (drop (i + 1) keys) id) (ring_key next id version)
    found_next id = elim (cases_eq id (get_or keys i d).id) [
      | inl same ↦
          let is : key_in keys id ≡ Some (get_or keys i d).key = here id ∙ rw (eq-eqb (get_or keys i d).id id (sym same)) refl in
          let new : ring_key next id version ≡ Some (get_or keys i d).key = added.keys id version ∙ rw (eq-eqb id (get_or keys i d).id same, eq-eqb version version refl) refl in
          let none : key_in (drop (i + 1) keys) id ≡ None = ap (key_in (drop (i + 1) keys)) same ∙ later_keys keys i d up within in
          rw (none, new) is
      | inr other ↦
          let is : key_in keys id ≡ first_some (key_in (drop (i + 1) keys) id) (ring_key ring id version) = here id ∙ rw (ne_eqb (get_or keys i d).id id (λ e. other (sym e))) refl in
          rw (other_id id other) is
    ]

    pub first_more : HasFirst first keys version (i + 1) next
    first_more = record {
      found = found_next;
      others = λ id v ne. added.keys id v ∙ rw (ne_eqb v version ne, and_right (eqb id (get_or keys i d).id) false refl) (h.others id v ne);
      absent = λ j e from inside id above.
          let same : get_or keys i d ≡ get_or keys i e = get_or_default keys i d e within in
          let below : (get_or keys i e).id < (get_or keys j e).id = up i j e (omega arith) inside in
          other_id id (λ is. absurd (omega (arith, is, ap (λ (k : KeyItem). k.id) same, below))) ∙ h.absent j e (omega arith) inside id above;
    }

-- an item by its place
pub item_at : (keys : List KeyItem) (i : ℕ) (item : KeyItem) → slice_get keys i ≡ Some item → get_or keys i item ≡ item
item_at [] i item h = refl
item_at (k ∷ ks) zero item h = cc
item_at (k ∷ ks) (suc i) item h = item_at ks i item h

-- there is no key of a version after that of the file
pub later_version : (old new : List RingEntry) (keys : List KeyItem) (n : ℕ) → HasKeysOfVersion old keys n new → (id v : ℕ) → n < v → IsNone (ring_key old id v) → IsNone (ring_key new id v)
later_version old new keys n has id v h none = subst IsNone (sym (has.keys_are id v ∙ rw (ne_eqb v n (λ e. omega arith)) refl)) none
