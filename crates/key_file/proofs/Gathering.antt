-- The keys that are gathered, line by line, against the definition of a plain key file.
use Rattle.std.proofs.Common.{◌≡◌, ℕ, ◌+◌, ◌<◌, List, [], ◌∷◌, length, map, drop, get_or, Option, Some, None, Result, Ok, Err, refl, sym, ap, ◌∙◌, arith}
use Rattle.std.specs.Prelude.{IsOk}
use Rattle.std.specs.Ordering.{nat_cmp}
use Rattle.std.specs.BTreeMap.{BTreeMap, IsOrdered, get, is_at}
use Rattle.std.specs.Map.{keys_of, lookup}
use Rattle.std.proofs.lemmas.List.{drop_more, get_or-map, length-map}
use Rattle.std.proofs.lemmas.Map.Keys.{below_from_sorted}
use Rattle.key_file.specs.declared.fault.KeyFault.{KeyFault}
use Rattle.key_file.specs.declared.keys.KeyItem.{KeyItem}
use Rattle.key_file.specs.Line.{line_says}
use Rattle.key_file.specs.Plain.{IsAscending, fault_or, first_fault, first_some, key_for, key_in, last_key}
use Rattle.key_file.specs.Gathered.{TakesLine, items_of}
use Rattle.key_ring.proofs.Keys.{is_eq-nat_cmp}

-- ---- a map by numbers

-- ---- the list of the keys

pub key_in-items_of : (es : List (ℕ × List ℕ)) (id : ℕ) → key_in (items_of es) id ≡ lookup (is_at (nat_cmp id)) es
key_in-items_of [] id = refl
key_in-items_of (e ∷ es) id = rw (is_eq-nat_cmp id e.0, key_in-items_of es id) refl

ids_of : (es : List (ℕ × List ℕ)) → map (λ (item : KeyItem). item.id) (items_of es) ≡ keys_of es
ids_of [] = refl
ids_of (e ∷ es) = ap (λ (x : List ℕ). e.0 ∷ x) (ids_of es)

id_at : (es : List (ℕ × List ℕ)) (i : ℕ) (d : KeyItem) → i < length (items_of es) → (get_or (items_of es) i d).id ≡ get_or (keys_of es) i 0
id_at es i d h = sym (get_or-map (λ (item : KeyItem). item.id) (items_of es) i d 0 h) ∙ ap (λ (x : List ℕ). get_or x i 0) (ids_of es)

pub ascending_items : (m : BTreeMap ℕ (List ℕ)) → IsOrdered nat_cmp m → IsAscending (items_of m.entries)
ascending_items m ordered i j d below within =
    let l : length (items_of m.entries) ≡ length (keys_of m.entries) = sym (length-map (items_of m.entries) (λ (item : KeyItem). item.id)) ∙ ap length (ids_of m.entries) in
    let inside : i < length (items_of m.entries) = omega arith in
    let fits : j < length (keys_of m.entries) = omega arith in
    let a = id_at m.entries i d inside in
    let b = id_at m.entries j d within in
    let lt : get_or (keys_of m.entries) i 0 < get_or (keys_of m.entries) j 0 = below_from_sorted (keys_of m.entries) i j 0 ordered below fits in
    omega (arith, a, b, lt)

-- ---- line by line

pub first_some-none : (o : Option (List ℕ)) → first_some o None ≡ o
first_some-none (Some x) = refl
first_some-none None = refl

first_some-assoc : (a b c : Option (List ℕ)) → first_some (first_some a b) c ≡ first_some a (first_some b c)
first_some-assoc (Some x) b c = refl
first_some-assoc None b c = refl

fault_or-ok : (r : Result (Option KeyItem) KeyFault) (later : Option KeyFault) → IsOk r → fault_or r later ≡ later
fault_or-ok (Ok x) later h = refl
fault_or-ok (Err e) later h = cc

-- the first of the lines that are left
line_at : (lines : List (List ℕ)) (i : ℕ) (line : List ℕ) → i < length lines → get_or lines i line ≡ line → drop i lines ≡ line ∷ drop (i + 1) lines
line_at lines i line h e = drop_more lines i line h ∙ ap (λ (x : List ℕ). x ∷ drop (i + 1) lines) e

-- no fault so far, and one more line that is not refused
pub fault_step : (lines : List (List ℕ)) (i : ℕ) (line : List ℕ) → i < length lines → get_or lines i line ≡ line → IsOk (line_says (i + 1) line)
    → first_fault (i + 1) (drop i lines) ≡ first_fault 1 lines → first_fault (i + 1 + 1) (drop (i + 1) lines) ≡ first_fault 1 lines
fault_step lines i line h e ok so_far =
    sym (fault_or-ok (line_says (i + 1) line) (first_fault (i + 1 + 1) (drop (i + 1) lines)) ok)
    ∙ sym (ap (first_fault (i + 1)) (line_at lines i line h e)) ∙ so_far

-- a line that is refused
pub fault_here : (lines : List (List ℕ)) (i : ℕ) (line : List ℕ) (fault : KeyFault) → i < length lines → get_or lines i line ≡ line → line_says (i + 1) line ≡ Err fault
    → first_fault (i + 1) (drop i lines) ≡ first_fault 1 lines → first_fault 1 lines ≡ Some fault
fault_here lines i line fault h e refused so_far =
    sym so_far ∙ ap (first_fault (i + 1)) (line_at lines i line h e) ∙ rw refused refl

-- the keys after one more line
pub keys_step : (lines : List (List ℕ)) (i : ℕ) (line : List ℕ) (old new : BTreeMap ℕ (List ℕ)) → i < length lines → get_or lines i line ≡ line
    → TakesLine old new (i + 1) line
    → ((id : ℕ) → first_some (last_key (i + 1) (drop i lines) id) (get nat_cmp old id) ≡ last_key 1 lines id)
    → (id : ℕ) → first_some (last_key (i + 1 + 1) (drop (i + 1) lines) id) (get nat_cmp new id) ≡ last_key 1 lines id
keys_step lines i line old new h e takes so_far id =
    ap (first_some (last_key (i + 1 + 1) (drop (i + 1) lines) id)) (takes.keys_are id)
    ∙ sym (first_some-assoc (last_key (i + 1 + 1) (drop (i + 1) lines) id) (key_for id (line_says (i + 1) line)) (get nat_cmp old id))
    ∙ sym (ap (λ (ls : List (List ℕ)). first_some (last_key (i + 1) ls id) (get nat_cmp old id)) (line_at lines i line h e))
    ∙ so_far id
