use Rattle.std.proofs.Common.{◌≡◌, ℕ, ◌≤◌, List, Bool, true, false, sym, ap, subst, ◌∙◌, refl}
use Rattle.std.specs.Option.{is_some}
use Rattle.std.specs.BTreeMap.{is_at}
use Rattle.std.specs.Map.{lookup}
use Rattle.std.proofs.lemmas.Map.Views.{All-keys-insert_entry}
use Rattle.key_ring.specs.Ring.{HasAdded, ring_key, pair_cmp}
use Rattle.key_ring.proofs.Keys.{insert-HasAdded, lookup-ring_key}
use Rattle.key_ring.proofs.ring.Ring.add.Goals as goal
use Rattle.key_ring.proofs.ring.Ring.add.Goals.{in-Ok, in-Err}

-- what `contains_key` found
found : (id v : ℕ) (m : List ((ℕ × ℕ) × List ℕ)) → (b : Bool) → b ≡ is_some (lookup (is_at (pair_cmp (id, v))) m) → (e : List ((ℕ × ℕ) × List ℕ)) → m ≡ e → is_some (ring_key e id v) ≡ b
found id v m b h e same = ap is_some (ap (λ es. ring_key es id v) (sym same) ∙ sym (lookup-ring_key m id v)) ∙ sym h

pub returns-then-contains_key-clause-refused : goal.returns-then-contains_key-clause-refused
returns-then-contains_key-clause-refused c =
    (refl, refl, c.in-Some.ensures.1, found c.args.id c.args.version c.self.inside.keys.entries true c.if-contains_key.ensures c.args.self.now c.self.view_is)

pub invariant_of-self : goal.invariant_of-self
invariant_of-self c = elim c.match-insert.branch [
  | in-Ok w ↦ rw w.in-Ok.ensures.entries (All-keys-insert_entry pair_cmp (c.args.id, c.args.version) c.in-Some.owned (λ p. 1 ≤ p.1) c.self.inside.keys.entries c.self.invariant c.requires)
  | in-Err w ↦ rw w.in-Err.ensures.err c.self.invariant
]

pub returns-clause-added : goal.returns-clause-added
returns-clause-added c = elim c.match-insert.branch [
  | in-Ok w ↦ rw w.result-is (rw (← c.self.view_is) (subst (λ key. HasAdded c.self.inside.keys.entries c.insert.new.self.entries c.args.id c.args.version key) c.in-Some.ensures.0
      (insert-HasAdded c.self.inside.keys c.insert.new.self c.args.id c.args.version c.in-Some.owned _ w.in-Ok.ensures.updates.0 w.in-Ok.ensures.len w.in-Ok.ensures.old c.if-contains_key.ensures)))
  | in-Err w ↦ rw w.result-is tt
]

pub returns-clause-accepted : goal.returns-clause-accepted
returns-clause-accepted c =
    let none = found c.args.id c.args.version c.self.inside.keys.entries false c.if-contains_key.ensures c.args.self.now c.self.view_is in
    elim c.match-insert.branch [
      | in-Ok w ↦ rw w.result-is (c.in-Some.ensures.1, none)
      | in-Err w ↦ rw w.result-is tt
    ]

pub returns-clause-refused : goal.returns-clause-refused
returns-clause-refused c =
    let none = found c.args.id c.args.version c.self.inside.keys.entries false c.if-contains_key.ensures c.args.self.now c.self.view_is in
    elim c.match-insert.branch [
      | in-Ok w ↦ rw w.result-is tt
      | in-Err w ↦ rw w.result-is (c.in-Some.ensures.1, none)
    ]
