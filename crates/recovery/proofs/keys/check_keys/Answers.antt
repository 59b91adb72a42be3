use Rattle.std.proofs.Common.{◌≡◌, ℕ, List, Result, Ok, Err, take, refl, sym, ap, subst, ◌∙◌}
use Rattle.doublewrite.specs.declared.refuse.OpenRefuse.{OpenRefuse}
use Rattle.doublewrite.specs.declared.refuse.OpenRefuse.TheVariants.{MissingKey}
use Rattle.store_files.proofs.HeaderBounds.{limits}
use Rattle.store_form.specs.Said.{header_said}
use Rattle.recovery.specs.Keys.{IsLeastLacking, NamedAt, key_named}
use Rattle.recovery.specs.declared.keys.KeyName.{KeyName}
use Rattle.recovery.proofs.KeySteps.{looks_all, needed_all, needed_least}
use Rattle.recovery.proofs.LooksSteps.{least_one}
use Rattle.recovery.proofs.keys.check_keys.Goals as goal

pub look_in_copies-requires-clause-order : goal.look_in_copies-requires-clause-order
look_in_copies-requires-clause-order c = (limits (header_said c.args.header.now) c.requires.allowed).order

not_refused : (why : OpenRefuse) → ◌≡◌ {A = Result (Unit {0}) OpenRefuse} (Ok tt) (Err why) → ⊥
not_refused why e = cc

same_key : (a b id version : ℕ) → ◌≡◌ {A = Result (Unit {0}) OpenRefuse} (Err (MissingKey a b)) (Err (MissingKey id version)) → (a ≡ id) × (b ≡ version)
same_key a b id version e = (cc, cc)

key_again : (a b : KeyName) → a ≡ b → ◌≡◌ {A = Result (Unit {0}) OpenRefuse} (Err (MissingKey a.id a.version)) (Err (MissingKey b.id b.version))
key_again a b e = ap (λ (k : KeyName). Err (MissingKey k.id k.version)) e

pub returns-in-None-clause-there : goal.returns-in-None-clause-there
returns-in-None-clause-there c = λ log es found.
    let xs = take c.args.header.now.count c.args.header.now.spaces in
    needed_all (header_said c.args.header.now) c.args.run.now.versions c.args.notes.now c.args.copies.now log c.args.active es (limits (header_said c.args.header.now) c.requires.allowed).order found c.args.ring.now c.look_in_copies.result
    (looks_all c.args.ring.now xs c.args.run.now.versions c.args.notes.now c.args.copies.now c.args.active _ _ _ _ c.look_in_versions-of_blocks.ensures c.look_for-of_log.ensures c.look_in_spaces-of_pages.ensures c.look_in_copies.ensures) c.in-None.is

pub returns-in-None-clause-exact : goal.returns-in-None-clause-exact
returns-in-None-clause-exact c = λ log es found id version. (
  (λ refused. absurd (not_refused (MissingKey id version) refused)),
  (λ least. absurd (returns-in-None-clause-there c log es found (key_named id version) least.needed least.lacks)),
)

pub returns-in-Some-clause-refused : goal.returns-in-Some-clause-refused
returns-in-Some-clause-refused c = λ log es found.
    let xs = take c.args.header.now.count c.args.header.now.spaces in
    needed_least (header_said c.args.header.now) c.args.run.now.versions c.args.notes.now c.args.copies.now log c.args.active es (limits (header_said c.args.header.now) c.requires.allowed).order found c.args.ring.now c.look_in_copies.result c.in-Some.name
    (looks_all c.args.ring.now xs c.args.run.now.versions c.args.notes.now c.args.copies.now c.args.active _ _ _ _ c.look_in_versions-of_blocks.ensures c.look_for-of_log.ensures c.look_in_spaces-of_pages.ensures c.look_in_copies.ensures) c.in-Some.is

pub returns-in-Some-clause-exact : goal.returns-in-Some-clause-exact
returns-in-Some-clause-exact c = λ log es found id version.
    let least = returns-in-Some-clause-refused c log es found in
    let P = NamedAt (header_said c.args.header.now) log c.args.active es in (
      (λ refused. let same = same_key c.in-Some.name.id c.in-Some.name.version id version refused in subst (λ (i : ℕ). IsLeastLacking c.args.ring.now P (key_named i version)) same.0 (subst (λ (v : ℕ). IsLeastLacking c.args.ring.now P (key_named c.in-Some.name.id v)) same.1 least)),
      (λ other. key_again c.in-Some.name (key_named id version) (least_one c.args.ring.now P c.in-Some.name (key_named id version) least other)),
    )
