use Rattle.std.proofs.Common.{◌≡◌, ℕ, List, sym, subst}
use Rattle.std.specs.Prelude.{Contains}
use Rattle.image_reader.specs.Naming.{AddsNames}
use Rattle.image_reader.proofs.Additions.{adds_known, adds_push}
use Rattle.image_reader.proofs.naming.add.Goals as goal

pub returns-then-has_name : goal.returns-then-has_name
returns-then-has_name c =
    adds_known c.args.names.now.items (c.args.id, c.args.version) (subst (λ (xs : List (ℕ × ℕ)). Contains xs (c.args.id, c.args.version)) c.deref.ensures.value (c.has_name.ensures.yes c.if-has_name.true))

pub returns : goal.returns
returns c =
    let none = subst (λ (xs : List (ℕ × ℕ)). Contains xs (c.args.id, c.args.version) → ⊥) c.deref.ensures.value (c.has_name.ensures.no c.if-has_name.false) in
    subst (λ (xs : List (ℕ × ℕ)). AddsNames (λ x. x ≡ (c.args.id, c.args.version)) c.args.names.now.items xs) (sym c.in_ok-push.ensures.items) (adds_push c.args.names.now.items (c.args.id, c.args.version) none)
