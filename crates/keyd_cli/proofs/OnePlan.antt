-- The options have one space.
use Rattle.std.proofs.Common.{◌≡◌, ℕ, List, Option, Some, None, MatchOption, arith}
use Rattle.std.specs.Fmt.{decimal}
use Rattle.std.proofs.lemmas.Fmt.{decimal_injective}
use Rattle.keyd_cli.specs.declared.words.Flag.TheVariants as flag
use Rattle.keyd_cli.specs.declared.plan.DrillPlan.{DrillPlan}
use Rattle.keyd_cli.specs.Words.{CommandWord, IsSpace}
use Rattle.keyd_cli.specs.Plan.{value_in}
use Rattle.keyd_cli.specs.PlanOf.{IsPlan}
use Rattle.keyd_cli.proofs.Spaces.{one_way, parts_of_space}

-- a space's word writes one ID and one number of pages
pub same_space : (value : CommandWord) (a b c d e f : ℕ) → IsSpace value a b c → IsSpace value d e f → (a ≡ d) × (b ≡ e)
same_space value a b c d e f p q =
    let parts = one_way value (decimal a) (decimal b) (decimal c) (decimal d) (decimal e) (decimal f) (parts_of_space value a b c p) (parts_of_space value d e f q) in (
      decimal_injective a d (omega (arith, p.id_to)) (omega (arith, q.id_to)) parts.0,
      decimal_injective b e (omega (arith, p.pages_to)) (omega (arith, q.pages_to)) parts.1,
    )

-- two plans of the same options have the same space
pub one-space : (options : List CommandWord) (p q : DrillPlan) → IsPlan options p → IsPlan options q → (p.space.space ≡ q.space.space) × (p.space.pages ≡ q.space.pages)
one-space options p q first second = by (value_in flag.Space options) first.space second.space
  where
    by : (o : Option CommandWord) → MatchOption o ⊥ (λ v. IsSpace v p.space.space p.space.pages p.space.key_id) → MatchOption o ⊥ (λ v. IsSpace v q.space.space q.space.pages q.space.key_id)
        → (p.space.space ≡ q.space.space) × (p.space.pages ≡ q.space.pages)
    by None a b = absurd a
    by (Some v) a b = same_space v p.space.space p.space.pages p.space.key_id q.space.space q.space.pages q.space.key_id a b
