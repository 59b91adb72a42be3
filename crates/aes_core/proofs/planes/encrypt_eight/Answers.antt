use Rattle.std.proofs.Common.{◌≡◌, ℕ, suc, List, [], ◌+◌, ◌-◌, get_or, ap, ap₂, ◌∙◌, arith}
use Rattle.aes_core.specs.Cipher.{after_rounds, mix_columns, shift_rows, sub_bytes, xored}
use Rattle.aes_core.proofs.PlaneLists.{held, keyed}
use Rattle.aes_core.proofs.RoundSteps.{after_more, after_none}
use Rattle.aes_core.proofs.planes.encrypt_eight.Goals as goal

pub add_planes-state-requires : goal.add_planes-state-requires
add_planes-state-requires c = (c.transpose.ensures.planes, held c.args.keys.now c.args.rounds 0 c.planes_at.result c.requires.keys (omega arith) c.planes_at.ensures)

pub loop-r-init : goal.loop-r-init
loop-r-init c = (
  c.add_planes-state.ensures.planes,
  λ w k b lt.
      c.add_planes-state.ensures.blocks b lt
      ∙ ap₂ (λ (s k : List ℕ). xored s k) (c.transpose.ensures.packs b lt) (keyed c.args.keys.now c.args.rounds 0 c.planes_at.result w k (omega arith) c.planes_at.ensures b lt)
      ∙ after_none w (get_or c.args.blocks b []),
)

pub sub_planes-requires : goal.sub_planes-requires
sub_planes-requires c = c.loop-r.invariant.0

pub loop-r-preserved : goal.loop-r-preserved
loop-r-preserved c =
    let r : ℕ = c.loop-r.r in
    let e : r ≡ suc (r - 1) = omega arith in
    let f : r ≡ r + 1 - 1 = omega arith in (
      c.add_planes-next.ensures.planes,
      λ w k b lt.
          let s : List ℕ = get_or c.args.blocks b [] in
          let mixed = c.mix_planes-mixed.ensures.blocks b lt ∙ ap mix_columns (c.shift_planes.ensures.blocks b lt ∙ ap shift_rows (c.sub_planes.ensures.blocks b lt ∙ ap sub_bytes (c.loop-r.invariant.1 w k b lt))) in
          c.add_planes-next.ensures.blocks b lt
          ∙ ap₂ (λ (s k : List ℕ). xored s k) mixed (keyed c.args.keys.now c.args.rounds r c.planes_at-in-loop-r.result w k (omega arith) c.planes_at-in-loop-r.ensures b lt)
          ∙ after_more w s (r - 1) r e ∙ ap (after_rounds w s) f,
    )

pub sub_planes-requires-2 : goal.sub_planes-requires-2
sub_planes-requires-2 c = c.loop-r.invariant.0

pub returns-clause-value : goal.returns-clause-value
returns-clause-value c w k b lt =
    let e : c.loop-r.r - 1 ≡ c.args.rounds - 1 = omega arith in
    let s : List ℕ = get_or c.args.blocks b [] in
    c.transpose-2.ensures.unpacks b lt ∙ c.add_planes.ensures.blocks b lt
    ∙ ap₂ (λ (s k : List ℕ). xored s k)
    (c.shift_planes-last.ensures.blocks b lt ∙ ap shift_rows (c.sub_planes-2.ensures.blocks b lt ∙ ap sub_bytes (c.loop-r.invariant.1 w k b lt ∙ ap (after_rounds w s) e)))
    (keyed c.args.keys.now c.args.rounds c.args.rounds c.planes_at-2.result w k (omega arith) c.planes_at-2.ensures b lt)
