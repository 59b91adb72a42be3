use Rattle.std.proofs.Common.{◌≡◌, ℕ, suc, List, [], ◌+◌, ◌-◌, get_or, ap, ap₂, ◌∙◌, arith}
use Rattle.aes_core.specs.Cipher.{before_rounds, inv_mix_columns, inv_shift_rows, inv_sub_bytes, xored}
use Rattle.aes_core.proofs.PlaneLists.{held, keyed}
use Rattle.aes_core.proofs.RoundSteps.{before_more, before_none}
use Rattle.aes_core.proofs.planes.decrypt_eight.Goals as goal

pub add_planes-state-requires : goal.add_planes-state-requires
add_planes-state-requires c = (c.transpose.ensures.planes, held c.args.keys.now c.args.rounds c.args.rounds c.planes_at.result c.requires.keys (omega arith) c.planes_at.ensures)

pub loop-n-init : goal.loop-n-init
loop-n-init c = (
  c.add_planes-state.ensures.planes,
  λ w k b lt.
      c.add_planes-state.ensures.blocks b lt
      ∙ ap₂ (λ (s k : List ℕ). xored s k) (c.transpose.ensures.packs b lt) (keyed c.args.keys.now c.args.rounds c.args.rounds c.planes_at.result w k (omega arith) c.planes_at.ensures b lt)
      ∙ before_none w (get_or c.args.blocks b []) c.args.rounds,
)

pub inv_shift_planes-requires : goal.inv_shift_planes-requires
inv_shift_planes-requires c = c.loop-n.invariant.0

pub add_planes-requires : goal.add_planes-requires
add_planes-requires c = (c.inv_sub_planes-back.ensures.planes, held c.args.keys.now c.args.rounds (c.args.rounds - c.loop-n.n) c.planes_at-in-loop-n.result c.requires.keys (omega arith) c.planes_at-in-loop-n.ensures)

pub loop-n-preserved : goal.loop-n-preserved
loop-n-preserved c =
    let n : ℕ = c.loop-n.n in
    let m : ℕ = c.args.rounds in
    let e : n ≡ suc (n - 1) = omega arith in
    let f : n ≡ n + 1 - 1 = omega arith in (
      c.inv_mix_planes-next.ensures.planes,
      λ w k b lt.
          let s : List ℕ = get_or c.args.blocks b [] in
          let back = c.inv_sub_planes-back.ensures.blocks b lt ∙ ap inv_sub_bytes (c.inv_shift_planes.ensures.blocks b lt ∙ ap inv_shift_rows (c.loop-n.invariant.1 w k b lt)) in
          let added = c.add_planes.ensures.blocks b lt
          ∙ ap₂ (λ (s k : List ℕ). xored s k) back (keyed c.args.keys.now m (m - n) c.planes_at-in-loop-n.result w k (omega arith) c.planes_at-in-loop-n.ensures b lt) in
          c.inv_mix_planes-next.ensures.blocks b lt ∙ ap inv_mix_columns added
          ∙ before_more w s m (n - 1) n e ∙ ap (before_rounds w m s) f,
    )

pub inv_shift_planes-requires-2 : goal.inv_shift_planes-requires-2
inv_shift_planes-requires-2 c = c.loop-n.invariant.0

pub add_planes-requires-2 : goal.add_planes-requires-2
add_planes-requires-2 c = (c.inv_sub_planes-first.ensures.planes, held c.args.keys.now c.args.rounds 0 c.planes_at-2.result c.requires.keys (omega arith) c.planes_at-2.ensures)

pub returns-clause-value : goal.returns-clause-value
returns-clause-value c w k b lt =
    let m : ℕ = c.args.rounds in
    let e : c.loop-n.n - 1 ≡ m - 1 = omega arith in
    let s : List ℕ = get_or c.args.blocks b [] in
    c.transpose-2.ensures.unpacks b lt ∙ c.add_planes-2.ensures.blocks b lt
    ∙ ap₂ (λ (s k : List ℕ). xored s k)
    (c.inv_sub_planes-first.ensures.blocks b lt ∙ ap inv_sub_bytes (c.inv_shift_planes-2.ensures.blocks b lt ∙ ap inv_shift_rows (c.loop-n.invariant.1 w k b lt ∙ ap (before_rounds w m s) e)))
    (keyed c.args.keys.now m 0 c.planes_at-2.result w k (omega arith) c.planes_at-2.ensures b lt)
