use Rattle.std.proofs.Common.{◌≡◌, ℕ, List, ◌+◌, ◌-◌, ◌*◌, take, drop, ap, ◌∙◌, arith}
use Rattle.places.specs.Places.{place}
use Rattle.redo_log.specs.State.{LogState}
use Rattle.redo_log.proofs.log.Log.pending_block.Goals as goal

pub returns : goal.returns
unfolding place
returns c =
    let at : ℕ = c.args.i * 4096 in
    let size : c.args.i * 4096 + 4096 - c.args.i * 4096 ≡ 4096 = omega arith in
    ap (λ (n : ℕ). take n (drop at c.deref.result.now)) size ∙ ap (λ (l : List ℕ). take 4096 (drop at l)) (c.deref.ensures.value ∙ ap (λ (w : LogState). w.pending) c.self.view_is)
