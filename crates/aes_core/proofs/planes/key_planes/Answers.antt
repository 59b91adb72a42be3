use Rattle.std.proofs.Common.{◌≡◌, ℕ, List, ◌*◌, ◌+◌, ◌-◌, length, ap, ◌∙◌, arith}
use borrow.Author.Count.{below_more}
use borrow.Rule.Slice.PartMut.{put_mid}
use Rattle.aes_core.specs.Cipher.{bytes_of}
use Rattle.aes_core.specs.Planes.{round_planes}
use Rattle.aes_core.proofs.PlaneLists.{HoldsKey, round_put, rounds_kept}
use Rattle.aes_core.proofs.planes.key_planes.Goals as goal

pub loop-r-init : goal.loop-r-init
loop-r-init c q lt = absurd (omega arith)

pub loop-r-preserved : goal.loop-r-preserved
loop-r-preserved c =
    let w : List ℕ = bytes_of c.args.keys.now in
    let r : ℕ = c.loop-r.r in
    let ys = c.copy_from_slice.new.self in
    let same : ys ≡ c.key_planes_at-planes.result = c.copy_from_slice.ensures.after in
    let now = put_mid (8 * r) (8 * r + 8 - 8 * r) c.loop-r.out ys in
    let here : HoldsKey c.key_planes_at-planes.result w r = record { whole = c.key_planes_at-planes.ensures.planes; keys = c.key_planes_at-planes.ensures.key } in
    let is : round_planes now r ≡ c.key_planes_at-planes.result = round_put c.loop-r.out ys r (8 * r + 8 - 8 * r) (omega arith) (ap length same ∙ here.whole.count) ∙ same in
    below_more (λ (q : ℕ). HoldsKey (round_planes now q) w q) r
    (λ q lt. rw (rounds_kept c.loop-r.out ys r (8 * r + 8 - 8 * r) q (omega arith) lt) (c.loop-r.invariant q lt))
    (rw is here)

pub returns : goal.returns
returns c =
    record {
      planes = λ r le. (c.loop-r.invariant r (omega arith)).whole;
      blocks = λ r b le lt. (c.loop-r.invariant r (omega arith)).keys b lt;
    }
