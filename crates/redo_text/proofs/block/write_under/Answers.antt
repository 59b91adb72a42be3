use Rattle.std.proofs.Common.{◌≡◌, ◌+◌, ◌-◌, ◌*◌, ◌<◌, ℕ, List, length, take, drop, ap, sym, subst, ◌∙◌, arith}
use Rattle.aes_core.specs.Modes.{joined}
use Rattle.byte_list.specs.Bytes.{put, range, zeros}
use Rattle.byte_list.proofs.PutLaws.{put_written}
use Rattle.byte_list.proofs.RangeLaws.{length-zeros}
use Rattle.redo_text.specs.Block.{block_count, nth_block}
use Rattle.redo_text.proofs.BlockLoop.{are_more, joined_done, joined_next, joined_write}
use Rattle.redo_text.proofs.block.write_under.Goals as goal

pub loop-k-init : goal.loop-k-init
unfolding joined
loop-k-init c = record {
  out = c.requires.clear ∙ (let all : 4096 * block_count c.args.text.now ≡ 4096 * (block_count c.args.text.now - 0) = omega arith in ap zeros all);
  each = record { long = λ k lt. absurd (omega arith) };
}

pub slice_bounds-write_nth-end : goal.slice_bounds-write_nth-end
slice_bounds-write_nth-end c =
    let count : c.div_ceil-count.result ≡ block_count c.args.text.now = c.div_ceil-count.ensures in
    omega (arith, c.loop-k.auto.out, ap length c.requires.clear ∙ length-zeros (4096 * block_count c.args.text.now), count)

pub write_nth-requires-clause-clear : goal.write_nth-requires-clause-clear
write_nth-requires-clause-clear c =
    let k : ℕ = c.loop-k.k in
    let f : ℕ → List ℕ = nth_block c.args.key.now c.args.first c.args.text.now in
    let within : k < block_count c.args.text.now = subst (λ (n : ℕ). k < n) c.div_ceil-count.ensures c.loop-k-test.true in
    let size : 4096 * k + 4096 - 4096 * k ≡ 4096 = omega arith in
    ap (λ (n : ℕ). take n (drop (4096 * k) c.loop-k.out)) size
    ∙ ap (range (4096 * k) 4096) c.loop-k.invariant.out
    ∙ joined_next 4096 f (block_count c.args.text.now) k c.loop-k.invariant.each within

pub write_nth-requires-clause-within : goal.write_nth-requires-clause-within
write_nth-requires-clause-within c = subst (λ (n : ℕ). c.loop-k.k < n) c.div_ceil-count.ensures c.loop-k-test.true

pub write_nth-requires-clause-number : goal.write_nth-requires-clause-number
write_nth-requires-clause-number c =
    let within : c.loop-k.k < block_count c.args.text.now = subst (λ (n : ℕ). c.loop-k.k < n) c.div_ceil-count.ensures c.loop-k-test.true in
    omega (arith, within, c.requires.number)

pub loop-k-preserved : goal.loop-k-preserved
loop-k-preserved c =
    let k : ℕ = c.loop-k.k in
    let f : ℕ → List ℕ = nth_block c.args.key.now c.args.first c.args.text.now in
    let block : List ℕ = c.write_nth.new.block in
    let within : k < block_count c.args.text.now = subst (λ (n : ℕ). k < n) c.div_ceil-count.ensures c.loop-k-test.true in
    let size : 4096 * k + 4096 - 4096 * k ≡ 4096 = omega arith in
    let long : length block ≡ 4096 = c.write_nth.auto.block ∙ ap length (ap (λ (n : ℕ). take n (drop (4096 * k) c.loop-k.out)) size ∙ ap (range (4096 * k) 4096) c.loop-k.invariant.out
    ∙ joined_next 4096 f (block_count c.args.text.now) k c.loop-k.invariant.each within) ∙ length-zeros 4096 in
    record {
      out = put_written (4096 * k) (4096 * k + 4096 - 4096 * k) block c.loop-k.out (size ∙ sym long) ∙ ap (put (4096 * k) block) c.loop-k.invariant.out
          ∙ joined_write 4096 f (block_count c.args.text.now) k block c.loop-k.invariant.each within long c.write_nth.ensures;
      each = are_more 4096 f k c.loop-k.invariant.each (ap length (sym c.write_nth.ensures) ∙ long);
    }

pub returns : goal.returns
returns c =
    let f : ℕ → List ℕ = nth_block c.args.key.now c.args.first c.args.text.now in
    let end : block_count c.args.text.now ≡ c.loop-k.k = omega (arith, c.loop-k-test.false, c.loop-k.auto.k-end, c.div_ceil-count.ensures) in
    record {
      value = c.loop-k.invariant.out ∙ joined_done 4096 f (block_count c.args.text.now) c.loop-k.k end;
      each = record { long = λ k lt. c.loop-k.invariant.each.long k (omega (arith, end, lt)) };
    }
