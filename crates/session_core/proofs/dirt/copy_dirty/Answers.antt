use Rattle.std.proofs.Common.{◌≡◌, ◌<◌, length, refl, ap, sym, ◌∙◌, arith}
use Rattle.page_pool.specs.Pages.{PoolState}
use Rattle.page_pool.specs.declared.names.DirtyPage.{DirtyPage}
use Rattle.session_core.proofs.CopyLaws.{copied_at, copied_none}
use Rattle.session_core.proofs.dirt.copy_dirty.Goals as goal

pub loop-i-init : goal.loop-i-init
loop-i-init c = record { pool = refl; copied = copied_none c.args.pool.now c.args.batch.now c.requires.none }

pub loop-i-preserved : goal.loop-i-preserved
loop-i-preserved c =
    let within : c.loop-i.i < length c.args.pool.now.dirty.entries = omega (arith, c.loop-i-test.true, ap (length {A = DirtyPage}) c.dirty-i-end.ensures.entries) in
    record {
      pool = c.in_ok-copy_next.ensures.pool ∙ c.loop-i.invariant.pool;
      copied = copied_at c.args.pool.now c.loop-i.pool c.dirty.result.now c.args.batch.now c.loop-i.batch c.copy_next.new.batch c.loop-i.i _ c.loop-i.invariant.pool c.dirty.ensures.entries within c.in_ok-copy_next.ensures.added c.loop-i.invariant.copied;
    }
