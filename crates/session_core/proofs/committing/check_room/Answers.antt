use Rattle.std.proofs.Common.{◌≡◌, ◌∙◌, ℕ, ◌+◌, ◌<◌, ◌≤◌, List, length, ap, sym, subst, arith}
use Rattle.page_pool.specs.Changes.{fresh_pages}
use Rattle.page_pool.specs.declared.names.DirtyPage.{DirtyPage}
use Rattle.redo_log.specs.Log.{free_of}
use Rattle.redo_text.specs.declared.change.Change.{Change}
use Rattle.session_core.specs.Entering.{HasNoEntryRoom, Long, NoBlocks, NoNumbers, NoPages, mtr_block_count}
use Rattle.session_core.specs.declared.fault.EngineFault.TheVariants.{LogFull, PoolFull, Spent, TooLong}
use Rattle.session_core.proofs.committing.check_room.Goals as goal

pub returns-then-blocks-gt-MOST_BLOCKS-clause-refused : goal.returns-then-blocks-gt-MOST_BLOCKS-clause-refused
returns-then-blocks-gt-MOST_BLOCKS-clause-refused c =
    let log = c.args.log.now in
    let pool = c.args.pool.now in
    let mtr = c.args.mtr.now in
    let n = c.mtr_blocks-blocks.ensures in
    subst (λ (k : ℕ). HasNoEntryRoom log pool mtr (TooLong k)) (sym n) (Long (omega (arith, n)))

pub returns-then-next-needed-gt-LAST_BLOCK-clause-refused : goal.returns-then-next-needed-gt-LAST_BLOCK-clause-refused
returns-then-next-needed-gt-LAST_BLOCK-clause-refused c =
    let log = c.args.log.now in
    let pool = c.args.pool.now in
    let mtr = c.args.mtr.now in
    let n = c.mtr_blocks-blocks.ensures in
    let next = c.next-next.ensures.next in
    subst (λ (k : ℕ). HasNoEntryRoom log pool mtr (Spent k)) (sym next) (NoNumbers (omega (arith, n)) (omega (arith, n, next)))

pub returns-then-dirty-fresh-clause-refused : goal.returns-then-dirty-fresh-clause-refused
returns-then-dirty-fresh-clause-refused c =
    let log = c.args.log.now in
    let pool = c.args.pool.now in
    let mtr = c.args.mtr.now in
    let n = c.mtr_blocks-blocks.ensures in
    let next = c.next-next.ensures.next in
    let dirty : length c.dirty-dirty.result.now ≡ length pool.dirty.entries = ap (λ (l : List DirtyPage). length l) c.dirty-dirty.ensures.entries in
    let fresh : c.count_fresh-fresh.result ≡ fresh_pages mtr pool.dirty = c.count_fresh-fresh.ensures ∙ ap (λ (l : List Change). fresh_pages l pool.dirty) c.changes.ensures in
    let most = c.dirty-dirty.ensures.most in
    subst (λ (k : ℕ). HasNoEntryRoom log pool mtr (PoolFull k c.count_fresh-fresh.result)) (sym dirty)
    (subst (λ (k : ℕ). HasNoEntryRoom log pool mtr (PoolFull (length pool.dirty.entries) k)) (sym fresh) (NoPages (omega (arith, n)) (omega (arith, n, next)) (omega (arith, dirty, fresh, most))))

pub returns-then-free-needed-clause-refused : goal.returns-then-free-needed-clause-refused
returns-then-free-needed-clause-refused c =
    let log = c.args.log.now in
    let pool = c.args.pool.now in
    let mtr = c.args.mtr.now in
    let n = c.mtr_blocks-blocks.ensures in
    let next = c.next-next.ensures.next in
    let dirty : length c.dirty-dirty.result.now ≡ length pool.dirty.entries = ap (λ (l : List DirtyPage). length l) c.dirty-dirty.ensures.entries in
    let fresh : c.count_fresh-fresh.result ≡ fresh_pages mtr pool.dirty = c.count_fresh-fresh.ensures ∙ ap (λ (l : List Change). fresh_pages l pool.dirty) c.changes.ensures in
    let most = c.dirty-dirty.ensures.most in
    let free = c.free-free.ensures.free in
    subst (λ (k : ℕ). HasNoEntryRoom log pool mtr (LogFull k c.free-free.result)) (sym n)
    (subst (λ (k : ℕ). HasNoEntryRoom log pool mtr (LogFull (mtr_block_count mtr) k)) (sym free) (NoBlocks (omega (arith, n)) (omega (arith, n, next)) (omega (arith, dirty, fresh, most)) (omega (arith, n, free))))
