use Rattle.std.proofs.Common.{◌≡◌, ◌+◌, ◌≤◌, None, drop, length, take, true}
use Rattle.counted_disk.specs.Counting.{IsCounted, count_of}
use Rattle.crash_image.specs.Recovers.{AreOfStore}
use Rattle.page_places.specs.Texts.{page_bytes}
use Rattle.page_pool.specs.Changes.{name_page}
use Rattle.page_pool.specs.Pages.{is_held}
use Rattle.page_pool.specs.declared.names.PageName.{PageName}
use Rattle.session_core.specs.Files.{calls_of}
use Rattle.session_core.specs.Holding.{AreAtHand, LooksForPages}
use Rattle.session_core.proofs.HoldLaws.{IsNear}
use Rattle.session_core.proofs.holding.hold_each.Given as goal

abbrev pub invariant-loop-change : goal.invariant-loop-change
invariant-loop-change g l = record {
  looks : LooksForPages l.fn.keys l.store (g.D.Disk.past l.fn.disk.disk) l.changes l.fn.pool l.pool;
  near : (name : PageName) → name_page (take l.change-index l.changes) name ≡ true → IsNear l.store l.change-index name l.pool;
  of_store : AreOfStore l.store.header.spaces (drop l.change-index l.changes);
  still : AreAtHand l.store l.changes l.fn.pool → (l.disk ≡ l.fn.disk) × ((name : PageName) → is_held name l.pool ≡ is_held name l.fn.pool);
  up : l.disk.stop ≡ None;
  long : length l.into ≡ page_bytes;
  keys : l.keys ≡ l.fn.keys;
  past : g.D.Disk.past l.disk.disk ≡ g.D.Disk.past l.fn.disk.disk;
  later : g.D.Disk.is_later l.fn.disk.disk l.disk.disk × IsCounted (count_of g.D.Disk.past g.D.Disk.faults g.D.Disk.memory_refusals l.fn.disk) (count_of g.D.Disk.past g.D.Disk.faults g.D.Disk.memory_refusals l.disk);
  calls : calls_of g.D.Disk.clock l.disk ≤ calls_of g.D.Disk.clock l.fn.disk + l.change-index;
}
