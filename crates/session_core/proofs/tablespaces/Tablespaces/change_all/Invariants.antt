use Rattle.std.proofs.Common.{◌≡◌, drop}
use Rattle.crash_image.specs.Recovers.{AreOfStore}
use Rattle.session_core.specs.SpaceChanges.{spaces_after}
use Rattle.session_core.proofs.tablespaces.Tablespaces.change_all.Given as goal

abbrev pub invariant-loop-change : goal.invariant-loop-change
invariant-loop-change l = record {
  after : spaces_after (drop l.change-index l.changes) l.self ≡ spaces_after l.changes l.fn.self;
  of_store : AreOfStore l.self.header.spaces (drop l.change-index l.changes);
}
