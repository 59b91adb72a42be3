use Rattle.std.proofs.Common.{◌≡◌, ◌<◌, ◌≤◌, List, sym, subst, arith}
use Rattle.space_head.specs.declared.space.SpaceInfo.{SpaceInfo}
use Rattle.session_core.specs.Keys.{HasVersion}
use Rattle.session_core.specs.Session.{Running}
use Rattle.session_core.proofs.FloorLaws.{none_later}
use Rattle.session_core.proofs.session.SessionCore.activate.Goals as goal

pub invariant_of-self : goal.invariant_of-self
invariant_of-self g c =
    let kept = c.self.invariant in
    let version = c.args.version in
    let keyed = subst (λ (r : Running _). HasVersion r.ring version r.store.spaces) (sym c.self.view_is) c.in_ok-check_version.ensures.keyed in
    let newer : c.self.inside.active < version = subst (λ (r : Running _). r.active < version) (sym c.self.view_is) c.in_ok-check_version.ensures.newer in
    let low : c.self.inside.active ≤ version = omega (arith, newer) in
    record {
      spaces = kept.spaces;
      active = omega (arith, newer);
      keyed = keyed;
      floors = none_later c.self.inside.active version c.self.inside.store.spaces low kept.floors;
      ring = kept.ring;
      numbers = kept.numbers;
      entries = kept.entries;
      acked = kept.acked;
      settled = kept.settled;
      dirty = kept.dirty;
      files = kept.files;
      reads = kept.reads;
    }
