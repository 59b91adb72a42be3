use Rattle.std.proofs.Common.{◌≡◌, ◌≢◌, ◌⊎◌, ◌+◌, ◌≤◌, true, List, None, inl, inr, sym, subst}
use Rattle.counted_disk.specs.Counting.{IsCounted, count_of}
use Rattle.disk_model.proofs.Moments.{at_each, at_is}
use Rattle.key_ring.specs.Ring.{RingEntry}
use Rattle.session_core.specs.Files.{calls_of}
use Rattle.session_core.specs.Keys.{HasVersion}
use Rattle.session_core.specs.Session.{Running}
use Rattle.session_core.specs.Spaces.{is_page}
use Rattle.session_core.proofs.SpaceLaws.{page_below, page_some}
use Rattle.session_core.proofs.ToldLaws.{dirty_read, told_read}
use Rattle.session_core.proofs.session.SessionCore.load.Goals as goal

pub load_page-requires-clause-page : goal.load_page-requires-clause-page
load_page-requires-clause-page g c =
    page_below c.self.inside.store.spaces c.args.name.space c.args.name.page
    (subst (λ (r : Running _). is_page r.store.spaces c.args.name.space c.args.name.page ≡ true) (sym c.self.view_is) c.requires.page)

pub returns-clause-calls : goal.returns-clause-calls
returns-clause-calls g c = subst (λ (r : Running _). calls_of g.D.Disk.clock c.load_page.new.disk ≤ calls_of g.D.Disk.clock r.disk + 1) c.self.view_is c.load_page.ensures.calls

pub returns-clause-later : goal.returns-clause-later
returns-clause-later g c =
    subst (λ (r : Running _). g.D.Disk.is_later r.disk.disk c.load_page.new.disk.disk × IsCounted (count_of g.D.Disk.past g.D.Disk.faults g.D.Disk.memory_refusals r.disk) (count_of g.D.Disk.past g.D.Disk.faults g.D.Disk.memory_refusals c.load_page.new.disk))
    c.self.view_is c.load_page.ensures.later

pub invariant_of-self : goal.invariant_of-self
invariant_of-self g c =
    let kept = c.self.invariant in
    let past = g.D.Disk.past c.self.inside.disk.disk in
    let up : c.self.inside.disk.stop ≡ None = subst (λ (r : Running _). r.disk.stop ≡ None) (sym c.self.view_is) c.requires.up in
    let some : c.args.name.page ≢ 0 = page_some c.self.inside.store.spaces c.args.name.space c.args.name.page (subst (λ (r : Running _). is_page r.store.spaces c.args.name.space c.args.name.page ≡ true) (sym c.self.view_is) c.requires.page) in
    let after = c.load_page.ensures.pool in
    record {
      spaces = kept.spaces;
      active = kept.active;
      keyed = subst (λ (ring : List RingEntry). HasVersion ring c.self.inside.active c.self.inside.store.spaces) (sym c.load_page.ensures.keys) kept.keyed;
      floors = kept.floors;
      ring = kept.ring;
      numbers = kept.numbers;
      entries = kept.entries;
      acked = kept.acked;
      settled = kept.settled;
      dirty = dirty_read c.self.inside.keys c.self.inside.store past c.args.name.space c.args.name.page c.self.inside.pool c.load_page.new.pool some after c.self.inside.log kept.dirty;
      files = λ runs. at_is c.load_page.ensures.past (kept.files up);
      reads = λ runs. at_is c.load_page.ensures.past (at_each (λ es told. told_read c.self.inside.keys c.self.inside.store past c.args.name.space c.args.name.page c.self.inside.pool c.load_page.new.pool some after c.self.inside.log es told) (kept.reads up));
    }
