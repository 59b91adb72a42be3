use Rattle.std.proofs.Common.{◌≡◌, ◌∙◌, ◌<◌, ◌≤◌, List, length, Some, true, ap, sym, subst, arith, rules}
use Rattle.std.specs.Prelude.{IsErrAnd}
use Rattle.byte_list.proofs.RangeLaws.{drop_item}
use Rattle.cause_core.proofs.Causes.{handed}
use Rattle.counted_disk.specs.Counting.{counts_then}
use Rattle.crash_image.specs.Recovers.{AreOfStore}
use Rattle.disk_model.specs.Past.{Past}
use Rattle.key_ring.specs.Ring.{RingEntry}
use Rattle.page_pool.specs.Changes.{name_page}
use Rattle.page_pool.specs.declared.names.PageName.{PageName}
use Rattle.space_head.specs.declared.space.SpaceInfo.{SpaceInfo}
use Rattle.session_core.specs.Holding.{IsHoldFault, MeetsPage}
use Rattle.session_core.specs.Spaces.{space_with_id}
use Rattle.session_core.proofs.HoldLaws.{all_held, hand_same, held_met, looks_found, looks_meets, named_at, near_next}
use Rattle.session_core.proofs.SpaceEdits.{space_named}
use Rattle.session_core.proofs.holding.hold_each.Goals as goal

pub hold_page-requires-clause-page : goal.hold_page-requires-clause-page
hold_page-requires-clause-page g c =
    let store = c.args.store.now in
    let rest = drop_item c.args.changes.now c.loop-change.change-index c.change-item.result c.loop-change-test.true c.change-item.is in
    let own = (subst (AreOfStore store.header.spaces) rest c.loop-change.invariant.of_store).0 in
    subst (λ (n : PageName). (x : SpaceInfo) × (space_with_id store.spaces n.space ≡ Some x) × (n.page < x.pages)) (sym c.name_of.ensures) (space_named store c.change-item.result c.spaces-spaces.ensures.kept own)

pub returns-in_err-hold_page-clause-refused : goal.returns-in_err-hold_page-clause-refused
returns-in_err-hold_page-clause-refused g c =
    let is : IsErrAnd c.from_residual.result (λ e. e ≡ c.in_err-hold_page.field-0.0) = search rules in
    let at = c.loop-change.invariant in
    let changes = c.args.changes.now in
    let named : name_page changes c.name_of.result ≡ true = ap (name_page changes) c.name_of.ensures ∙ named_at changes c.loop-change.change-index c.change-item.result c.loop-change-test.true c.change-item.is in
    let fault =
    subst (λ (k : List RingEntry). IsHoldFault k c.args.store.now (g.D.Disk.past c.args.disk.now.disk) c.name_of.result c.hold_page.new.disk c.loop-change.pool c.in_err-hold_page.field-0.0) at.keys
    (subst (λ (h : Past). IsHoldFault c.loop-change.keys c.args.store.now h c.name_of.result c.hold_page.new.disk c.loop-change.pool c.in_err-hold_page.field-0.0) at.past c.in_err-hold_page.ensures.refused) in
    handed _ c.from_residual.result c.in_err-hold_page.field-0.0 is (record { name = c.name_of.result; pool = c.loop-change.pool; named = named; looks = at.looks; fault = fault })

pub returns-in_err-hold_page-clause-looks : goal.returns-in_err-hold_page-clause-looks
returns-in_err-hold_page-clause-looks g c =
    looks_found c.args.keys.now c.args.store.now (g.D.Disk.past c.args.disk.now.disk) c.args.changes.now c.name_of.result c.args.pool.now c.loop-change.pool c.hold_page.new.pool c.in_err-hold_page.ensures.pool c.loop-change.invariant.looks

pub returns-in_err-hold_page-clause-still : goal.returns-in_err-hold_page-clause-still
returns-in_err-hold_page-clause-still g c = λ hand.
    let changes = c.args.changes.now in
    let named : name_page changes c.name_of.result ≡ true = ap (name_page changes) c.name_of.ensures ∙ named_at changes c.loop-change.change-index c.change-item.result c.loop-change-test.true c.change-item.is in
    let still = c.loop-change.invariant.still hand in
    c.hold_page.ensures.still (hand_same c.args.store.now c.name_of.result c.loop-change.pool c.args.pool.now (still.1 c.name_of.result) (hand c.name_of.result named)) ∙ still.0

pub returns-in_err-hold_page-clause-later : goal.returns-in_err-hold_page-clause-later
returns-in_err-hold_page-clause-later g c =
    let first = c.loop-change.invariant.later in
    let second = c.hold_page.ensures.later in
    (g.met.D.Disk.is_later_transitive _ _ _ first.0 second.0, counts_then _ _ _ first.1 second.1)

pub returns-in_err-hold_page-clause-calls : goal.returns-in_err-hold_page-clause-calls
returns-in_err-hold_page-clause-calls g c =
    let before = c.loop-change.invariant.calls in
    let more = c.hold_page.ensures.calls in
    let lt = c.loop-change-test.true in
    omega (arith, before, more, lt)

pub loop-change-preserved : goal.loop-change-preserved
loop-change-preserved g c =
    let at = c.loop-change.invariant in
    let store = c.args.store.now in
    let changes = c.args.changes.now in
    let name = c.name_of.result in
    let past = g.D.Disk.past c.args.disk.now.disk in
    let item = c.change-item.result in
    let lt = c.loop-change-test.true in
    let named : name_page changes name ≡ true = ap (name_page changes) c.name_of.ensures ∙ named_at changes c.loop-change.change-index item lt c.change-item.is in
    let rest = drop_item changes c.loop-change.change-index item lt c.change-item.is in
    let meets =
    subst (λ (k : List RingEntry). MeetsPage k store past name c.loop-change.pool c.hold_page.new.pool) at.keys
    (subst (λ (h : Past). MeetsPage c.loop-change.keys store h name c.loop-change.pool c.hold_page.new.pool) at.past c.in_ok-hold_page.ensures.meets) in
    let first = at.later in
    let second = c.hold_page.ensures.later in
    let before = at.calls in
    let more = c.hold_page.ensures.calls in
    record {
      looks = looks_meets c.args.keys.now store past changes name c.args.pool.now c.loop-change.pool c.hold_page.new.pool named at.looks meets;
      near = near_next c.args.keys.now store past changes c.loop-change.change-index item name c.loop-change.pool c.hold_page.new.pool lt c.requires.few c.change-item.is c.name_of.ensures meets at.near;
      of_store = (subst (AreOfStore store.header.spaces) rest at.of_store).1;
      still = λ hand.
          let so_far = at.still hand in
          let own = hand_same store name c.loop-change.pool c.args.pool.now (so_far.1 name) (hand name named) in
          (c.hold_page.ensures.still own ∙ so_far.0, λ other. held_met c.args.keys.now store past name other c.loop-change.pool c.hold_page.new.pool own meets ∙ so_far.1 other);
      up = c.in_ok-hold_page.ensures.up;
      long = c.hold_page.ensures.long;
      keys = c.hold_page.ensures.keys ∙ at.keys;
      past = c.hold_page.ensures.past ∙ at.past;
      later = (g.met.D.Disk.is_later_transitive _ _ _ first.0 second.0, counts_then _ _ _ first.1 second.1);
      calls = omega (arith, before, more);
    }

pub returns-clause-held : goal.returns-clause-held
returns-clause-held g c =
    let past_end : length c.args.changes.now ≤ c.loop-change.change-index = omega arith in
    all_held c.args.keys.now c.args.store.now (g.D.Disk.past c.args.disk.now.disk) c.args.changes.now c.loop-change.change-index c.args.pool.now c.loop-change.pool past_end c.loop-change.invariant.looks c.loop-change.invariant.near
