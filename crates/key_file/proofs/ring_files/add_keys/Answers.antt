use Rattle.std.proofs.Common.{◌<◌, ◌≤◌, length, IsNone, sym, subst, arith}
use Rattle.key_ring.specs.Ring.{HasAdded, ring_key}
use Rattle.key_file.specs.declared.keys.KeyItem.{KeyItem}
use Rattle.key_file.proofs.RingKeys.{first_end, first_more, first_start, item_at, place_is_free}
use Rattle.key_file.proofs.ring_files.add_keys.Goals as goal

pub add_item-requires-clause-absent : goal.add_item-requires-clause-absent
add_item-requires-clause-absent c =
    let within : c.loop-i.i < length c.args.keys.now = omega (arith, c.loop-i-test.true, c.len-count.ensures.len) in
    subst (λ (item : KeyItem). IsNone (ring_key c.loop-i.ring item.id c.args.version)) (item_at c.args.keys.now c.loop-i.i c.get.result.now c.get.ensures)
    (place_is_free c.args.ring.now c.args.keys.now c.args.version c.loop-i.i c.get.result.now within c.loop-i.ring c.loop-i.invariant)

pub loop-i-init : goal.loop-i-init
loop-i-init c = first_start c.args.ring.now c.args.keys.now c.args.version c.requires.absent

pub loop-i-preserved : goal.loop-i-preserved
loop-i-preserved c =
    let within : c.loop-i.i < length c.args.keys.now = omega (arith, c.loop-i-test.true, c.len-count.ensures.len) in
    first_more c.args.ring.now c.args.keys.now c.args.version c.len-count.ensures.ascending c.loop-i.i c.get.result.now within c.loop-i.ring c.add_item.new.ring c.loop-i.invariant
    (subst (λ (item : KeyItem). HasAdded c.loop-i.ring c.add_item.new.ring item.id c.args.version item.key) (sym (item_at c.args.keys.now c.loop-i.i c.get.result.now c.get.ensures))
    c.in_ok-add_item.ensures.added)

pub returns-clause-added : goal.returns-clause-added
returns-clause-added c =
    let over : length c.args.keys.now ≤ c.loop-i.i = omega (arith, c.loop-i-test.false, c.len-count.ensures.len) in
    first_end c.args.ring.now c.args.keys.now c.args.version c.loop-i.i c.loop-i.ring over c.loop-i.invariant
