use Rattle.std.proofs.Common.{◌≡◌, ℕ, suc, ◌+◌, ◌<◌, List, [], ◌∷◌, drop, get_or, length, sym, ◌∙◌, ap, subst, drop-cons, arith}
use Rattle.redo_text.specs.declared.change.Change.{Change}
use Rattle.redo_text.specs.Text.{AreAllowed}
use Rattle.page_pool.specs.Changes.{HasNamed, HasPoolRoom, page_of_change, pool_after, pool_changed, unused_pages}
use Rattle.page_pool.proofs.Counts.{room_first, room_left}
use Rattle.page_pool.proofs.pool.Pool.change_all.Goals as goal

-- the next change and those behind it
next : (cs : List Change) (i : ℕ) (c : Change) → i < length cs → c ≡ get_or cs i c → drop i cs ≡ c ∷ drop (i + 1) cs
next cs i c lt is =
    let one : suc i ≡ i + 1 = omega arith in
    drop-cons cs i c lt ∙ ap (λ (x : Change). x ∷ drop (suc i) cs) (sym is) ∙ ap (λ (k : ℕ). c ∷ drop k cs) one

pub change_page-requires-clause-room : goal.change_page-requires-clause-room
change_page-requires-clause-room c =
    let rest = next c.args.changes.now c.loop-change.change-index c.change-item.result c.loop-change-test.true c.change-item.is in
    subst (λ (x : Change). HasPoolRoom (x ∷ []) c.loop-change.self (length c.loop-change.spare.items)) (sym c.lent.ensures)
    (room_first c.change-item.result (drop (c.loop-change.change-index + 1) c.args.changes.now) c.loop-change.self (length c.loop-change.spare.items)
    (subst (λ (l : List Change). HasPoolRoom l c.loop-change.self (length c.loop-change.spare.items)) rest c.loop-change.invariant.room))

pub loop-change-preserved : goal.loop-change-preserved
loop-change-preserved c =
    let rest = next c.args.changes.now c.loop-change.change-index c.change-item.result c.loop-change-test.true c.change-item.is in
    let room = subst (λ (l : List Change). HasPoolRoom l c.loop-change.self (length c.loop-change.spare.items)) rest c.loop-change.invariant.room in
    let now : c.change_page.new.self ≡ pool_changed c.args.lsn c.args.first c.change-item.result c.loop-change.self = c.change_page.ensures.changed ∙ ap (λ (x : Change). pool_changed c.args.lsn c.args.first x c.loop-change.self) c.lent.ensures in
    let all = subst AreAllowed rest c.loop-change.invariant.allowed in
    record {
      after = ap (pool_after c.args.lsn c.args.first (drop (c.loop-change.change-index + 1) c.args.changes.now)) now
          ∙ sym (ap (λ (l : List Change). pool_after c.args.lsn c.args.first l c.loop-change.self) rest) ∙ c.loop-change.invariant.after;
      allowed = all.1;
      room = room_left c.change-item.result (drop (c.loop-change.change-index + 1) c.args.changes.now) c.loop-change.self c.change_page.new.self (length c.loop-change.spare.items) (length c.change_page.new.spare.items) room
          (subst (λ (x : Change). HasNamed (page_of_change x) c.loop-change.self c.change_page.new.self) c.lent.ensures c.change_page.ensures.names)
          (subst (λ (x : Change). length c.change_page.new.spare.items + unused_pages (x ∷ []) c.loop-change.self ≡ length c.loop-change.spare.items) c.lent.ensures c.change_page.ensures.left);
      zero = c.change_page.ensures.zero;
    }
