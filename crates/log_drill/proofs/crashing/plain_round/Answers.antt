use Rattle.std.proofs.Common.{◌≡◌, ℕ, ◌+◌, [], ◌∷◌, sym, subst, ◌∙◌}
use Rattle.disk_model.specs.Contents.{events}
use Rattle.disk_model.specs.declared.memory.MemDisk.{MemDisk}
use Rattle.redo_log.specs.State.{LogState}
use Rattle.redo_log.specs.Log.{durable}
use Rattle.log_drill.specs.Kept.{MayBegin, IsBetween}
use Rattle.log_drill.proofs.Sessions.{crash_keeps}
use Rattle.log_drill.proofs.crashing.plain_round.Goals as goal
use Rattle.log_drill.proofs.crashing.plain_round.Goals.{then-moves+in_ok-move_from, else-moves}

pub returns-clause-journal : goal.returns-clause-journal
returns-clause-journal c = λ keys count has b.
    let a = c.in_ok-append_eight.ensures.journal keys count (events c.args.disk.now.contents) has b.keeps in
    let w = c.in_ok-write_all.ensures.journal keys (count + 3) a.0 in
    let from : durable c.append_eight.new.log ≡ c.next-from.result = a.1 ∙ b.none ∙ sym c.next-from.ensures.next in
    let m : MayBegin keys (count + 3) c.next-from.result c.write_all.new.log (events c.write_all.new.disk.contents) = subst (λ (f : ℕ). MayBegin keys (count + 3) f c.write_all.new.log (events c.write_all.new.disk.contents)) from w.0 in
    let between : IsBetween keys (count + 3) c.if-moves.log (events c.if-moves.disk.contents) = elim c.if-moves.branch [
      | then-moves+in_ok-move_from t ↦ subst (λ (d : MemDisk). IsBetween keys (count + 3) c.if-moves.log (events d.contents)) (sym t.disk-is) (subst (λ (l : LogState). IsBetween keys (count + 3) l (events t.move_from.new.disk.contents)) (sym t.log-is) (t.in_ok-move_from.ensures.journal keys (count + 3) m w.1))
      | else-moves t ↦ subst (λ (d : MemDisk). IsBetween keys (count + 3) c.if-moves.log (events d.contents)) (sym t.disk-is) (subst (λ (l : LogState). IsBetween keys (count + 3) l (events c.write_all.new.disk.contents)) (sym t.log-is) (record { keeps = m.keeps; none = w.1 }))
    ] in
    crash_keeps keys (count + 3) (_ ∷ []) (events c.if-moves.disk.contents) (events c.in_ok-disk.field-0.contents) c.if-moves.log c.in_ok-disk.ensures.crash between
