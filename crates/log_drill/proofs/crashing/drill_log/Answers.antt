use Rattle.std.proofs.Common.{◌≡◌, ℕ, ◌+◌, ◌*◌, List, [], ◌∷◌, Some, refl, sym, ap, subst, ◌∙◌, arith}
use Rattle.disk_model.specs.Contents.{events}
use Rattle.disk_model.specs.Event.{Event, Open}
use Rattle.disk_model.specs.declared.memory.MemDisk.{MemDisk}
use Rattle.disk_model.specs.declared.names.FileName.TheVariants.{Log as LogFile}
use Rattle.places.specs.Places.{HasPlaces}
use Rattle.redo_log.specs.State.{LogState}
use Rattle.redo_log.specs.Log.{empty_log}
use Rattle.log_drill.specs.Kept.{IsBetween}
use Rattle.log_drill.proofs.Sessions.{begins, same_ok}
use Rattle.log_drill.proofs.crashing.drill_log.Goals as goal
use Rattle.log_drill.proofs.crashing.drill_log.Goals.{then-round-ring_turn+in_ok-drill_round, else-round-ring_turn+in_ok-plain_round}
use Rattle.crash_image.specs.LogForm.{log_places}

pub loop-round-init : goal.loop-round-init
loop-round-init c =
    let es : List Event = events c.make_log.new.disk.contents in
    let made = c.in_ok-make_log.ensures in
    let log : c.in-Ok.log ≡ empty_log 32 2 1 = same_ok c.new-2.result c.in-Ok.log (empty_log 32 2 1) c.in-Ok.is c.new-2.ensures.log in (
      ap (λ (l : LogState). l.blocks) log,
      made.places.here es refl,
      λ keys has. subst (λ (l : LogState). IsBetween keys 0 l es) (sym log) (begins keys es ((made.ready keys).here es refl) ((made.items.here es refl).here (Open [] [] [] ∷ []) (ap (λ (l : List Event). Some l) c.new-disk.ensures.events))),
    )

pub loop-round-preserved : goal.loop-round-preserved
loop-round-preserved c =
    let before = c.loop-round.invariant.2 in
    let more : 3 * c.loop-round.round + 3 ≡ 3 * (c.loop-round.round + 1) = omega arith in
    elim c.if-round-ring_turn.branch [
      | then-round-ring_turn+in_ok-drill_round w ↦ (
        ap (λ (l : LogState). l.blocks) w.log-is ∙ w.in_ok-drill_round.ensures.ring,
        subst (λ (d : MemDisk). HasPlaces LogFile (log_places 32) (events d.contents)) (sym w.disk-is) w.in_ok-drill_round.ensures.places,
        λ keys has. subst (λ (d : MemDisk). IsBetween keys (3 * (c.loop-round.round + 1)) c.if-round-ring_turn.log (events d.contents)) (sym w.disk-is)
            (subst (λ (l : LogState). IsBetween keys (3 * (c.loop-round.round + 1)) l (events w.drill_round.new.disk.contents)) (sym w.log-is)
            (subst (λ (n : ℕ). IsBetween keys n w.drill_round.new.log (events w.drill_round.new.disk.contents)) more (w.in_ok-drill_round.ensures.journal keys (3 * c.loop-round.round) has (before keys has)))),
      )
      | else-round-ring_turn+in_ok-plain_round w ↦ (
        ap (λ (l : LogState). l.blocks) w.log-is ∙ w.in_ok-plain_round.ensures.ring,
        subst (λ (d : MemDisk). HasPlaces LogFile (log_places 32) (events d.contents)) (sym w.disk-is) w.in_ok-plain_round.ensures.places,
        λ keys has. subst (λ (d : MemDisk). IsBetween keys (3 * (c.loop-round.round + 1)) c.if-round-ring_turn.log (events d.contents)) (sym w.disk-is)
            (subst (λ (l : LogState). IsBetween keys (3 * (c.loop-round.round + 1)) l (events w.plain_round.new.disk.contents)) (sym w.log-is)
            (subst (λ (n : ℕ). IsBetween keys n w.plain_round.new.log (events w.plain_round.new.disk.contents)) more (w.in_ok-plain_round.ensures.journal keys (3 * c.loop-round.round) has (before keys has)))),
      )
    ]
