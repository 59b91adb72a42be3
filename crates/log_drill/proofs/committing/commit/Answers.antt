use Rattle.std.proofs.Common.{◌≡◌, ℕ, List, [], ◌∷◌, ◌++◌, sym, ap, subst}
use Rattle.disk_model.specs.Past.{At}
use Rattle.ring_log.specs.Batches.{settle}
use Rattle.ring_log.specs.Ring.{RingState, RingReady, IsRingJournal}
use Rattle.redo_text.specs.declared.change.Change.{Change}
use Rattle.store_image.specs.View.{Logged}
use Rattle.redo_log.specs.State.{LogState}
use Rattle.redo_log.specs.Append.{logged_entry, with_pending}
use Rattle.redo_log.specs.Blocks.{redo_form}
use Rattle.redo_log.specs.Log.{FitsRing, pending_count}
use Rattle.log_drill.proofs.committing.commit.Goals as goal

pub returns-in-Ok-write_out : goal.returns-in-Ok-write_out
returns-in-Ok-write_out g c = record {
  journal = λ keys r start journal has fits state all ready j.
      let old : LogState = c.args.log.now in
      let mid : LogState = c.append.new.self in
      let new : LogState = c.write_out.new.self in
      let past = g.D.Disk.past c.args.disk.now in
      let on : old.blocks ≡ mid.blocks = ap (λ (w : LogState). w.blocks) (sym c.in-Ok.ensures.added) in
      let end : mid.blocks ≡ new.blocks = ap (λ (w : LogState). w.blocks) (sym c.in-Ok-write_out.ensures.given_up) in
      let ring : RingState = with_pending r mid in
      let fits_mid : FitsRing ring mid = c.in-Ok.ensures.fits r fits in
      let ready_mid : At (RingReady mid.blocks (redo_form keys) ring) past = subst (λ (n : ℕ). At (RingReady n (redo_form keys) ring) past) on (c.in-Ok.ensures.ready keys r past ready) in
      let more : List (Logged (List Change)) = journal ++ logged_entry old c.args.mtr.now ∷ [] in
      let journal_mid : IsRingJournal mid.blocks (redo_form keys) ring start more mid.next = subst (λ (n : ℕ). IsRingJournal n (redo_form keys) ring start more mid.next) on (c.in-Ok.ensures.journal keys has r start journal fits state j) in
      let ring_new : RingState = settle ring (pending_count mid) in
      record {
        ring = ring_new;
        fits = c.in-Ok-write_out.ensures.fits ring fits_mid;
        ready = subst (λ (n : ℕ). At (RingReady n (redo_form keys) ring_new) (g.D.Disk.past c.write_out.new.disk)) end (c.in-Ok-write_out.ensures.does keys ring fits_mid ready_mid).next;
        is = subst (λ (n : ℕ). IsRingJournal n (redo_form keys) ring_new start more new.next) end (c.in-Ok-write_out.ensures.journal keys ring start more fits_mid all journal_mid);
      };
}
