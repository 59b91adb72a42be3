-- What the type of an engine keeps, over each call.
use Rattle.std.proofs.Common.{◌≡◌, ◌≢◌, ℕ, ◌+◌, ◌*◌, ◌<◌, ◌≤◌, List, [], ◌∷◌, ◌++◌, length, refl, sym, ◌∙◌, ap, subst, inl, arith, length-append, Err, IsErrOf}
use Rattle.disk_model.specs.Event.{Event}
use Rattle.disk_model.specs.Past.{Past, At, Throughout}
use Rattle.disk_model.proofs.Moments.{at_each, weaker, begins, and_then}
use Rattle.plain_engine.specs.declared.journal.Entry.{Entry}
use Rattle.plain_engine.specs.declared.fault.State.{State}
use Rattle.plain_engine.specs.declared.fault.State.TheVariants.{Up, OutOfMemory}
use Rattle.plain_engine.specs.declared.fault.EngineFault.{EngineFault}
use Rattle.plain_engine.specs.declared.fault.EngineFault.TheVariants as fault
use Rattle.disk_model.specs.declared.names.DiskError.{DiskError}
use Rattle.disk_model.specs.declared.names.DiskError.TheVariants.{Failed, NoMemory}
use Rattle.plain_engine.specs.Text.{mtr_text, IsSmall}
use Rattle.plain_engine.specs.Block.{IsLogBlock}
use Rattle.plain_engine.specs.Log.{LogRecovers}
use Rattle.plain_engine.specs.Stands.{AllStand, AllRecover, AllRefusable}
use Rattle.plain_engine.specs.Layer.{LogReady, PlainMoment, IsCrashSafe}
use Rattle.plain_engine.specs.Kept.{Running, IsSound, IsAckedOrUntold, IsExact, AreEntries, AreBlocks, with_journal}
use Rattle.plain_engine.proofs.Events.{ready_safe, ready_moment, filled}
use Rattle.plain_engine.proofs.Journals.{all_stand, filled_recovers, blocks-push, entries-push, take-mtrs, stands-push}
use Rattle.plain_engine.proofs.Push.{ready_push}

pub exact_of : (journal : List Entry) (blocks : List (List ℕ)) (settled acked : ℕ) → AreBlocks 2 journal blocks → AreEntries 2 journal → settled ≤ length journal → length journal ≤ 256
    → (es : List Event) → PlainMoment blocks settled acked es → IsExact journal settled acked es
exact_of journal blocks settled acked are entries le room es m = record {
  recovers = filled_recovers journal blocks are entries settled _ le room m.synced;
  least = m.least;
  most = m.most;
}

-- a disk that wasn't refused memory failed
pub failed_of : {T : Type 0} (e : DiskError) (after : State × EngineFault) → (e ≡ NoMemory → after ≡ (OutOfMemory, fault.OutOfMemory)) → after.0 ≢ OutOfMemory → IsErrOf {T = T} (Err e) Failed
failed_of Failed after refused fed = refl
failed_of NoMemory after refused fed = absurd (fed (ap (λ (a : State × EngineFault). a.0) (refused refl)))

exact-push : (journal : List Entry) (e : Entry) (settled acked : ℕ) → settled ≤ length journal → (es : List Event) → IsExact journal settled acked es → IsExact (journal ++ e ∷ []) settled acked es
exact-push journal e settled acked le es x = record {
  recovers = subst (LogRecovers _) (sym (take-mtrs journal e settled le)) x.recovers;
  least = x.least;
  most = x.most;
}

module _ {D : Type 0} (past : D → Past) (may_fail_to_tell : D → Type 0) where
  pub sound_start : (disk first : D) → first ≡ disk → At (LogReady [] 0 0 0) (past disk) → IsSound past may_fail_to_tell [] (record { disk = disk; first = first; journal = []; settled = 0; acked = 0; turns = 0; state = Up })
  sound_start disk first same ready = record {
    since = subst (λ f. Throughout (AllStand []) (past f) (past disk)) (sym same)
        (begins (AllStand []) (past disk) (at_each (λ es r. all_stand [] [] tt tt es (ready_safe [] 0 0 0 es r).runs) ready));
    exact = at_each (λ es r. exact_of [] [] 0 0 tt tt (omega arith) (omega arith) es (ready_moment [] 0 0 0 es r)) ready;
    ready = λ up. ready;
    refusable = subst (λ f. Throughout AllRefusable (past f) (past disk)) (sym same) (begins AllRefusable (past disk) (at_each (λ es r. (ready_safe [] 0 0 0 es r).refusable) ready));
    all_acked = λ up. refl;
    tells = λ fed. inl refl;
    entries = tt;
    blocks_are = tt;
    count = refl;
    told = omega arith;
    room = omega arith;
    order = omega arith;
  }

  pub sound_push : (r : Running D) (blocks : List (List ℕ)) (e : Entry) (block : List ℕ) → IsSound past may_fail_to_tell blocks r → IsLogBlock (length r.journal + 2) (mtr_text e.mtr) block → IsSmall e.mtr
      → e.lsn ≡ (length r.journal + 3) * 4096 → length r.journal < 256 → IsSound past may_fail_to_tell (blocks ++ block ∷ []) (with_journal r (r.journal ++ e ∷ []))
  sound_push r blocks e block s is small lsn room =
      let long = length-append r.journal (e ∷ []) in
      let same : length blocks ≡ length r.journal = s.count in
      let number : IsLogBlock (length blocks + 2) (mtr_text e.mtr) block = subst (λ (k : ℕ). IsLogBlock (k + 2) (mtr_text e.mtr) block) (sym same) is in
      let three : length r.journal + 3 ≡ length r.journal + 2 + 1 = omega arith in
      record {
        since = weaker (stands-push r.journal e) s.since;
        exact = at_each (exact-push r.journal e r.settled r.acked s.order) s.exact;
        ready = λ up. at_each (ready_push blocks block (mtr_text e.mtr) number (omega (arith, same)) r.settled r.settled r.acked) (s.ready up);
        refusable = s.refusable;
        all_acked = s.all_acked;
        tells = s.tells;
        entries = entries-push 2 r.journal e s.entries (lsn ∙ ap (λ (k : ℕ). k * 4096) three) small;
        blocks_are = blocks-push 2 r.journal blocks e block s.blocks_are is;
        count = omega (arith, same, long, length-append blocks (block ∷ []));
        told = s.told;
        room = omega (arith, long);
        order = omega (arith, long, s.order);
      }

  -- after a call of the disk
  pub sound_after : (r : Running D) (blocks : List (List ℕ)) (disk : D) (settled acked turns : ℕ) (state : State) → IsSound past may_fail_to_tell blocks r → Throughout (IsCrashSafe blocks) (past r.disk) (past disk)
      → settled ≤ length r.journal → At (PlainMoment blocks settled acked) (past disk) → (state ≡ Up → At (LogReady blocks settled settled acked) (past disk)) → (state ≡ Up → acked ≡ settled) → IsAckedOrUntold may_fail_to_tell state acked settled → acked ≤ settled
      → IsSound past may_fail_to_tell blocks (record { disk = disk; first = r.first; journal = r.journal; settled = settled; acked = acked; turns = turns; state = state })
  sound_after r blocks disk settled acked turns state s moments le now ready all_acked tells told = record {
    since = and_then (AllStand r.journal) (past r.first) (past r.disk) (past disk) s.since (weaker (λ m a. all_stand r.journal blocks s.blocks_are s.entries m a.runs) moments);
    exact = at_each (exact_of r.journal blocks settled acked s.blocks_are s.entries le s.room) now;
    ready = ready;
    refusable = and_then AllRefusable (past r.first) (past r.disk) (past disk) s.refusable (weaker (λ m a. a.refusable) moments);
    all_acked = all_acked;
    tells = tells;
    entries = s.entries;
    blocks_are = s.blocks_are;
    count = s.count;
    told = told;
    room = s.room;
    order = le;
  }

  -- with nothing pending each image recovers to the settled entries
  pub sound_recover : (r : Running D) (blocks : List (List ℕ)) → IsSound past may_fail_to_tell blocks r → r.state ≡ Up → At (AllRecover r.journal r.settled) (past r.disk)
  sound_recover r blocks s up = at_each
      (λ es x image is lucky. filled_recovers r.journal blocks s.blocks_are s.entries r.settled _ s.order s.room (filled blocks r.settled r.settled es x.holds image is lucky (omega arith)))
      (s.ready up)
