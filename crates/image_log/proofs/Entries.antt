-- The mini-transactions of a run, one after another; and why a log says nothing.
use Rattle.std.proofs.Common.{◌≡◌, ◌≢◌, ℕ, suc, ◌+◌, ◌≤◌, List, [], ◌∷◌, ◌++◌, None, drop, refl, sym, ap, subst, ◌∙◌, append_assoc}
use Rattle.std.proofs.lemmas.List.{append-nil}
use Rattle.key_ring.specs.Ring.{RingEntry}
use Rattle.redo_text.specs.declared.change.Change.{Change}
use Rattle.store_image.specs.Checkpoint.{HeldCheckpoint}
use Rattle.store_image.specs.Places.{LogView}
use Rattle.store_image.specs.View.{Logged}
use Rattle.store_files.specs.Checkpoint.{IsNewestCheckpoint}
use Rattle.store_files.specs.Header.{HeldHeader}
use Rattle.store_files.specs.RingBlock.{IsMtrText}
use Rattle.store_files.specs.Run.{MakeWholeMtr, MakeWholeMtrs, AreLogEntries, IsLogOf}
use Rattle.store_files.proofs.RunsOnce.{newest_one, text_one, whole_one}
use Rattle.image_log.specs.declared.fault.LogTextFault.{LogTextFault}
use Rattle.image_log.specs.declared.fault.LogTextFault.TheVariants.{NoCheckpoint, NoKey, NoChanges, OutOfMemory}
use Rattle.image_log.specs.Logs.{HasChanges, IsEntryIn, IsMtrFault, MeetsFault, IsEntryFault, IsLogTextFault, block_key}
use Rattle.image_log.proofs.ChangeLists.{no_changes_of}
use Rattle.image_log.proofs.MtrTexts.{text_keyed}
use Rattle.image_log.proofs.WholeMtrs.{mtrs_ascend}

module _ (header : HeldHeader) (keys : List RingEntry) (file : List ℕ) where
  -- the first i mini-transactions of a run were read
  pub record Gathers (from : ℕ) (sizes : List ℕ) (end : ℕ) (entries : List (Logged (List Change))) (first i : ℕ) : Type 0 where
    pub rest : MakeWholeMtrs header.blocks file first (drop i sizes) end
    pub lead : (es : List (Logged (List Change))) (to : ℕ) → AreLogEntries header keys file first es to → AreLogEntries header keys file from (entries ++ es) to

  pub gathers_none : (from : ℕ) (sizes : List ℕ) (end : ℕ) → MakeWholeMtrs header.blocks file from sizes end → Gathers from sizes end [] from 0
  gathers_none from sizes end run = record { rest = run; lead = λ es to are. are }

  -- what is left of a run begins with a whole mini-transaction
  pub head_whole : (n size : ℕ) (sizes : List ℕ) (end : ℕ) → MakeWholeMtrs header.blocks file n (size ∷ sizes) end → MakeWholeMtr header.blocks file n size × (n + size ≤ end) × MakeWholeMtrs header.blocks file (n + size) sizes end
  head_whole n size sizes end (w, rest) = (w, mtrs_ascend header.blocks file (n + size) sizes end rest, rest)

  pub gathers_more : (from : ℕ) (sizes : List ℕ) (end : ℕ) (entries : List (Logged (List Change))) (first i size : ℕ) (e : Logged (List Change)) → Gathers from sizes end entries first i → drop i sizes ≡ size ∷ drop (suc i) sizes → IsEntryIn header keys file first size e → Gathers from sizes end (entries ++ e ∷ []) (first + size) (suc i)
  gathers_more from sizes end entries first i size e g left entry =
      let h = head_whole first size (drop (suc i) sizes) end (subst (λ (xs : List ℕ). MakeWholeMtrs header.blocks file first xs end) left g.rest) in record {
        rest = h.2;
        lead = λ es to are. subst (λ (xs : List (Logged (List Change))). AreLogEntries header keys file from xs to) (sym (append_assoc entries (e ∷ []) es))
            (g.lead (e ∷ es) to (size, entry.has.text, h.0, entry.has.has, entry.has.is, entry.first, entry.lsn, are));
      }

  pub gathers_all : (from : ℕ) (sizes : List ℕ) (end : ℕ) (entries : List (Logged (List Change))) (first i : ℕ) → Gathers from sizes end entries first i → drop i sizes ≡ [] → AreLogEntries header keys file from entries end
  gathers_all from sizes end entries first i g none =
      subst (λ (xs : List (Logged (List Change))). AreLogEntries header keys file from xs end) (append-nil entries)
      (g.lead [] end (subst (λ (xs : List ℕ). MakeWholeMtrs header.blocks file first xs end) none g.rest))

  pub gathers_fault : (from : ℕ) (sizes : List ℕ) (end : ℕ) (entries : List (Logged (List Change))) (first i size : ℕ) (fault : LogTextFault) → Gathers from sizes end entries first i → drop i sizes ≡ size ∷ drop (suc i) sizes → IsMtrFault header keys file first size fault → MeetsFault header keys file from fault
  gathers_fault from sizes end entries first i size fault g left is =
      let h = head_whole first size (drop (suc i) sizes) end (subst (λ (xs : List ℕ). MakeWholeMtrs header.blocks file first xs end) left g.rest) in record {
        before = entries;
        first = first;
        lead = subst (λ (xs : List (Logged (List Change))). AreLogEntries header keys file from xs first) (append-nil entries) (g.lead [] first refl);
        count = size;
        whole = h.0;
        is = is;
      }

  pub run_fault : (from : ℕ) (fault : LogTextFault) → MeetsFault header keys file from fault → IsEntryFault header keys file from fault
  run_fault from NoCheckpoint m = m.is
  run_fault from (NoKey number version) m = m
  run_fault from (NoChanges first at) m = m
  run_fault from OutOfMemory m = tt

  -- blocks with such a fault have no changes
  no_changes : (first count : ℕ) (fault : LogTextFault) → IsMtrFault header keys file first count fault → fault ≢ OutOfMemory → (changes : List Change) → HasChanges header keys file first count changes → ⊥
  no_changes first count NoCheckpoint is other changes has = is
  no_changes first count (NoKey number version) is other changes has = text_keyed header keys file first count is.index has.text is.within has.has (subst (λ (n : ℕ). block_key header keys file n ≡ None) is.number_is is.none)
  no_changes first count (NoChanges number at) (same, lacks) other changes has =
      no_changes_of lacks.text at lacks.none changes (subst (λ (t : List ℕ). IsMtrText t changes) (text_one header keys file first count has.text lacks.text has.has lacks.has) has.is)
  no_changes first count OutOfMemory is other changes has = other refl

  -- ---- a log that says something has no fault

  -- two lists of mini-transactions from one block on: the one that goes on finds what the other found
  meets : (n : ℕ) (bs : List (Logged (List Change))) (first count : ℕ) (es : List (Logged (List Change))) (end : ℕ) → AreLogEntries header keys file n bs first → MakeWholeMtr header.blocks file first count → ((changes : List Change) → HasChanges header keys file first count changes → ⊥)
      → AreLogEntries header keys file n es end → ((k : ℕ) → MakeWholeMtr header.blocks file end k → ⊥) → ⊥
  meets n [] first count [] end at whole none are longest = longest count (subst (λ (m : ℕ). MakeWholeMtr header.blocks file m count) (sym at ∙ are) whole)
  meets n [] first count (e ∷ es) end at whole none (k, text, w, has, is, fe, le, rest) longest =
      let same : k ≡ count = whole_one header.blocks file n k count w (subst (λ (m : ℕ). MakeWholeMtr header.blocks file m count) (sym at) whole) in
      none e.mtr (subst (λ (m : ℕ). HasChanges header keys file m count e.mtr) at (subst (λ (c : ℕ). HasChanges header keys file n c e.mtr) same (record { text = text; has = has; is = is })))
  meets n (b ∷ bs) first count [] end (k, text, w, has, is, fb, lb, lead) whole none are longest = longest k (subst (λ (m : ℕ). MakeWholeMtr header.blocks file m k) are w)
  meets n (b ∷ bs) first count (e ∷ es) end (k, text, w, has, is, fb, lb, lead) whole none (j, other, v, hasn, isn, fe, le, rest) longest =
      let same : j ≡ k = whole_one header.blocks file n j k v w in
      meets (n + k) bs first count es end lead whole none (subst (λ (m : ℕ). AreLogEntries header keys file (n + m) es end) same rest) longest

  meets_refuses : (c : HeldCheckpoint) (fault : LogTextFault) → IsNewestCheckpoint file c → MeetsFault header keys file c.from fault → fault ≢ OutOfMemory → (text : LogView (List Change)) → IsLogOf header keys file text → ⊥
  meets_refuses c fault newest m other text is =
      let same : c.from ≡ text.from = ap (λ (d : HeldCheckpoint). d.from) (newest_one file c (record { sequence = is.run.sequence; from = text.from }) newest is.run.newest) in
      meets text.from m.before m.first m.count text.run text.end (subst (λ (n : ℕ). AreLogEntries header keys file n m.before m.first) same m.lead) m.whole (no_changes m.first m.count fault m.is other) is.entries is.run.longest

  pub fault_refuses : (fault : LogTextFault) → IsLogTextFault header keys file fault → fault ≢ OutOfMemory → (text : LogView (List Change)) → IsLogOf header keys file text → ⊥
  fault_refuses NoCheckpoint none other text is = none (record { sequence = is.run.sequence; from = text.from }) is.run.newest
  fault_refuses (NoKey number version) (c, newest, m) other text is = meets_refuses c (NoKey number version) newest m other text is
  fault_refuses (NoChanges first at) (c, newest, m) other text is = meets_refuses c (NoChanges first at) newest m other text is
  fault_refuses OutOfMemory u other text is = other refl

  -- a fault of the mini-transactions is one of the log
  pub entry_fault : (c : HeldCheckpoint) (fault : LogTextFault) → IsNewestCheckpoint file c → IsEntryFault header keys file c.from fault → IsLogTextFault header keys file fault
  entry_fault c NoCheckpoint newest is = absurd is
  entry_fault c (NoKey number version) newest is = (c, newest, is)
  entry_fault c (NoChanges first at) newest is = (c, newest, is)
  entry_fault c OutOfMemory newest is = tt
