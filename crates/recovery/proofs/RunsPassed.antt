-- A run is passed block by block, and its mini-transactions are noted.
use Rattle.std.proofs.Common.{◌≡◌, ◌≢◌, ◌⊎◌, ℕ, zero, suc, ◌+◌, ◌-◌, ◌*◌, ◌<◌, ◌≤◌, ◌^◌, Bool, true, false, true≢false, nat_eq, nat_le, ◌||◌, if◌then◌else◌, List, [], ◌∷◌, ◌++◌, length, map, replicate, slice_index_or, Option, None, Some, refl, sym, ap, ap₂, subst, ◌∙◌, arith, inl, inr, ⊎_elim}
use Rattle.std.proofs.lemmas.Bool.{cases_lt, cases_Bool}
use Rattle.std.proofs.lemmas.Bool.Decides.{nat_tests}
use Rattle.std.proofs.lemmas.List.{get_or-map, get_or-replicate, length-map, length-replicate}
use Rattle.std.proofs.lemmas.Option.{none-some}
use Rattle.std.specs.Option.{option_map}
use Rattle.aes_core.specs.Cipher.{encrypted}
use Rattle.disk_model.specs.Event.{Event, reads}
use Rattle.disk_model.specs.Past.{Past, At}
use Rattle.disk_model.proofs.Moments.{at_both}
use Rattle.disk_model.specs.declared.names.FileName.TheVariants.{Log}
use Rattle.key_ring.specs.Ring.{RingEntry, ring_key}
use Rattle.key_ring.specs.Local.{local_key}
use Rattle.crash_image.specs.Recovers.{AreOfStore, RunIsOfStore}
use Rattle.doublewrite.specs.Restore.{space_at}
use Rattle.doublewrite.specs.declared.refuse.OpenRefuse.{OpenRefuse}
use Rattle.doublewrite.specs.declared.refuse.OpenRefuse.TheVariants.{NotFormatted, Mixed, Damaged, MissingKey, BadRecord, VersionBelowFloor, Spent, DiskFault, OutOfMemory}
use Rattle.image_log.specs.Logs.{IsBlockText}
use Rattle.image_log.proofs.MtrTexts.{Reads, reads_none, reads_more, reads_all}
use Rattle.redo_log.specs.Blocks.{Keys, redo_form}
use Rattle.redo_text.specs.Reading.{block_version}
use Rattle.redo_text.specs.declared.change.Change.{Change}
use Rattle.ring_log.specs.Ring.{IsWholeMtr}
use Rattle.ring_log.specs.Scans.{AreWholeMtrs, IsRingRun}
use Rattle.space_head.specs.declared.space.SpaceInfo.{SpaceInfo}
use Rattle.store_image.specs.Recovers.{IsNamedBy, later_by}
use Rattle.store_image.specs.View.{Logged}
use Rattle.store_files.specs.Header.{HeldHeader, HeldSpace}
use Rattle.store_files.specs.Pages.{Page, Head, mtr_acts, mtr_names}
use Rattle.store_files.specs.RingBlock.{IsMtrText, begins_mtr, ends_mtr, is_ring_block}
use Rattle.store_files.specs.Run.{AreLogEntries, HasText, MakeWholeMtr, MakeWholeMtrs, block_at}
use Rattle.recovery.specs.Changes.{AreBlocksKeyed, AreRunChanges, AreLastChanges, AreLaterHeads, FitLast, HasBadMtr, HasNoStoreChangeAt, IsByRecord, IsLastChange, IsTextRefusal, IsUnchanged, Last, Never, NotesMtr, head_lsn, lsn_at}
use Rattle.recovery.specs.Passed.{IsAtBlock, IsMtrPart, IsPassRefusal, IsRecordKind, Passed, RunPassed}
use Rattle.recovery.specs.RunText.{AddsText, IsBlockRefusal}
use Rattle.recovery.specs.Notes.{FitNotes}
use Rattle.recovery.specs.SpaceList.{held_at, no_held}
use Rattle.recovery.specs.declared.changes.RunChanges.{RunChanges}
use Rattle.recovery.specs.declared.notes.PageNote.{PageNote}
use Rattle.recovery.proofs.KeySteps.{pairs_long, pairs_nth}

abbrev Entry : Type 0
Entry = Logged (List Change)

-- ---- a run with one mini-transaction more

same_head : (x y : Entry) (xs ys : List Entry) → x ∷ xs ≡ y ∷ ys → (x ≡ y) × (xs ≡ ys)
same_head x y xs ys e = (cc, cc)

not_empty : (x : Entry) (xs ys : List Entry) → ◌≡◌ {A = List Entry} [] (xs ++ x ∷ ys) → ⊥
not_empty x [] ys e = cc
not_empty x (y ∷ xs) ys e = cc

-- what stands in it stands in the run, or is the last
parted : (run before behind : List Entry) (e x : Entry) → run ++ e ∷ [] ≡ before ++ x ∷ behind → ((rest : List Entry) × (run ≡ before ++ x ∷ rest)) ⊎ (x ≡ e)
parted [] [] behind e x same = inr (sym (same_head e x [] behind same).0)
parted [] (b ∷ bs) behind e x same = absurd (not_empty x bs behind (same_head e b [] (bs ++ x ∷ behind) same).1)
parted (r ∷ rs) [] behind e x same = inl (rs, ap (λ (y : Entry). y ∷ rs) (same_head r x (rs ++ e ∷ []) behind same).0)
parted (r ∷ rs) (b ∷ bs) behind e x same =
    let both = same_head r b (rs ++ e ∷ []) (bs ++ x ∷ behind) same in
    ⊎_elim (λ (f : (rest : List Entry) × (rs ≡ bs ++ x ∷ rest)). inl (f.0, ap₂ (λ (y : Entry) (l : List Entry). y ∷ l) both.0 f.1)) (λ (own : x ≡ e). inr own) (parted rs bs behind e x both.1)

join_three : (before rest : List Entry) (x e : Entry) → (before ++ x ∷ rest) ++ e ∷ [] ≡ before ++ x ∷ (rest ++ e ∷ [])
join_three [] rest x e = refl
join_three (b ∷ bs) rest x e = ap (λ (l : List Entry). b ∷ l) (join_three bs rest x e)

module _ (run : List Entry) (e : Entry) (s p : ℕ) where
  named_still : (n : ℕ) → IsNamedBy mtr_names run s p n → IsNamedBy mtr_names (run ++ e ∷ []) s p n
  named_still n is = record { before = is.before; entry = is.entry; behind = is.behind ++ e ∷ []; is = ap (λ (l : List Entry). l ++ e ∷ []) is.is ∙ join_three is.before is.behind is.entry e; lsn_is = is.lsn_is; named = is.named }

  named_last : mtr_names e.mtr s p ≡ true → IsNamedBy mtr_names (run ++ e ∷ []) s p e.lsn
  named_last named = record { before = run; entry = e; behind = []; is = refl; lsn_is = refl; named = named }

  -- a mini-transaction that names the page is one of the run, or the last
  pub named_parted : (n : ℕ) → IsNamedBy mtr_names (run ++ e ∷ []) s p n → IsNamedBy mtr_names run s p n ⊎ ((n ≡ e.lsn) × (mtr_names e.mtr s p ≡ true))
  named_parted n is = ⊎_elim
      (λ (f : (rest : List Entry) × (run ≡ is.before ++ is.entry ∷ rest)). inl (record { before = is.before; entry = is.entry; behind = f.0; is = f.1; lsn_is = is.lsn_is; named = is.named }))
      (λ (own : is.entry ≡ e). inr (sym is.lsn_is ∙ ap (λ (x : Entry). x.lsn) own, sym (ap (λ (x : Entry). mtr_names x.mtr s p) own) ∙ is.named)) (parted run is.before is.behind e is.entry is.is)

  pub last_next : (lsn next : ℕ) → IsLastChange run s p lsn → ((n : ℕ) → IsNamedBy mtr_names run s p n → n ≤ e.lsn) → next ≡ (if mtr_names e.mtr s p then e.lsn else lsn) → IsLastChange (run ++ e ∷ []) s p next
  last_next lsn next last most is = by (mtr_names e.mtr s p) refl is
    where
      all : (n : ℕ) → IsNamedBy mtr_names (run ++ e ∷ []) s p n → n ≤ e.lsn
      all n named = ⊎_elim (λ (old : IsNamedBy mtr_names run s p n). most n old) (λ (own : (n ≡ e.lsn) × (mtr_names e.mtr s p ≡ true)). let same = own.0 in omega (arith, same)) (named_parted n named)

      older : mtr_names e.mtr s p ≡ false → (n : ℕ) → IsNamedBy mtr_names (run ++ e ∷ []) s p n → IsNamedBy mtr_names run s p n
      older none n named = ⊎_elim (λ (old : IsNamedBy mtr_names run s p n). old) (λ (own : (n ≡ e.lsn) × (mtr_names e.mtr s p ≡ true)). absurd (true≢false (sym own.1 ∙ none))) (named_parted n named)

      stays : mtr_names e.mtr s p ≡ false → IsLastChange run s p lsn → IsLastChange (run ++ e ∷ []) s p lsn
      stays none (Never zero_is no_entry) = Never zero_is (λ n named. no_entry n (older none n named))
      stays none (Last named most) = Last (named_still lsn named) (λ n again. most n (older none n again))

      by : (b : Bool) → mtr_names e.mtr s p ≡ b → next ≡ (if b then e.lsn else lsn) → IsLastChange (run ++ e ∷ []) s p next
      by true named same = subst (IsLastChange (run ++ e ∷ []) s p) (sym same) (Last (named_last named) all)
      by false none same = subst (IsLastChange (run ++ e ∷ []) s p) (sym same) (stays none last)

later_next : (lsn : ℕ) (run : List Entry) (e : Entry) (s p : ℕ) (x : Page) → later_by mtr_acts lsn (run ++ e ∷ []) s p x ≡ (if nat_le e.lsn lsn then later_by mtr_acts lsn run s p x else mtr_acts e.mtr s p (later_by mtr_acts lsn run s p x))
later_next lsn [] e s p x = refl
later_next lsn (r ∷ rs) e s p x = later_next lsn rs e s p (if nat_le r.lsn lsn then x else mtr_acts r.mtr s p x)

of_store_next : (hs : List HeldSpace) (run : List Entry) (e : Entry) → RunIsOfStore hs run → AreOfStore hs e.mtr → RunIsOfStore hs (run ++ e ∷ [])
of_store_next hs [] e are is = (is, tt)
of_store_next hs (r ∷ rs) e are is = (are.0, of_store_next hs rs e are.1 is)

module _ (header : HeldHeader) (keys : List RingEntry) (file : List ℕ) where
  entries_next : (n : ℕ) (run : List Entry) (mid : ℕ) (e : Entry) (end : ℕ) → AreLogEntries header keys file n run mid → AreLogEntries header keys file mid (e ∷ []) end → AreLogEntries header keys file n (run ++ e ∷ []) end
  entries_next n [] mid e end is last = subst (λ (m : ℕ). AreLogEntries header keys file m (e ∷ []) end) (sym is) last
  entries_next n (r ∷ rs) mid e end (k, text, whole, has, says, first, lsn, rest) last = (k, text, whole, has, says, first, lsn, entries_next (n + k) rs mid e end rest last)

-- ---- the blocks that are passed

module _ (header : HeldHeader) (keys : List RingEntry) (from end : ℕ) where
  abbrev at : List Event → ℕ → List ℕ
  at es n = block_at header.blocks (reads Log es) n

  -- what is left begins with no text
  begins : (es : List Event) (first : ℕ) (sizes : List ℕ) → MakeWholeMtrs header.blocks (reads Log es) first sizes end → IsMtrPart header keys from end es first first [] sizes
  begins es first [] rest = (refl, refl)
  begins es first (k ∷ ks) rest = let some = rest.0.some in (omega arith, omega (arith, some), subst (Reads header keys (reads Log es) first k []) (omega arith) (reads_none header keys (reads Log es) first k))

  pub run_none_passed : (es : List Event) (sizes : List ℕ) → MakeWholeMtrs header.blocks (reads Log es) from sizes end → RunPassed header keys from end from from [] [] es
  run_none_passed es sizes rest = record { entries = refl; sizes = sizes; rest = rest; part = begins es from sizes rest }

  module _ (es : List Event) (first number : ℕ) (text : List ℕ) (run : List Entry) (passed : RunPassed header keys from end first number text run es) where
    -- at the end of the run nothing is left
    pub passed_end : end ≤ number → first ≡ end
    passed_end le = by passed.sizes passed.rest passed.part
      where
        ascends : (n : ℕ) (ks : List ℕ) → MakeWholeMtrs header.blocks (reads Log es) n ks end → n ≤ end
        ascends n [] is = omega (arith, is)
        ascends n (k ∷ ks) is = let more = ascends (n + k) ks is.1 in omega (arith, more)

        by : (sizes : List ℕ) → MakeWholeMtrs header.blocks (reads Log es) first sizes end → IsMtrPart header keys from end es first number text sizes → first ≡ end
        by [] rest part = rest
        by (k ∷ ks) rest part = let below = part.1 in let more = ascends (first + k) ks rest.1 in absurd (omega (arith, below, more, le))

    pub entries_end : end ≤ number → AreLogEntries header keys (reads Log es) from run end
    entries_end le = subst (AreLogEntries header keys (reads Log es) from run) (passed_end le) passed.entries

    -- the next mini-transaction
    pub record IsNext (k : ℕ) (ks : List ℕ) : Type 0 where
      pub whole : MakeWholeMtr header.blocks (reads Log es) first k
      pub rest : MakeWholeMtrs header.blocks (reads Log es) (first + k) ks end
      pub order : first ≤ number
      pub below : number < first + k
      pub reads : Reads header keys (reads Log es) first k text (number - first)

    pub passed_next : number < end → (k : ℕ) × (ks : List ℕ) × IsNext k ks
    passed_next lt = by passed.sizes passed.rest passed.part
      where
        by : (sizes : List ℕ) → MakeWholeMtrs header.blocks (reads Log es) first sizes end → IsMtrPart header keys from end es first number text sizes → (k : ℕ) × (ks : List ℕ) × IsNext k ks
        by [] rest part = let e = part.0 in absurd (omega (arith, rest, e, lt))
        by (k ∷ ks) rest part = (k, ks, record { whole = rest.0; rest = rest.1; order = part.0; below = part.1; reads = part.2 })

    -- its block of this number
    in_mtr : (k : ℕ) (ks : List ℕ) → IsNext k ks → (first + (number - first) ≡ number) × (number - first < k)
    in_mtr k ks next = let order = next.order in let below = next.below in (omega (arith, order), omega (arith, order, below))

    -- a block of the run is valid
    pub passed_valid : number < end → is_ring_block number (at es number) ≡ true
    passed_valid lt =
        let (k, ks, next) = passed_next lt in
        let (same, within) = in_mtr k ks next in
        subst (λ (n : ℕ). is_ring_block n (at es n) ≡ true) same (next.whole.valid (number - first) within)

    from_first : from ≤ first
    from_first = ascends from run passed.entries
      where
        ascends : (n : ℕ) (run : List Entry) → AreLogEntries header keys (reads Log es) n run first → n ≤ first
        ascends n [] is = omega (arith, is)
        ascends n (e ∷ es) is = let more = ascends (n + is.0) es is.7 in omega (arith, more)

    -- and its key is there
    pub passed_keyed : number < end → AreBlocksKeyed header keys from end es → IsBlockText header keys (at es number) None → ⊥
    passed_keyed lt keyed none =
        let (k, ks, next) = passed_next lt in
        let order = next.order in
        let low = from_first in
        by (ring_key keys 1 (block_version (at es number))) (keyed number (omega (arith, low, order)) lt) none
      where
        by : (o : Option (List ℕ)) → o ≢ None → option_map (λ key. encrypted key header.salt) o ≡ None → ⊥
        by None some e = some refl
        by (Some x) some e = none-some (encrypted x header.salt) (sym e)

    module _ (lt : number < end) (new : List ℕ) (adds : AddsText header keys (at es number) text new) where
      -- the text with that of this block
      reads_on : (k : ℕ) (ks : List ℕ) → IsNext k ks → Reads header keys (reads Log es) first k new (number - first + 1)
      reads_on k ks next =
          let (same, within) = in_mtr k ks next in
          subst (λ (t : List ℕ). Reads header keys (reads Log es) first k t (number - first + 1)) (sym adds.is)
          (reads_more header keys (reads Log es) first k text adds.part (number - first) within next.reads (subst (λ (n : ℕ). IsBlockText header keys (at es n) (Some adds.part)) (sym same) adds.of_block))

      last_is : (k : ℕ) (ks : List ℕ) → IsNext k ks → ends_mtr (at es number) ≡ nat_eq (number - first + 1) k
      last_is k ks next =
          let (same, within) = in_mtr k ks next in
          subst (λ (n : ℕ). ends_mtr (at es n) ≡ nat_eq (number - first + 1) k) same (next.whole.last (number - first) within)

      -- a block within a mini-transaction
      pub run_within : ends_mtr (at es number) ≡ false → RunPassed header keys from end first (number + 1) new run es
      run_within going =
          let (k, ks, next) = passed_next lt in
          let (same, within) = in_mtr k ks next in
          let test : nat_eq (number - first + 1) k ≡ false = sym (last_is k ks next) ∙ going in
          let more : number - first + 1 < k = grind (arith, nat_tests) in
          let order = next.order in
          record {
            entries = passed.entries;
            sizes = k ∷ ks;
            rest = (next.whole, next.rest);
            part = (omega (arith, order), omega (arith, order, more), subst (Reads header keys (reads Log es) first k new) (omega (arith, order)) (reads_on k ks next));
          }

      -- the last one of a mini-transaction
      pub record IsEnd (k : ℕ) (ks : List ℕ) : Type 0 where
        pub whole : MakeWholeMtr header.blocks (reads Log es) first k
        pub rest : MakeWholeMtrs header.blocks (reads Log es) (first + k) ks end
        pub behind : first + k ≡ number + 1
        pub has : HasText header keys (reads Log es) first k new

      pub passed_mtr : ends_mtr (at es number) ≡ true → (k : ℕ) × (ks : List ℕ) × IsEnd k ks
      passed_mtr ends =
          let (k, ks, next) = passed_next lt in
          let (same, within) = in_mtr k ks next in
          let test : nat_eq (number - first + 1) k ≡ true = sym (last_is k ks next) ∙ ends in
          let all : number - first + 1 ≡ k = grind (arith, nat_tests) in
          let order = next.order in (
            k,
            ks,
            record {
              whole = next.whole;
              rest = next.rest;
              behind = omega (arith, order, all);
              has = reads_all header keys (reads Log es) first k new (subst (Reads header keys (reads Log es) first k new) all (reads_on k ks next));
            },
          )

      -- whose text says these changes
      pub run_further : ends_mtr (at es number) ≡ true → (lsn : ℕ) → lsn ≡ (number + 1) * 4096 → (cs : List Change) → IsMtrText new cs → RunPassed header keys from end (number + 1) (number + 1) [] (run ++ record { first = first; lsn = lsn; mtr = cs } ∷ []) es
      run_further ends lsn lsn_is cs says =
          let (k, ks, last) = passed_mtr ends in
          let behind = last.behind in
          let rest : MakeWholeMtrs header.blocks (reads Log es) (number + 1) ks end = subst (λ (n : ℕ). MakeWholeMtrs header.blocks (reads Log es) n ks end) behind last.rest in
          record {
            entries = entries_next header keys (reads Log es) from run first (record { first = first; lsn = lsn; mtr = cs }) (number + 1) passed.entries (k, new, last.whole, last.has, says, refl, lsn_is ∙ ap (λ (n : ℕ). n * 4096) (sym behind), behind);
            sizes = ks;
            rest = rest;
            part = begins es (number + 1) ks rest;
          }

-- ---- and noted

module _ (header : HeldHeader) (keys : List RingEntry) (from end : ℕ) (notes : List (List PageNote)) (infos : List SpaceInfo) where
  abbrev hs : List HeldSpace
  hs = header.spaces

  pub passed_none : (es : List Event) (now : RunChanges) → (sizes : List ℕ) → MakeWholeMtrs header.blocks (reads Log es) from sizes end → ((i p : ℕ) → i < length hs → p < (held_at hs i).pages → lsn_at now.last i p ≡ 0) → now.spaces ≡ infos → Passed header keys from end notes infos from from [] now es
  passed_none es now sizes rest zero_is same = record {
    run = [];
    passed = run_none_passed header keys from end es sizes rest;
    of_store = tt;
    most = λ s p n named. absurd (not_empty named.entry named.before named.behind named.is);
    last = record { each = λ i p lt below. Never (zero_is i p lt below) (λ n named. not_empty named.entry named.before named.behind named.is) };
    heads = record { each = λ i lt. ap (λ (l : List SpaceInfo). Head (space_at l i)) same };
  }

  module _ (es : List Event) (first number : ℕ) (text : List ℕ) (now : RunChanges) (noted : Passed header keys from end notes infos first number text now es) where
    pub passed_done : end ≤ number → AreRunChanges header keys from end notes infos now es
    passed_done le = record {
      run = noted.run;
      entries = entries_end header keys from end es first number text noted.run noted.passed le;
      of_store = noted.of_store;
      last = noted.last;
      heads = noted.heads;
    }

    module _ (lt : number < end) (new : List ℕ) (adds : AddsText header keys (block_at header.blocks (reads Log es) number) text new) where
      -- a block within a mini-transaction
      pub passed_block : ends_mtr (block_at header.blocks (reads Log es) number) ≡ false → Passed header keys from end notes infos first (number + 1) new now es
      passed_block going = record {
        run = noted.run;
        passed = run_within header keys from end es first number text noted.run noted.passed lt new adds going;
        of_store = noted.of_store;
        most = noted.most;
        last = noted.last;
        heads = noted.heads;
      }

      -- the last one of a mini-transaction, whose text doesn't say changes of the store's pages
      pub passed_bad : ends_mtr (block_at header.blocks (reads Log es) number) ≡ true → (bad : ℕ) → HasNoStoreChangeAt hs new bad → HasBadMtr header keys from end first bad es
      passed_bad ends bad none =
          let (k, ks, last) = passed_mtr header keys from end es first number text noted.run noted.passed lt new adds ends in
          let behind = last.behind in
          record { before = noted.run; lead = noted.passed.entries; of_store = noted.of_store; count = k; whole = last.whole; within = omega (arith, behind, lt); text = new; has = last.has; none = none }

      -- or does, and they are noted
      pub passed_more : ends_mtr (block_at header.blocks (reads Log es) number) ≡ true → (lsn : ℕ) → lsn ≡ (number + 1) * 4096 → (cs : List Change) (next : RunChanges) → IsMtrText new cs → AreOfStore hs cs → NotesMtr hs notes lsn cs now next → Passed header keys from end notes infos (number + 1) (number + 1) [] next es
      passed_more ends lsn lsn_is cs next says of_store takes =
          let (k, ks, last) = passed_mtr header keys from end es first number text noted.run noted.passed lt new adds ends in
          let behind = last.behind in
          let e : Entry = record { first = first; lsn = lsn; mtr = cs } in
          let low : first * 4096 ≤ lsn = let some = last.whole.some in omega (arith, lsn_is, behind, some) in
          record {
            run = noted.run ++ e ∷ [];
            passed = run_further header keys from end es first number text noted.run noted.passed lt new adds ends lsn lsn_is cs says;
            of_store = of_store_next hs noted.run e noted.of_store of_store;
            most = λ s p n named. ⊎_elim (λ (old : IsNamedBy mtr_names noted.run s p n). let le = noted.most s p n old in omega (arith, le, low, lsn_is)) (λ (own : (n ≡ lsn) × (mtr_names cs s p ≡ true)). let same = own.0 in omega (arith, same, lsn_is)) (named_parted noted.run e s p n named);
            last = record { each = λ i p below within. last_next noted.run e (held_at hs i).space p (lsn_at now.last i p) (lsn_at next.last i p) (noted.last.each i p below within) (λ n named. let le = noted.most (held_at hs i).space p n named in omega (arith, le, low)) (takes.last i p below within) };
            heads = record { each = λ i below. heads_next i below };
          }
        where
          heads_next : (i : ℕ) → i < length hs → Head (space_at next.spaces i) ≡ later_by mtr_acts (head_lsn notes i) (noted.run ++ record { first = first; lsn = lsn; mtr = cs } ∷ []) (held_at hs i).space 0 (Head (space_at infos i))
          heads_next i below =
              takes.heads i below
              ∙ ap (λ (x : Page). if nat_le lsn (head_lsn notes i) then x else mtr_acts cs (held_at hs i).space 0 x) (noted.heads.each i below)
              ∙ sym (later_next (head_lsn notes i) noted.run (record { first = first; lsn = lsn; mtr = cs }) (held_at hs i).space 0 (Head (space_at infos i)))

-- ---- the run that a scan finds

module _ (keys : Keys) (N : ℕ) (file : List ℕ) where
  abbrev read : ℕ → List ℕ
  read = block_at N file

  block_is : (n : ℕ) → block_at N file n ≡ read n
  block_is n = refl

  whole_of : (n k : ℕ) → IsWholeMtr N (redo_form keys) read n (n + k) → MakeWholeMtr N file n k
  whole_of n k w = record {
    some = let s = w.some in omega (arith, s);
    few = let s = w.most in omega (arith, s);
    valid = λ i lt. ap (is_ring_block (n + i)) (block_is (n + i)) ∙ w.valid (n + i) (omega arith) (omega (arith, lt));
    first = first;
    last = last;
  }
    where
      first : (i : ℕ) → i < k → begins_mtr (block_at N file (n + i)) ≡ nat_eq i 0
      first zero lt =
          let e : n + 0 ≡ n = omega arith in
          let z : nat_eq 0 0 ≡ true = grind (arith, nat_tests) in
          ap (λ (m : ℕ). begins_mtr (block_at N file m)) e ∙ ap begins_mtr (block_is n) ∙ w.first ∙ sym z
      first (suc i) lt =
          let z : nat_eq (suc i) 0 ≡ false = grind (arith, nat_tests) in
          ap begins_mtr (block_is (n + suc i)) ∙ w.others (n + suc i) (omega arith) (omega (arith, lt)) ∙ sym z

      last : (i : ℕ) → i < k → ends_mtr (block_at N file (n + i)) ≡ nat_eq (i + 1) k
      last i lt = by (nat_eq (i + 1) k) refl
        where
          by : (b : Bool) → nat_eq (i + 1) k ≡ b → ends_mtr (block_at N file (n + i)) ≡ b
          by true is = let e : i + 1 ≡ k = grind (arith, nat_tests) in ap ends_mtr (block_is (n + i)) ∙ w.last (n + i) (omega (arith, e))
          by false isnt = let e : i + 1 < k = grind (arith, nat_tests) in ap ends_mtr (block_is (n + i)) ∙ w.before (n + i) (omega arith) (omega (arith, e))

  sizes_of : (n : ℕ) (zs : List ℕ) (end : ℕ) → AreWholeMtrs N (redo_form keys) read n zs end → (sizes : List ℕ) × MakeWholeMtrs N file n sizes end
  sizes_of n [] end is = ([], is)
  sizes_of n (z ∷ zs) end (w, rest) =
      let s = w.some in
      let e : n + (z - n) ≡ z = omega (arith, s) in
      let more = sizes_of z zs end rest in
      ((z - n) ∷ more.0, (whole_of n (z - n) (subst (IsWholeMtr N (redo_form keys) read n) (sym e) w), subst (λ (m : ℕ). MakeWholeMtrs N file m more.0 end) (sym e) more.1))

  -- the run is whole mini-transactions of some sizes
  pub run_sizes : (from end : ℕ) → IsRingRun N (redo_form keys) read from end → (sizes : List ℕ) × MakeWholeMtrs N file from sizes end
  run_sizes from end run = sizes_of from run.parts end run.whole

-- ---- what a block of the run makes of what is passed

module _ (header : HeldHeader) (keys : List RingEntry) (notes : List (List PageNote)) (first number : ℕ) (block text : List ℕ) (now : RunChanges) (from end : ℕ) (infos : List SpaceInfo) (es : List Event) (is_at : IsAtBlock header keys from end notes infos first number block text now es) where
  pub block_refused : (why : OpenRefuse) → IsBlockRefusal header keys number block why → IsPassRefusal header keys from end why es
  block_refused (Damaged file place stored computed) is = absurd (true≢false (sym (passed_valid header keys from end es first number text is_at.passed.run is_at.passed.passed is_at.within) ∙ ap (is_ring_block number) (sym is_at.here) ∙ is.1))
  block_refused (MissingKey id version) is = absurd (passed_keyed header keys from end es first number text is_at.passed.run is_at.passed.passed is_at.within is_at.keyed (subst (λ (b : List ℕ). IsBlockText header keys b None) is_at.here is.2))
  block_refused OutOfMemory is = tt
  block_refused NotFormatted is = absurd is
  block_refused (Mixed file place wanted found) is = absurd is
  block_refused (BadRecord n place) is = absurd is
  block_refused (VersionBelowFloor space floor version) is = absurd is
  block_refused (Spent last) is = absurd is
  block_refused DiskFault is = absurd is

  module _ (new : List ℕ) (adds : AddsText header keys block text new) where
    adds_here : AddsText header keys (block_at header.blocks (reads Log es) number) text new
    adds_here = subst (λ (b : List ℕ). AddsText header keys b text new) is_at.here adds

    ends_here : (b : Bool) → ends_mtr block ≡ b → ends_mtr (block_at header.blocks (reads Log es) number) ≡ b
    ends_here b is = ap ends_mtr (sym is_at.here) ∙ is

    pub block_within : ends_mtr block ≡ false → Passed header keys from end notes infos first (number + 1) new now es
    block_within going = passed_block header keys from end notes infos es first number text now is_at.passed is_at.within new adds_here (ends_here false going)

    module _ (ends : ends_mtr block ≡ true) where
      pub text_refused : (why : OpenRefuse) → IsTextRefusal header.spaces new first why → IsPassRefusal header keys from end why es
      text_refused (BadRecord n place) (same, none) = subst (λ (m : ℕ). HasBadMtr header keys from end m place es) (sym same) (passed_bad header keys from end notes infos es first number text now is_at.passed is_at.within new adds_here (ends_here true ends) place none)
      text_refused (Damaged file place stored computed) is = absurd is
      text_refused (MissingKey id version) is = absurd is
      text_refused OutOfMemory is = absurd is
      text_refused NotFormatted is = absurd is
      text_refused (Mixed file place wanted found) is = absurd is
      text_refused (VersionBelowFloor space floor version) is = absurd is
      text_refused (Spent last) is = absurd is
      text_refused DiskFault is = absurd is

      pub mtr_passed : (lsn : ℕ) → (number + 1 ≤ 2 ^ 51 → lsn ≡ (number + 1) * 4096) → (next : RunChanges) → (cs : List Change) × IsMtrText new cs × AreOfStore header.spaces cs × NotesMtr header.spaces notes lsn cs now next → Passed header keys from end notes infos (number + 1) (number + 1) [] next es
      mtr_passed lsn lsn_is next takes =
          let within = is_at.within in
          let most = is_at.most in
          passed_more header keys from end notes infos es first number text now is_at.passed is_at.within new adds_here (ends_here true ends) lsn (lsn_is (omega (arith, within, most))) takes.0 next takes.1 takes.2 takes.3

-- a refusal by a block, by cases on what it is
pub by_record : (header : HeldHeader) (keys : List RingEntry) (from end : ℕ) (past : Past) (why : OpenRefuse) → IsRecordKind why → At (IsPassRefusal header keys from end why) past → IsByRecord header keys from end past why
by_record header keys from end past (BadRecord n place) kind at = at
by_record header keys from end past (Damaged file place stored computed) kind at = at
by_record header keys from end past (MissingKey id version) kind at = at
by_record header keys from end past OutOfMemory kind at = tt
by_record header keys from end past NotFormatted kind at = absurd kind
by_record header keys from end past (Mixed file place wanted found) kind at = absurd kind
by_record header keys from end past (VersionBelowFloor space floor version) kind at = absurd kind
by_record header keys from end past (Spent last) kind at = absurd kind
by_record header keys from end past DiskFault kind at = absurd kind

-- the same refusal, by another word for the run's end
pub record_moved : (header : HeldHeader) (keys : List RingEntry) (from end other : ℕ) (past : Past) (why : OpenRefuse) → At (λ es. end ≡ other) past → IsByRecord header keys from end past why → IsByRecord header keys from other past why
record_moved header keys from end other past (BadRecord n place) same at = at_both (λ es e bad. subst (λ (m : ℕ). HasBadMtr header keys from m n place es) e bad) same at
record_moved header keys from end other past (Damaged file place stored computed) same at = at
record_moved header keys from end other past (MissingKey id version) same at = at
record_moved header keys from end other past OutOfMemory same at = tt
record_moved header keys from end other past DiskFault same at = tt
record_moved header keys from end other past NotFormatted same at = absurd at
record_moved header keys from end other past (Mixed file place wanted found) same at = absurd at
record_moved header keys from end other past (VersionBelowFloor space floor version) same at = absurd at
record_moved header keys from end other past (Spent last) same at = absurd at

-- ---- where nothing has changed yet

module _ (hs : List HeldSpace) (notes : List (List PageNote)) (last : List (List ℕ)) (noted : FitNotes hs notes) (is : last ≡ map (λ pages. replicate (length pages) 0) notes) where
  row_is : (i : ℕ) → i < length hs → slice_index_or last i [] ≡ replicate (length (slice_index_or notes i [])) 0
  row_is i lt =
      let long = pairs_long (λ (h : HeldSpace) (n : List PageNote). length n ≡ h.pages) hs notes noted in
      ap (λ (l : List (List ℕ)). slice_index_or l i []) is ∙ get_or-map (λ (pages : List PageNote). replicate (length pages) 0) notes i [] [] (omega (arith, long, lt))

  pages_at : (i : ℕ) → i < length hs → length (slice_index_or notes i []) ≡ (held_at hs i).pages
  pages_at i lt = pairs_nth (λ (h : HeldSpace) (n : List PageNote). length n ≡ h.pages) hs notes i no_held [] noted lt

  pub fit_none : FitLast hs last
  fit_none = record {
    long = ap length is ∙ length-map notes (λ (pages : List PageNote). replicate (length pages) 0) ∙ pairs_long (λ (h : HeldSpace) (n : List PageNote). length n ≡ h.pages) hs notes noted;
    pages = λ i lt. ap length (row_is i lt) ∙ length-replicate (length (slice_index_or notes i [])) 0 ∙ pages_at i lt;
  }

  pub none_changed : IsUnchanged hs last
  none_changed = record { none = λ i p lt below. let long = pages_at i lt in ap (λ (l : List ℕ). slice_index_or l p 0) (row_is i lt) ∙ get_or-replicate (length (slice_index_or notes i [])) p 0 0 (omega (arith, long, below)) }
