-- A run is passed block by block, and its mini-transactions are applied to the pages of a round.
use Rattle.std.proofs.Common.{◌≡◌, ◌≢◌, ℕ, ◌+◌, ◌-◌, ◌*◌, ◌<◌, ◌≤◌, ◌^◌, true, false, true≢false, List, [], ◌∷◌, ◌++◌, None, refl, sym, ap, subst, ◌∙◌, arith}
use Rattle.disk_model.specs.Event.{Event, reads}
use Rattle.disk_model.specs.Past.{Past, At}
use Rattle.disk_model.specs.declared.names.FileName.TheVariants.{Log}
use Rattle.disk_model.proofs.Moments.{at_each}
use Rattle.doublewrite.specs.declared.refuse.OpenRefuse.{OpenRefuse}
use Rattle.doublewrite.specs.declared.refuse.OpenRefuse.TheVariants.{NotFormatted, Mixed, Damaged, MissingKey, BadRecord, VersionBelowFloor, Spent, DiskFault, OutOfMemory}
use Rattle.image_log.specs.Logs.{HasNoChangeAt, IsBlockText}
use Rattle.image_log.proofs.ChangeLists.{no_changes_of}
use Rattle.image_log.proofs.MtrTexts.{text_keyed}
use Rattle.key_ring.specs.Ring.{RingEntry}
use Rattle.page_pool.specs.Pages.{PoolState}
use Rattle.redo_text.specs.declared.change.Change.{Change}
use Rattle.store_image.specs.View.{Logged}
use Rattle.store_files.specs.Header.{HeldHeader}
use Rattle.store_files.specs.RingBlock.{IsMtrText, ends_mtr, is_ring_block}
use Rattle.store_files.specs.Run.{AreLogEntries, HasText, MakeWholeMtr, MakeWholeMtrs, block_at}
use Rattle.store_files.proofs.RunsOnce.{text_one, whole_one}
use Rattle.recovery.specs.Applying.{AppliesLog, AppliesUpTo, IsAtApplied, IsRunRefusal, IsWant, SaysRun}
use Rattle.recovery.specs.Changing.{ChangesByText}
use Rattle.recovery.specs.Passed.{IsRecordKind}
use Rattle.recovery.specs.RunText.{AddsText, IsBlockRefusal}
use Rattle.recovery.specs.declared.notes.PageNote.{PageNote}
use Rattle.recovery.proofs.RunSteps.{run_more, run_none}
use Rattle.recovery.proofs.RunsPassed.{entries_end, passed_mtr, passed_next, passed_valid, run_further, run_none_passed, run_within}

abbrev Entry : Type 0
Entry = Logged (List Change)

-- ---- the mini-transactions that are to come

module _ (header : HeldHeader) (keys : List RingEntry) (file : List ℕ) where
  ascends : (n : ℕ) (run : List Entry) (end : ℕ) → AreLogEntries header keys file n run end → n ≤ end
  ascends n [] end is = omega (arith, is)
  ascends n (e ∷ es) end is = let more = ascends (n + is.0) es end is.7 in omega (arith, more)

  pub sizes_said : (n : ℕ) (run : List Entry) (end : ℕ) → AreLogEntries header keys file n run end → (sizes : List ℕ) × MakeWholeMtrs header.blocks file n sizes end
  sizes_said n [] end is = ([], is)
  sizes_said n (e ∷ es) end (k, text, whole, has, says, first, lsn, rest) = let more = sizes_said (n + k) es end rest in (k ∷ more.0, (whole, more.1))

  -- of two lists of mini-transactions from one block on, the longer goes on where the other ends
  said_behind : (n : ℕ) (run all : List Entry) (mid end : ℕ) → AreLogEntries header keys file n run mid → AreLogEntries header keys file n all end → mid < end → (rest : List Entry) × AreLogEntries header keys file mid rest end
  said_behind n [] all mid end is says lt = (all, subst (λ (m : ℕ). AreLogEntries header keys file m all end) is says)
  said_behind n (r ∷ rs) [] mid end (k, text, whole, has, is, first, lsn, more) says lt = let some = whole.some in let up = ascends (n + k) rs mid more in absurd (omega (arith, says, lt, up, some))
  said_behind n (r ∷ rs) (a ∷ rest) mid end (k, text, whole, has, is, first, lsn, more) (j, other, w, h, i, f, l, others) lt =
      let same : k ≡ j = whole_one header.blocks file n k j whole w in
      said_behind (n + k) rs rest mid end more (subst (λ (m : ℕ). AreLogEntries header keys file (n + m) rest end) (sym same) others) lt

  -- a mini-transaction begins with this block, and its text says these changes
  record SaysMtr (first : ℕ) : Type 0 where
    count : ℕ
    text : List ℕ
    changes : List Change
    whole : MakeWholeMtr header.blocks file first count
    has : HasText header keys file first count text
    is : IsMtrText text changes

  said_next : (first : ℕ) (rest : List Entry) (end : ℕ) → AreLogEntries header keys file first rest end → first < end → SaysMtr first
  said_next first [] end says lt = absurd (omega (arith, says, lt))
  said_next first (e ∷ es) end (k, text, whole, has, is, f, l, more) lt = record { count = k; text = text; changes = e.mtr; whole = whole; has = has; is = is }

-- ---- the blocks that are passed

module _ (header : HeldHeader) (keys : List RingEntry) (from end : ℕ) (notes : List PageNote) (last : List ℕ) (s low high : ℕ) where
  pub applied_none : (es : List Event) (pool : PoolState) → SaysRun header keys from end es → AppliesUpTo header keys from end notes last s low high from from [] pool pool es
  applied_none es pool says =
      let sizes = sizes_said header keys (reads Log es) from says.0 end says.1 in
      record { run = []; passed = run_none_passed header keys from end es sizes.0 sizes.1; applies = run_none notes last s low high pool }

  pub applied_done : (es : List Event) (next number : ℕ) (text : List ℕ) (old now : PoolState) → AppliesUpTo header keys from end notes last s low high next number text old now es → end ≤ number → AppliesLog header keys from end notes last s low high old now es
  applied_done es next number text old now upto le = record { run = upto.run; entries = entries_end header keys from end es next number text upto.run upto.passed le; applies = upto.applies }

  module _ (next number : ℕ) (block text : List ℕ) (old now : PoolState) (es : List Event) (is_at : IsAtApplied header keys from end notes last s low high next number block text old now es) where
    abbrev file : List ℕ
    file = reads Log es

    -- the mini-transaction of the block says changes
    mtr_said : SaysMtr header keys file next
    mtr_said =
        let (k, ks, more) = passed_next header keys from end es next number text is_at.upto.run is_at.upto.passed is_at.within in
        let order = more.order in
        let within = is_at.within in
        let rest = said_behind header keys file from is_at.upto.run is_at.says.0 next end is_at.upto.passed.entries is_at.says.1 (omega (arith, order, within)) in
        said_next header keys file next rest.0 end rest.1 (omega (arith, order, within))

    has_key : IsBlockText header keys (block_at header.blocks file number) None → ⊥
    has_key none =
        let (k, ks, more) = passed_next header keys from end es next number text is_at.upto.run is_at.upto.passed is_at.within in
        let said = mtr_said in
        let same : k ≡ said.count = whole_one header.blocks file next k said.count more.whole said.whole in
        let order = more.order in
        let below = more.below in
        let here : next + (number - next) ≡ number = omega (arith, order) in
        text_keyed header keys file next said.count (number - next) said.text (omega (arith, order, below, same)) said.has (subst (λ (n : ℕ). IsBlockText header keys (block_at header.blocks file n) None) (sym here) none)

    pub block_wanted : (why : OpenRefuse) → IsBlockRefusal header keys number block why → IsWant why
    block_wanted (Damaged name place stored computed) is =
        absurd (true≢false (sym (passed_valid header keys from end es next number text is_at.upto.run is_at.upto.passed is_at.within) ∙ ap (is_ring_block number) (sym is_at.here) ∙ is.1))
    block_wanted (MissingKey id version) is = absurd (has_key (subst (λ (b : List ℕ). IsBlockText header keys b None) is_at.here is.2))
    block_wanted OutOfMemory is = tt
    block_wanted NotFormatted is = absurd is
    block_wanted (Mixed name place wanted found) is = absurd is
    block_wanted (BadRecord n place) is = absurd is
    block_wanted (VersionBelowFloor space floor version) is = absurd is
    block_wanted (Spent n) is = absurd is
    block_wanted DiskFault is = absurd is

    module _ (new : List ℕ) (adds : AddsText header keys block text new) where
      adds_here : AddsText header keys (block_at header.blocks file number) text new
      adds_here = subst (λ (b : List ℕ). AddsText header keys b text new) is_at.here adds

      -- a block within a mini-transaction
      pub applied_within : ends_mtr block ≡ false → AppliesUpTo header keys from end notes last s low high next (number + 1) new old now es
      applied_within going = record {
        run = is_at.upto.run;
        passed = run_within header keys from end es next number text is_at.upto.run is_at.upto.passed is_at.within new adds_here (ap ends_mtr (sym is_at.here) ∙ going);
        applies = is_at.upto.applies;
      }

      module _ (ends : ends_mtr block ≡ true) where
        -- the text of a whole one is one of changes
        pub text_said : (bad : ℕ) → HasNoChangeAt new bad → ⊥
        text_said bad none =
            let (k, ks, whole) = passed_mtr header keys from end es next number text is_at.upto.run is_at.upto.passed is_at.within new adds_here (ap ends_mtr (sym is_at.here) ∙ ends) in
            let said = mtr_said in
            let same : k ≡ said.count = whole_one header.blocks file next k said.count whole.whole said.whole in
            let texts : new ≡ said.text = text_one header keys file next said.count new said.text (subst (λ (n : ℕ). HasText header keys file next n new) same whole.has) said.has in
            no_changes_of new bad none said.changes (subst (λ (t : List ℕ). IsMtrText t said.changes) (sym texts) said.is)

        -- and they are made
        pub applied_more : (lsn : ℕ) → (number + 1 ≤ 2 ^ 51 → lsn ≡ (number + 1) * 4096) → (then_pool : PoolState) → ChangesByText notes last s low high lsn new now then_pool → AppliesUpTo header keys from end notes last s low high (number + 1) (number + 1) [] old then_pool es
        applied_more lsn lsn_is then_pool changes =
            let within = is_at.within in
            let most = is_at.most in
            record {
              run = is_at.upto.run ++ record { first = next; lsn = lsn; mtr = changes.changes } ∷ [];
              passed = run_further header keys from end es next number text is_at.upto.run is_at.upto.passed is_at.within new adds_here (ap ends_mtr (sym is_at.here) ∙ ends) lsn (lsn_is (omega (arith, within, most))) changes.changes changes.text_of;
              applies = run_more notes last s low high is_at.upto.run (record { first = next; lsn = lsn; mtr = changes.changes }) old now then_pool is_at.upto.applies changes.made;
            }

-- a refusal by a block, by cases on what it is
pub by_read : (past : Past) (why : OpenRefuse) → IsRecordKind why → At (λ es. IsWant why) past → IsRunRefusal past why
by_read past (BadRecord n place) kind at = at
by_read past (Damaged name place stored computed) kind at = at
by_read past (MissingKey id version) kind at = at
by_read past OutOfMemory kind at = tt
by_read past NotFormatted kind at = absurd kind
by_read past (Mixed name place wanted found) kind at = absurd kind
by_read past (VersionBelowFloor space floor version) kind at = absurd kind
by_read past (Spent n) kind at = absurd kind
by_read past DiskFault kind at = absurd kind
