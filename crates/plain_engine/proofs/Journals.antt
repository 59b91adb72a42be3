-- The journal and its blocks.
use Rattle.std.proofs.Common.{◌≡◌, ℕ, zero, suc, ◌+◌, ◌*◌, ◌<◌, ◌≤◌, List, [], ◌∷◌, ◌++◌, length, map, take, get_or, refl, sym, ◌∙◌, ap, subst, arith, length-append, ⊎_elim}
use Rattle.std.proofs.lemmas.Bool.{cases_lt}
use Rattle.redo_text.specs.declared.change.Change.{Change}
use Rattle.disk_model.specs.Event.{Event}
use Rattle.disk_model.specs.declared.names.FileName.TheVariants.{Log}
use Rattle.disk_model.specs.Image.{Image}
use Rattle.plain_engine.specs.declared.journal.Entry.{Entry}
use Rattle.plain_engine.specs.Text.{mtr_text, IsSmall, AreSmall}
use Rattle.plain_engine.specs.Block.{IsLogBlock}
use Rattle.plain_engine.specs.Log.{log_block, ring_place, IsRunFrom, LogRecovers}
use Rattle.plain_engine.specs.Stands.{mtrs, LogStands, AllStand}
use Rattle.plain_engine.specs.Layer.{AreNumbered, Runs, AllRun, IsLogFile}
use Rattle.plain_engine.specs.Kept.{AreEntries, AreBlocks}
use Rattle.plain_engine.proofs.Events.{full_ring}

pub length-blocks : (n : ℕ) (journal : List Entry) (blocks : List (List ℕ)) → AreBlocks n journal blocks → length blocks ≡ length journal
length-blocks n [] [] are = refl
length-blocks n [] (b ∷ bs) are = absurd are
length-blocks n (e ∷ es) [] are = absurd are
length-blocks n (e ∷ es) (b ∷ bs) are = ap suc (length-blocks (n + 1) es bs are.1)

pub numbered-from : (n : ℕ) (journal : List Entry) (blocks : List (List ℕ)) → AreBlocks n journal blocks → (i : ℕ) → i < length blocks → (text : List ℕ) × IsLogBlock (i + n) text (get_or blocks i [])
numbered-from n [] [] are i lt = absurd (omega arith)
numbered-from n [] (b ∷ bs) are i lt = absurd are
numbered-from n (e ∷ es) [] are i lt = absurd are
numbered-from n (e ∷ es) (b ∷ bs) are zero lt = let same : n ≡ 0 + n = omega arith in (mtr_text e.mtr, subst (λ (k : ℕ). IsLogBlock k (mtr_text e.mtr) b) same are.0)
numbered-from n (e ∷ es) (b ∷ bs) are (suc i) lt =
    let rest = numbered-from (n + 1) es bs are.1 i (omega arith) in
    let same : i + (n + 1) ≡ suc i + n = omega arith in
    (rest.0, subst (λ (k : ℕ). IsLogBlock k rest.0 (get_or bs i [])) same rest.1)

pub numbered : (journal : List Entry) (blocks : List (List ℕ)) → AreBlocks 2 journal blocks → AreNumbered blocks
numbered journal blocks are = numbered-from 2 journal blocks are

-- the longest run begins with the first blocks
pub run_from : (n : ℕ) (journal : List Entry) (blocks : List (List ℕ)) (file : List ℕ) (count : ℕ) → AreBlocks n journal blocks → count ≤ length journal
    → ((i : ℕ) → i < count → log_block (ring_place (i + n)) file ≡ get_or blocks i []) → ((text : List ℕ) → IsLogBlock (count + n) text (log_block (ring_place (count + n)) file) → ⊥)
    → IsRunFrom n file (map mtr_text (take count (mtrs journal)))
run_from n journal blocks file zero are le whole ends =
    let same : 0 + n ≡ n = omega arith in
    subst (λ (k : ℕ). (text : List ℕ) → IsLogBlock k text (log_block (ring_place k) file) → ⊥) same ends
run_from n [] [] file (suc count) are le whole ends = absurd (omega arith)
run_from n [] (b ∷ bs) file (suc count) are le whole ends = absurd are
run_from n (e ∷ es) [] file (suc count) are le whole ends = absurd are
run_from n (e ∷ es) (b ∷ bs) file (suc count) are le whole ends =
    let first : 0 + n ≡ n = omega arith in
    let here : log_block (ring_place n) file ≡ b = subst (λ (k : ℕ). log_block (ring_place k) file ≡ b) first (whole 0 (omega arith)) in
    let last : suc count + n ≡ count + (n + 1) = omega arith in (
      subst (IsLogBlock n (mtr_text e.mtr)) (sym here) are.0,
      run_from (n + 1) es bs file count are.1 (omega arith)
          (λ i lt. let next : suc i + n ≡ i + (n + 1) = omega arith in subst (λ (k : ℕ). log_block (ring_place k) file ≡ get_or bs i []) next (whole (suc i) (omega arith)))
          (subst (λ (k : ℕ). (text : List ℕ) → IsLogBlock k text (log_block (ring_place k) file) → ⊥) last ends),
    )

pub small_run : (n : ℕ) (journal : List Entry) (count : ℕ) → AreEntries n journal → AreSmall (take count (mtrs journal))
small_run n journal zero are = tt
small_run n [] (suc count) are = tt
small_run n (e ∷ es) (suc count) are = (are.1, small_run (n + 1) es count are.2)

-- A run of blocks is one of mini-transactions.
module _ (journal : List Entry) (blocks : List (List ℕ)) (are : AreBlocks 2 journal blocks) (entries : AreEntries 2 journal) where
  pub stands_of : (image : Image) → Runs blocks image → LogStands journal image
  stands_of image r =
      let long = length-blocks 2 journal blocks are in
      record {
        count = r.count;
        within = omega (arith, r.within, long);
        recovers = record {
          size = r.size;
          framed = r.framed;
          blocks = run_from 2 journal blocks (image.bytes Log) r.count are (omega (arith, r.within, long)) r.whole r.ends;
          small = small_run 2 journal r.count entries;
        };
        acked = r.acked;
      }

  pub all_stand : (es : List Event) → AllRun blocks es → AllStand journal es
  all_stand es all image is lucky = stands_of image (all image is lucky)

  -- a file with the first so many blocks and none behind them
  pub filled_recovers : (settled : ℕ) (file : List ℕ) → settled ≤ length journal → length journal ≤ 256 → IsLogFile blocks settled file → LogRecovers file (take settled (mtrs journal))
  filled_recovers settled file le room f =
      let long = length-blocks 2 journal blocks are in
      record {
        size = f.size;
        framed = f.framed;
        blocks = run_from 2 journal blocks file settled are le f.whole (⊎_elim
            (λ (lt : settled < 256). f.fresh settled (omega arith) lt)
            (λ (ge : 256 ≤ settled). full_ring blocks file settled (numbered journal blocks are) (omega (arith, long)) (f.whole 0 (omega arith)) (omega arith))
            (cases_lt settled 256));
        small = small_run 2 journal settled entries;
      }

-- A journal that grows.
pub blocks-push : (n : ℕ) (journal : List Entry) (blocks : List (List ℕ)) (e : Entry) (b : List ℕ) → AreBlocks n journal blocks → IsLogBlock (length journal + n) (mtr_text e.mtr) b
    → AreBlocks n (journal ++ e ∷ []) (blocks ++ b ∷ [])
blocks-push n [] [] e b are is = let same : 0 + n ≡ n = omega arith in (subst (λ (k : ℕ). IsLogBlock k (mtr_text e.mtr) b) same is, tt)
blocks-push n [] (c ∷ cs) e b are is = absurd are
blocks-push n (d ∷ ds) [] e b are is = absurd are
blocks-push n (d ∷ ds) (c ∷ cs) e b are is =
    let same : suc (length ds) + n ≡ length ds + (n + 1) = omega arith in
    (are.0, blocks-push (n + 1) ds cs e b are.1 (subst (λ (k : ℕ). IsLogBlock k (mtr_text e.mtr) b) same is))

pub entries-push : (n : ℕ) (journal : List Entry) (e : Entry) → AreEntries n journal → e.lsn ≡ (length journal + n + 1) * 4096 → IsSmall e.mtr → AreEntries n (journal ++ e ∷ [])
entries-push n [] e are lsn small = (let same : 0 + n + 1 ≡ n + 1 = omega arith in lsn ∙ ap (λ (k : ℕ). k * 4096) same, small, tt)
entries-push n (d ∷ ds) e are lsn small =
    let same : suc (length ds) + n + 1 ≡ length ds + (n + 1) + 1 = omega arith in
    (are.0, are.1, entries-push (n + 1) ds e are.2 (lsn ∙ ap (λ (k : ℕ). k * 4096) same) small)

pub take-mtrs : (journal : List Entry) (e : Entry) (count : ℕ) → count ≤ length journal → take count (mtrs (journal ++ e ∷ [])) ≡ take count (mtrs journal)
take-mtrs journal e zero le = refl
take-mtrs [] e (suc count) le = absurd (omega arith)
take-mtrs (d ∷ ds) e (suc count) le = ap (λ (l : List (List Change)). d.mtr ∷ l) (take-mtrs ds e count (omega arith))

pub stands-push : (journal : List Entry) (e : Entry) (es : List Event) → AllStand journal es → AllStand (journal ++ e ∷ []) es
stands-push journal e es all image is lucky =
    let s : LogStands journal image = all image is lucky in
    record {
      count = s.count;
      within = omega (arith, s.within, length-append journal (e ∷ []));
      recovers = subst (LogRecovers (image.bytes Log)) (sym (take-mtrs journal e s.count s.within)) s.recovers;
      acked = s.acked;
    }
