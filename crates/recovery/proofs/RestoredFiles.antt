-- The files of a store are there with their lengths behind the homes that were restored, whatever was pending.
use Rattle.std.proofs.Common.{◌≡◌, ◌≢◌, ℕ, zero, suc, ◌+◌, ◌*◌, ◌<◌, ◌≤◌, ◌⊎◌, ⊎_elim, Bool, true, false, nat_eq, if◌then◌else◌, List, [], ◌∷◌, ◌++◌, length, Option, Some, None, refl, sym, ap, subst, ◌∙◌, append_assoc, arith}
use Rattle.std.proofs.lemmas.Bool.{cases_eq, cases_lt}
use Rattle.std.proofs.lemmas.Bool.Decides.{nat_tests}
use Rattle.std.proofs.lemmas.Option.{none-some, same_Some}
use Rattle.std.specs.Option.{option_map}
use Rattle.byte_list.proofs.RangeLaws.{length-range}
use Rattle.disk_model.specs.Event.{Event, reads, same_file}
use Rattle.disk_model.specs.Does.{AllAre, Since}
use Rattle.disk_model.specs.Past.{Past, At}
use Rattle.disk_model.specs.declared.names.FileName.{FileName}
use Rattle.disk_model.specs.declared.names.FileName.TheVariants.{Double, Log, Space}
use Rattle.places.specs.Beside.{LeavesFile}
use Rattle.places.specs.Places.{Layout, HasFile, place, shown}
use Rattle.places.proofs.LeftAlone.{reads_left_alone}
use Rattle.places.proofs.FileSteps.{file_left_alone, file_sync, file_write}
use Rattle.page_places.specs.Texts.{is_page_text, is_slot, pages, slot_held, slots, text_in}
use Rattle.page_places.proofs.Texts.{length-page, none_read, some_read}
use Rattle.space_head.specs.declared.space.SpaceInfo.{SpaceInfo}
use Rattle.store_image.specs.View.{Slot, Text}
use Rattle.doublewrite.specs.Copies.{copies_to}
use Rattle.doublewrite.specs.Events.{page_write, page_writes, restore_events, space_events, spaces_events, synced}
use Rattle.doublewrite.specs.Restore.{AreSpacesApart, HasSpaceFile, HaveFiles, newest, space_at, wanted}
use Rattle.doublewrite.specs.declared.listing.Copied.{Copied}
use Rattle.doublewrite.proofs.NewestCopy.{Best, newest_is}

-- ---- a text that is brought home is a whole page

held_long : (x : List ℕ) (slot : Slot) → length x ≡ 16896 → slot_held x ≡ Some slot → length slot.text.bytes ≡ 16384
unfolding text_in
held_long x slot long is = by (is_slot x) refl
  where
    by : (b : Bool) → is_slot x ≡ b → length slot.text.bytes ≡ 16384
    by false isnt = absurd (none-some slot (sym (none_read x isnt) ∙ is))
    by true valid = ap (λ (y : Slot). length y.text.bytes) (sym (same_Some _ slot (sym (some_read x valid) ∙ is))) ∙ length-page x long

shown_long : (s : List Event) (i : ℕ) → HasFile Double slots s → i < 64 → length (shown Double 16896 i s) ≡ 16896
unfolding place
shown_long s i has lt = let size = has.size in length-range (i * 16896) 16896 (reads Double s) (omega (arith, size, lt))

wanted_long : (s : List Event) (z p : ℕ) (text : List ℕ) → HasFile Double slots s → wanted (copies_to 64 s) s z p ≡ Some text → length text ≡ 16384
unfolding wanted
wanted_long s z p text has is = by (is_page_text p (shown (Space z) 16384 p s)) (newest (copies_to 64 s) z p) (newest_is s z p 64) is
  where
    by : (b : Bool) (o : Option Copied) → Best s z p 64 o → (if b then None else option_map (λ (c : Copied). c.text) o) ≡ Some text → length text ≡ 16384
    by true o best same = absurd (none-some text same)
    by false None best same = absurd (none-some text same)
    by false (Some c) best same =
        ap length (sym (same_Some c.text text same) ∙ best.bytes) ∙ held_long (shown Double 16896 c.index s) (record { space = z; page = p; text = best.text }) (shown_long s c.index has best.below) best.is

-- ---- other files

all_append : (E : Event → Type 0) (xs ys : List Event) → AllAre E xs → AllAre E ys → AllAre E (xs ++ ys)
all_append E [] ys first next = next
all_append E (x ∷ xs) ys first next = (first.0, all_append E xs ys first.1 next)

module _ (copies : List Copied) (s : List Event) (g : FileName) where
  page_leaves : (z p : ℕ) → same_file g (Space z) ≡ false → (o : Option (List ℕ)) → AllAre (LeavesFile g) (page_write z p o)
  page_leaves z p apart None = tt
  page_leaves z p apart (Some text) = (apart, tt)

  pages_leave : (z n : ℕ) → same_file g (Space z) ≡ false → AllAre (LeavesFile g) (page_writes copies s z n)
  unfolding page_writes
  pages_leave z zero apart = tt
  pages_leave z (suc n) apart = all_append (LeavesFile g) (page_write z n (wanted copies s z n)) (page_writes copies s z n) (page_leaves z n apart (wanted copies s z n)) (pages_leave z n apart)

  synced_leaves : (z : ℕ) → same_file g (Space z) ≡ false → (es : List Event) → AllAre (LeavesFile g) es → AllAre (LeavesFile g) (synced (Space z) es)
  synced_leaves z apart [] all = tt
  synced_leaves z apart (e ∷ es) all = (apart, all)

  space_leaves : (info : SpaceInfo) → same_file g (Space info.space) ≡ false → AllAre (LeavesFile g) (space_events copies s info)
  space_leaves info apart = synced_leaves info.space apart (page_writes copies s info.space info.pages) (pages_leave info.space info.pages apart)

  spaces_leave : (spaces : List SpaceInfo) → ((z : ℕ) → same_file g (Space z) ≡ false) → (k : ℕ) → AllAre (LeavesFile g) (spaces_events copies s spaces k)
  unfolding spaces_events
  spaces_leave spaces apart zero = tt
  spaces_leave spaces apart (suc k) =
      all_append (LeavesFile g) (space_events copies s (space_at spaces k)) (spaces_events copies s spaces k) (space_leaves (space_at spaces k) (apart (space_at spaces k).space)) (spaces_leave spaces apart k)

-- the log and the doublewrite file
pub other_restored : (g : FileName) → ((z : ℕ) → same_file g (Space z) ≡ false) → (layout : Layout) (spaces : List SpaceInfo) (s : List Event) → HasFile g layout s → HasFile g layout (restore_events spaces s ++ s)
other_restored g apart layout spaces s has =
    file_left_alone g layout s (restore_events spaces s ++ s) (record { news = restore_events spaces s; is = refl; all = spaces_leave (copies_to 64 s) s g spaces apart (length spaces) }) has

-- the log reads as it did
pub log_restored : (spaces : List SpaceInfo) (s : List Event) → reads Log (restore_events spaces s ++ s) ≡ reads Log s
log_restored spaces s = reads_left_alone Log s (restore_events spaces s ++ s) (record { news = restore_events spaces s; is = refl; all = spaces_leave (copies_to 64 s) s Log spaces (λ z. refl) (length spaces) })

-- ---- the spaces

module _ (s : List Event) (double : HasFile Double slots s) where
  pages_fit : (z count n : ℕ) → n ≤ count → (es : List Event) → HasFile (Space z) (pages count) es → HasFile (Space z) (pages count) (page_writes (copies_to 64 s) s z n ++ es)
  unfolding page_writes
  pages_fit z count zero le es has = has
  pages_fit z count (suc n) le es has = by (wanted (copies_to 64 s) s z n) refl (pages_fit z count n (omega (arith, le)) es has)
    where
      by : (o : Option (List ℕ)) → wanted (copies_to 64 s) s z n ≡ o → HasFile (Space z) (pages count) (page_writes (copies_to 64 s) s z n ++ es) → HasFile (Space z) (pages count) ((page_write z n o ++ page_writes (copies_to 64 s) s z n) ++ es)
      by None is before = before
      by (Some text) is before =
          let long = wanted_long s z n text double is in
          file_write (Space z) (Space z) (pages count) (n * 16384) text text (page_writes (copies_to 64 s) s z n ++ es) (omega (arith, long, le)) before

  synced_fit : (z count : ℕ) (ws es : List Event) → HasFile (Space z) (pages count) (ws ++ es) → HasFile (Space z) (pages count) (synced (Space z) ws ++ es)
  synced_fit z count [] es has = has
  synced_fit z count (w ∷ ws) es has = file_sync (Space z) (Space z) (pages count) (w ∷ ws ++ es) has

  module _ (spaces : List SpaceInfo) (apart : AreSpacesApart spaces) where
    two_apart : (i k : ℕ) → i < length spaces → k < length spaces → i ≢ k → same_file (Space (space_at spaces i).space) (Space (space_at spaces k).space) ≡ false
    two_apart i k in_i in_k other = ⊎_elim (λ (lt : i < k). differ (space_at spaces i).space (space_at spaces k).space (apart i k lt in_k))
        (λ (ge : k ≤ i). differ (space_at spaces i).space (space_at spaces k).space (λ e. apart k i (omega (arith, ge, other)) in_i (sym e))) (cases_lt i k)
      where
        differ : (y z : ℕ) → y ≢ z → nat_eq y z ≡ false
        differ y z ne = grind (arith, nat_tests)

    spaces_fit : (k : ℕ) → k ≤ length spaces → HaveFiles spaces s → HaveFiles spaces (spaces_events (copies_to 64 s) s spaces k ++ s)
    unfolding spaces_events
    spaces_fit zero le files = files
    spaces_fit (suc k) le files = λ i lt. by i lt (cases_eq i k) (spaces_fit k (omega (arith, le)) files)
      where
        before : List Event
        before = spaces_events (copies_to 64 s) s spaces k ++ s

        joined : (space_events (copies_to 64 s) s (space_at spaces k) ++ spaces_events (copies_to 64 s) s spaces k) ++ s ≡ space_events (copies_to 64 s) s (space_at spaces k) ++ before
        joined = append_assoc (space_events (copies_to 64 s) s (space_at spaces k)) (spaces_events (copies_to 64 s) s spaces k) s

        by : (i : ℕ) → i < length spaces → (i ≡ k) ⊎ (i ≢ k) → HaveFiles spaces before → HasSpaceFile (space_at spaces i) ((space_events (copies_to 64 s) s (space_at spaces k) ++ spaces_events (copies_to 64 s) s spaces k) ++ s)
        by i lt which have = subst (HasSpaceFile (space_at spaces i)) (sym joined) (⊎_elim own other which)
          where
            own : i ≡ k → HasSpaceFile (space_at spaces i) (space_events (copies_to 64 s) s (space_at spaces k) ++ before)
            own same = subst (λ (j : ℕ). HasSpaceFile (space_at spaces j) (space_events (copies_to 64 s) s (space_at spaces k) ++ before)) (sym same)
                (synced_fit (space_at spaces k).space (space_at spaces k).pages (page_writes (copies_to 64 s) s (space_at spaces k).space (space_at spaces k).pages) before
                (pages_fit (space_at spaces k).space (space_at spaces k).pages (space_at spaces k).pages (omega arith) before (have k (omega (arith, le)))))

            other : i ≢ k → HasSpaceFile (space_at spaces i) (space_events (copies_to 64 s) s (space_at spaces k) ++ before)
            other differs = file_left_alone (Space (space_at spaces i).space) (pages (space_at spaces i).pages) before (space_events (copies_to 64 s) s (space_at spaces k) ++ before)
                (record { news = space_events (copies_to 64 s) s (space_at spaces k); is = refl; all = space_leaves (copies_to 64 s) s (Space (space_at spaces i).space) (space_at spaces k) (two_apart i k lt (omega (arith, le)) differs) }) (have i lt)

    pub spaces_restored : HaveFiles spaces s → HaveFiles spaces (restore_events spaces s ++ s)
    spaces_restored files = spaces_fit (length spaces) (omega arith) files

-- ---- of a disk

-- what holds of the disk behind events that hang on how it began
pub at_behind_all : (news : List Event → List Event) (P Q : List Event → Type 0) → ((s : List Event) → P s → Q (news s ++ s)) → (old new : Past) → At (λ s. new ≡ Some (news s ++ s)) old → (old ≡ None → new ≡ None) → At P old → At Q new
at_behind_all news P Q goes None new exact untold at = record { here = λ es is. absurd (none-some es (sym (untold refl) ∙ is)) }
at_behind_all news P Q goes (Some s) new exact untold at = record { here = λ es is. subst Q (same_Some (news s ++ s) es (sym (exact.here s refl) ∙ is)) (goes s (at.here s refl)) }
