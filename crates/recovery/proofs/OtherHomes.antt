-- A group that is stored and written home leaves the homes of other pages, and the log, as they are.
use Rattle.std.proofs.Common.{◌≡◌, ◌≢◌, ◌⊎◌, inl, inr, ⊎_elim, ℕ, zero, suc, ◌+◌, ◌*◌, ◌<◌, ◌≤◌, false, nat_eq, List, ◌++◌, length, Some, None, refl, sym, ap, subst, ◌∙◌, arith}
use Rattle.std.proofs.lemmas.Bool.{cases_eq}
use Rattle.std.proofs.lemmas.Bool.Decides.{nat_tests}
use Rattle.std.proofs.lemmas.Option.{none-some, same_Some}
use Rattle.disk_model.specs.Event.{Event, reads, same_file}
use Rattle.disk_model.specs.Does.{Since}
use Rattle.disk_model.specs.Past.{Past, At}
use Rattle.disk_model.specs.declared.names.FileName.{FileName}
use Rattle.disk_model.specs.declared.names.FileName.TheVariants.{Double, Log, Space}
use Rattle.places.specs.Beside.{LeavesFile}
use Rattle.places.specs.Places.{HasFile, shown}
use Rattle.places.specs.Writes.{grows, writes_of}
use Rattle.places.proofs.LeftAlone.{reads_left_alone, shown_left_alone}
use Rattle.places.proofs.Steps.{file_shown_other, place_ends}
use Rattle.page_places.specs.Texts.{pages}
use Rattle.doublewrite.specs.Batch.{home_batch, home_events, slot_batch, slot_events, text_at}
use Rattle.doublewrite.specs.Layer.{FitsSpace}
use Rattle.doublewrite.specs.Text.{ArePageTexts, page_number_of}
use Rattle.doublewrite.specs.declared.texts.Texts.{Texts}
use Rattle.recovery.specs.Groups.{IsBeside, LeavesOthers, LeavesSince}
use Rattle.recovery.proofs.PutGroups.{space_stored, writes_fit, writes_leave}

-- what is of no file that is written
module _ (batch : Texts) where
  stored_aside : (g : FileName) → same_file g Double ≡ false → (es : List Event) → Since (LeavesFile g) es (slot_events batch ++ es)
  stored_aside g apart es = record { news = slot_events batch; is = refl; all = (apart, writes_leave Double g apart 16896 (slot_batch batch) (length batch.pages)) }

  homed_aside : (g : FileName) → same_file g (Space batch.space) ≡ false → (es : List Event) → Since (LeavesFile g) es (home_events batch ++ es)
  homed_aside g apart es = record { news = home_events batch; is = refl; all = (apart, writes_leave (Space batch.space) g apart 16384 (home_batch batch) (length batch.pages)) }

module _ (batch : Texts) (texts : ArePageTexts batch.pages) (few : length batch.pages ≤ 64) (count : ℕ) where
  -- a home of the space that isn't one of the group's
  home_shown : (es : List Event) → FitsSpace batch count es → (p : ℕ) → ((i : ℕ) → i < length batch.pages → page_number_of (text_at batch i) ≢ p) → (k : ℕ) → k ≤ length batch.pages
      → shown (Space batch.space) 16384 p (writes_of (Space batch.space) 16384 (home_batch batch) k ++ es) ≡ shown (Space batch.space) 16384 p es
  home_shown es fits p other zero le = refl
  home_shown es fits p other (suc k) le =
      let lt : k < length batch.pages = omega (arith, le) in
      let long = (texts k lt).long in
      let ends : (j : ℕ) → j < k → page_number_of (text_at batch j) * 16384 + length (text_at batch j) ≤ count * 16384 =
      λ j below. let in_j : j < length batch.pages = omega (arith, below, lt) in let size = (texts j in_j).long in let end = place_ends (pages count) (page_number_of (text_at batch j)) (fits.within j in_j) in omega (arith, size, end) in
      file_shown_other (Space batch.space) (pages count) (page_number_of (text_at batch k)) (text_at batch k) (text_at batch k) (writes_of (Space batch.space) 16384 (home_batch batch) k ++ es)
      (writes_fit (Space batch.space) (Space batch.space) (pages count) 16384 (home_batch batch) k ends es fits.file) (fits.within k lt) long p (λ e. other k lt (sym e))
      ∙ home_shown es fits p other k (omega (arith, le))

  module _ (from end : ℕ) (within : (i : ℕ) → i < length batch.pages → (from ≤ page_number_of (text_at batch i)) × (page_number_of (text_at batch i) < end)) where
    others_left : (es : List Event) → FitsSpace batch count es → LeavesOthers batch.space from end es (home_events batch ++ (slot_events batch ++ es))
    others_left es fits = record { homes = λ z p beside. by z p beside (cases_eq batch.space z); log = reads_left_alone Log mid (home_events batch ++ mid) (homed_aside batch Log refl mid) ∙ reads_left_alone Log es mid (stored_aside batch Log refl es) }
      where
        mid : List Event
        mid = slot_events batch ++ es

        behind : FitsSpace batch count mid
        behind = record { file = space_stored batch texts few batch.space count es fits.file; within = fits.within }

        stored : (z p : ℕ) → shown (Space z) 16384 p mid ≡ shown (Space z) 16384 p es
        stored z p = shown_left_alone (Space z) 16384 p es mid (stored_aside batch (Space z) refl es)

        differs : (z : ℕ) → batch.space ≢ z → nat_eq z batch.space ≡ false
        differs z other = let flip : z ≢ batch.space = λ e. other (sym e) in grind (arith, nat_tests)

        apart : (p : ℕ) → (p < from) ⊎ (end ≤ p) → (i : ℕ) → i < length batch.pages → page_number_of (text_at batch i) ≢ p
        apart p (inl below) i lt same = let low = (within i lt).0 in absurd (omega (arith, low, same, below))
        apart p (inr above) i lt same = let high = (within i lt).1 in absurd (omega (arith, high, same, above))

        own : (p : ℕ) → (p < from) ⊎ (end ≤ p) → shown (Space batch.space) 16384 p (home_events batch ++ mid) ≡ shown (Space batch.space) 16384 p mid
        own p out = home_shown mid behind p (apart p out) (length batch.pages) (omega arith)

        homed : (z p : ℕ) → IsBeside batch.space from end z p → (batch.space ≡ z) ⊎ (batch.space ≢ z) → shown (Space z) 16384 p (home_events batch ++ mid) ≡ shown (Space z) 16384 p mid
        homed z p (inl other) (inl e) = absurd (other (sym e))
        homed z p (inr out) (inl e) = subst (λ (y : ℕ). shown (Space y) 16384 p (home_events batch ++ mid) ≡ shown (Space y) 16384 p mid) e (own p out)
        homed z p beside (inr other) = shown_left_alone (Space z) 16384 p mid (home_events batch ++ mid) (homed_aside batch (Space z) (differs z other) mid)

        by : (z p : ℕ) → IsBeside batch.space from end z p → (batch.space ≡ z) ⊎ (batch.space ≢ z) → shown (Space z) 16384 p (home_events batch ++ mid) ≡ shown (Space z) 16384 p es
        by z p beside which = homed z p beside which ∙ stored z p

    pub group_leaves : (old new : Past) → At (FitsSpace batch count) old → new ≡ grows (home_events batch) (grows (slot_events batch) old) → LeavesSince batch.space from end old new
    group_leaves None new fits is = record { since = λ m now. absurd (none-some m (sym is ∙ now)); told = λ b begun. absurd (none-some b begun) }
    group_leaves (Some b) new fits is = record {
      since = λ m now.
          let same : home_events batch ++ (slot_events batch ++ b) ≡ m = same_Some _ m (sym is ∙ now) in
          (b, refl, subst (LeavesOthers batch.space from end b) same (others_left b (fits.here b refl)));
      told = λ x begun. (home_events batch ++ (slot_events batch ++ b), is);
    }

-- ---- one range behind another

-- the first of two ranges that meet, and the second, leave what is beside both
module _ (s from mid end : ℕ) (low : from ≤ mid) (high : mid ≤ end) where
  in_first : (z p : ℕ) → IsBeside s from end z p → IsBeside s from mid z p
  in_first z p (inl other) = inl other
  in_first z p (inr (inl below)) = inr (inl below)
  in_first z p (inr (inr above)) = inr (inr (omega (arith, above, high)))

  in_second : (z p : ℕ) → IsBeside s from end z p → IsBeside s mid end z p
  in_second z p (inl other) = inl other
  in_second z p (inr (inl below)) = inr (inl (omega (arith, below, low)))
  in_second z p (inr (inr above)) = inr (inr above)

  pub leaves_then : (old between new : Past) → LeavesSince s from mid old between → LeavesSince s mid end between new → LeavesSince s from end old new
  leaves_then old between new first next = record {
    since = λ m now.
        let (t, there, later) = next.since m now in
        let (b, begun, earlier) = first.since t there in
        (b, begun, record { homes = λ z p beside. later.homes z p (in_second z p beside) ∙ earlier.homes z p (in_first z p beside); log = later.log ∙ earlier.log });
    told = λ b begun. let (t, there) = first.told b begun in next.told t there;
  }

pub leaves_none : (s from end : ℕ) (old new : Past) → new ≡ old → LeavesSince s from end old new
leaves_none s from end old new same = record { since = λ m now. (m, sym same ∙ now, record { homes = λ z p beside. refl; log = refl }); told = λ b begun. (b, same ∙ begun) }
