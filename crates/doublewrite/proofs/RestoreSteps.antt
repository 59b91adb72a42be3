-- What each device call does to a space that is restored.
use Rattle.std.proofs.Common.{◌≡◌, ℕ, ◌+◌, ◌*◌, ◌<◌, ◌≤◌, Bool, true, false, if◌then◌else◌, List, ◌∷◌, length, Option, Some, None, refl, sym, ap, subst, ◌∙◌, arith}
use Rattle.std.specs.Option.{option_map}
use Rattle.disk_model.specs.Event.{Event, Write, Sync}
use Rattle.std.specs.Prelude.{Result, OnOk, OnErr}
use Rattle.disk_model.specs.Past.{Past, At, IsWrite, MayGrow, grow}
use Rattle.disk_model.proofs.Layers.{does_write}
use Rattle.disk_model.specs.Does.{IsOn, Does}
use Rattle.disk_model.specs.declared.names.FileName.TheVariants.{Space}
use Rattle.disk_model.proofs.FilesLemmas.{same_file-itself}
use Rattle.disk_model.proofs.Moments.{at_each, at_both, at_grow, at_is as moved}
use Rattle.places.specs.Places.{shown}
use Rattle.places.specs.Batches.{From}
use Rattle.places.proofs.Batches.{at_start}
use Rattle.places.proofs.FileSteps.{file_write}
use Rattle.places.proofs.Steps.{place_ends, file_shown_other}
use Rattle.places.proofs.Fills.{filled_none, filled_skip, filling_more, fill_each, fill_write, fill_sync}
use Rattle.space_head.specs.declared.space.SpaceInfo.{SpaceInfo}
use Rattle.page_places.specs.Texts.{is_page_text, pages}
use Rattle.page_places.proofs.Sums.{torn_page}
use Rattle.doublewrite.specs.Text.{IsPageText}
use Rattle.doublewrite.specs.Restore.{wanted, newest, HasPages, HasSpaceFile, PagesStay, PagesFilling, PagesFilled, PagesRestored, IsSpaceEvent}
use Rattle.doublewrite.specs.declared.listing.Copied.{Copied}

pub none_of_text : (copies : List Copied) (s : List Event) (z k : ℕ) → is_page_text k (shown (Space z) 16384 k s) ≡ true → wanted copies s z k ≡ None
unfolding wanted
none_of_text copies s z k is = ap (λ (b : Bool). if b then None else option_map (λ c. c.text) (newest copies z k)) is

pub none_of_copy : (copies : List Copied) (s : List Event) (z k : ℕ) → newest copies z k ≡ None → wanted copies s z k ≡ None
unfolding wanted
none_of_copy copies s z k none = ap (λ (o : Option Copied). if is_page_text k (shown (Space z) 16384 k s) then None else option_map (λ c. c.text) o) none ∙ by (is_page_text k (shown (Space z) 16384 k s))
  where
    nothing : Option (List ℕ)
    nothing = None

    by : (b : Bool) → (if b then nothing else nothing) ≡ nothing
    by true = refl
    by false = refl

pub some_of_copy : (copies : List Copied) (s : List Event) (z k : ℕ) (c : Copied) → is_page_text k (shown (Space z) 16384 k s) ≡ false → newest copies z k ≡ Some c → wanted copies s z k ≡ Some c.text
unfolding wanted
some_of_copy copies s z k c torn is =
    ap (λ (b : Bool). if b then None else option_map (λ c. c.text) (newest copies z k)) torn ∙ ap (λ (o : Option Copied). option_map (λ c. c.text) o) is

module _ (copies : List Copied) (info : SpaceInfo) where
  abbrev z : ℕ
  z = info.space

  abbrev w : List Event → ℕ → Option (List ℕ)
  w s = wanted copies s z

  pub pages_begin : (first : Past) → At (HasPages info) first → At (From (PagesFilled copies info 0) first) first
  pages_begin first has = at_start (λ s h. filled_none (Space z) (pages info.pages) (w s) s h) has

  pub pages_now : (k : ℕ) → k ≤ info.pages → (first : Past) (es : List Event) → From (PagesFilled copies info k) first es → From (PagesFilling copies info) first es
  pages_now k le first es r = at_each (λ s g. filling_more (Space z) (pages info.pages) (w s) s k info.pages le es g.filling) r

  -- the home of page k still reads as at the start
  still : (k : ℕ) (s m : List Event) (page : List ℕ) → PagesFilled copies info k s m → page ≡ shown (Space z) 16384 k m → page ≡ shown (Space z) 16384 k s
  still k s m page g is = is ∙ g.old k (λ lt. absurd (omega (arith, lt)))

  pub page_event : (at : ℕ) (bytes : List ℕ) (d : Event) → IsWrite (Space z) at bytes d → IsSpaceEvent info d
  page_event at bytes d (shows, same, is) = subst (IsOn (Space z)) (sym is) (same_file-itself (Space z))

  module _ (k : ℕ) (below : k < info.pages) (page : List ℕ) (first : Past) where
    abbrev Read : List Event → Type 0
    Read es = From (PagesFilled copies info k) first es × (page ≡ shown (Space z) 16384 k es)

    pub skip_text : is_page_text k page ≡ true → (es : List Event) → From (PagesFilled copies info k) first es → page ≡ shown (Space z) 16384 k es → From (PagesFilled copies info (k + 1)) first es
    skip_text text es r is =
        at_each (λ s g. filled_skip (Space z) (pages info.pages) (w s) s k es (none_of_text copies s z k (ap (is_page_text k) (sym (still k s es page g is)) ∙ text)) g) r

    pub skip_copy : newest copies z k ≡ None → (es : List Event) → From (PagesFilled copies info k) first es → From (PagesFilled copies info (k + 1)) first es
    skip_copy none es r = at_each (λ s g. filled_skip (Space z) (pages info.pages) (w s) s k es (none_of_copy copies s z k none) g) r

    module _ (c : Copied) (torn : is_page_text k page ≡ false) (newest_is : newest copies z k ≡ Some c) (text : IsPageText c.text) where
      want : (s m : List Event) → PagesFilled copies info k s m → page ≡ shown (Space z) 16384 k m → wanted copies s z k ≡ Some c.text
      want s m g is = some_of_copy copies s z k c (ap (is_page_text k) (sym (still k s m page g is)) ∙ torn) newest_is

      pub page_each : (d : Event) → IsWrite (Space z) (k * 16384) c.text d → (es : List Event) → Read es → From (PagesFilling copies info) first (d ∷ es)
      page_each d write es r = at_each (λ s g. fill_each (Space z) (pages info.pages) (w s) s k c.text below text.long (torn_page c.text text.sums) (want s es g r.1) es g info.pages below d write) r.0

      pub page_wrote : (es : List Event) → Read es → From (PagesFilled copies info (k + 1)) first (Write (Space z) (k * 16384) c.text c.text ∷ es)
      page_wrote es r = at_each (λ s g. fill_write (Space z) (pages info.pages) (w s) s k c.text below text.long (torn_page c.text text.sums) (want s es g r.1) es g) r.0

      -- the whole call
      pub page_does : {T X : Type 0} {old mid new : Past} {result : Result T X} (at : ℕ) (bytes : List ℕ) → at ≡ k * 16384 → bytes ≡ c.text
          → At (From (PagesFilled copies info k) first) old → At (λ es. page ≡ shown (Space z) 16384 k es) old → mid ≡ old
          → OnOk result (new ≡ grow (Write (Space z) at bytes bytes) mid) → OnErr result (MayGrow (IsWrite (Space z) at bytes) mid new)
          → Does (From (PagesFilling copies info) first) (IsSpaceEvent info) (From (PagesFilled copies info (k + 1)) first) old new result
      page_does {T} {X} {old} {mid} {new} {result} at bytes at_is bytes_is filled read same ok err =
          let here : At Read mid = moved same (at_both (λ es r b. (r, b)) filled read) in
          subst (λ (h : Past). Does (From (PagesFilling copies info) first) (IsSpaceEvent info) (From (PagesFilled copies info (k + 1)) first) h new result) same
          (does_write (Space z) (k * 16384) c.text here (λ es r. pages_now k (omega (arith, below)) first es r.0) page_each (page_event (k * 16384) c.text) page_wrote
          (subst (λ (p : ℕ). OnOk result (new ≡ grow (Write (Space z) p c.text c.text) mid)) at_is (subst (λ (l : List ℕ). OnOk result (new ≡ grow (Write (Space z) at l l) mid)) bytes_is ok))
          (subst (λ (p : ℕ). OnErr result (MayGrow (IsWrite (Space z) p c.text) mid new)) at_is (subst (λ (l : List ℕ). OnErr result (MayGrow (IsWrite (Space z) at l) mid new)) bytes_is err)))

  pub sync_event : IsSpaceEvent info (Sync (Space z))
  sync_event = same_file-itself (Space z)

  pub pages_sync : (first : Past) (es : List Event) → From (PagesFilled copies info info.pages) first es → From (PagesRestored copies info) first (Sync (Space z) ∷ es)
  pages_sync first es r = at_each (λ s g. fill_sync (Space z) (pages info.pages) (w s) s info.pages es g) r

  pub pages_then : (first : Past) (es : List Event) → From (PagesRestored copies info) first es → From (PagesFilling copies info) first es
  pages_then first es r = at_each (λ s g. g.filled.filling) r

-- ---- the pages that aren't come to yet, whatever is pending

module _ (info : SpaceInfo) where
  pub stays_begin : (first : Past) → At (HasSpaceFile info) first → At (From (PagesStay info 0) first) first
  stays_begin first has = at_start (λ s h. record { file = h; rest = λ i le. refl }) has

  one_less : (k : ℕ) (s m : List Event) → PagesStay info k s m → PagesStay info (k + 1) s m
  one_less k s m p = record { file = p.file; rest = λ i le. p.rest i (omega (arith, le)) }

  -- a page that isn't written
  pub stays_unwritten : (k : ℕ) (first : Past) {old new : Past} → new ≡ old → At (From (PagesStay info k) first) old → At (From (PagesStay info (k + 1)) first) new
  stays_unwritten k first same at = moved same (at_each (λ es r. at_each (λ s p. one_less k s es p) r) at)

  -- and one that is
  pub stays_written : (k : ℕ) → k < info.pages → (first : Past) (bytes : List ℕ) → length bytes ≡ 16384 → (at : ℕ) → at ≡ k * 16384 → {old mid new : Past} → mid ≡ old → new ≡ grow (Write (Space info.space) at bytes bytes) mid
      → At (From (PagesStay info k) first) old → At (From (PagesStay info (k + 1)) first) new
  stays_written k below first bytes long at at_is {mid = mid} same more known =
      moved (more ∙ ap (λ (p : ℕ). grow (Write (Space info.space) p bytes bytes) mid) at_is) (at_grow (Write (Space info.space) (k * 16384) bytes bytes) (λ es r. at_each (λ s p. written s es p) r) (moved same known))
    where
      written : (s es : List Event) → PagesStay info k s es → PagesStay info (k + 1) s (Write (Space info.space) (k * 16384) bytes bytes ∷ es)
      written s es p = record {
        file = file_write (Space info.space) (Space info.space) (pages info.pages) (k * 16384) bytes bytes es (omega (arith, long, place_ends (pages info.pages) k below)) p.file;
        rest = λ i le. file_shown_other (Space info.space) (pages info.pages) k bytes bytes es p.file below long i (λ e. omega (arith, e, le)) ∙ p.rest i (omega (arith, le));
      }
