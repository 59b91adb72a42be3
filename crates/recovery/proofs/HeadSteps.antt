-- Page 0 of a space: its fields, and the text that it is read from.
use Rattle.std.proofs.Common.{◌≡◌, ◌≢◌, ℕ, ◌+◌, ◌≤◌, Bool, true, false, true≢false, MatchBool, List, [], ◌∷◌, length, Option, Some, None, refl, sym, ap, subst, ◌∙◌, inl, inr, arith, Result, Ok, Err}
use Rattle.std.specs.Prelude.{IfOk, IfErr, OnOk, IfSome}
use Rattle.disk_model.specs.Event.{Event}
use Rattle.disk_model.specs.Past.{Past, At}
use Rattle.disk_model.specs.declared.names.FileName.TheVariants.{Space}
use Rattle.disk_model.proofs.Moments.{at_each}
use Rattle.doublewrite.specs.Copies.{copies_to}
use Rattle.doublewrite.specs.Restore.{newest}
use Rattle.doublewrite.specs.Refuse.{IsDiskRefuse}
use Rattle.doublewrite.specs.declared.listing.Copied.{Copied}
use Rattle.doublewrite.specs.declared.refuse.OpenRefuse.{OpenRefuse}
use Rattle.doublewrite.specs.declared.refuse.OpenRefuse.TheVariants.{NotFormatted, Mixed, Damaged, MissingKey, BadRecord, VersionBelowFloor, Spent, DiskFault, OutOfMemory}
use Rattle.page_places.specs.Texts.{page_bytes, held, is_page_text, text_in}
use Rattle.page_places.proofs.Texts.{held-text, held_is, text_in-is}
use Rattle.places.specs.Places.{shown}
use Rattle.space_head.specs.declared.space.SpaceInfo.{SpaceInfo}
use Rattle.store_image.specs.View.{Text, Holds, IsChosen, Home, Copy, Unused}
use Rattle.store_files.specs.Header.{HeldSpace}
use Rattle.recovery.specs.Heads.{AreRight, IsInfoFor, HasWrongHead, IsByHead, IsHeadInfo, IsFieldRefusal, IsRight, found_in, head_fields, info_in}
use Rattle.recovery.specs.Notes.{IsNoteOf, IsSourceOf, disk_view}
use Rattle.recovery.specs.Walks.{AllHave, FirstHas}
use Rattle.recovery.specs.declared.heads.HeadField.{HeadField}
use Rattle.recovery.specs.declared.notes.PageNote.{PageNote}
use Rattle.recovery.specs.declared.notes.NoteSource.{NoteSource}
use Rattle.recovery.specs.declared.notes.NoteSource.TheVariants as source
use Rattle.recovery.proofs.NoteSteps.{copy_read, no_copy_read}

-- ---- fields

pub right_most : (f : HeadField) (text : List ℕ) → f.is_most ≡ true → found_in f text ≤ f.wanted → IsRight f text
right_most f text most le = subst (λ (b : Bool). MatchBool b (found_in f text ≤ f.wanted) (found_in f text ≡ f.wanted)) (sym most) le

pub right_exact : (f : HeadField) (text : List ℕ) → f.is_most ≡ false → found_in f text ≡ f.wanted → IsRight f text
right_exact f text exact is = subst (λ (b : Bool). MatchBool b (found_in f text ≤ f.wanted) (found_in f text ≡ f.wanted)) (sym exact) is

pub most_right : (f : HeadField) (text : List ℕ) → f.is_most ≡ true → IsRight f text → found_in f text ≤ f.wanted
most_right f text most right = subst (λ (b : Bool). MatchBool b (found_in f text ≤ f.wanted) (found_in f text ≡ f.wanted)) most right

pub exact_right : (f : HeadField) (text : List ℕ) → f.is_most ≡ false → IsRight f text → found_in f text ≡ f.wanted
exact_right f text exact right = subst (λ (b : Bool). MatchBool b (found_in f text ≤ f.wanted) (found_in f text ≡ f.wanted)) exact right

abbrev pub IsWithin : List ℕ → HeadField → Type 0
IsWithin text field = field.at + 6 ≤ length text

-- each field stands in the page
pub all_within : (h : HeldSpace) (text : List ℕ) → length text ≡ page_bytes → AllHave (IsWithin text) (head_fields h)
all_within h text long = (omega (arith, long), (omega (arith, long), (omega (arith, long), (omega (arith, long), (omega (arith, long), (omega (arith, long), (omega (arith, long), (omega (arith, long), (omega (arith, long), (omega (arith, long), tt))))))))))

-- ---- the text that page 0 is read from

module _ (es : List Event) (s : ℕ) (note : PageNote) (is : IsNoteOf s 0 note es) where
  abbrev ReadsAs : List ℕ → Type 0
  ReadsAs text = (t : Text) × IsChosen (disk_view es) s 0 (Some t) × (text ≡ t.bytes)

  pub home_read : (version : ℕ) (text : List ℕ) → source.Home version ≡ note.source → text ≡ shown (Space s) page_bytes 0 es → ReadsAs text
  home_read version text same bytes =
      let (t, there, chosen, lsn, named) = subst (IsSourceOf es s 0 note.lsn) (sym same) is.source in
      let valid = held_is 0 (shown (Space s) page_bytes 0 es) t there in
      (t, chosen, bytes ∙ ap (λ (u : Text). u.bytes) (sym (text_in-is (shown (Space s) page_bytes 0 es)) ∙ valid.1))

  pub copy_text : (version : ℕ) (copies : List Copied) (text : List ℕ) → source.Copy version ≡ note.source → copies ≡ copies_to 64 es → IfSome (newest copies s 0) (λ c. text ≡ c.text) → ReadsAs text
  copy_text version copies text same listed copied = by (newest copies s 0) refl copied
    where
      of : IsSourceOf es s 0 note.lsn (source.Copy version)
      of = subst (IsSourceOf es s 0 note.lsn) (sym same) is.source

      by : (o : Option Copied) → newest copies s 0 ≡ o → IfSome o (λ c. text ≡ c.text) → ReadsAs text
      by (Some c) found bytes = let (t, chosen, b) = copy_read es s 0 of.1 copies c listed found in (t, chosen, bytes ∙ b)
      by None found bytes = absurd (no_copy_read es s 0 of.1 copies listed found of.0 of.2)

  pub other_read : (copies : List Copied) (text : List ℕ) → ((version : ℕ) → note.source ≢ source.Home version) → copies ≡ copies_to 64 es → IfSome (newest copies s 0) (λ c. text ≡ c.text) → ReadsAs text
  other_read copies text no_home listed copied = by note.source refl
    where
      by : (x : NoteSource) → note.source ≡ x → ReadsAs text
      by (source.Home version) same = absurd (no_home version same)
      by (source.Copy version) same = copy_text version copies text (sym same) listed copied
      by source.Unused same = absurd (is.head refl same)

-- ---- what is answered

module _ (h : HeldSpace) (text : List ℕ) (past : Past) (read : At (λ es. (t : Text) × IsChosen (disk_view es) h.space 0 (Some t) × (text ≡ t.bytes)) past) where
  pub head_info : (r : Result SpaceInfo OpenRefuse) → IfOk r (λ info. info ≡ info_in h text) → OnOk r (AreRight (head_fields h) text) → IfOk r (λ info. At (IsHeadInfo h info) past)
  head_info (Ok info) said right = at_each (λ es (t, chosen, bytes). record { text = t; chosen = chosen; right = subst (AreRight (head_fields h)) bytes right; info_is = said ∙ ap (info_in h) bytes }) read
  head_info (Err why) said right = tt

  by : (why : OpenRefuse) → IsFieldRefusal h text why → IsByHead (HasWrongHead h) past why
  by (Mixed file at wanted found) is = at_each (λ es (t, chosen, bytes). record { text = t; chosen = chosen; wrong = subst (λ (x : List ℕ). IsFieldRefusal h x (Mixed file at wanted found)) bytes is }) read
  by (Damaged file at stored computed) is = absurd is
  by NotFormatted is = absurd is
  by (MissingKey id version) is = absurd is
  by (BadRecord number at) is = absurd is
  by (VersionBelowFloor space floor version) is = absurd is
  by (Spent last) is = absurd is
  by DiskFault is = absurd is
  by OutOfMemory is = absurd is

  pub head_refused : (r : Result SpaceInfo OpenRefuse) → IfErr r (IsFieldRefusal h text) → IfErr r (IsByHead (HasWrongHead h) past)
  head_refused (Ok info) is = tt
  head_refused (Err why) is = by why is

pub head_fits : (h : HeldSpace) (text : List ℕ) (r : Result SpaceInfo OpenRefuse) → IfOk r (λ info. info ≡ info_in h text) → IfOk r (λ info. IsInfoFor h info)
head_fits h text (Ok info) said = record { space = ap (λ (i : SpaceInfo). i.space) said; pages = ap (λ (i : SpaceInfo). i.pages) said; key_id = ap (λ (i : SpaceInfo). i.key_id) said }
head_fits h text (Err why) said = tt

pub by_head_disk : (P : OpenRefuse → List Event → Type 0) (past : Past) (why : OpenRefuse) → IsDiskRefuse why → IsByHead P past why
by_head_disk P past DiskFault is = tt
by_head_disk P past OutOfMemory is = tt
by_head_disk P past (Mixed file at wanted found) is = absurd is
by_head_disk P past (Damaged file at stored computed) is = absurd is
by_head_disk P past NotFormatted is = absurd is
by_head_disk P past (MissingKey id version) is = absurd is
by_head_disk P past (BadRecord number at) is = absurd is
by_head_disk P past (VersionBelowFloor space floor version) is = absurd is
by_head_disk P past (Spent last) is = absurd is

pub by_head_more : (P Q : OpenRefuse → List Event → Type 0) (past now : Past) (why : OpenRefuse) → ((e : OpenRefuse) → At (P e) past → At (Q e) now) → IsByHead P past why → IsByHead Q now why
by_head_more P Q past now (Mixed file at wanted found) more is = more (Mixed file at wanted found) is
by_head_more P Q past now DiskFault more is = tt
by_head_more P Q past now OutOfMemory more is = tt
by_head_more P Q past now (Damaged file at stored computed) more is = absurd is
by_head_more P Q past now NotFormatted more is = absurd is
by_head_more P Q past now (MissingKey id version) more is = absurd is
by_head_more P Q past now (BadRecord number at) more is = absurd is
by_head_more P Q past now (VersionBelowFloor space floor version) more is = absurd is
by_head_more P Q past now (Spent last) more is = absurd is
