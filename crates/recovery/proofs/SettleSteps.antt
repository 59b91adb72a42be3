-- Homes are restored, and then the spaces are applied.
use Rattle.std.proofs.Common.{◌≡◌, inr, ℕ, ◌+◌, ◌++◌, true, List, Some, sym, ap, subst, ◌∙◌, arith}
use Rattle.disk_model.specs.Event.{Event}
use Rattle.disk_model.specs.Past.{Past, At}
use Rattle.doublewrite.specs.Events.{restore_events}
use Rattle.doublewrite.specs.Restore.{IsRestoreEvent}
use Rattle.doublewrite.specs.declared.refuse.OpenRefuse.{OpenRefuse}
use Rattle.doublewrite.specs.declared.refuse.OpenRefuse.TheVariants.{NotFormatted, Mixed, Damaged, MissingKey, BadRecord, VersionBelowFloor, Spent, DiskFault, OutOfMemory}
use Rattle.key_ring.specs.Ring.{RingEntry}
use Rattle.space_head.specs.declared.space.SpaceInfo.{SpaceInfo}
use Rattle.store_files.specs.Header.{HeldHeader}
use Rattle.store_files.specs.Pages.{has_page}
use Rattle.store_files.specs.Run.{AreLogEntries}
use Rattle.store_form.specs.Said.{header_said}
use Rattle.crash_image.specs.Opened.{StoreOpened}
use Rattle.recovery.specs.Applying.{SaysRun}
use Rattle.recovery.specs.Due.{IsByPage, IsOpenedWith}
use Rattle.recovery.specs.Looking.{FitsTogether}
use Rattle.recovery.specs.Restoring.{AreAllListed}
use Rattle.recovery.specs.Spaces.{IsSpacesEvent}
use Rattle.recovery.specs.declared.looking.Analysis.{Analysis}
use Rattle.recovery.proofs.PlaceSteps.{place_found}
use Rattle.recovery.proofs.RestoredFiles.{log_restored}
use Rattle.recovery.proofs.SpacesFound.{for_space, long}

-- each page of the store is one of a space that was found
pub spaces_listed : (active : ℕ) (found : Analysis) → FitsTogether active found → (o : StoreOpened) (keys : List RingEntry) → IsOpenedWith o (header_said found.header) keys found.checkpoint.from (found.run.last + 1) → AreAllListed o.header.spaces found.changes.spaces
spaces_listed active found fits o keys own s p here =
    let of_header : has_page (header_said found.header).spaces s p ≡ true = ap (λ (h : HeldHeader). has_page h.spaces s p) (sym own.header_is) ∙ here in
    let (i, at) = place_found (header_said found.header).spaces s p of_header in
    let size = long active found fits in
    let below = at.below in
    let named = for_space active found fits i below in
    let high = at.page in
    let same = named.pages in
    (i, omega (arith, below, size), named.space ∙ at.space, omega (arith, high, same))

pub restore_event : (a b : List SpaceInfo) → a ≡ b → (e : Event) → IsRestoreEvent a e → IsSpacesEvent b e
restore_event a b same e kind = inr (subst (λ (l : List SpaceInfo). IsRestoreEvent l e) same kind)

-- the log says what it said
pub says_restored : (header : HeldHeader) (keys : List RingEntry) (first stop : ℕ) (spaces : List SpaceInfo) (s : List Event) → SaysRun header keys first stop s → SaysRun header keys first stop (restore_events spaces s ++ s)
says_restored header keys first stop spaces s (run, entries) = (run, subst (λ (file : List ℕ). AreLogEntries header keys file first run stop) (sym (log_restored spaces s)) entries)

-- a refusal told by the moment behind restoring is told by the one before it
module _ (P : OpenRefuse → List Event → Type 0) (news : List Event → List Event) (old mid : Past) (exact : At (λ s. mid ≡ Some (news s ++ s)) old) where
  told_before : (why : OpenRefuse) → At (P why) mid → At (λ s. P why (news s ++ s)) old
  told_before why is = record { here = λ s begun. is.here (news s ++ s) (exact.here s begun) }

  pub by_restored : (why : OpenRefuse) → IsByPage P mid why → IsByPage (λ w s. P w (news s ++ s)) old why
  by_restored DiskFault is = tt
  by_restored OutOfMemory is = tt
  by_restored (BadRecord n place) is = told_before (BadRecord n place) is
  by_restored (Damaged file place stored computed) is = told_before (Damaged file place stored computed) is
  by_restored (MissingKey id version) is = told_before (MissingKey id version) is
  by_restored NotFormatted is = told_before NotFormatted is
  by_restored (Mixed file place wanted found) is = told_before (Mixed file place wanted found) is
  by_restored (VersionBelowFloor space floor version) is = told_before (VersionBelowFloor space floor version) is
  by_restored (Spent n) is = told_before (Spent n) is
