-- A round of pages is applied, and why it may be refused.
use Rattle.std.proofs.Common.{◌≡◌, ℕ, ◌≤◌, ◌<◌, Bool, true, List, Option, Some, Err, subst, sym, ◌∙◌, arith}
use Rattle.std.specs.Prelude.{IsErrOf, Result}
use Rattle.std.proofs.lemmas.Option.{same_Some}
use Rattle.disk_model.specs.Does.{Does}
use Rattle.disk_model.specs.Event.{Event}
use Rattle.disk_model.specs.Past.{Past, At}
use Rattle.disk_model.proofs.Moments.{at_each}
use Rattle.doublewrite.specs.declared.refuse.OpenRefuse.{OpenRefuse}
use Rattle.doublewrite.specs.declared.refuse.OpenRefuse.TheVariants.{NotFormatted, Mixed, Damaged, MissingKey, BadRecord, VersionBelowFloor, Spent, DiskFault, OutOfMemory}
use Rattle.places.specs.Batches.{From}
use Rattle.crash_image.specs.Opened.{StoreOpened}
use Rattle.recovery.specs.Applying.{IsRunRefusal}
use Rattle.recovery.specs.Due.{IsByPage, IsRoundDue}
use Rattle.recovery.specs.Loading.{IsHomeFaultKind}

pub by_page_run : (P : OpenRefuse → List Event → Type 0) (past : Past) (why : OpenRefuse) → IsRunRefusal past why → IsByPage P past why
by_page_run P past DiskFault is = tt
by_page_run P past OutOfMemory is = tt
by_page_run P past (BadRecord n at) is = at_each (λ es none. absurd none) is
by_page_run P past (Damaged file at stored computed) is = at_each (λ es none. absurd none) is
by_page_run P past (MissingKey id version) is = at_each (λ es none. absurd none) is
by_page_run P past NotFormatted is = absurd is
by_page_run P past (Mixed file at wanted found) is = absurd is
by_page_run P past (VersionBelowFloor space floor version) is = absurd is
by_page_run P past (Spent n) is = absurd is

pub by_page_fault : (P : OpenRefuse → List Event → Type 0) (past : Past) (why : OpenRefuse) → At (P why) past → IsByPage P past why
by_page_fault P past DiskFault is = tt
by_page_fault P past OutOfMemory is = tt
by_page_fault P past (BadRecord n at) is = is
by_page_fault P past (Damaged file at stored computed) is = is
by_page_fault P past (MissingKey id version) is = is
by_page_fault P past NotFormatted is = is
by_page_fault P past (Mixed file at wanted found) is = is
by_page_fault P past (VersionBelowFloor space floor version) is = is
by_page_fault P past (Spent n) is = is

-- a page's fault isn't one of the disk
pub no_disk_fault : {T : Type 0} (why : OpenRefuse) → IsHomeFaultKind why → IsErrOf {T = T} (Err why) DiskFault → ⊥
no_disk_fault why kind is = let same : why ≡ DiskFault = cc in subst IsHomeFaultKind same kind

pub at_moment : {P : List Event → Type 0} {past : Past} (b : List Event) → past ≡ Some b → P b → At P past
at_moment {P = P} b now p = record { here = λ m is. subst P (same_Some b m (sym now ∙ is)) p }

pub part_round : (o : StoreOpened) (number : ℕ) (entry : List Event) (has : ℕ → Bool) (s from end part : ℕ) (m : List Event) → part ≤ end → IsRoundDue o number entry has s from end m → IsRoundDue o number entry has s from part m
part_round o number entry has s from end part m le due = record { opened = due.opened; between = due.between; chosen = λ p low high later. due.chosen p low (omega (arith, high, le)) later }

-- a call is told from a moment that its disk's past doesn't tell apart from this one
pub does_at : {T X : Type 0} (R : List Event → List Event → Type 0) (P : List Event → Type 0) (E : Event → Type 0) (old mid new : Past) (result : Result T X) → mid ≡ old → Does P E (From R mid) mid new result → Does P E (From R old) old new result
does_at {T} {X} R P E old mid new result same does = subst (λ (h : Past). Does {T = T} {X = X} P E (From R h) h new result) same does

-- and by another word for the end of its range
pub does_to : {T X : Type 0} (R : ℕ → List Event → List Event → Type 0) (P : List Event → Type 0) (E : Event → Type 0) (old new : Past) (result : Result T X) (a b : ℕ) → a ≡ b → Does P E (From (R a) old) old new result → Does P E (From (R b) old) old new result
does_to {T} {X} R P E old new result a b same does = subst (λ (q : ℕ). Does {T = T} {X = X} P E (From (R q) old) old new result) same does
