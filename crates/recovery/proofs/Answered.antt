-- A refusal is handed on, by cases on what it is.
use Rattle.std.proofs.Common.{List, Result, Ok, Err}
use Rattle.std.specs.Prelude.{IfErr}
use Rattle.disk_model.specs.Event.{Event}
use Rattle.disk_model.specs.Past.{Past, At}
use Rattle.disk_model.proofs.Moments.{at_both}
use Rattle.doublewrite.specs.Refuse.{IsDiskRefuse}
use Rattle.doublewrite.specs.declared.refuse.OpenRefuse.{OpenRefuse}
use Rattle.doublewrite.specs.declared.refuse.OpenRefuse.TheVariants.{NotFormatted, Mixed, Damaged, MissingKey, BadRecord, VersionBelowFloor, Spent, DiskFault, OutOfMemory}
use Rattle.recovery.specs.Notes.{IsByHome, IsHomeKind}

pub err_more : {T E : Type 0} (P Q : E → Type 0) (r : Result T E) → IfErr r P → ((e : E) → P e → Q e) → IfErr r Q
err_more P Q (Ok x) is more = tt
err_more P Q (Err e) is more = more e is

pub by_home : (P : OpenRefuse → List Event → Type 0) (past : Past) (why : OpenRefuse) → IsHomeKind why → At (P why) past → IsByHome P past why
by_home P past (Mixed file at wanted found) kind is = is
by_home P past (Damaged file at stored computed) kind is = is
by_home P past NotFormatted kind is = absurd kind
by_home P past (MissingKey id version) kind is = absurd kind
by_home P past (BadRecord number at) kind is = absurd kind
by_home P past (VersionBelowFloor space floor version) kind is = absurd kind
by_home P past (Spent last) kind is = absurd kind
by_home P past DiskFault kind is = absurd kind
by_home P past OutOfMemory kind is = absurd kind

pub by_disk : (P : OpenRefuse → List Event → Type 0) (past : Past) (why : OpenRefuse) → IsDiskRefuse why → IsByHome P past why
by_disk P past DiskFault is = tt
by_disk P past OutOfMemory is = tt
by_disk P past (Mixed file at wanted found) is = absurd is
by_disk P past (Damaged file at stored computed) is = absurd is
by_disk P past NotFormatted is = absurd is
by_disk P past (MissingKey id version) is = absurd is
by_disk P past (BadRecord number at) is = absurd is
by_disk P past (VersionBelowFloor space floor version) is = absurd is
by_disk P past (Spent last) is = absurd is

pub home_more : (P Q : OpenRefuse → List Event → Type 0) (past now : Past) (why : OpenRefuse) → IsByHome P past why → At (λ es. (e : OpenRefuse) → P e es → Q e es) now → (At (P why) past → At (P why) now) → IsByHome Q now why
home_more P Q past now (Mixed file at wanted found) is more moved = at_both (λ es m p. m (Mixed file at wanted found) p) more (moved is)
home_more P Q past now (Damaged file at stored computed) is more moved = at_both (λ es m p. m (Damaged file at stored computed) p) more (moved is)
home_more P Q past now DiskFault is more moved = tt
home_more P Q past now OutOfMemory is more moved = tt
home_more P Q past now NotFormatted is more moved = absurd is
home_more P Q past now (MissingKey id version) is more moved = absurd is
home_more P Q past now (BadRecord number at) is more moved = absurd is
home_more P Q past now (VersionBelowFloor space floor version) is more moved = absurd is
home_more P Q past now (Spent last) is more moved = absurd is
