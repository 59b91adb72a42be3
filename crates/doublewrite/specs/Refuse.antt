-- What a call that restores homes may be refused for.
use Rattle.doublewrite.specs.declared.refuse.OpenRefuse.{OpenRefuse}
use Rattle.doublewrite.specs.declared.refuse.OpenRefuse.TheVariants.{NotFormatted, Mixed, Damaged, MissingKey, BadRecord, VersionBelowFloor, Spent, DiskFault, OutOfMemory}

-- a fault of the disk, or want of memory, and no other refusal
abbrev pub IsDiskRefuse : OpenRefuse → Type 0
IsDiskRefuse DiskFault = Unit {0}
IsDiskRefuse OutOfMemory = Unit {0}
IsDiskRefuse NotFormatted = ⊥
IsDiskRefuse (Mixed file at wanted found) = ⊥
IsDiskRefuse (Damaged file at stored computed) = ⊥
IsDiskRefuse (MissingKey id version) = ⊥
IsDiskRefuse (BadRecord number at) = ⊥
IsDiskRefuse (VersionBelowFloor space floor version) = ⊥
IsDiskRefuse (Spent last) = ⊥
