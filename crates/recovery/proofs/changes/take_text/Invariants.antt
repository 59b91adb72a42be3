use Rattle.std.proofs.Common.{◌≡◌, length, map}
use Rattle.store_form.specs.Said.{space_said}
use Rattle.recovery.specs.Changes.{FitLast}
use Rattle.recovery.specs.Heads.{AreInfosFor}
use Rattle.recovery.proofs.NotedChanges.{TakesUpTo}
use Rattle.recovery.proofs.changes.take_text.Given as goal

abbrev pub invariant-reading : goal.invariant-reading
invariant-reading l = record {
  upto : TakesUpTo (map space_said l.spaces) l.notes l.lsn l.text l.reader.rest l.at l.fn.changes l.changes;
  place : l.reader.at ≡ l.at;
  last : FitLast (map space_said l.spaces) l.changes.last;
  infos : AreInfosFor (map space_said l.spaces) l.changes.spaces;
}

abbrev pub decreases-reading : goal.decreases-reading
decreases-reading l = length l.reader.rest
