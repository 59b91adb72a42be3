use Rattle.std.proofs.Common.{◌<◌, length}
use Rattle.script_core.proofs.ChangeLemmas.{GivesChanges, GivesFault}
use Rattle.script_core.proofs.changes.read_changes.Given as goal

abbrev pub invariant-loop-changes : goal.invariant-loop-changes
invariant-loop-changes l = record {
  room : length l.changes.items < 64;
  whole : GivesChanges l.changes.items l.words l.fn.words;
  fault : GivesFault (length l.changes.items) l.words l.fn.words;
}

abbrev pub decreases-loop-changes : goal.decreases-loop-changes
decreases-loop-changes l = length l.words
