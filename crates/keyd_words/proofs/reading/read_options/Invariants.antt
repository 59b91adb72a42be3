use Rattle.std.proofs.Common.{◌≤◌, ◌-◌, map, length, string_bytes}
use Rattle.keyd_words.specs.Settings.{pages_of_spaces}
use Rattle.keyd_words.specs.Values.{pages_allowed}
use Rattle.keyd_words.proofs.ReadLemmas.{ReadsTo}
use Rattle.keyd_words.proofs.reading.read_options.Given as goal

abbrev pub invariant-loop-at : goal.invariant-loop-at
invariant-loop-at l = record { read : ReadsTo l.command (map string_bytes l.words) l.at l.draft; fit : pages_of_spaces l.draft.spaces ≤ pages_allowed; from : 1 ≤ l.at; to : l.at ≤ length l.words }

abbrev pub decreases-loop-at : goal.decreases-loop-at
decreases-loop-at l = length l.words - l.at
