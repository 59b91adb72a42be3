use Rattle.std.proofs.Common.{◌≡◌, take}
use Rattle.keyd_words.specs.Drafts.{number_among}
use Rattle.keyd_words.proofs.draft.Draft.number_of.Given as goal

abbrev pub invariant-loop-set : goal.invariant-loop-set
invariant-loop-set l = l.found ≡ number_among l.name (take l.set-index l.set-items)
