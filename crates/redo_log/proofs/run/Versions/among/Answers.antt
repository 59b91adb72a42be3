use Rattle.std.proofs.lemmas.List.Filters.{dedup_is}
use Rattle.std.proofs.lemmas.List.Kept.{Contains-dedup_nat, Contains-from_dedup}
use Rattle.std.proofs.lemmas.List.Sorted.{Contains-permutation, IsPermutation-sym}
use Rattle.std.proofs.lemmas.Map.Keys.{IsStrictlyIncreasing-dedup}
use Rattle.redo_log.proofs.run.Versions.among.Goals as goal

pub invariant_of-result : goal.invariant_of-result
invariant_of-result c = let is = dedup_is _ _ _ c.dedup.ensures.filtered in rw is (IsStrictlyIncreasing-dedup _ c.sort_unstable.ensures.sorted)

pub returns-clause-all : goal.returns-clause-all
returns-clause-all c = λ v h. let is = dedup_is _ _ _ c.dedup.ensures.filtered in rw is (Contains-dedup_nat _ v (Contains-permutation _ _ v c.sort_unstable.ensures.permutation h))

pub returns-clause-none : goal.returns-clause-none
returns-clause-none c = λ v h.
    let is = dedup_is _ _ _ c.dedup.ensures.filtered in
    Contains-permutation _ _ v (IsPermutation-sym _ _ c.sort_unstable.ensures.permutation) (Contains-from_dedup _ _ v (rw is at h))
