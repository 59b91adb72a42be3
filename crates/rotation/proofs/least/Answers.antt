use Rattle.std.proofs.Common.{◌≡◌, ◌≤◌, ◌<◌, inl, inr, ℕ, List, length, Option, Some, None, arith}
use Rattle.std.specs.Prelude.{MatchOption}
use Rattle.std.proofs.lemmas.Bool.{cases_lt}
use Rattle.std.proofs.lemmas.List.{get_or_past}
use Rattle.space_head.specs.declared.space.Home.{Home}
use Rattle.space_head.specs.declared.space.Home.TheVariants.{Unused, Clean}
use Rattle.rotation.specs.Rotation.{IsLeastBelow, NoneCleanBelow, home_at}
use Rattle.rotation.proofs.least.Goals as goal

-- a clean page stands within the list
clean_within : (homes : List Home) (page version : ℕ) → home_at homes page ≡ Clean version → page < length homes
clean_within homes page version is = elim (cases_lt page (length homes)) [ inl within ↦ within | inr past ↦ absurd (let none : home_at homes page ≡ Unused = get_or_past homes page Unused past in cc) ]

-- what holds below a place past the end holds of all
at_end : (homes : List Home) (page : ℕ) (least : Option ℕ) → length homes ≤ page → MatchOption least (NoneCleanBelow homes page) (IsLeastBelow homes page)
    → MatchOption least (NoneCleanBelow homes (length homes)) (IsLeastBelow homes (length homes))
at_end homes page None past none = λ p version from within. none p version from (omega arith)
at_end homes page (Some version) past found = record {
  page = found.page;
  from = found.from;
  within = clean_within homes found.page version found.is;
  is = found.is;
  least = λ p other from within is. found.least p other from (omega arith) is;
}

pub returns : goal.returns
returns c = at_end c.args.homes.now c.loop-page.page c.loop-page.least c.loop-page-test.false c.loop-page.invariant
