use Rattle.std.proofs.Common.{◌≡◌, ℕ, ◌<◌, ◌≤◌, List, sym, subst, refl, arith, ⊎_elim}
use Rattle.std.proofs.lemmas.Bool.{cases_lt}
use Rattle.places.specs.Places.{place}
use Rattle.page_places.specs.Placed.{IsPlaced}
use Rattle.page_places.specs.Texts.{page_bytes}
use Rattle.image_reader.proofs.checks.check_space_homes.Goals as goal

pub returns-then-not-is_placed-clause-fault : goal.returns-then-not-is_placed-clause-fault
returns-then-not-is_placed-clause-fault c = record {
  page = c.loop-page.page;
  within = c.loop-page-test.true;
  before = c.loop-page.invariant;
  other = λ is. c.is_placed.ensures.no c.if-not-is_placed.true (subst (λ (b : List ℕ). IsPlaced c.loop-page.page b) (sym c.place.ensures.bytes) is);
  is = refl;
}

pub loop-page-preserved : goal.loop-page-preserved
loop-page-preserved c = λ p lt.
    let here : IsPlaced c.loop-page.page (place page_bytes c.loop-page.page c.args.bytes.now) = subst (λ (b : List ℕ). IsPlaced c.loop-page.page b) c.place.ensures.bytes (c.is_placed.ensures.yes c.if-not-is_placed.false) in
    ⊎_elim (λ (l : p < c.loop-page.page). c.loop-page.invariant p l)
    (λ (ge : c.loop-page.page ≤ p). let e : c.loop-page.page ≡ p = omega (arith, lt, ge) in subst (λ (n : ℕ). IsPlaced n (place page_bytes n c.args.bytes.now)) e here) (cases_lt p c.loop-page.page)

pub returns-clause-ok : goal.returns-clause-ok
returns-clause-ok c = λ p lt. c.loop-page.invariant p (omega (arith, lt))
