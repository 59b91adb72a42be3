use Rattle.std.proofs.Common.{◌≡◌, ℕ, List, subst, arith}
use Rattle.image_reader.specs.Naming.{AddsNames, Below, IsPageName, IsPageNameIn}
use Rattle.image_reader.proofs.Additions.{adds_none, adds_next}
use Rattle.image_reader.proofs.naming.add_pages.Goals as goal

pub loop-page-init : goal.loop-page-init
loop-page-init c = adds_none _ _

pub loop-page-preserved : goal.loop-page-preserved
loop-page-preserved c =
    adds_next (IsPageNameIn c.args.bytes.now c.args.double.now c.args.space c.args.id) c.loop-page.page _ _ _ c.loop-page.invariant
    (subst (λ (home : List ℕ). AddsNames (IsPageName home c.args.double.now c.args.space c.loop-page.page c.args.id) c.loop-page.names.items c.add_page.new.names.items) c.place-home.ensures.bytes c.in_ok-add_page.ensures)

pub returns : goal.returns
returns c = let e : c.loop-page.page ≡ c.args.pages = omega arith in subst (λ (n : ℕ). AddsNames (Below (IsPageNameIn c.args.bytes.now c.args.double.now c.args.space c.args.id) n) c.args.names.now.items c.loop-page.names.items) e c.loop-page.invariant
