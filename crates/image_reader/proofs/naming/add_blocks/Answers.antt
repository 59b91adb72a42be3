use Rattle.std.proofs.Common.{◌≡◌, ◌≤◌, ◌<◌, ℕ, List, ◌∙◌, ap, subst, sym, arith}
use Rattle.redo_text.specs.Reading.{block_version}
use Rattle.store_files.specs.Run.{block_at}
use Rattle.image_reader.specs.Naming.{AddsNames, Below, IsBlockName}
use Rattle.image_reader.proofs.Additions.{adds_as, adds_next, adds_nothing}
use Rattle.image_reader.proofs.naming.add_blocks.Goals as goal

pub loop-number-init : goal.loop-number-init
loop-number-init c = adds_nothing _ _ (λ x p. let lt = p.1 in let le = p.2.0 in omega (arith, lt, le))

pub loop-number-preserved : goal.loop-number-preserved
loop-number-preserved c =
    let version = c.be32_at.ensures ∙ ap block_version c.block_at.ensures.bytes in
    let from = c.loop-number.auto.number in
    adds_next (IsBlockName c.args.blocks c.args.log.now c.args.from) c.loop-number.number _ _ _ c.loop-number.invariant
    (adds_as (λ x. x ≡ (1, c.be32_at.result)) (IsBlockName c.args.blocks c.args.log.now c.args.from c.loop-number.number) _ _ (λ x e. (from, e ∙ ap (λ (n : ℕ). (1, n)) version)) (λ x p. p.1 ∙ ap (λ (n : ℕ). (1, n)) (sym version)) c.in_ok-add.ensures)

pub returns : goal.returns
returns c = let e : c.loop-number.number ≡ c.args.end = omega arith in subst (λ (n : ℕ). AddsNames (Below (IsBlockName c.args.blocks c.args.log.now c.args.from) n) c.args.names.now.items c.loop-number.names.items) e c.loop-number.invariant
