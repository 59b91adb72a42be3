use Rattle.std.proofs.Common.{◌≡◌, ◌∙◌, ℕ, Option, Some, sym, ap, subst}
use Rattle.std.specs.Prelude.{IfOk}
use Rattle.page_places.specs.Texts.{page_bytes}
use Rattle.page_pool.specs.Pages.{held_page, plain_page}
use Rattle.page_text.specs.Text.{FitsPage, IsText, Plain}
use Rattle.store_model.specs.Fold.{used}
use Rattle.store_model.specs.declared.contents.PlainPage.{PlainPage}
use Rattle.recovery.specs.Loading.{name_in}
use Rattle.recovery.specs.Sealing.{plain_text}
use Rattle.recovery.proofs.HomeTexts.{kind_at, plain_same}
use Rattle.recovery.proofs.sealing.seal_held.Goals as goal

pub seal_bytes-requires-clause-fits : goal.seal_bytes-requires-clause-fits
seal_bytes-requires-clause-fits c =
    let plan = c.args.plan.now in
    let held : Some (plain_page c.in-Some.plain.now) ≡ held_page (name_in c.args.plan.now.space c.args.plan.now.page) c.args.pool.now = c.in-Some.ensures.page in
    subst (λ (k : ℕ). FitsPage plan.page k plan.version) (ap (λ (o : Option PlainPage). (used o).kind) (sym held) ∙ kind_at c.in-Some.plain.now) c.requires.fits

pub returns-clause-text : goal.returns-clause-text
returns-clause-text c =
    let plan = c.args.plan.now in
    let held : Some (plain_page c.in-Some.plain.now) ≡ held_page (name_in c.args.plan.now.space c.args.plan.now.page) c.args.pool.now = c.in-Some.ensures.page in
    let same = plain_same c.in-Some.plain.now c.in-Some.ensures.whole ∙ ap (λ (o : Option PlainPage). plain_text (used o)) held in
    subst (λ (x : Plain). IfOk c.seal_bytes.result (λ text. IsText page_bytes plan.space plan.page plan.lsn plan.version plan.local x text)) same c.seal_bytes.ensures
