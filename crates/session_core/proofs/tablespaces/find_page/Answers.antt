use Rattle.std.proofs.Common.{sym, ◌∙◌}
use Rattle.session_core.proofs.SpaceLaws.{page_found, page_inside, page_missing, page_past, page_zero}
use Rattle.session_core.proofs.tablespaces.find_page.Goals as goal
use Rattle.session_core.proofs.tablespaces.find_page.Goals.{then-page-eq0-via-then-page-eq0, then-page-eq0-via-else-page-eq0+then-info-page}

pub returns-in_default-clause-none : goal.returns-in_default-clause-none
returns-in_default-clause-none c = page_missing c.args.spaces.now c.args.space c.args.page (sym c.find_space.ensures ∙ c.in_default.is)

pub returns-then-page-eq0-clause-none : goal.returns-then-page-eq0-clause-none
returns-then-page-eq0-clause-none c =
    let found = page_found c.args.spaces.now c.args.space c.args.page c.in-Some.info (sym c.find_space.ensures ∙ c.in-Some.is) in
    elim c.then-page-eq0.branch [
      | then-page-eq0-via-then-page-eq0 w ↦ found ∙ page_zero c.args.page c.in-Some.info.pages w.if-page-eq0.true
      | then-page-eq0-via-else-page-eq0+then-info-page w ↦ found ∙ page_past c.args.page c.in-Some.info.pages w.if-info-page.true
    ]

pub returns-clause-page : goal.returns-clause-page
returns-clause-page c =
    page_found c.args.spaces.now c.args.space c.args.page c.in-Some.info (sym c.find_space.ensures ∙ c.in-Some.is)
    ∙ page_inside c.args.page c.in-Some.info.pages c.if-page-eq0.false c.if-info-page.false
