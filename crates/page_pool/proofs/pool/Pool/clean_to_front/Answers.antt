use Rattle.std.proofs.Common.{◌≡◌, ◌||◌, if◌then◌else◌, Option, is_some, sym, ◌∙◌, ap, subst}
use Rattle.std.specs.Prelude.{slice_get}
use Rattle.std.specs.Map.{lookup}
use Rattle.store_model.specs.declared.contents.PlainPage.{PlainPage}
use Rattle.page_pool.specs.Pages.{AreClean, held_page, is_dirty, is_held, is_name, place_of}
use Rattle.page_pool.proofs.Cleans.{clean_promoted, lookup_promoted}
use Rattle.page_pool.proofs.pool.Pool.clean_to_front.Goals as goal

pub invariant_of-self : goal.invariant_of-self
invariant_of-self c = subst (AreClean c.self.inside.dirty) (sym c.bring.ensures) (clean_promoted c.self.inside.dirty c.self.inside.clean c.args.name c.self.invariant)

pub returns-clause-page : goal.returns-clause-page
returns-clause-page c =
    let same : lookup (is_name c.args.name) c.bring.new.self ≡ lookup (is_name c.args.name) c.self.inside.clean = ap (lookup (is_name c.args.name)) c.bring.ensures ∙ lookup_promoted c.args.name c.self.inside.clean in
    ap (λ (o : Option PlainPage). if is_dirty c.args.name c.self.inside.dirty then slice_get c.self.inside.dirty.pages (place_of c.args.name c.self.inside.dirty.entries) else o) same
    ∙ ap (held_page c.args.name) c.self.view_is

pub returns-clause-held : goal.returns-clause-held
returns-clause-held c =
    let same : lookup (is_name c.args.name) c.bring.new.self ≡ lookup (is_name c.args.name) c.self.inside.clean = ap (lookup (is_name c.args.name)) c.bring.ensures ∙ lookup_promoted c.args.name c.self.inside.clean in
    ap (λ (o : Option PlainPage). is_dirty c.args.name c.self.inside.dirty || is_some o) same ∙ ap (is_held c.args.name) c.self.view_is
