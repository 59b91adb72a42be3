use Rattle.std.proofs.Common.{◌≡◌, sym, ap, subst}
use Rattle.std.specs.Map.{remove_entry}
use Rattle.redo_text.specs.Changes.{change_of}
use Rattle.page_pool.specs.Pages.{AreClean, DirtyList, is_name}
use Rattle.page_pool.specs.Changes.{changed_again, made_dirty, page_of_change}
use Rattle.page_pool.proofs.Named.{clean_again, clean_others, named_again, named_first, named_moved}
use Rattle.page_pool.proofs.pool.Pool.change_page.Goals as goal

pub invariant_of-self : goal.invariant_of-self
invariant_of-self c =
    subst (λ (l : DirtyList). AreClean l c.self.inside.clean) (sym c.change.ensures) (clean_again c.name_of-name.result c.args.lsn (change_of c.args.change.now) c.self.inside.dirty c.self.inside.clean c.self.invariant)

pub returns-in-Some-clause-names : goal.returns-in-Some-clause-names
returns-in-Some-clause-names c =
    named_moved c.name_of-name.result (page_of_change (change_of c.args.change.now))
    (record { dirty = c.self.inside.dirty; clean = c.self.inside.clean }) c.args.self.now
    (record { dirty = changed_again c.name_of-name.result c.args.lsn (change_of c.args.change.now) c.self.inside.dirty; clean = c.self.inside.clean }) (record { dirty = c.change.new.self; clean = c.self.inside.clean })
    c.name_of-name.ensures c.self.view_is (ap (λ (l : DirtyList). record { dirty = l; clean = c.self.inside.clean }) (sym c.change.ensures))
    (named_again c.name_of-name.result c.args.lsn (change_of c.args.change.now) (record { dirty = c.self.inside.dirty; clean = c.self.inside.clean }) c.in-Some.ensures.place.2)

pub invariant_of-self-2 : goal.invariant_of-self-2
invariant_of-self-2 c =
    subst (λ (l : DirtyList). AreClean l c.take.new.self) (sym c.enter.ensures)
    (subst (AreClean (made_dirty c.name_of-name.result c.args.lsn c.args.first c.change-2.new.self c.self.inside.dirty)) (sym c.take.ensures.rest)
    (clean_others c.name_of-name.result c.args.lsn c.args.first c.change-2.new.self c.self.inside.dirty c.self.inside.clean c.self.invariant c.kept.ensures.apart))

pub returns-clause-names : goal.returns-clause-names
returns-clause-names c =
    let both : (record { dirty = made_dirty c.name_of-name.result c.args.lsn c.args.first c.change-2.new.self c.self.inside.dirty; clean = remove_entry (is_name c.name_of-name.result) c.self.inside.clean })
    ≡ record { dirty = c.enter.new.self; clean = c.take.new.self } = λ i. record { dirty = sym c.enter.ensures i; clean = sym c.take.ensures.rest i } in
    named_moved c.name_of-name.result (page_of_change (change_of c.args.change.now))
    (record { dirty = c.self.inside.dirty; clean = c.self.inside.clean }) c.args.self.now
    (record { dirty = made_dirty c.name_of-name.result c.args.lsn c.args.first c.change-2.new.self c.self.inside.dirty; clean = remove_entry (is_name c.name_of-name.result) c.self.inside.clean })
    (record { dirty = c.enter.new.self; clean = c.take.new.self })
    c.name_of-name.ensures c.self.view_is both
    (named_first c.name_of-name.result c.args.lsn c.args.first c.change-2.new.self (record { dirty = c.self.inside.dirty; clean = c.self.inside.clean }) c.in_default.ensures.place)
