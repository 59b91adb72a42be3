use Rattle.std.proofs.Common.{◌≡◌, ◌∙◌, List, ℕ, [], ◌∷◌, ap, inl, inr, subst}
use Rattle.std.proofs.lemmas.Result.{on_ok_weaker, on_err_weaker}
use Rattle.disk_model.specs.Event.{Sync, Write}
use Rattle.disk_model.specs.Past.{Past, IsWrite, MayGrow, grow}
use Rattle.disk_model.specs.declared.names.FileName.TheVariants.{Space}
use Rattle.store_form.specs.Creation.{first_text}
use Rattle.store_form.proofs.CreationSteps.{write_stopped}
use Rattle.store_form.proofs.CreationLoops.{at_err, text_is}
use Rattle.store_form.proofs.making.write_first_page.Goals as goal

pub returns-in_err-write-clause-err : goal.returns-in_err-write-clause-err
returns-in_err-write-clause-err g c =
    let f = Space c.args.info.now.space in
    let old : Past = g.D.Disk.past c.args.disk.now in
    let text = text_is c.args.info.now c.fill_first_page.new.page c.fill_first_page.ensures.text in
    at_err c.from_residual.result (write_stopped f 0 (first_text c.args.info.now) (Sync f ∷ []) old (g.D.Disk.past c.write.new.self)
    (subst (λ (b : List ℕ). MayGrow (IsWrite f 0 b) old (g.D.Disk.past c.write.new.self)) text c.in_err-write.ensures.err))

pub returns-clause-ok : goal.returns-clause-ok
returns-clause-ok g c =
    let f = Space c.args.info.now.space in
    let old : Past = g.D.Disk.past c.args.disk.now in
    let text = text_is c.args.info.now c.fill_first_page.new.page c.fill_first_page.ensures.text in
    let wrote : g.D.Disk.past c.write.new.self ≡ grow (Write f 0 (first_text c.args.info.now) (first_text c.args.info.now)) old = c.in_ok-write.ensures.ok ∙ ap (λ (b : List ℕ). grow (Write f 0 b b) old) text in
    on_ok_weaker c.sync.result (λ e. e ∙ ap (grow (Sync f)) wrote) c.sync.ensures.ok

pub returns-clause-err : goal.returns-clause-err
returns-clause-err g c =
    let f = Space c.args.info.now.space in
    let old : Past = g.D.Disk.past c.args.disk.now in
    let text = text_is c.args.info.now c.fill_first_page.new.page c.fill_first_page.ensures.text in
    let wrote : g.D.Disk.past c.write.new.self ≡ grow (Write f 0 (first_text c.args.info.now) (first_text c.args.info.now)) old = c.in_ok-write.ensures.ok ∙ ap (λ (b : List ℕ). grow (Write f 0 b b) old) text in
    on_err_weaker c.sync.result (λ e. inr (inr (inl (e ∙ wrote)))) c.sync.ensures.err
