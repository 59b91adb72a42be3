use Rattle.std.proofs.Common.{◌≡◌, ℕ, List, ◌*◌, ap, ◌∙◌, subst, arith, length, OnOk, OnErr}
use Rattle.std.proofs.lemmas.Result.{on_ok_weaker}
use Rattle.disk_model.specs.Event.{Write}
use Rattle.disk_model.proofs.Moments.{at_each, at_is, at_grow}
use Rattle.disk_model.specs.Past.{grow, MayGrow, IsWrite}
use Rattle.disk_model.specs.declared.names.FileName.TheVariants.{Space}
use Rattle.disk_model.proofs.Layers.{does_write}
use Rattle.places.proofs.Batches.{write_is_of}
use Rattle.doublewrite.specs.Text.{IsPageText, page_number_of}
use Rattle.doublewrite.specs.Batch.{text_at, home_batch}
use Rattle.doublewrite.proofs.HomeSteps.{homes_now, home_each, home_wrote, home_inside, home_fits}
use Rattle.doublewrite.proofs.homes.write_home.Goals as goal

pub write-requires : goal.write-requires
write-requires g c =
    let place : c.from-at.result ≡ page_number_of (text_at c.args.batch.now c.args.i) = c.from-at.ensures ∙ c.number.ensures ∙ ap page_number_of c.get-text.ensures in
    let long : length c.bytes.result.now ≡ 16384 = ap length c.bytes.ensures.bytes ∙ c.bytes.ensures.text.long in
    rw (place, long) (at_each (home_inside c.args.batch.now c.args.i c.requires.more) c.requires.inside)

pub returns-clause-ok : goal.returns-clause-ok
returns-clause-ok g c =
    let batch = c.args.batch.now in
    let text = text_at batch c.args.i in
    let same : c.bytes.result.now ≡ text = c.bytes.ensures.bytes ∙ c.get-text.ensures in
    let place : c.from-at.result * 16384 ≡ page_number_of text * 16384 = ap (λ (p : ℕ). p * 16384) (c.from-at.ensures ∙ c.number.ensures ∙ ap page_number_of c.get-text.ensures) in
    let old = g.D.Disk.past c.args.disk.now in
    let new = g.D.Disk.past c.write.new.self in
    let f = Space batch.space in
    subst (λ (p : ℕ). OnOk c.write.result (new ≡ grow (Write f p text text) old)) place (subst (λ (w : List ℕ). OnOk c.write.result (new ≡ grow (Write f (c.from-at.result * 16384) w w) old)) same c.write.ensures.ok)

pub returns-clause-err : goal.returns-clause-err
returns-clause-err g c =
    let batch = c.args.batch.now in
    let text = text_at batch c.args.i in
    let same : c.bytes.result.now ≡ text = c.bytes.ensures.bytes ∙ c.get-text.ensures in
    let place : c.from-at.result * 16384 ≡ page_number_of text * 16384 = ap (λ (p : ℕ). p * 16384) (c.from-at.ensures ∙ c.number.ensures ∙ ap page_number_of c.get-text.ensures) in
    let old = g.D.Disk.past c.args.disk.now in
    let new = g.D.Disk.past c.write.new.self in
    let f = Space batch.space in
    subst (λ (p : ℕ). OnErr c.write.result (MayGrow (IsWrite f p text) old new)) place (subst (λ (w : List ℕ). OnErr c.write.result (MayGrow (IsWrite f (c.from-at.result * 16384) w) old new)) same c.write.ensures.err)

pub returns-clause-does : goal.returns-clause-does
returns-clause-does g c = λ first at.
    let batch = c.args.batch.now in
    let i = c.args.i in
    let text = text_at batch i in
    let is : IsPageText text = subst IsPageText c.get-text.ensures c.bytes.ensures.text in
    does_write (Space batch.space) (page_number_of text * 16384) text at (homes_now batch i (omega (arith, c.requires.more)) first) (home_each batch i c.requires.more c.requires.distinct is first)
    (write_is_of (Space batch.space) 16384 (home_batch batch) i (length batch.pages) c.requires.more) (home_wrote batch i c.requires.more c.requires.distinct is first) (returns-clause-ok g c) (returns-clause-err g c)

pub returns-clause-inside : goal.returns-clause-inside
returns-clause-inside g c =
    let batch = c.args.batch.now in
    let i = c.args.i in
    let is : IsPageText (text_at batch i) = subst IsPageText c.get-text.ensures c.bytes.ensures.text in
    on_ok_weaker c.write.result (λ more. at_is more (at_grow _ (home_fits batch i c.requires.more is) c.requires.inside)) (returns-clause-ok g c)
