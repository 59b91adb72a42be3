use Rattle.std.proofs.Common.{◌≡◌, ℕ, List, ◌*◌, ap, ◌∙◌, subst, arith, length, OnOk, OnErr}
use Rattle.std.proofs.lemmas.Result.{on_ok_weaker}
use Rattle.disk_model.specs.Event.{Write}
use Rattle.disk_model.specs.Past.{grow, MayGrow, IsWrite}
use Rattle.disk_model.specs.declared.names.FileName.TheVariants.{Double}
use Rattle.disk_model.proofs.Layers.{does_write}
use Rattle.page_places.specs.Texts.{slot_bytes, slots}
use Rattle.places.proofs.Batches.{write_is_of}
use Rattle.places.proofs.Steps.{place_ends}
use Rattle.places.proofs.FileSteps.{file_written}
use Rattle.doublewrite.specs.Text.{IsPageText, page_number_of}
use Rattle.doublewrite.specs.Batch.{text_at, slot_batch}
use Rattle.doublewrite.proofs.SlotSteps.{slot_next, slots_now, slot_each, slot_wrote}
use Rattle.doublewrite.proofs.storing.write_slot.Goals as goal

pub returns-clause-ok : goal.returns-clause-ok
returns-clause-ok g c =
    let batch = c.args.batch.now in
    let is : c.fill_slot.new.slot ≡ (slot_batch batch).bytes c.args.i = c.fill_slot.ensures ∙ ap (λ (t : List ℕ). slot_bytes batch.space (page_number_of t) batch.batch t) (c.bytes-text.ensures.bytes ∙ c.get.ensures) in
    subst (λ (w : List ℕ). OnOk c.write.result (g.D.Disk.past c.write.new.self ≡ grow (Write Double (c.args.i * 16896) w w) (g.D.Disk.past c.args.disk.now))) is c.write.ensures.ok

pub returns-clause-err : goal.returns-clause-err
returns-clause-err g c =
    let batch = c.args.batch.now in
    let is : c.fill_slot.new.slot ≡ (slot_batch batch).bytes c.args.i = c.fill_slot.ensures ∙ ap (λ (t : List ℕ). slot_bytes batch.space (page_number_of t) batch.batch t) (c.bytes-text.ensures.bytes ∙ c.get.ensures) in
    subst (λ (w : List ℕ). OnErr c.write.result (MayGrow (IsWrite Double (c.args.i * 16896) w) (g.D.Disk.past c.args.disk.now) (g.D.Disk.past c.write.new.self))) is c.write.ensures.err

pub returns-clause-does : goal.returns-clause-does
returns-clause-does g c = λ first at.
    let batch = c.args.batch.now in
    let i = c.args.i in
    let text : IsPageText (text_at batch i) = subst IsPageText c.get.ensures c.bytes-text.ensures.text in
    let next = slot_next batch i c.requires.more c.requires.most text in
    does_write Double (i * 16896) ((slot_batch batch).bytes i) at (slots_now batch i (omega (arith, c.requires.more)) first) (slot_each batch i c.requires.more next first)
    (write_is_of Double 16896 (slot_batch batch) i (length batch.pages) c.requires.more) (slot_wrote batch i c.requires.more next first) (returns-clause-ok g c) (returns-clause-err g c)

pub returns-clause-places : goal.returns-clause-places
returns-clause-places g c =
    let batch = c.args.batch.now in
    let i = c.args.i in
    let text : IsPageText (text_at batch i) = subst IsPageText c.get.ensures c.bytes-text.ensures.text in
    let next = slot_next batch i c.requires.more c.requires.most text in
    let bytes = (slot_batch batch).bytes i in
    on_ok_weaker c.write.result (λ is. file_written Double slots Double (i * 16896) bytes _ _ (omega (arith, next.long, place_ends slots i next.within)) c.requires.places is) (returns-clause-ok g c)
