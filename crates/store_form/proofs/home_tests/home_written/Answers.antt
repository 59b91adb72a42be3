use Rattle.std.proofs.Common.{◌≡◌, ◌∙◌, ℕ, List, refl, sym, subst, arith}
use Rattle.disk_model.specs.Event.{Write}
use Rattle.disk_model.specs.Image.{InFile}
use Rattle.disk_model.specs.Past.{At}
use Rattle.disk_model.specs.declared.names.FileName.TheVariants.{Space}
use Rattle.disk_model.proofs.Moments.{at_each, at_grow, at_is}
use Rattle.space_head.specs.declared.space.Home.{Home}
use Rattle.store_files.specs.Header.{HeldSpace}
use Rattle.store_form.specs.Rest.{IsRestForm, ReadsAtRest, home_told}
use Rattle.store_form.specs.Said.{header_said}
use Rattle.store_form.proofs.HomeWrites.{homes_long, home_inside, form_written, reads_written}
use Rattle.store_form.proofs.home_tests.home_written.Goals as goal

abbrev five : HeldSpace
five = record { space = 5; pages = 4; key_id = 1 }

pub write-requires : goal.write-requires
write-requires g c =
    let p = c.args.parts in
    let bytes = c.args.bytes.now in
    at_each (λ es read. subst (λ (n : ℕ). InFile (Space 5) 49152 n es) (sym c.requires.long)
    (home_inside (header_said p.header) five c.requires.one p.next p.sequence 3 (omega arith) (omega arith) (home_told bytes) bytes c.requires.long refl p.spaces p.homes c.requires.form es read)) c.requires.reads

pub set-requires-clause-list : goal.set-requires-clause-list
set-requires-clause-list g c =
    let p = c.args.parts in
    let bytes = c.args.bytes.now in
    (homes_long (header_said p.header) five c.requires.one p.next p.sequence 3 (omega arith) (omega arith) (home_told bytes) bytes c.requires.long refl p.spaces p.homes c.requires.form).0

pub set-requires-clause-place : goal.set-requires-clause-place
set-requires-clause-place g c =
    let p = c.args.parts in
    let bytes = c.args.bytes.now in
    (homes_long (header_said p.header) five c.requires.one p.next p.sequence 3 (omega arith) (omega arith) (home_told bytes) bytes c.requires.long refl p.spaces p.homes c.requires.form).1

pub new-requires-clause-form : goal.new-requires-clause-form
new-requires-clause-form g c =
    let p = c.args.parts in
    let bytes = c.args.bytes.now in
    subst (λ (os : List (List Home)). IsRestForm (header_said p.header) p.spaces os p.next p.sequence) (sym c.set.ensures)
    (form_written (header_said p.header) five c.requires.one p.next p.sequence 3 (omega arith) (omega arith) c.home_of.result bytes c.requires.long c.home_of.ensures p.spaces p.homes c.requires.form)

pub new-requires-clause-reads : goal.new-requires-clause-reads
new-requires-clause-reads g c =
    let p = c.args.parts in
    let bytes = c.args.bytes.now in
    subst (λ (os : List (List Home)). At (ReadsAtRest (header_said p.header) p.spaces os p.next p.sequence) (g.D.Disk.past c.write.new.self)) (sym c.set.ensures)
    (at_is c.in_ok-write.ensures.ok (at_grow (Write (Space 5) 49152 bytes bytes)
    (λ es read. reads_written (header_said p.header) five c.requires.one p.next p.sequence 3 (omega arith) (omega arith) c.home_of.result bytes c.requires.long c.home_of.ensures p.spaces p.homes c.requires.form es read) c.requires.reads))
