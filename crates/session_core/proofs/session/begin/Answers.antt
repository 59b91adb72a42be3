use Rattle.std.proofs.Common.{◌∙◌, ap}
use Rattle.disk_model.specs.declared.names.Mark.TheVariants.{Started}
use Rattle.store_form.specs.Rest.{ReadsAtRest}
use Rattle.store_form.specs.Said.{header_said}
use Rattle.session_core.specs.Start.{rest_of}
use Rattle.session_core.proofs.StartLaws.{at_told, rest_spaces, session_kept, told_reads}
use Rattle.session_core.proofs.session.begin.Goals as goal

pub new-rest-requires-clause-reads : goal.new-rest-requires-clause-reads
new-rest-requires-clause-reads g c =
    let p = c.args.parts in
    at_told (ReadsAtRest (header_said p.header) p.spaces p.homes p.next p.sequence) Started _ _ (λ es read. told_reads (header_said p.header) p.spaces p.homes p.next p.sequence es Started read) c.requires.reads c.in-Err.ensures.err

pub of-store-requires-clause-spaces : goal.of-store-requires-clause-spaces
of-store-requires-clause-spaces g c = let p = c.args.parts in rest_spaces (header_said p.header) p.spaces p.homes p.next p.sequence c.requires.form

pub invariant_of-result : goal.invariant_of-result
invariant_of-result g c =
    session_kept g.D.Disk.past (rest_of c.args.parts) c.args.keys c.args.options.active c.args.options.age c.new-counted.result c.of-store.result c.new-journal.result.items c.args.log c.args.pool
    c.requires.form c.requires.reads (ap g.D.Disk.past c.new-counted.ensures.disk ∙ c.in-Ok.ensures.ok) c.of-store.ensures c.new-journal.ensures.items c.requires.log c.requires.numbers c.requires.pool c.requires.may c.requires.some
