use Rattle.counted_disk.specs.Counting.{counts_then}
use Rattle.session_core.specs.Writing.{Storing}
use Rattle.session_core.proofs.PutWrites.{on_err, put_homed}
use Rattle.session_core.proofs.writing.put_texts.Goals as goal

pub returns-in_err-store_texts-clause-part : goal.returns-in_err-store_texts-clause-part
returns-in_err-store_texts-clause-part g c = on_err c.from_residual.result (Storing c.in_err-store_texts.ensures.part)

pub returns-clause-part : goal.returns-clause-part
returns-clause-part g c =
    put_homed c.args.batch.now (g.D.Disk.past c.args.disk.now.disk) (g.D.Disk.past c.store_texts.new.disk.disk) (g.D.Disk.past c.home_texts.new.disk.disk) c.home_texts.result c.in_ok-store_texts.ensures.exact c.home_texts.ensures.part

pub returns-clause-later : goal.returns-clause-later
returns-clause-later g c =
    let first = c.store_texts.ensures.later in
    let second = c.home_texts.ensures.later in
    (g.met.D.Disk.is_later_transitive _ _ _ first.0 second.0, counts_then _ _ _ first.1 second.1)
