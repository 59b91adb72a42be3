use Rattle.innochecksum_cli.proofs.Fills.{filled_page}
use Rattle.innochecksum_cli.proofs.looks.read_page.Goals as goal

pub returns-in-Ok-clause-bytes : goal.returns-in-Ok-clause-bytes
returns-in-Ok-clause-bytes g c = record {
  here = λ fs file is found fits. filled_page c.args.page.now c.read.new.into file (fs c.args.name.now) c.args.number c.in-Ok.count found fits (c.in-Ok.ensures.bytes.here fs is);
}
