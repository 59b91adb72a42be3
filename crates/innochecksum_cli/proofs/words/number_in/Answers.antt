use Rattle.innochecksum_cli.proofs.Numbers.{read_err, read_ok}
use Rattle.innochecksum_cli.proofs.words.number_in.Goals as goal

pub returns-in-Ok : goal.returns-in-Ok
returns-in-Ok c = read_ok c.args.text.now c.in-Ok.number c.args.other c.in-Ok.ensures.value.0

pub returns-in-Err : goal.returns-in-Err
returns-in-Err c = read_err c.args.text.now c.args.other c.in-Err.ensures.value.0
