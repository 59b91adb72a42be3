use Rattle.script_core.proofs.HexLemmas.{no_byte}
use Rattle.script_core.proofs.fields.byte_of.Goals as goal

pub returns-in-Err : goal.returns-in-Err
returns-in-Err c byte is = no_byte c.args.word.now byte c.decode_to_slice.result c.in-Err.field-0 _ (λ bytes p failed. cc (p.0)) c.decode_to_slice.ensures.value c.in-Err.is is
