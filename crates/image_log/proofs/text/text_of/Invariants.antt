use Rattle.image_log.proofs.MtrTexts.{Reads}
use Rattle.image_log.proofs.text.text_of.Given as goal

abbrev pub invariant-loop-i : goal.invariant-loop-i
invariant-loop-i l = Reads l.header l.keys l.log l.number l.count l.text.items l.i
