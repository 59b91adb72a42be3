use Rattle.std.proofs.Common.{Some, sym, ap, ◌∙◌}
use Rattle.std.specs.Str.{bytes_eq}
use Rattle.io_core.proofs.Lookups.{files_of-found}
use Rattle.io_core.proofs.shelf.bytes_of.Goals as goal

pub returns-then-eq : goal.returns-then-eq
returns-then-eq c =
    ap Some c.as_slice.ensures.value
    ∙ files_of-found c.args.files.now c.args.name.now c.loop-i.i c.index-files-i.result c.loop-i-test.true c.index-files-i.is
    (ap (λ t. bytes_eq t c.args.name.now) (sym c.as_str.ensures.value) ∙ sym c.eq.ensures ∙ c.if-eq.true) c.loop-i.invariant
