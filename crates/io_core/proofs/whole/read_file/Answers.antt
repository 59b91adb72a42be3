use Rattle.std.proofs.Common.{◌≡◌, length, Some, take, sym, ap, ◌∙◌, arith, rules}
use Rattle.std.proofs.lemmas.Grind.{common_steps}
use Rattle.std.specs.Option.{option_map}
use Rattle.io_core.proofs.WholeFiles.{take-whole}
use Rattle.io_core.proofs.whole.read_file.Goals as goal

pub returns-clause-contents : goal.returns-clause-contents
returns-clause-contents g c =
    let items : c.truncate.new.self.items ≡ take c.in_ok-count.count c.read.new.into = grind (arith, common_steps) in
    let size : length c.deref_mut.result.now ≡ c.in-Some.length = grind (arith, common_steps) in
    record {
      here = λ fs is.
          let filled = c.in_ok-count.ensures.bytes.here fs (c.in_ok-length.ensures.same ∙ is) in
          let known : Some c.in-Some.length ≡ option_map length (fs c.args.name.now) = sym c.in-Some.is ∙ c.in_ok-length.ensures.length.here fs is in (
            take-whole (fs c.args.name.now) c.deref_mut.result.now c.read.new.into c.in_ok-count.count (ap Some size ∙ known) filled ∙ ap Some (sym items),
            search rules,
          );
    }
