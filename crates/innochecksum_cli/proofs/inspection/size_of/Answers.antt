use Rattle.std.proofs.Common.{refl, sym, ap, inl, ◌∙◌, arith}
use Rattle.space_head.specs.Sizes.{page_size}
use Rattle.innochecksum_cli.proofs.Fills.{filled_front}
use Rattle.innochecksum_cli.proofs.inspection.size_of.Goals as goal

pub returns-then-count-front-clause-answer : goal.returns-then-count-front-clause-answer
returns-then-count-front-clause-answer g c = record {
  here = λ fs file is found fits.
      let whole = filled_front c.args.front.now c.read.new.into file (fs c.args.name.now) c.in-Ok.count found (omega arith, omega arith) (c.in-Ok.ensures.bytes.here fs is) in
      absurd (omega (arith, whole.0));
}

pub returns-in-Ok-page_size-clause-answer : goal.returns-in-Ok-page_size-clause-answer
returns-in-Ok-page_size-clause-answer g c = record {
  here = λ fs file is found fits.
      let whole = filled_front c.args.front.now c.read.new.into file (fs c.args.name.now) c.in-Ok.count found (omega arith, omega arith) (c.in-Ok.ensures.bytes.here fs is) in
      sym (ap page_size (c.be32_at.ensures ∙ whole.1)) ∙ sym c.page_size.ensures.value ∙ c.in-Ok-page_size.is;
}

pub returns-in-Err-page_size-clause-answer : goal.returns-in-Err-page_size-clause-answer
returns-in-Err-page_size-clause-answer g c = record {
  here = λ fs file is found fits.
      let whole = filled_front c.args.front.now c.read.new.into file (fs c.args.name.now) c.in-Ok.count found (omega arith, omega arith) (c.in-Ok.ensures.bytes.here fs is) in
      inl (c.in-Err-page_size.fault, refl, sym (ap page_size (c.be32_at.ensures ∙ whole.1)) ∙ sym c.page_size.ensures.value ∙ c.in-Err-page_size.is);
}
