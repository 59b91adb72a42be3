use Rattle.std.proofs.Common.{arith, ap, rules}
use Rattle.byte_list.specs.Fields.{be32_at}
use Rattle.page_places.proofs.Sums.{ends_in_sum-ends, ends-ends_in_sum}
use Rattle.doublewrite.proofs.texts.PageText.of.Goals as goal

pub returns-then-not-ends_in_crc32c-clause-none : goal.returns-then-not-ends_in_crc32c-clause-none
returns-then-not-ends_in_crc32c-clause-none c = λ is. let ends = ends_in_sum-ends c.args.bytes.items is.sums in search (c.if-not-ends_in_crc32c.true, c.ends_in_crc32c.ensures.ends, c.deref.ensures.value, ends, rules)

pub invariant_of-result : goal.invariant_of-result
invariant_of-result c = record {
  long = search rules;
  sums = ends-ends_in_sum c.args.bytes.items (search rules);
  number = omega (arith, ap (λ l. be32_at l 4) c.deref-2.ensures.value, c.be32_at-number.ensures, c.be32_at-number.type_inv);
}
