use Rattle.std.proofs.Common.{◌++◌, ◌∙◌, ℕ, List, ap, sym, arith, refl}
use Rattle.disk_model.proofs.Moments.{at_is, at_both}
use Rattle.page_places.specs.Texts.{slot_held}
use Rattle.doublewrite.specs.Copies.{as_copied, as_list, copies_to}
use Rattle.doublewrite.specs.declared.listing.Copied.{Copied}
use Rattle.doublewrite.proofs.CopyLemmas.{copies_none, copies_more}
use Rattle.doublewrite.proofs.reading.read_copies.Goals as goal

pub read_slot-requires-clause-places : goal.read_slot-requires-clause-places
read_slot-requires-clause-places g c = at_is c.loop-i.invariant.same c.requires.places

pub loop-i-init : goal.loop-i-init
loop-i-init g c = record {
  same = refl;
  copies = record { here = λ es is. c.new-copies.ensures.items ∙ sym (copies_none es) };
  size = c.requires.size;
  calls = omega arith;
  faults = refl;
  memory = refl;
  later = g.met.D.Disk.is_later_reflexive c.args.disk.now;
}

pub loop-i-preserved : goal.loop-i-preserved
loop-i-preserved g c =
    let i = c.loop-i.i in
    record {
      same = c.in_ok-read_slot.ensures.same ∙ c.loop-i.invariant.same;
      copies = at_both (λ es so_far bytes.
          c.in-Ok-keep.ensures
          ∙ ap (λ (l : List Copied). l ++ as_list c.in-Ok.copy) so_far
          ∙ ap (λ o. copies_to i es ++ as_list o) (c.in-Ok.ensures ∙ ap (λ (l : List ℕ). as_copied i (slot_held l)) bytes)
          ∙ sym (copies_more i es))
          c.loop-i.invariant.copies (at_is (sym c.loop-i.invariant.same) c.in_ok-read_slot.ensures.bytes);
      size = omega (arith, c.loop-i.invariant.size, c.read_slot.auto.slot);
      calls = omega (arith, c.loop-i.invariant.calls, c.in_ok-read_slot.ensures.calls);
      faults = c.in_ok-read_slot.ensures.no_fault ∙ c.loop-i.invariant.faults;
      memory = c.in_ok-read_slot.ensures.no_refusal ∙ c.loop-i.invariant.memory;
      later = g.met.D.Disk.is_later_transitive _ _ _ c.loop-i.invariant.later c.in_ok-read_slot.ensures.later;
    }
