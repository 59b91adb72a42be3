use Rattle.std.proofs.Common.{List, sym, subst, arith}
use Rattle.std.proofs.lemmas.List.{take_all}
use Rattle.store_files.specs.Header.{HeldSpace}
use Rattle.crash_image.specs.Recovers.{SpacesLong}
use Rattle.image_reader.specs.Files.{image_of}
use Rattle.image_reader.proofs.Firsts.{long_more}
use Rattle.image_reader.proofs.Takes.{take_item}
use Rattle.image_reader.proofs.checks.other_length.Goals as goal
use Rattle.byte_list.proofs.RangeLaws.{drop_item}

pub returns-then-not-has_length-clause-some : goal.returns-then-not-has_length-clause-some
returns-then-not-has_length-clause-some c =
    let left = drop_item c.args.spaces.now c.loop-space.space-index c.space-item.result c.loop-space-test.true c.space-item.is in record {
      space = c.space-item.result;
      named = record { index = c.loop-space.space-index; is = left };
      id = c.space.ensures;
      before = c.loop-space.invariant;
      other = λ is. c.has_length.ensures.no c.if-not-has_length.true (rw (← c.space.ensures) is);
    }

pub loop-space-preserved : goal.loop-space-preserved
loop-space-preserved c =
    let left = drop_item c.args.spaces.now c.loop-space.space-index c.space-item.result c.loop-space-test.true c.space-item.is in
    subst (λ (hs : List HeldSpace). SpacesLong (image_of c.args.files.now) hs) (sym (take_item c.args.spaces.now c.loop-space.space-index c.space-item.result _ left))
    (long_more (image_of c.args.files.now) _ c.space-item.result c.loop-space.invariant (c.has_length.ensures.yes c.if-not-has_length.false))

pub returns-clause-none : goal.returns-clause-none
returns-clause-none c =
    subst (λ (hs : List HeldSpace). SpacesLong (image_of c.args.files.now) hs) (take_all c.loop-space.space-index c.args.spaces.now (omega arith)) c.loop-space.invariant
