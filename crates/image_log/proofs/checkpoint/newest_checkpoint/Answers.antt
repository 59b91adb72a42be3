use Rattle.std.proofs.Common.{◌≡◌, ◌∙◌, ap, sym, Option, List, ℕ}
use Rattle.std.specs.Prelude.{option_map}
use Rattle.places.specs.Places.{place}
use Rattle.store_files.specs.Checkpoint.{checkpoint_in}
use Rattle.image_log.specs.Logs.{checkpoint_of}
use Rattle.image_log.specs.declared.checkpoint.RunStart.{RunStart}
use Rattle.image_log.proofs.Checkpoints.{newest_left, none_left, later_second, later_first, alone_first}
use Rattle.image_log.proofs.checkpoint.newest_checkpoint.Goals as goal

found : (file block : List ℕ) (i : ℕ) (o p : Option RunStart) → option_map checkpoint_of o ≡ checkpoint_in i block → block ≡ place 4096 i file → o ≡ p → checkpoint_in i (place 4096 i file) ≡ option_map checkpoint_of p
found file block i o p is bytes same = sym (is ∙ ap (checkpoint_in i) bytes) ∙ ap (option_map checkpoint_of) same

pub returns-then-even-odd-clause-some : goal.returns-then-even-odd-clause-some
returns-then-even-odd-clause-some c =
    later_second c.args.log.now c.in-Some-Some.even c.in-Some-Some.odd
    (found c.args.log.now _ 1 _ _ c.checkpoint_in-first.ensures c.place.ensures.bytes c.in-Some-Some.is-0)
    (found c.args.log.now _ 2 _ _ c.checkpoint_in-second.ensures c.place-2.ensures.bytes c.in-Some-Some.is-1) c.if-even-odd.true

pub returns-else-even-odd-clause-some : goal.returns-else-even-odd-clause-some
returns-else-even-odd-clause-some c =
    later_first c.args.log.now c.in-Some-Some.even c.in-Some-Some.odd
    (found c.args.log.now _ 1 _ _ c.checkpoint_in-first.ensures c.place.ensures.bytes c.in-Some-Some.is-0)
    (found c.args.log.now _ 2 _ _ c.checkpoint_in-second.ensures c.place-2.ensures.bytes c.in-Some-Some.is-1) c.if-even-odd.false

pub returns-in-Some-None-clause-some : goal.returns-in-Some-None-clause-some
returns-in-Some-None-clause-some c =
    alone_first c.args.log.now c.in-Some-None.even
    (found c.args.log.now _ 1 _ _ c.checkpoint_in-first.ensures c.place.ensures.bytes c.in-Some-None.is-0)
    (found c.args.log.now _ 2 _ _ c.checkpoint_in-second.ensures c.place-2.ensures.bytes c.in-Some-None.is-1)

pub returns-in-None-default : goal.returns-in-None-default
returns-in-None-default c =
    let none = found c.args.log.now _ 1 _ _ c.checkpoint_in-first.ensures c.place.ensures.bytes c.in-None-default.is-0 in
    let other : checkpoint_in 2 (place 4096 2 c.args.log.now) ≡ option_map checkpoint_of c.checkpoint_in-second.result = sym (c.checkpoint_in-second.ensures ∙ ap (checkpoint_in 2) c.place-2.ensures.bytes) in
    record { some = newest_left c.args.log.now c.checkpoint_in-second.result none other; none = none_left c.args.log.now c.checkpoint_in-second.result none other }
