use Rattle.std.proofs.Common.{◌≡◌, refl, arith, ◌∙◌}
use Rattle.space_head.specs.Sizes.{record_place, pages_per_extent}
use Rattle.page_pool.proofs.frame.Frame.change.Goals as goal

place : record_place 16384 ≡ 10428
unfolding record_place pages_per_extent
place = refl

pub write-requires-in-Floor : goal.write-requires-in-Floor
write-requires-in-Floor c = let at : c.record_place.result ≡ 10428 = c.record_place.ensures.value ∙ place in record { some = omega (arith, at); from = omega (arith, at); to = omega (arith, at) }

pub write-requires-in-Encrypt-2 : goal.write-requires-in-Encrypt-2
write-requires-in-Encrypt-2 c = let at : c.record_place-in-Encrypt-2.result ≡ 10428 = c.record_place-in-Encrypt-2.ensures.value ∙ place in record { some = omega arith; from = omega (arith, at); to = omega (arith, at) }
