use Rattle.std.proofs.Common.{◌∙◌, ap, length, inl, inr}
use Rattle.byte_list.proofs.RangeLaws.{length-zeros}
use Rattle.image_pages.proofs.head.written_head.Goals as goal

pub write_head-requires : goal.write_head-requires
write_head-requires c = inr (inr (inl (ap length (c.as_mut_slice.ensures.value ∙ c.in_ok-page.ensures) ∙ length-zeros 16384)))
