use Rattle.std.proofs.Common.{ℕ, List, length, ◌∙◌, ap}
use Rattle.byte_list.proofs.RangeLaws.{length-zeros}
use Rattle.page_pool.specs.Pages.{plain_page}
use Rattle.page_pool.proofs.Bodies.{plain_zeros}
use Rattle.page_pool.proofs.frame.Frame.unused.Goals as goal

pub invariant_of-result : goal.invariant_of-result
invariant_of-result c = ap (λ (l : List ℕ). length l) c.in_ok-bytes.ensures ∙ length-zeros 16384

pub returns : goal.returns
returns c = ap plain_page c.in_ok-bytes.ensures ∙ plain_zeros
