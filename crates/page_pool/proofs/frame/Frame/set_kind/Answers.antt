use Rattle.std.proofs.Common.{◌≡◌, ℕ, ◌+◌, ◌<◌, ◌≤◌, ◌^◌, List, length, ap, ◌∙◌, refl, sym, arith}
use Rattle.std.specs.Int.{to_be_bytes, w16}
use Rattle.std.proofs.lemmas.List.{with_items_is}
use Rattle.byte_list.specs.Bytes.{put}
use Rattle.byte_list.proofs.PutLaws.{length-put}
use Rattle.page_pool.specs.Pages.{plain_page}
use Rattle.page_pool.specs.Changes.{kind_set}
use Rattle.page_pool.proofs.Bodies.{plain_kind}
use Rattle.page_pool.proofs.frame.Frame.set_kind.Goals as goal

pub returns : goal.returns
returns c =
    let below : c.args.kind < 2 ^ 16 = omega (arith, c.ranges.kind) in
    let is : c.put_be16.new.bytes ≡ put 24 (to_be_bytes w16 c.args.kind) c.self.inside.bytes.items = c.put_be16.ensures ∙ ap (put 24 (to_be_bytes w16 c.args.kind)) c.deref_mut.ensures.value in
    let two : length (to_be_bytes w16 c.args.kind) ≡ 2 = refl in
    let fits : 24 + length (to_be_bytes w16 c.args.kind) ≤ length c.self.inside.bytes.items = omega (arith, two, c.self.invariant) in
    let size : length c.put_be16.new.bytes ≡ c.self.inside.bytes.len = ap (λ (b : List ℕ). length b) is ∙ length-put 24 (to_be_bytes w16 c.args.kind) c.self.inside.bytes.items fits ∙ sym c.self.inside.bytes.ok.0 in
    ap plain_page (with_items_is c.self.inside.bytes c.put_be16.new.bytes size ∙ is)
    ∙ plain_kind c.args.kind c.self.inside.bytes.items c.self.invariant below two ∙ ap (kind_set c.args.kind) c.self.view_is
