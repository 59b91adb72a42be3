use Rattle.std.proofs.Common.{◌≡◌, ℕ, ◌+◌, ◌≤◌, List, length, ap, ◌∙◌, sym, arith}
use Rattle.std.proofs.lemmas.List.{with_items_is}
use Rattle.byte_list.specs.Bytes.{put}
use Rattle.byte_list.proofs.PutLaws.{length-put}
use Rattle.page_pool.specs.Pages.{plain_page}
use Rattle.page_pool.specs.Changes.{body_written}
use Rattle.page_pool.proofs.Bodies.{plain_written}
use Rattle.page_pool.proofs.frame.Frame.write.Goals as goal

pub returns : goal.returns
returns c =
    let is : c.put.new.bytes ≡ put c.args.at c.args.bytes.now c.self.inside.bytes.items = c.put.ensures ∙ ap (put c.args.at c.args.bytes.now) c.deref_mut.ensures.value in
    let fits : c.args.at + length c.args.bytes.now ≤ length c.self.inside.bytes.items = omega (arith, c.requires.to, c.self.invariant) in
    let size : length c.put.new.bytes ≡ c.self.inside.bytes.len = ap (λ (b : List ℕ). length b) is ∙ length-put c.args.at c.args.bytes.now c.self.inside.bytes.items fits ∙ sym c.self.inside.bytes.ok.0 in
    ap plain_page (with_items_is c.self.inside.bytes c.put.new.bytes size ∙ is)
    ∙ plain_written c.args.at c.args.bytes.now c.self.inside.bytes.items c.self.invariant c.requires.from c.requires.to ∙ ap (body_written c.args.at c.args.bytes.now) c.self.view_is
