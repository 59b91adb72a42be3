use Rattle.std.proofs.Common.{◌≡◌, ◌∙◌, ◌++◌, ◌≤◌, ◌+◌, [], ◌∷◌, length, subst, sym, ap, arith}
use Rattle.std.proofs.lemmas.List.{length-append}
use Rattle.std.specs.Vec.Iter.{into_iter_items}
use mathlib.Core.List.{append_assoc}
use Rattle.page_batch.specs.Batch.{BatchState, AreTextsOfPages}
use Rattle.page_batch.proofs.TextLaws.{texts_more, texts_all}
use Rattle.page_batch.proofs.sealed.seal_batch.Goals as goal

pub loop-copied-preserved : goal.loop-copied-preserved
loop-copied-preserved c =
    let i = c.loop-copied.invariant in
    let longer = length-append c.loop-copied.yielded (c.in-Some.copied ∷ []) in
    record {
      next = tt;
      finite = tt;
      left = i.left ∙ ap (λ ps. c.loop-copied.yielded ++ ps) c.in-Some.ensures.steps.0 ∙ sym (append_assoc c.loop-copied.yielded (c.in-Some.copied ∷ []) (into_iter_items c.next.new.self));
      done = subst (λ ts. AreTextsOfPages c.batch.inside.space c.batch.inside.version c.batch.inside.key (c.loop-copied.yielded ++ (c.in-Some.copied ∷ [])) ts) (sym c.in-Ok.ensures.items)
          (texts_more _ _ _ c.loop-copied.yielded c.loop-copied.sealed.items c.in-Some.copied c.seal_page.result i.done c.seal_page.ensures.page c.seal_page.ensures.text);
      count = omega (arith, c.in-Ok.ensures.len, i.count, longer);
      long = ap length c.in-Ok.ensures.items ∙ length-append c.loop-copied.sealed.items (c.seal_page.result ∷ []) ∙ ap (λ n. n + 1) i.long ∙ sym longer;
      room = omega (arith, i.room, c.in-Ok.ensures.capacity);
    }

pub invariant_of-result : goal.invariant_of-result
invariant_of-result c =
    let i = c.loop-copied.invariant in
    let is = c.batch.invariant in
    let same : length c.batch.inside.pages.items ≡ length c.args.batch.pages = ap (λ (b : BatchState). length b.pages) c.batch.view_is in
    let all = ap length i.left ∙ length-append c.loop-copied.yielded (into_iter_items c.loop-copied.copied-iterator) in
    let within = is.0.within in
    let room = is.0.text_room in
    let long = i.long in
    (texts_all _ _ _ c.loop-copied.yielded c.loop-copied.sealed.items i.done, omega (arith, same, all, within, room, long), is.2, is.0.keyed)
