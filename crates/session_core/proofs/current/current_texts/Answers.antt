use Rattle.std.proofs.Common.{◌≡◌, ◌≤◌, ◌+◌, ◌∙◌, ◌++◌, ◌∷◌, [], List, length, ap, sym, subst, arith, length-append}
use Rattle.std.specs.List.{All}
use Rattle.std.proofs.lemmas.List.Elements.{All-head, All-tail}
use Rattle.std.specs.Vec.Iter.{into_iter_items}
use Rattle.page_batch.specs.Batch.{IsTextOfPage, TextOfPage}
use Rattle.page_pool.specs.Pages.{PoolState}
use Rattle.session_core.specs.Putting.{IsDirtyText, current_pages, texts_in}
use Rattle.session_core.proofs.CurrentLaws.{texts_more}
use Rattle.session_core.proofs.TextTells.{one_text}
use Rattle.session_core.proofs.current.current_texts.Goals as goal

pub loop-sealed-preserved : goal.loop-sealed-preserved
loop-sealed-preserved c =
    let i = c.loop-sealed.invariant in
    let rest = c.in-Some.ensures.steps.0 in
    let added = c.keep_text.ensures.texts ∙ ap (λ (p : PoolState). c.loop-sealed.texts.items ++ texts_in (current_pages p c.args.space (c.in-Some.sealed ∷ []))) i.pool in
    record {
      next = tt;
      finite = tt;
      pool = c.keep_text.ensures.pool ∙ i.pool;
      texts = texts_more c.args.pool.now c.args.space c.in-Some.sealed (into_iter_items c.loop-sealed.sealed-iterator) (into_iter_items c.next.new.self) c.loop-sealed.texts.items c.keep_text.new.texts.items _ rest added i.texts;
      room = omega (arith, i.room, ap (length {A = TextOfPage}) rest, ap length c.keep_text.ensures.texts, length-append c.loop-sealed.texts.items (texts_in (current_pages c.loop-sealed.pool c.args.space (c.in-Some.sealed ∷ []))), one_text c.loop-sealed.pool c.args.space c.in-Some.sealed, c.keep_text.ensures.room);
      left = λ version key all. All-tail (IsTextOfPage c.args.space version key) c.in-Some.sealed (into_iter_items c.next.new.self) (subst (λ (l : List TextOfPage). All (IsTextOfPage c.args.space version key) l) rest (i.left version key all));
      due = λ version key all.
          let head = All-head (IsTextOfPage c.args.space version key) c.in-Some.sealed (into_iter_items c.next.new.self) (subst (λ (l : List TextOfPage). All (IsTextOfPage c.args.space version key) l) rest (i.left version key all)) in
          let before = subst (λ (p : PoolState). All (IsDirtyText p c.args.space version) c.loop-sealed.texts.items) (sym i.pool) (i.due version key all) in
          subst (λ (p : PoolState). All (IsDirtyText p c.args.space version) c.keep_text.new.texts.items) i.pool (c.keep_text.ensures.due version key head before);
    }

pub returns-clause-due : goal.returns-clause-due
returns-clause-due c = λ version key all. subst (λ (l : List _). All (IsDirtyText c.args.pool.now c.args.space version) l) (sym c.of.ensures) (c.loop-sealed.invariant.due version key all)
