use Rattle.std.proofs.Common.{◌≡◌, ◌∙◌, ℕ, ◌+◌, ◌<◌, ◌≤◌, ◌^◌, ◌++◌, ◌∷◌, [], true, false, slice_index_or, sym, ap, subst, arith}
use Rattle.page_places.specs.Texts.{page_bytes}
use Rattle.page_pool.specs.Pages.{PoolState, held_page, is_dirty}
use Rattle.page_text.specs.Text.{FitsPage, IsText}
use Rattle.page_text.specs.declared.key.Seal.{Seal}
use Rattle.store_model.specs.Fold.{used}
use Rattle.recovery.specs.Loading.{name_in}
use Rattle.recovery.specs.Rounds.{has_later}
use Rattle.recovery.specs.Sealing.{AreTextsIn, plain_text, key_under, version_under}
use Rattle.recovery.proofs.SealSteps.{texts_more, texts_none, texts_same, typed_fits}
use Rattle.recovery.proofs.sealing.seal_range.Goals.{then-has_later+in_ok-seal_held+in_ok-push, else-has_later}
use Rattle.recovery.proofs.sealing.seal_range.Goals as goal

pub seal_held-requires-clause-dirty : goal.seal_held-requires-clause-dirty
seal_held-requires-clause-dirty c =
    let p = c.loop-page.page in
    let s = c.args.range.now.info.space in
    subst (λ (x : Seal). is_dirty (name_in x.space x.page) c.loop-page.pool.dirty ≡ true) (sym c.plan_of-plan.ensures.value)
    (ap (λ (t : PoolState). is_dirty (name_in s p) t.dirty) c.loop-page.invariant.same
    ∙ c.requires.pages.dirty p c.loop-page.invariant.begins (omega (arith, c.loop-page-test.true, c.loop-page.auto.page-end)) (sym c.has_later.ensures ∙ c.if-has_later.true))

pub seal_held-requires-clause-alone : goal.seal_held-requires-clause-alone
seal_held-requires-clause-alone c = ap (λ (t : PoolState). t.clean) c.loop-page.invariant.same ∙ c.requires.alone

pub seal_held-requires-clause-fits : goal.seal_held-requires-clause-fits
seal_held-requires-clause-fits c =
    let p = c.loop-page.page in
    let s = c.args.range.now.info.space in
    subst (λ (x : Seal). FitsPage x.page (used (held_page (name_in x.space x.page) c.loop-page.pool)).kind x.version) (sym c.plan_of-plan.ensures.value)
    (subst (λ (t : PoolState). FitsPage p (used (held_page (name_in s p) t)).kind (version_under p c.args.under.now.version)) (sym c.loop-page.invariant.same)
    (typed_fits p _ c.args.under.now.version (c.requires.pages.typed p c.loop-page.invariant.begins (omega (arith, c.loop-page-test.true, c.loop-page.auto.page-end)) (sym c.has_later.ensures ∙ c.if-has_later.true))))

pub loop-page-preserved : goal.loop-page-preserved
loop-page-preserved c =
    let p = c.loop-page.page in
    let r = c.args.range.now in
    let has = has_later c.args.notes.now c.args.last.now in
    let version = c.args.under.now.version in
    let key = c.args.under.now.key in
    let low = c.loop-page.invariant.begins in
    record {
      begins = omega (arith, low);
      same = elim c.if-has_later.branch [
        | then-has_later+in_ok-seal_held+in_ok-push w ↦ w.pool-is ∙ w.seal_held.ensures.same ∙ c.loop-page.invariant.same
        | else-has_later w ↦ w.pool-is ∙ c.loop-page.invariant.same
      ];
      texts = elim c.if-has_later.branch [
        | then-has_later+in_ok-seal_held+in_ok-push w ↦
            (let text = w.in_ok-seal_held.field-0 in
            let here = subst (λ (x : Seal). IsText page_bytes x.space x.page x.lsn x.version x.local (plain_text (used (held_page (name_in x.space x.page) c.loop-page.pool))) text) w.plan_of-plan.ensures.value w.in_ok-seal_held.ensures.text in
            let sealed = subst (λ (t : PoolState). IsText page_bytes r.info.space p (slice_index_or c.args.last.now p 0) (version_under p version) (key_under p key) (plain_text (used (held_page (name_in r.info.space p) t))) text) c.loop-page.invariant.same here in
            let small = subst (λ (x : Seal). x.page < 2 ^ 32) w.plan_of-plan.ensures.value w.seal_held.ensures.small in
            let items : c.if-has_later.texts.items ≡ c.loop-page.texts.items ++ text ∷ [] = ap (λ (v : _). v.items) w.texts-is ∙ w.in_ok-push.ensures.items in
            subst (AreTextsIn has r.info.space c.args.last.now version key c.args.pool.now r.from (p + 1)) (sym items)
            (texts_more has r.info.space c.args.last.now version key c.args.pool.now r.from p c.loop-page.texts.items low c.loop-page.invariant.texts text (sym c.has_later.ensures ∙ w.if-has_later.true) (record { small = small; is = sealed })))
        | else-has_later w ↦
            (let items : c.if-has_later.texts.items ≡ c.loop-page.texts.items = ap (λ (v : _). v.items) w.texts-is in
            subst (AreTextsIn has r.info.space c.args.last.now version key c.args.pool.now r.from (p + 1)) (sym items)
            (texts_same has r.info.space c.args.last.now version key c.args.pool.now r.from p c.loop-page.texts.items low c.loop-page.invariant.texts (sym c.has_later.ensures ∙ w.if-has_later.false)))
      ];
    }
