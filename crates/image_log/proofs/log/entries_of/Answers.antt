use Rattle.std.proofs.Common.{◌≡◌, ◌+◌, ◌∷◌, ◌<◌, ap, sym, subst, suc, drop, get_or, length, List, ℕ, arith, add-one, rules}
use Rattle.std.specs.Prelude.{IsErrAnd}
use Rattle.std.proofs.Math.Seq.{drop-cons}
use Rattle.std.proofs.lemmas.List.{drop_all}
use Rattle.cause_core.proofs.Causes.{handed}
use Rattle.redo_text.specs.declared.change.Change.{Change}
use Rattle.store_image.specs.View.{Logged}
use Rattle.store_files.specs.Run.{MakeWholeMtrs}
use Rattle.image_log.specs.Logs.{IsEntryFault}
use Rattle.image_log.proofs.Entries.{Gathers, head_whole, gathers_more, gathers_all, gathers_fault, run_fault}
use Rattle.image_log.proofs.log.entries_of.Goals as goal

left_of : (xs ys : List ℕ) (i : ℕ) → ys ≡ xs → i < length ys → drop i xs ≡ get_or ys i 0 ∷ drop (suc i) xs
left_of xs ys i same lt = subst (λ (l : List ℕ). drop i l ≡ get_or ys i 0 ∷ drop (suc i) l) same (drop-cons ys i 0 lt)

pub entry_of-requires-clause-small : goal.entry_of-requires-clause-small
entry_of-requires-clause-small c =
    let xs = c.args.run.now.sizes.items in
    let i = c.loop-size.size-index in
    let left = left_of xs c.deref-size-items.result.now i c.deref-size-items.ensures.value c.loop-size-test.true in
    let head = head_whole c.args.header.now c.args.keys.now c.args.log.now c.loop-size.first (get_or c.deref-size-items.result.now i 0) (drop (suc i) xs) c.args.run.now.end (subst (λ (l : List ℕ). MakeWholeMtrs c.args.header.now.blocks c.args.log.now c.loop-size.first l c.args.run.now.end) left c.loop-size.invariant.rest) in
    let within = head.1 in
    let small = c.requires.small in
    omega (arith, within, small)

pub entry_of-requires-clause-whole : goal.entry_of-requires-clause-whole
entry_of-requires-clause-whole c =
    let xs = c.args.run.now.sizes.items in
    let i = c.loop-size.size-index in
    let left = left_of xs c.deref-size-items.result.now i c.deref-size-items.ensures.value c.loop-size-test.true in
    (head_whole c.args.header.now c.args.keys.now c.args.log.now c.loop-size.first (get_or c.deref-size-items.result.now i 0) (drop (suc i) xs) c.args.run.now.end (subst (λ (l : List ℕ). MakeWholeMtrs c.args.header.now.blocks c.args.log.now c.loop-size.first l c.args.run.now.end) left c.loop-size.invariant.rest)).0

pub returns-in_err-entry_of-clause-fault : goal.returns-in_err-entry_of-clause-fault
returns-in_err-entry_of-clause-fault c =
    let is : IsErrAnd c.from_residual.result (λ e. e ≡ c.in_err-entry_of.field-0.0) = search rules in
    let xs = c.args.run.now.sizes.items in
    let i = c.loop-size.size-index in
    let size = get_or c.deref-size-items.result.now i 0 in
    let left = left_of xs c.deref-size-items.result.now i c.deref-size-items.ensures.value c.loop-size-test.true in
    let met = gathers_fault c.args.header.now c.args.keys.now c.args.log.now c.args.from xs c.args.run.now.end c.loop-size.entries.items c.loop-size.first i size c.in_err-entry_of.field-0.0 c.loop-size.invariant left c.in_err-entry_of.ensures.fault in
    handed (IsEntryFault c.args.header.now c.args.keys.now c.args.log.now c.args.from) c.from_residual.result c.in_err-entry_of.field-0.0 is (run_fault c.args.header.now c.args.keys.now c.args.log.now c.args.from c.in_err-entry_of.field-0.0 met)

pub loop-size-preserved : goal.loop-size-preserved
loop-size-preserved c =
    let xs = c.args.run.now.sizes.items in
    let i = c.loop-size.size-index in
    let size = get_or c.deref-size-items.result.now i 0 in
    let left = left_of xs c.deref-size-items.result.now i c.deref-size-items.ensures.value c.loop-size-test.true in
    let more = gathers_more c.args.header.now c.args.keys.now c.args.log.now c.args.from xs c.args.run.now.end c.loop-size.entries.items c.loop-size.first i size c.in_ok-entry_of.field-0 c.loop-size.invariant left c.in_ok-entry_of.ensures.ok in
    subst (λ (n : ℕ). Gathers c.args.header.now c.args.keys.now c.args.log.now c.args.from xs c.args.run.now.end c.push.new.self.items (c.loop-size.first + size) n) (sym (add-one i))
    (subst (λ (es : List (Logged (List Change))). Gathers c.args.header.now c.args.keys.now c.args.log.now c.args.from xs c.args.run.now.end es (c.loop-size.first + size) (suc i)) (sym c.in_ok-push.ensures.items) more)

pub returns-clause-ok : goal.returns-clause-ok
returns-clause-ok c =
    let xs = c.args.run.now.sizes.items in
    let e = ap length c.deref-size-items.ensures.value in
    gathers_all c.args.header.now c.args.keys.now c.args.log.now c.args.from xs c.args.run.now.end c.loop-size.entries.items c.loop-size.first c.loop-size.size-index c.loop-size.invariant (drop_all c.loop-size.size-index xs (omega (arith, e)))
