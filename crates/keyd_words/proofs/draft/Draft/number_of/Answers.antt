use Rattle.std.proofs.Common.{rules, ◌≡◌, ◌≢◌, ◌+◌, take, get_or, arith, sym, ◌∙◌, ap, Option, Some, None, if◌then◌else◌, refl, ℕ}
use Rattle.std.proofs.lemmas.List.{take_more, take_all}
use Rattle.keyd_words.specs.declared.draft.NamedNumber.{NamedNumber}
use Rattle.keyd_words.specs.declared.table.OptionName.TheVariants.{KeyFile}
use Rattle.keyd_words.specs.Plans.{last_found, first_of_two}
use Rattle.keyd_words.specs.Drafts.{number_under, number_among}
use Rattle.keyd_words.proofs.TableLemmas.{same_word, other_word}
use Rattle.keyd_words.proofs.PlanLemmas.{last-push}
use Rattle.keyd_words.proofs.draft.Draft.number_of.Goals as goal
use Rattle.keyd_words.proofs.draft.Draft.number_of.Goals.{then-is, else-is}

pub loop-set-init : goal.loop-set-init
unfolding last_found
loop-set-init c = refl

pub loop-set-preserved : goal.loop-set-preserved
loop-set-preserved c =
    let items = c.deref-set-items.result.now in
    let i = c.loop-set.set-index in
    let f = c.args.name in
    let item : NamedNumber = get_or items i (record { name = KeyFile; number = 0 }) in
    let so_far = number_among f (take i items) in
    let Found : Option ℕ → Option ℕ = λ o. first_of_two o so_far in
    let step : number_among f (take (i + 1) items) ≡ Found (number_under f item) =
    ap (number_among f) (take_more items i (record { name = KeyFile; number = 0 }) c.loop-set-test.true) ∙ last-push (number_under f) (take i items) item in
    elim c.if-is.branch [
      | then-is w ↦ let same : item.name ≡ f = search (rules, c.is.ensures, w.if-is.true) in
          let under : number_under f item ≡ Some item.number = ap (λ b. if b then Some item.number else None) (same_word item.name f same) in
          w.found-is ∙ sym (step ∙ ap Found under)
      | else-is w ↦ let other : item.name ≢ f = search (rules, c.is.ensures, w.if-is.false) in
          let under : number_under f item ≡ None = ap (λ b. if b then Some item.number else None) (other_word item.name f other) in
          w.found-is ∙ c.loop-set.invariant ∙ sym (step ∙ ap Found under)
    ]

pub returns : goal.returns
returns c =
    let items = c.deref-set-items.result.now in
    c.loop-set.invariant ∙ ap (number_among c.args.name) (take_all c.loop-set.set-index items (omega (arith, c.loop-set-test.false)) ∙ c.deref-set-items.ensures.value)
