use Rattle.std.proofs.Common.{◌≡◌, ◌∙◌, ℕ, ◌≤◌, sym, ap, subst}
use Rattle.std.specs.List.{All}
use Rattle.redo_log.specs.Log.{durable}
use Rattle.session_core.specs.Checking.{first_block, run_begin}
use Rattle.session_core.specs.Session.{Running}
use Rattle.session_core.proofs.CheckpointLaws.{block_high, block_low, block_none, block_some, none_dirty_least}
use Rattle.session_core.proofs.session.SessionCore.run_begin.Goals as goal

pub returns-in-Some-clause-value : goal.returns-in-Some-clause-value
returns-in-Some-clause-value g c = block_some c.self.inside.pool.dirty.entries c.in-Some.first c.self.inside.log.next (sym c.in-Some.is ∙ c.oldest.ensures.value) ∙ ap run_begin c.self.view_is

pub returns-in-Some-clause-low : goal.returns-in-Some-clause-low
returns-in-Some-clause-low g c =
    let same = block_some c.self.inside.pool.dirty.entries c.in-Some.first c.self.inside.log.next (sym c.in-Some.is ∙ c.oldest.ensures.value) in
    let low = block_low c.self.inside.log c.self.invariant.numbers c.self.inside.pool.dirty.entries c.self.invariant.dirty.within in
    subst (λ (r : Running _). r.log.from ≤ c.in-Some.first) c.self.view_is (subst (λ (n : ℕ). c.self.inside.log.from ≤ n) (sym same) low)

pub returns-in-Some-clause-high : goal.returns-in-Some-clause-high
returns-in-Some-clause-high g c =
    let ds = c.self.inside.pool.dirty.entries in
    let same = block_some ds c.in-Some.first c.self.inside.log.next (sym c.in-Some.is ∙ c.oldest.ensures.value) in
    let least = subst (λ (n : ℕ). All (λ d. n ≤ d.first) ds) same c.in-Some.ensures.least in
    let high = block_high c.self.inside.log c.self.invariant.numbers ds c.self.invariant.dirty.within c.self.invariant.dirty.pending least in
    subst (λ (r : Running _). c.in-Some.first ≤ durable r.log) c.self.view_is (subst (λ (n : ℕ). n ≤ durable c.self.inside.log) (sym same) high)

pub returns-in-None-clause-value : goal.returns-in-None-clause-value
returns-in-None-clause-value g c = c.next.ensures.next ∙ block_none c.self.inside.pool.dirty.entries c.self.inside.log.next (sym c.in-None.is ∙ c.oldest.ensures.value) ∙ ap run_begin c.self.view_is

pub returns-in-None-clause-least : goal.returns-in-None-clause-least
returns-in-None-clause-least g c =
    let least = none_dirty_least c.self.inside.pool.dirty.entries c.self.inside.log.next (sym c.in-None.is ∙ c.oldest.ensures.value) in
    subst (λ (r : Running _). All (λ d. c.next.result ≤ d.first) r.pool.dirty.entries) c.self.view_is (subst (λ (n : ℕ). All (λ d. n ≤ d.first) c.self.inside.pool.dirty.entries) (sym c.next.ensures.next) least)

pub returns-in-None-clause-low : goal.returns-in-None-clause-low
returns-in-None-clause-low g c =
    let same = c.next.ensures.next ∙ block_none c.self.inside.pool.dirty.entries c.self.inside.log.next (sym c.in-None.is ∙ c.oldest.ensures.value) in
    let low = block_low c.self.inside.log c.self.invariant.numbers c.self.inside.pool.dirty.entries c.self.invariant.dirty.within in
    subst (λ (r : Running _). r.log.from ≤ c.next.result) c.self.view_is (subst (λ (n : ℕ). c.self.inside.log.from ≤ n) (sym same) low)

pub returns-in-None-clause-high : goal.returns-in-None-clause-high
returns-in-None-clause-high g c =
    let ds = c.self.inside.pool.dirty.entries in
    let none = sym c.in-None.is ∙ c.oldest.ensures.value in
    let same = c.next.ensures.next ∙ block_none ds c.self.inside.log.next none in
    let least = subst (λ (n : ℕ). All (λ d. n ≤ d.first) ds) (block_none ds c.self.inside.log.next none) (none_dirty_least ds c.self.inside.log.next none) in
    let high = block_high c.self.inside.log c.self.invariant.numbers ds c.self.invariant.dirty.within c.self.invariant.dirty.pending least in
    subst (λ (r : Running _). c.next.result ≤ durable r.log) c.self.view_is (subst (λ (n : ℕ). n ≤ durable c.self.inside.log) (sym same) high)
