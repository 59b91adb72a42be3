-- Events of a disk in a row, and what holds at each moment among them.
use Rattle.std.proofs.Common.{◌≡◌, ◌⊎◌, ℕ, List, [], ◌∷◌, ◌++◌, Some, None, refl, sym, ap, ◌∙◌, subst, inl, inr, length}
use Rattle.disk_model.specs.Event.{Event, Open, Make, Write, Sync, Tell}
use Rattle.disk_model.specs.Past.{Past, grow, At, Throughout, MayGrow, Is, IsWrite}
use Rattle.disk_model.specs.declared.names.FileName.{FileName}
use Rattle.disk_model.proofs.Moments.{begins, throughout_grows, and_then, at_each, at_grow}
use Rattle.store_form.specs.Creation.{events_after, past_after, IsAttempt, IsStopped}

pub past_after-append : (a b : List Event) (old : Past) → past_after (a ++ b) old ≡ past_after b (past_after a old)
past_after-append [] b old = refl
past_after-append (e ∷ a) b old = past_after-append a b (grow e old)

pub events_after-append : (a b es : List Event) → events_after (a ++ b) es ≡ events_after b (events_after a es)
events_after-append [] b es = refl
events_after-append (e ∷ a) b es = events_after-append a b (e ∷ es)

pub past_after-some : (steps es : List Event) → past_after steps (Some es) ≡ Some (events_after steps es)
past_after-some [] es = refl
past_after-some (e ∷ steps) es = past_after-some steps (e ∷ es)

-- ---- how far they went

pub stopped_here : (steps : List Event) (old new : Past) → new ≡ old → IsStopped steps old new
stopped_here [] old new is = is
stopped_here (e ∷ steps) old new is = inl is

pub stopped_first : (a b : List Event) (old new : Past) → IsStopped a old new → IsStopped (a ++ b) old new
stopped_first [] b old new is = stopped_here b old new is
stopped_first (e ∷ a) b old new (inl is) = inl is
stopped_first (e ∷ a) b old new (inr (inl is)) = inr (inl is)
stopped_first (e ∷ a) b old new (inr (inr is)) = inr (inr (stopped_first a b (grow e old) new is))

pub stopped_then : (a b : List Event) (old mid new : Past) → mid ≡ past_after a old → IsStopped b mid new → IsStopped (a ++ b) old new
stopped_then [] b old mid new is stop = subst (λ (h : Past). IsStopped b h new) is stop
stopped_then (e ∷ a) b old mid new is stop = inr (inr (stopped_then a b (grow e old) mid new is stop))

pub make_stopped : (f : FileName) (n : ℕ) (rest : List Event) (old new : Past) → MayGrow (Is (Make f n)) old new → IsStopped (Make f n ∷ rest) old new
make_stopped f n rest old new (inl is) = inl is
make_stopped f n rest old new (inr (e, same, is)) = inr (inr (stopped_here rest (grow (Make f n) old) new (is ∙ ap (λ (x : Event). grow x old) same)))

pub write_stopped : (f : FileName) (at : ℕ) (bytes : List ℕ) (rest : List Event) (old new : Past) → MayGrow (IsWrite f at bytes) old new → IsStopped (Write f at bytes bytes ∷ rest) old new
write_stopped f at bytes rest old new (inl is) = inl is
write_stopped f at bytes rest old new (inr (e, kind, is)) = inr (inl (e, kind, is))

-- ---- what holds at each moment

-- P of a moment, also once the write that is next was attempted and failed
abbrev pub AtAttempt : (List Event → Type 0) → Event → List Event → Type 0
AtAttempt P (Write f at bytes shows) m = (other : List ℕ) → length other ≡ length bytes → P (Write f at bytes other ∷ m)
AtAttempt P (Open files ms ws) m = Unit {0}
AtAttempt P (Make f n) m = Unit {0}
AtAttempt P (Sync f) m = Unit {0}
AtAttempt P (Tell told) m = Unit {0}

abbrev pub AtEach : (List Event → Type 0) → List Event → List Event → Type 0
AtEach P [] m = P m
AtEach P (e ∷ steps) m = P m × AtAttempt P e m × AtEach P steps (e ∷ m)

module _ (P : List Event → Type 0) where
  pub each_append : (a b m : List Event) → AtEach P a m → AtEach P b (events_after a m) → AtEach P (a ++ b) m
  each_append [] b m first second = second
  each_append (e ∷ a) b m first second = (first.0, first.1, each_append a b (e ∷ m) first.2 second)

  pub at_first : (steps m : List Event) → AtEach P steps m → P m
  at_first [] m each = each
  at_first (e ∷ steps) m each = each.0

  one_more : (e : Event) (steps : List Event) (old : Past) → At (AtEach P (e ∷ steps)) old → Throughout P old (grow e old)
  one_more e steps old at = throughout_grows P old old e (begins P old (at_each (λ es each. each.0) at)) (at_grow e (λ es each. at_first steps (e ∷ es) each.2) at)

  behind : (e : Event) (steps : List Event) (old : Past) → At (AtEach P (e ∷ steps)) old → At (AtEach P steps) (grow e old)
  behind e steps old at = at_grow e (λ es each. each.2) at

  pub moments_after : (steps : List Event) (old : Past) → At (AtEach P steps) old → Throughout P old (past_after steps old)
  moments_after [] old at = begins P old at
  moments_after (e ∷ steps) old at = and_then P old (grow e old) (past_after steps (grow e old)) (one_more e steps old at) (moments_after steps (grow e old) (behind e steps old at))

  attempted : (e : Event) (steps : List Event) (old new : Past) → At (AtEach P (e ∷ steps)) old → IsAttempt e old new → Throughout P old new
  attempted (Write f at bytes shows) steps old new each (d, (other, long, is), grown) =
      subst (λ (h : Past). Throughout P old h) (sym (grown ∙ ap (λ (x : Event). grow x old) is))
      (throughout_grows P old old (Write f at bytes other) (begins P old (at_each (λ es all. all.0) each)) (at_grow (Write f at bytes other) (λ es all. all.1 other long) each))
  attempted (Open files ms ws) steps old new each none = absurd none
  attempted (Make f n) steps old new each none = absurd none
  attempted (Sync f) steps old new each none = absurd none
  attempted (Tell m) steps old new each none = absurd none

  pub moments_stopped : (steps : List Event) (old new : Past) → At (AtEach P steps) old → IsStopped steps old new → Throughout P old new
  moments_stopped [] old new at is = subst (λ (h : Past). Throughout P old h) (sym is) (begins P old at)
  moments_stopped (e ∷ steps) old new at (inl is) = subst (λ (h : Past). Throughout P old h) (sym is) (begins P old (at_each (λ es each. each.0) at))
  moments_stopped (e ∷ steps) old new at (inr (inl attempt)) = attempted e steps old new at attempt
  moments_stopped (e ∷ steps) old new at (inr (inr rest)) = and_then P old (grow e old) new (one_more e steps old at) (moments_stopped steps (grow e old) new (behind e steps old at) rest)

-- what is known of the events with these behind them is known of the past
pub at_after : {P Q : List Event → Type 0} (steps : List Event) (old : Past) → ((es : List Event) → P es → Q (events_after steps es)) → At P old → At Q (past_after steps old)
at_after [] old goes at = at_each goes at
at_after (e ∷ steps) old goes at = at_after steps (grow e old) (λ es same. same) (at_grow e goes at)

-- a weaker fact at each moment
pub each_weaker : {P Q : List Event → Type 0} (steps m : List Event) → ((now : List Event) → P now → Q now) → AtEach P steps m → AtEach Q steps m
each_weaker [] m goes each = goes m each
each_weaker {P = P} {Q = Q} (e ∷ steps) m goes each = (goes m each.0, attempt e each.1, each_weaker steps (e ∷ m) goes each.2)
  where
    attempt : (d : Event) → AtAttempt P d m → AtAttempt Q d m
    attempt (Open files ms ws) is = tt
    attempt (Make f n) is = tt
    attempt (Write f at bytes shows) is = λ other long. goes (Write f at bytes other ∷ m) (is other long)
    attempt (Sync f) is = tt
    attempt (Tell told) is = tt
