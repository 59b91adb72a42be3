-- What calls leave of a disk that counts its turns and stops at the first call that isn't answered Ok.
use Rattle.std.specs.Prelude.{◌≡◌, ℕ, ◌+◌, ◌-◌, ◌^◌, min, Bool, if◌then◌else◌, Result, OnOk, IfErr, List, [], ◌∷◌, ◌++◌, Option, Some, None, refl}
use Rattle.std.proofs.Common.{sym, ◌∙◌, ap, subst}
use Rattle.std.proofs.lemmas.Option.{same_Some, none-some}
use mathlib.Core.List.{append_assoc}
use Rattle.std.proofs.Math.Nat.{add_assoc, add_comm, zero-add}
use Rattle.cause_core.specs.Counts.{Rose}
use Rattle.disk_model.specs.Event.{Event, Open, Make, Write, Sync, Tell}
use Rattle.disk_model.specs.Past.{Past, MayGrow}
use Rattle.disk_model.specs.declared.names.DiskError.{DiskError}
use Rattle.disk_model.specs.declared.names.DiskError.TheVariants.{Failed, NoMemory}
use Rattle.counted_disk.specs.declared.counted.Counted.{Counted}
use Rattle.counted_disk.specs.declared.counted.Stop.{Stop}

-- the count of turns stays at the end of a u64
abbrev pub capped : ℕ → ℕ
capped n = min n (2 ^ 64 - 1)

-- how many turns an event is: one where it is a write or a sync
abbrev pub turns_of_event : Event → ℕ
turns_of_event (Open files ms ws) = 0
turns_of_event (Make f n) = 0
turns_of_event (Write f at bytes shows) = 1
turns_of_event (Sync f) = 1
turns_of_event (Tell m) = 0

-- how many turns there are among events
abbrev pub turns_among : List Event → ℕ
turns_among [] = 0
turns_among (e ∷ es) = turns_of_event e + turns_among es

-- how many turns the call was that stopped the disk
abbrev pub turns_of_stop : Stop → ℕ
turns_of_stop s = if s.in_turn then 1 else 0

-- What is known of such a disk: the past, the faults and refusals of the disk inside, its turns, and what stopped it.
pub record CountState : Type 0 where
  pub past : Past
  pub faults : ℕ
  pub refusals : ℕ
  pub turns : ℕ
  pub stop : Option Stop

-- what is known of a disk that counts, by what is known of the one inside
abbrev pub count_of : {D : Type 0} → (D → Past) → (D → ℕ) → (D → ℕ) → Counted D → CountState
count_of past faults refusals c = record { past = past c.disk; faults = faults c.disk; refusals = refusals c.disk; turns = c.turns; stop = c.stop }

-- the past goes on by events with n turns among them, where it is told
pub data GoesOn (n : ℕ) (old new : Past) : Type 0 where
  Untold : old ≡ None → new ≡ None → GoesOn n old new
  Told : (es news : List Event) → old ≡ Some es → new ≡ Some (news ++ es) → turns_among news ≡ n → GoesOn n old new

-- the count is n turns higher
abbrev pub AddsTurns : ℕ → ℕ → ℕ → Type 0
AddsTurns n old new = (k : ℕ) → old ≡ capped k → new ≡ capped (k + n)

-- a disk that failed has counted a fault, and one that had no memory has met none
pub record IsStopCause (s : Stop) (old new : CountState) : Type 0 where
  pub failed : s.error ≡ Failed → Rose old.faults new.faults
  pub refused : s.error ≡ NoMemory → Rose old.refusals new.refusals
  pub no_fault : s.error ≡ NoMemory → new.faults ≡ old.faults

-- What calls leave. Either nothing was changed, as by calls of a disk that was stopped; or all calls were answered Ok; or those up to one were, which was answered an error, and whose own event may be there.
pub data IsCounted (old new : CountState) : Type 0 where
  Stays : new ≡ old → IsCounted old new
  Runs : (n : ℕ) → GoesOn n old.past new.past → AddsTurns n old.turns new.turns → old.stop ≡ None → new.stop ≡ None → new.faults ≡ old.faults → new.refusals ≡ old.refusals → IsCounted old new
  Stops : (n : ℕ) (mid : Past) (s : Stop) → GoesOn n old.past mid → MayGrow (λ e. turns_of_event e ≡ turns_of_stop s) mid new.past → AddsTurns (n + turns_of_stop s) old.turns new.turns → old.stop ≡ None → new.stop ≡ Some s → IsStopCause s old new → IsCounted old new

-- One call of a disk that wasn't stopped: it is a turn or isn't, it leaves the disk running at Ok, and else is what stopped it.
pub record RunsOn {T : Type 0} (in_turn : Bool) (old new : ℕ) (stop : Option Stop) (result : Result T DiskError) : Type 0 where
  pub turn : AddsTurns (if in_turn then 1 else 0) old new
  pub ok : OnOk result (stop ≡ None)
  pub err : IfErr result (λ e. stop ≡ Some (record { error = e; in_turn = in_turn }))

-- the calls that a stopped disk has answered by this error are one more, up to the end of a u64
abbrev pub faults_after : DiskError → ℕ → ℕ
faults_after Failed n = capped (n + 1)
faults_after NoMemory n = n

abbrev pub refusals_after : DiskError → ℕ → ℕ
refusals_after Failed n = n
refusals_after NoMemory n = capped (n + 1)

-- the answers of one error, where another or the same stopped the disk
abbrev pub answers_of : DiskError → DiskError → ℕ → ℕ
answers_of Failed Failed since = since + 1
answers_of Failed NoMemory since = 0
answers_of NoMemory Failed since = 0
answers_of NoMemory NoMemory since = since + 1

-- How often the disk has answered Failed: never while it runs, once where that stopped it, and then as often as it was called.
abbrev pub faults_told : Option Stop → ℕ → ℕ
faults_told None since = 0
faults_told (Some s) since = answers_of s.error Failed since

-- and how often it had no memory
abbrev pub refusals_told : Option Stop → ℕ → ℕ
refusals_told None since = 0
refusals_told (Some s) since = answers_of s.error NoMemory since

-- this error has stopped the disk
abbrev pub IsStoppedBy : DiskError → Option Stop → Type 0
IsStoppedBy e None = ⊥
IsStoppedBy e (Some s) = s.error ≡ e

turns_joined : (xs ys : List Event) → turns_among (xs ++ ys) ≡ turns_among xs + turns_among ys
turns_joined [] ys = sym (zero-add (turns_among ys))
turns_joined (x ∷ xs) ys = ap (λ n. turns_of_event x + n) (turns_joined xs ys) ∙ sym (add_assoc (turns_of_event x) (turns_among xs) (turns_among ys))

goes_on_then : (n m : ℕ) (a b c : Past) → GoesOn n a b → GoesOn m b c → GoesOn (n + m) a c
goes_on_then n m a b c (Untold x y) (Untold z w) = Untold x w
goes_on_then n m a b c (Untold x y) (Told es news z w k) = absurd (none-some _ (sym y ∙ z))
goes_on_then n m a b c (Told es news x y k) (Untold z w) = absurd (none-some _ (sym z ∙ y))
goes_on_then n m a b c (Told es news x y k) (Told mid more z w j) =
    Told es (more ++ news) x
    (w ∙ ap (λ l. Some (more ++ l)) (same_Some _ _ (sym z ∙ y)) ∙ ap Some (sym (append_assoc more news es)))
    (turns_joined more news ∙ ap (λ t. t + turns_among news) j ∙ ap (λ t. m + t) k ∙ add_comm m n)

adds_then : (n m a b c : ℕ) → AddsTurns n a b → AddsTurns m b c → AddsTurns (n + m) a c
adds_then n m a b c p q k is = q (k + n) (p k is) ∙ ap capped (add_assoc k n m)

pub counts_none : (s : CountState) → IsCounted s s
counts_none s = Stays refl

pub counts_then : (a b c : CountState) → IsCounted a b → IsCounted b c → IsCounted a c
counts_then a b c p (Stays is) = subst (λ x. IsCounted a x) (sym is) p
counts_then a b c (Stays is) q = subst (λ x. IsCounted x c) is q
counts_then a b c (Runs n g t o w f r) (Runs m h u v x i j) = Runs (n + m) (goes_on_then n m _ _ _ g h) (adds_then n m _ _ _ t u) o x (i ∙ f) (j ∙ r)
counts_then a b c (Runs n g t o w f r) (Stops m mid s h e u v x k) =
    Stops (n + m) mid s (goes_on_then n m _ _ _ g h) e
    (λ i is. adds_then n (m + turns_of_stop s) _ _ _ t u i is ∙ ap (λ z. capped (i + z)) (sym (add_assoc n m (turns_of_stop s)))) o x
    (record { failed = λ is. subst (λ z. Rose z c.faults) f (k.failed is); refused = λ is. subst (λ z. Rose z c.refusals) r (k.refused is); no_fault = λ is. k.no_fault is ∙ f })
counts_then a b c (Stops n mid s g e t o w k) (Runs m h u v x i j) = absurd (none-some _ (sym v ∙ w))
counts_then a b c (Stops n mid s g e t o w k) (Stops m mid' s' h e' u v x k') = absurd (none-some _ (sym v ∙ w))
