-- The least id whose key is missing, over the spaces of a plan.
use Rattle.std.proofs.Common.{◌≡◌, ◌≢◌, ◌⊎◌, ℕ, zero, suc, ◌+◌, ◌<◌, ◌≤◌, Bool, true, false, nat_le, if◌then◌else◌, List, [], ◌∷◌, ◌++◌, length, Option, Some, None, is_some, IsSome, refl, sym, ap, ◌∙◌, subst, inl, inr, arith}
use Rattle.std.specs.Prelude.{All, MatchOption}
use Rattle.std.proofs.lemmas.Bool.Decides.{nat_tests}
use Rattle.key_ring.specs.Ring.{RingEntry, ring_key}
use Rattle.store_form.specs.Plan.{HasNeededKeys, IsKeyIdOf, IsLeastMissing, NeedsKey, lesser_missing}
use Rattle.store_form.specs.declared.plan.SpacePlan.{SpacePlan}

-- what is the least after these spaces too
abbrev pub missing_after : List RingEntry → ℕ → Option ℕ → List SpacePlan → Option ℕ
missing_after keys active least [] = least
missing_after keys active least (p ∷ ps) = missing_after keys active (lesser_missing keys active least p.key_id) ps

module _ (keys : List RingEntry) (active : ℕ) where
  -- ids that are taken so far, and the least of them whose key is missing
  abbrev IsLeastOf : (ℕ → Type 0) → Option ℕ → Type 0
  IsLeastOf N None = (id : ℕ) → N id → is_some (ring_key keys id active) ≡ true
  IsLeastOf N (Some least) = N least × (is_some (ring_key keys least active) ≡ false) × ((id : ℕ) → N id → is_some (ring_key keys id active) ≡ false → least ≤ id)

  abbrev Or : (ℕ → Type 0) → ℕ → ℕ → Type 0
  Or N one id = N id ⊎ (one ≡ id)

  step : (N : ℕ → Type 0) (least : Option ℕ) (one : ℕ) → IsLeastOf N least → IsLeastOf (Or N one) (lesser_missing keys active least one)
  step N None one was = by (is_some (ring_key keys one active)) refl
    where
      by : (b : Bool) → is_some (ring_key keys one active) ≡ b → IsLeastOf (Or N one) (if is_some (ring_key keys one active) then None else Some one)
      by true there = subst (λ (t : Bool). IsLeastOf (Or N one) (if t then None else Some one)) (sym there) (λ id. has id)
        where
          has : (id : ℕ) → Or N one id → is_some (ring_key keys id active) ≡ true
          has id (inl taken) = was id taken
          has id (inr is) = ap (λ (n : ℕ). is_some (ring_key keys n active)) (sym is) ∙ there
      by false gone = subst (λ (t : Bool). IsLeastOf (Or N one) (if t then None else Some one)) (sym gone) (inr refl, gone, λ id. least_is id)
        where
          least_is : (id : ℕ) → Or N one id → is_some (ring_key keys id active) ≡ false → one ≤ id
          least_is id (inl taken) none = let t = was id taken in absurd (cc)
          least_is id (inr is) none = omega (arith, is)
  step N (Some least) one (taken, gone, below) = by (is_some (ring_key keys one active)) refl
    where
      both : (b : Bool) → nat_le least one ≡ b → is_some (ring_key keys one active) ≡ false → IsLeastOf (Or N one) (if nat_le least one then Some least else Some one)
      both true le none = subst (λ (t : Bool). IsLeastOf (Or N one) (if t then Some least else Some one)) (sym le) (inl taken, gone, λ id. least_is id)
        where
          least_is : (id : ℕ) → Or N one id → is_some (ring_key keys id active) ≡ false → least ≤ id
          least_is id (inl there) absent = below id there absent
          least_is id (inr is) absent = let e : least ≤ one = grind (arith, nat_tests) in omega (arith, e, is)
      both false gt none = subst (λ (t : Bool). IsLeastOf (Or N one) (if t then Some least else Some one)) (sym gt) (inr refl, none, λ id. least_is id)
        where
          least_is : (id : ℕ) → Or N one id → is_some (ring_key keys id active) ≡ false → one ≤ id
          least_is id (inl there) absent = let e : one < least = grind (arith, nat_tests) in let l = below id there absent in omega (arith, e, l)
          least_is id (inr is) absent = omega (arith, is)

      by : (b : Bool) → is_some (ring_key keys one active) ≡ b → IsLeastOf (Or N one) (if is_some (ring_key keys one active) then Some least else (if nat_le least one then Some least else Some one))
      by true there = subst (λ (t : Bool). IsLeastOf (Or N one) (if t then Some least else (if nat_le least one then Some least else Some one))) (sym there) (inl taken, gone, λ id. least_is id)
        where
          least_is : (id : ℕ) → Or N one id → is_some (ring_key keys id active) ≡ false → least ≤ id
          least_is id (inl has) absent = below id has absent
          least_is id (inr is) absent = let e : is_some (ring_key keys id active) ≡ true = ap (λ (n : ℕ). is_some (ring_key keys n active)) (sym is) ∙ there in absurd (cc)
      by false none = subst (λ (t : Bool). IsLeastOf (Or N one) (if t then Some least else (if nat_le least one then Some least else Some one))) (sym none) (both (nat_le least one) refl none)

  -- over all the spaces
  all : (N : ℕ → Type 0) (least : Option ℕ) (ps : List SpacePlan) → IsLeastOf N least → IsLeastOf (λ id. N id ⊎ IsKeyIdOf id ps) (missing_after keys active least ps)
  all N None [] was = λ id. has id
    where
      has : (id : ℕ) → N id ⊎ ⊥ → is_some (ring_key keys id active) ≡ true
      has id (inl taken) = was id taken
      has id (inr none) = absurd none
  all N (Some least) [] (taken, gone, below) = (inl taken, gone, λ id. least_is id)
    where
      least_is : (id : ℕ) → N id ⊎ ⊥ → is_some (ring_key keys id active) ≡ false → least ≤ id
      least_is id (inl there) absent = below id there absent
      least_is id (inr none) absent = absurd none
  all N least (p ∷ ps) was = same (missing_after keys active (lesser_missing keys active least p.key_id) ps) (all (Or N p.key_id) (lesser_missing keys active least p.key_id) ps (step N least p.key_id was))
    where
      to : (id : ℕ) → (N id ⊎ ((p.key_id ≡ id) ⊎ IsKeyIdOf id ps)) → (Or N p.key_id id ⊎ IsKeyIdOf id ps)
      to id (inl taken) = inl (inl taken)
      to id (inr (inl is)) = inl (inr is)
      to id (inr (inr rest)) = inr rest

      from : (id : ℕ) → (Or N p.key_id id ⊎ IsKeyIdOf id ps) → (N id ⊎ ((p.key_id ≡ id) ⊎ IsKeyIdOf id ps))
      from id (inl (inl taken)) = inl taken
      from id (inl (inr is)) = inr (inl is)
      from id (inr rest) = inr (inr rest)

      same : (r : Option ℕ) → IsLeastOf (λ id. Or N p.key_id id ⊎ IsKeyIdOf id ps) r → IsLeastOf (λ id. N id ⊎ ((p.key_id ≡ id) ⊎ IsKeyIdOf id ps)) r
      same None has = λ id taken. has id (to id taken)
      same (Some k) (taken, gone, below) = (from k taken, gone, λ id there absent. below id (to id there) absent)

  abbrev One : ℕ → Type 0
  One id = ⊥

  -- and the log
  abbrev first : Option ℕ
  first = lesser_missing keys active None 1

  none_first : IsLeastOf (λ id. ⊥) None
  none_first = λ id none. absurd none

  not_some : (x : Option (List ℕ)) → is_some x ≡ false → x ≡ None
  not_some None is = refl
  not_some (Some v) is = absurd (cc)

  pub least_missing : (ps : List SpacePlan) → MatchOption (missing_after keys active (lesser_missing keys active None 1) ps) (HasNeededKeys keys active ps) (IsLeastMissing keys active ps)
  least_missing ps = by (missing_after keys active first ps) (all (Or (λ id. ⊥) 1) first ps (step (λ id. ⊥) None 1 none_first))
    where
      needs : (id : ℕ) → NeedsKey ps id → Or (λ n. ⊥) 1 id ⊎ IsKeyIdOf id ps
      needs id (inl is) = inl (inr (sym is))
      needs id (inr rest) = inr rest

      needed : (id : ℕ) → Or (λ n. ⊥) 1 id ⊎ IsKeyIdOf id ps → NeedsKey ps id
      needed id (inl (inl none)) = absurd none
      needed id (inl (inr is)) = inl (sym is)
      needed id (inr rest) = inr rest

      by : (r : Option ℕ) → IsLeastOf (λ id. Or (λ n. ⊥) 1 id ⊎ IsKeyIdOf id ps) r → MatchOption r (HasNeededKeys keys active ps) (IsLeastMissing keys active ps)
      by None has = λ id need. has id (needs id need)
      by (Some k) (taken, gone, below) = record {
        needed = needed k taken;
        missing = not_some (ring_key keys k active) gone;
        least = λ other need absent. below other (needs other need) (ap is_some absent);
      }
