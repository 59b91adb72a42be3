-- The key that texts of a space are sealed under is there exactly where their version isn't 0.
use Rattle.std.proofs.Common.{◌≡◌, ◌≢◌, ◌↔◌, ◌⊎◌, ℕ, ◌≤◌, Bool, true, false, true≢false, if◌then◌else◌, nat_eq, ne_eqb, List, [], ◌∷◌, map, Option, Some, None, IsSome, is_some, option_map, Result, Ok, Err, refl, sym, ap, ◌∙◌, subst, inl, inr, arith}
use Rattle.std.specs.Prelude.{IfErr}
use Rattle.std.proofs.lemmas.Bool.Decides.{nat_tests}
use Rattle.std.proofs.lemmas.Option.{none-some, same_Some}
use Rattle.aes_core.specs.declared.algorithm.Algorithm.{Algorithm}
use Rattle.key_ring.specs.Local.{local_key}
use Rattle.key_ring.specs.Ring.{RingEntry, ring_key}
use Rattle.page_text.specs.declared.key.PageKey.{PageKey}
use Rattle.space_head.specs.declared.space.SpaceInfo.{SpaceInfo}
use Rattle.store_form.specs.Plan.{IsKeyIdOf}
use Rattle.session_core.specs.Keys.{HasVersion, planned, space_key}
use Rattle.session_core.specs.Session.{Running}
use Rattle.session_core.specs.Spaces.{space_with_id}
use Rattle.session_core.specs.Taking.{IsTakeRefusal, Refused, key_of, sealing_version}
use Rattle.session_core.specs.declared.fault.EngineFault.{EngineFault}
use Rattle.session_core.specs.declared.fault.EngineFault.TheVariants.{OutOfMemory}

-- the key id of a space that is found is one of the spaces'
key_id_of : (spaces : List SpaceInfo) (s : ℕ) (info : SpaceInfo) → space_with_id spaces s ≡ Some info → IsKeyIdOf info.key_id (map planned spaces)
key_id_of [] s info is = absurd (none-some info is)
key_id_of (x ∷ xs) s info is = by (nat_eq x.space s) is (key_id_of xs s info)
  where
    by : (b : Bool) → (if b then Some x else space_with_id xs s) ≡ Some info → (space_with_id xs s ≡ Some info → IsKeyIdOf info.key_id (map planned xs)) → (x.key_id ≡ info.key_id) ⊎ IsKeyIdOf info.key_id (map planned xs)
    by true at later = inl (ap (λ (i : SpaceInfo). i.key_id) (same_Some x info at))
    by false at later = inr (later at)

some_map : {X Y : Type 0} (f : X → Y) (o : Option X) → is_some (option_map f o) ≡ is_some o
some_map f None = refl
some_map f (Some x) = refl

some_key : (ring : List RingEntry) (algorithm : Algorithm) (spaces : List SpaceInfo) (s active : ℕ) (info : SpaceInfo) → HasVersion ring active spaces → space_with_id spaces s ≡ Some info → IsSome (space_key ring algorithm info active)
some_key ring algorithm spaces s active info keyed is =
    some_map (λ local. record { local = local; algorithm = algorithm }) (local_key ring info.key_id active info.salt) ∙ some_map _ (ring_key ring info.key_id active) ∙ keyed info.key_id (inr (key_id_of spaces s info is))

-- the key of the version that new texts of a space of the store are sealed under
pub key_there : (ring : List RingEntry) (algorithm : Algorithm) (spaces : List SpaceInfo) (s active : ℕ) (info : SpaceInfo) → HasVersion ring active spaces → 1 ≤ active → space_with_id spaces s ≡ Some info
    → IsSome (key_of ring algorithm info (sealing_version info active)) ↔ (sealing_version info active ≢ 0)
key_there ring algorithm spaces s active info keyed some is = by info.ciphered
  where
    by : (b : Bool) → IsSome (key_of ring algorithm info (if b then active else 0)) ↔ ((if b then active else 0) ≢ 0)
    by true = ((λ there zero_is. omega (arith, some, zero_is)), (λ other. ap (λ (t : Bool). is_some (if t then None else space_key ring algorithm info active)) (ne_eqb active 0 other) ∙ some_key ring algorithm spaces s active info keyed is))
    by false = ((λ there. absurd (true≢false (sym there))), (λ other. absurd (other refl)))

-- and where it is taken for a session, by the values of the code
pub keyed_batch : (ring : List RingEntry) (algorithm : Algorithm) (spaces : List SpaceInfo) (s active : ℕ) (info : SpaceInfo) (version : ℕ) (key : Option PageKey) → HasVersion ring active spaces → 1 ≤ active → space_with_id spaces s ≡ Some info
    → version ≡ sealing_version info active → key ≡ key_of ring algorithm info version → IsSome key ↔ (version ≢ 0)
keyed_batch ring algorithm spaces s active info version key keyed some is version_is key_is =
    subst (λ (k : Option PageKey). IsSome k ↔ (version ≢ 0)) (sym key_is)
    (subst (λ (v : ℕ). IsSome (key_of ring algorithm info v) ↔ (v ≢ 0)) (sym version_is) (key_there ring algorithm spaces s active info keyed some is))

-- a batch that wasn't made was refused memory
pub no_batch : {D T : Type 0} (r : Running D) (result : Result T EngineFault) → r.disk.stop ≡ None → IfErr result (λ e. e ≡ OutOfMemory) → IfErr result (IsTakeRefusal r)
no_batch r (Ok batch) up why = tt
no_batch r (Err e) up why = subst (IsTakeRefusal r) (sym why) (Refused up)
