-- The first space whose floor is above a version.
use Rattle.std.proofs.Common.{◌≡◌, ℕ, zero, suc, ◌+◌, ◌<◌, ◌≤◌, List, [], ◌∷◌, ◌++◌, length, take, drop, get_or, Result, Ok, Err, OnOk, refl, sym, ap, ◌∙◌, subst, arith}
use Rattle.std.specs.Prelude.{IfErr}
use Rattle.std.proofs.lemmas.List.{take-append-drop}
use Rattle.byte_list.proofs.RangeLaws.{drop_item}
use Rattle.key_ring.specs.Ring.{RingEntry}
use Rattle.space_head.specs.declared.space.SpaceInfo.{SpaceInfo}
use Rattle.session_core.specs.Keys.{HasVersion}
use Rattle.session_core.specs.Spaces.{NoneAbove}
use Rattle.session_core.specs.Start.{IsFirstFloorAbove, IsNoBeginning, MayStart}
use Rattle.session_core.specs.declared.fault.StartFault.{StartFault}
use Rattle.session_core.specs.declared.fault.StartFault.TheVariants.{VersionBelowFloor}

-- none is above a later version
pub none_later : (version later : ℕ) (xs : List SpaceInfo) → version ≤ later → NoneAbove version xs → NoneAbove later xs
none_later version later [] le none = tt
none_later version later (x ∷ xs) le none = let below = none.0 in (omega (arith, le, below), none_later version later xs le none.1)

-- none of one space more
none_more : (version i : ℕ) (xs : List SpaceInfo) (x : SpaceInfo) → i < length xs → x ≡ get_or xs i x → x.floor ≤ version → NoneAbove version (take i xs) → NoneAbove version (take (suc i) xs)
none_more version i [] x lt is below none = absurd (omega (arith, lt))
none_more version zero (y ∷ xs) x lt is below none = let same : x.floor ≡ y.floor = ap (λ (s : SpaceInfo). s.floor) is in (omega (arith, same, below), tt)
none_more version (suc i) (y ∷ xs) x lt is below none = (none.0, none_more version i xs x (omega (arith, lt)) is below none.1)

pub none_next : (version i : ℕ) (xs : List SpaceInfo) (x : SpaceInfo) → i < length xs → x ≡ get_or xs i x → x.floor ≤ version → NoneAbove version (take i xs) → NoneAbove version (take (i + 1) xs)
none_next version i xs x lt is below none = let e : suc i ≡ i + 1 = omega arith in subst (λ (n : ℕ). NoneAbove version (take n xs)) e (none_more version i xs x lt is below none)

pub first_at : (version i : ℕ) (xs : List SpaceInfo) (x : SpaceInfo) → i < length xs → x ≡ get_or xs i x → version < x.floor → NoneAbove version (take i xs) → IsFirstFloorAbove version xs x
first_at version i xs x lt is above none = record {
  before = take i xs;
  behind = drop (i + 1) xs;
  is = sym (take-append-drop i xs) ∙ ap (λ (l : List SpaceInfo). take i xs ++ l) (drop_item xs i x lt is);
  above = above;
  none_before = none;
}

-- with the keys of a version, the floors decide
pub may_begin : (ring : List RingEntry) (version : ℕ) (spaces : List SpaceInfo) (r : Result (Unit {0}) StartFault) → HasVersion ring version spaces → OnOk r (NoneAbove version spaces) → OnOk r (MayStart ring version spaces)
may_begin ring version spaces (Ok done) keyed none = record { keyed = keyed; floors = none }
may_begin ring version spaces (Err e) keyed none = tt

pub no_beginning : (ring : List RingEntry) (version : ℕ) (spaces : List SpaceInfo) (r : Result (Unit {0}) StartFault) → HasVersion ring version spaces
    → IfErr r (λ e. (info : SpaceInfo) × IsFirstFloorAbove version spaces info × (e ≡ VersionBelowFloor info.space info.floor version)) → IfErr r (IsNoBeginning ring version spaces)
no_beginning ring version spaces (Ok done) keyed above = tt
no_beginning ring version spaces (Err e) keyed (info, first, is) = subst (IsNoBeginning ring version spaces) (sym is) (refl, keyed, (info, first, refl, refl))

-- the space at a place, whatever stands behind the end
pub own_at : (xs : List SpaceInfo) (i : ℕ) (d : SpaceInfo) → i < length xs → get_or xs i d ≡ get_or xs i (get_or xs i d)
own_at [] i d lt = absurd (omega (arith, lt))
own_at (x ∷ xs) zero d lt = refl
own_at (x ∷ xs) (suc i) d lt = own_at xs i d (omega (arith, lt))

pub on_ok : {T E : Type 0} (P : Type 0) (r : Result T E) → P → OnOk r P
on_ok P (Ok v) p = p
on_ok P (Err e) p = tt
