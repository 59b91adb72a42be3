-- What the bytes of a page's home are answered as by a session.
use Rattle.std.specs.Prelude.{◌≡◌, ℕ, List, MatchOption, Option, Some, None, Result, Ok, Err}
use Rattle.aes_core.specs.declared.algorithm.Algorithm.{Algorithm}
use Rattle.byte_list.specs.Fields.{be32_at}
use Rattle.key_ring.specs.Ring.{RingEntry}
use Rattle.space_head.specs.declared.space.Home.{Home}
use Rattle.space_head.specs.declared.space.SpaceInfo.{SpaceInfo}
use Rattle.store_form.specs.PageRead.{IsHomeOpened}
use Rattle.store_form.specs.declared.fault.RestFault.{RestFault}
use Rattle.store_form.specs.declared.fault.RestFault.TheVariants as rest
use Rattle.session_core.specs.Keys.{space_key}
use Rattle.session_core.specs.declared.fault.EngineFault.{EngineFault}
use Rattle.session_core.specs.declared.fault.EngineFault.TheVariants.{NoVersion, Damaged}

-- the refusal of a page by its home's bytes, if it is one
abbrev pub home_fault : EngineFault → Option RestFault
home_fault (NoVersion id version) = Some (rest.NoVersion id version)
home_fault (Damaged s p fault) = Some (rest.Damaged s p fault)
home_fault _ = None

-- a home of these bytes is answered as this, and this is left, under the key of the version that stands there
abbrev pub IsHomeAnswered : List RingEntry → Algorithm → SpaceInfo → ℕ → List ℕ → List ℕ → Result Home RestFault → Type 0
IsHomeAnswered ring algorithm info p bytes left result = IsHomeOpened info.space p info.key_id (space_key ring algorithm info (be32_at bytes 0)) bytes left result

-- what a session answers of it
abbrev pub OpensHome : List RingEntry → Algorithm → SpaceInfo → ℕ → List ℕ → List ℕ → Result (Unit {0}) EngineFault → Type 0
OpensHome ring algorithm info p bytes left (Ok done) = (home : Home) × IsHomeAnswered ring algorithm info p bytes left (Ok home)
OpensHome ring algorithm info p bytes left (Err e) = MatchOption (home_fault e) ⊥ (λ f. IsHomeAnswered ring algorithm info p bytes left (Err f))
