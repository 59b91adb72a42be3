-- The keys of a session, and what a version needs of them.
use Rattle.std.specs.Prelude.{ℕ, List, map, Option, option_map}
use Rattle.aes_core.specs.declared.algorithm.Algorithm.{Algorithm}
use Rattle.key_ring.specs.Ring.{RingEntry}
use Rattle.key_ring.specs.Local.{local_key}
use Rattle.page_text.specs.declared.key.PageKey.{PageKey}
use Rattle.redo_text.specs.declared.key.RedoKey.{RedoKey}
use Rattle.space_head.specs.declared.space.SpaceInfo.{SpaceInfo}
use Rattle.store_form.specs.Plan.{HasNeededKeys, IsLeastMissing}
use Rattle.store_form.specs.declared.plan.SpacePlan.{SpacePlan}

-- the key of a space's pages at a version, if it is there
abbrev pub space_key : List RingEntry → Algorithm → SpaceInfo → ℕ → Option PageKey
space_key ring algorithm info version = option_map (λ local. record { local = local; algorithm = algorithm }) (local_key ring info.key_id version info.salt)

-- the key of the log's blocks at a version, if it is there
abbrev pub log_key : List RingEntry → Algorithm → List ℕ → ℕ → Option RedoKey
log_key ring algorithm salt version = option_map (λ local. record { version = version; local = local; algorithm = algorithm }) (local_key ring 1 version salt)

-- a space as it would be planned
abbrev pub planned : SpaceInfo → SpacePlan
planned info = record { space = info.space; pages = info.pages; key_id = info.key_id; ciphered = info.ciphered }

-- the ring has this version under the id of the log and under the key id of each of the spaces
abbrev pub HasVersion : List RingEntry → ℕ → List SpaceInfo → Type 0
HasVersion ring version spaces = HasNeededKeys ring version (map planned spaces)

-- the least of these ids under which it lacks the version
abbrev pub IsLeastIdLacking : List RingEntry → ℕ → List SpaceInfo → ℕ → Type 0
IsLeastIdLacking ring version spaces id = IsLeastMissing ring version (map planned spaces) id
