-- What a batch takes of the dirty pages of a space.
use Rattle.std.specs.Prelude.{◌≡◌, ℕ, nat_eq, nat_lt, ◌&&◌, if◌then◌else◌, List, [], ◌∷◌, ◌++◌, length, map, take, Option, Some, None, Err}
use Rattle.aes_core.specs.declared.algorithm.Algorithm.{Algorithm}
use Rattle.key_ring.specs.Ring.{RingEntry}
use Rattle.page_batch.specs.Batch.{BatchState, CopiedPage}
use Rattle.page_pool.specs.Pages.{PoolState, held_page, name_of_dirty}
use Rattle.page_pool.specs.declared.names.DirtyPage.{DirtyPage}
use Rattle.page_text.specs.Text.{Plain}
use Rattle.page_text.specs.declared.key.PageKey.{PageKey}
use Rattle.space_head.specs.declared.space.SpaceInfo.{SpaceInfo}
use Rattle.store_model.specs.Fold.{used}
use Rattle.store_model.specs.declared.contents.PlainPage.{PlainPage}
use Rattle.session_core.specs.Keys.{space_key}
use Rattle.session_core.specs.Session.{Running}
use Rattle.session_core.specs.Stops.{up_or_refused}
use Rattle.session_core.specs.declared.fault.EngineFault.{EngineFault}
use Rattle.session_core.specs.declared.fault.EngineFault.TheVariants.{OutOfMemory}

-- a page of a pool as it is sealed
abbrev pub plain_of_page : PlainPage → Plain
plain_of_page page = record { kind = page.kind; bytes = page.body }

-- the dirty pages of a space, in their order
abbrev pub dirty_of : ℕ → List DirtyPage → List DirtyPage
dirty_of s [] = []
dirty_of s (d ∷ ds) = if nat_eq d.space s then d ∷ dirty_of s ds else dirty_of s ds

-- a copy of one of them: its number, the LSN of its last change, and what the pool holds of it
abbrev pub copied_of : PoolState → DirtyPage → CopiedPage
copied_of pool d = record { page = d.page; lsn = d.lsn; plain = plain_of_page (used (held_page (name_of_dirty d) pool)) }

-- a batch with a copy of this page more, where it is one of its space and there is room
abbrev pub with_copy : PoolState → DirtyPage → BatchState → BatchState
with_copy pool d b = if nat_eq d.space b.space && nat_lt (length b.pages) b.room then record b { pages = b.pages ++ copied_of pool d ∷ [] } else b

-- the version that new texts of a space are sealed under: 0 where it isn't ciphered
abbrev pub sealing_version : SpaceInfo → ℕ → ℕ
sealing_version info active = if info.ciphered then active else 0

-- and the key: none at version 0
abbrev pub key_of : List RingEntry → Algorithm → SpaceInfo → ℕ → Option PageKey
key_of ring algorithm info version = if nat_eq version 0 then None else space_key ring algorithm info version

-- what is taken of a space: copies of the first n of its dirty pages, under the active version
abbrev pub taken_batch : {D : Type 0} → Running D → SpaceInfo → ℕ → BatchState
taken_batch r info n = record {
  space = info.space;
  version = sealing_version info r.active;
  key = key_of r.ring r.store.header.algorithm info (sealing_version info r.active);
  pages = map (copied_of r.pool) (take n (dirty_of info.space r.pool.dirty.entries));
  room = n;
}

-- Why nothing is taken: the session was stopped; or it wasn't, and the machine had no memory.
pub data IsTakeRefusal {D : Type 0} (r : Running D) : EngineFault → Type 0 where
  Stopped : (e : EngineFault) → up_or_refused r.disk.stop r.disk.turns ≡ Err e → IsTakeRefusal r e
  Refused : r.disk.stop ≡ None → IsTakeRefusal r OutOfMemory
