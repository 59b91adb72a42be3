-- What reading a page from its home gives, from its bytes and what they are answered as.
use Rattle.std.proofs.Common.{◌≡◌, ℕ, Bool, true, false, List, Option, Some, None, Result, Ok, Err, sym, subst}
use Rattle.std.specs.Prelude.{MatchBool, MatchOption}
use Rattle.aes_core.specs.declared.algorithm.Algorithm.{Algorithm}
use Rattle.counted_disk.specs.declared.counted.Counted.{Counted}
use Rattle.disk_model.specs.Past.{Past, At}
use Rattle.disk_model.specs.declared.names.FileName.TheVariants.{Space}
use Rattle.key_ring.specs.Ring.{RingEntry}
use Rattle.page_places.specs.Texts.{page_bytes, are_zero}
use Rattle.page_text.specs.declared.key.PageKey.{PageKey}
use Rattle.places.specs.Places.{shown}
use Rattle.space_head.specs.declared.space.Home.{Home}
use Rattle.space_head.specs.declared.space.Home.TheVariants.{Unused}
use Rattle.space_head.specs.declared.space.SpaceInfo.{SpaceInfo}
use Rattle.store_form.specs.PageRead.{IsHomeOpened}
use Rattle.store_form.specs.declared.fault.RestFault.{RestFault}
use Rattle.store_form.specs.declared.fault.RestFault.TheVariants.{DiskFault, OutOfMemory}
use Rattle.session_core.specs.Files.{IsStopOf}
use Rattle.session_core.specs.Opening.{IsHomeAnswered, OpensHome, home_fault}
use Rattle.session_core.specs.Reading.{FetchesPage, IsHomeRead}
use Rattle.session_core.specs.declared.fault.EngineFault.{EngineFault}
use Rattle.session_core.proofs.StopLaws.{stop_isnt_home}

-- a home's bytes are never answered as a refusal of the disk
no_fault_by : (b : Bool) (result : Result Home RestFault) (left bytes : List ℕ) → (result ≡ Ok Unused → ⊥) → MatchBool b ((result ≡ Ok Unused) × (left ≡ bytes)) ⊥ → ⊥
no_fault_by true result left bytes not_ok h = not_ok h.0
no_fault_by false result left bytes not_ok h = h

pub no_disk_fault : (s p id : ℕ) (key : Option PageKey) (bytes left : List ℕ) → IsHomeOpened s p id key bytes left (Err DiskFault) → ⊥
no_disk_fault s p id key bytes left h = no_fault_by (are_zero bytes) (Err DiskFault) left bytes (λ is. absurd (cc)) h

pub no_want : (s p id : ℕ) (key : Option PageKey) (bytes left : List ℕ) → IsHomeOpened s p id key bytes left (Err OutOfMemory) → ⊥
no_want s p id key bytes left h = no_fault_by (are_zero bytes) (Err OutOfMemory) left bytes (λ is. absurd (cc)) h

module _ {D : Type 0} (ring : List RingEntry) (algorithm : Algorithm) (info : SpaceInfo) (p : ℕ) (past : Past) (disk : Counted D) where
  -- the bytes were read, and taken apart
  pub fetched : (bytes left : List ℕ) (result : Result (Unit {0}) EngineFault) → disk.stop ≡ None → At (λ es. bytes ≡ shown (Space info.space) page_bytes p es) past → OpensHome ring algorithm info p bytes left result
      → FetchesPage ring algorithm info p past disk left result
  fetched bytes left (Ok done) none told (home, opened) = (home, record { bytes = bytes; told = told; opened = opened })
  fetched bytes left (Err e) none told opens = by (home_fault e) opens
    where
      by : (o : Option RestFault) → MatchOption o ⊥ (λ f. IsHomeAnswered ring algorithm info p bytes left (Err f)) → MatchOption o (IsStopOf disk e) (λ f. (disk.stop ≡ None) × IsHomeRead ring algorithm info p past left (Err f))
      by None h = absurd h
      by (Some f) h = (none, record { bytes = bytes; told = told; opened = h })

  -- or the disk was stopped
  pub stop_fetched : (left : List ℕ) (e : EngineFault) → IsStopOf disk e → FetchesPage ring algorithm info p past disk left (Err e)
  stop_fetched left e stop =
      subst (λ (o : Option RestFault). MatchOption o (IsStopOf disk e) (λ f. (disk.stop ≡ None) × IsHomeRead ring algorithm info p past left (Err f))) (sym (stop_isnt_home disk e stop)) stop
