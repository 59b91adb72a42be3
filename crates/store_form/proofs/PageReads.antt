-- What reading a page answers, by the bytes of its home.
use Rattle.std.proofs.Common.{◌≡◌, ℕ, Bool, true, false, if◌then◌else◌, List, Option, refl, sym, ap, ◌∙◌, subst, slice_index_or, option_map, Result, Ok, Err}
use Rattle.std.specs.Prelude.{MatchBool, IfOk}
use Rattle.aes_core.specs.declared.algorithm.Algorithm.{Algorithm}
use Rattle.byte_list.specs.Fields.{be32_at}
use Rattle.disk_model.specs.Past.{Past, At}
use Rattle.disk_model.specs.declared.names.FileName.TheVariants.{Space}
use Rattle.key_ring.specs.Ring.{RingEntry}
use Rattle.key_ring.specs.Local.{local_key}
use Rattle.page_places.specs.Texts.{page_bytes, are_zero}
use Rattle.page_text.specs.declared.key.PageKey.{PageKey}
use Rattle.places.specs.Places.{shown}
use Rattle.space_head.specs.declared.space.Home.{Home}
use Rattle.space_head.specs.declared.space.Home.TheVariants.{Unused, Clean, Dirty}
use Rattle.space_head.specs.declared.space.SpaceInfo.{SpaceInfo}
use Rattle.store_files.specs.Header.{HeldHeader}
use Rattle.store_files.specs.Pages.{key_at, key_id_of}
use Rattle.store_form.specs.PageRead.{IsHomeOpened, IsTextOpened, ReadsPage}
use Rattle.store_form.specs.Rest.{home_told, salt_in}
use Rattle.store_form.specs.declared.fault.RestFault.{RestFault}
use Rattle.store_form.specs.declared.fault.RestFault.TheVariants.{NoVersion, Damaged, DiskFault, OutOfMemory}
use Rattle.store_form.proofs.RestLaws.{IsInfo}

module _ (header : HeldHeader) (keys : List RingEntry) (salts : ℕ → List ℕ) (s p : ℕ) (past : Past) (bytes left : List ℕ) where
  pub page_read : (result : Result Home RestFault) → At (λ es. bytes ≡ shown (Space s) page_bytes p es) past → IsHomeOpened s p (key_id_of header.spaces s) (key_at header keys salts s (be32_at bytes 0)) bytes left result
      → ReadsPage header keys salts s p past left result
  page_read (Ok home) told opened = record { bytes = bytes; told = told; opened = opened }
  page_read (Err (NoVersion i version)) told opened = record { bytes = bytes; told = told; opened = opened }
  page_read (Err (Damaged space page fault)) told opened = record { bytes = bytes; told = told; opened = opened }
  page_read (Err DiskFault) told opened = tt
  page_read (Err OutOfMemory) told opened = tt

-- the key of the space that was found is the store's
pub key_found : (header : HeldHeader) (keys : List RingEntry) (ss : List SpaceInfo) (s p version : ℕ) (info : SpaceInfo) (a : Algorithm) → IsInfo header.spaces ss s p info → a ≡ header.algorithm
    → option_map (λ local. record { local = local; algorithm = a }) (local_key keys info.key_id version info.salt) ≡ key_at header keys (salt_in ss) s version
key_found header keys ss s p version info a is same =
    ap (λ (m : Algorithm). option_map (λ local. record { local = local; algorithm = m }) (local_key keys info.key_id version info.salt)) same
    ∙ ap (λ (i : ℕ). option_map (λ local. record { local = local; algorithm = header.algorithm }) (local_key keys i version info.salt)) is.key_id
    ∙ ap (λ (x : List ℕ). option_map (λ local. record { local = local; algorithm = header.algorithm }) (local_key keys (key_id_of header.spaces s) version x)) is.salt

-- the same with the numbers of the space that was found
pub opened_found : (s p id t q i : ℕ) (key other : Option PageKey) (bytes left : List ℕ) (result : Result Home RestFault) → t ≡ s → q ≡ p → i ≡ id → other ≡ key → IsHomeOpened t q i other bytes left result → IsHomeOpened s p id key bytes left result
opened_found s p id t q i key other bytes left result space page number keyed is =
    subst (λ (n : ℕ). IsHomeOpened n p id key bytes left result) space
    (subst (λ (n : ℕ). IsHomeOpened t n id key bytes left result) page
    (subst (λ (n : ℕ). IsHomeOpened t q n key bytes left result) number
    (subst (λ (k : Option PageKey). IsHomeOpened t q i k bytes left result) keyed is)))

same_home : (x y : Home) (a b : Result Home RestFault) → a ≡ Ok x → b ≡ Ok y → a ≡ b → x ≡ y
same_home x y a b here there e = cc

-- what is answered of a page is what its home tells
home_is : (s p id : ℕ) (key : Option PageKey) (bytes left : List ℕ) (home : Home) (result : Result Home RestFault) → result ≡ Ok home → IsHomeOpened s p id key bytes left result → home ≡ home_told bytes
home_is s p id key bytes left home result is opened = by (are_zero bytes) refl
  where
    text : (h : Home) (r : Result Home RestFault) → r ≡ Ok h → IsTextOpened s p id key bytes left r → h ≡ Clean (be32_at bytes 0)
    text h (Ok Unused) same opened = absurd opened
    text h (Ok Dirty) same opened = absurd opened
    text h (Ok (Clean version)) same opened = let e : Clean version ≡ h = cc in sym e ∙ ap Clean opened.0
    text h (Err e) same opened = absurd (cc)

    at : (z : Bool) → are_zero bytes ≡ z → MatchBool z ((result ≡ Ok Unused) × (left ≡ bytes)) (IsTextOpened s p id key bytes left result)
    at z zero = subst (λ (b : Bool). MatchBool b ((result ≡ Ok Unused) × (left ≡ bytes)) (IsTextOpened s p id key bytes left result)) zero opened

    by : (z : Bool) → are_zero bytes ≡ z → home ≡ (if are_zero bytes then Unused else Clean (be32_at bytes 0))
    by true zero = same_home home Unused result result is (at true zero).0 refl ∙ ap (λ (b : Bool). if b then Unused else Clean (be32_at bytes 0)) (sym zero)
    by false zero = text home result is (at false zero) ∙ ap (λ (b : Bool). if b then Unused else Clean (be32_at bytes 0)) (sym zero)

-- and what is known of the page
pub home_known : (s p id : ℕ) (key : Option PageKey) (bytes left : List ℕ) (past : Past) (homes : List Home) (result : Result Home RestFault) → At (λ es. bytes ≡ shown (Space s) page_bytes p es) past
    → At (λ es. slice_index_or homes p Unused ≡ home_told (shown (Space s) page_bytes p es)) past → IsHomeOpened s p id key bytes left result → IfOk result (λ home. At (λ es. home ≡ slice_index_or homes p Unused) past)
home_known s p id key bytes left past homes (Ok home) told known opened =
    record { here = λ es is. home_is s p id key bytes left home (Ok home) refl opened ∙ ap home_told (told.here es is) ∙ sym (known.here es is) }
home_known s p id key bytes left past homes (Err e) told known opened = tt
