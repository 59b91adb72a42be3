-- What reading a page gives of the contents that a store is at rest with.
use Rattle.std.proofs.Common.{◌≡◌, ℕ, ◌*◌, true, List, length, slice_index_or, Option, sym, ap, ◌∙◌, subst}
use Rattle.std.specs.Prelude.{Result, Ok}
use Rattle.byte_list.specs.Fields.{be32_at}
use Rattle.byte_list.proofs.RangeLaws.{length-range}
use Rattle.disk_model.specs.Event.{Event, reads}
use Rattle.disk_model.specs.declared.names.FileName.TheVariants.{Space}
use Rattle.disk_model.specs.Image.{InFile}
use Rattle.key_ring.specs.Ring.{RingEntry}
use Rattle.places.specs.Places.{place, shown}
use Rattle.page_places.specs.Texts.{page_bytes}
use Rattle.page_text.specs.declared.key.PageKey.{PageKey}
use Rattle.space_head.specs.Head.{head_of}
use Rattle.space_head.specs.declared.space.Home.{Home}
use Rattle.space_head.specs.declared.space.SpaceInfo.{SpaceInfo}
use Rattle.store_files.specs.Header.{HeldHeader}
use Rattle.store_files.specs.Pages.{has_page, head_of_space, key_at, key_id_of, pages_of, salts_of}
use Rattle.store_files.proofs.PageLaws.{has_head_page}
use Rattle.store_model.specs.declared.contents.SpaceContents.{SpaceContents}
use Rattle.crash_image.specs.Rest.{IsAtRest}
use Rattle.store_form.specs.Contents.{IsReadOfPage}
use Rattle.store_form.specs.PageRead.{IsHomeOpened, TakesTexts}
use Rattle.store_form.specs.Rest.{HaveHomes, ReadsAtRest, head_in_mode, place_in, salt_in}
use Rattle.store_form.specs.declared.fault.RestFault.{RestFault}
use Rattle.store_form.proofs.RestLaws.{space_found, space_reads, page_inside}
use Rattle.store_form.proofs.RestPages.{HomeTells, rest_by, home_tells, salt_told, gives}

long_place : (s p : ℕ) (es : List Event) → InFile (Space s) (p * page_bytes) page_bytes es → length (shown (Space s) page_bytes p es) ≡ 16384
unfolding place
long_place s p es inside = length-range (p * 16384) 16384 (reads (Space s) es) inside.within

module _ (header : HeldHeader) (keys : List RingEntry) (ss : List SpaceInfo) (os : List (List Home)) (next sequence : ℕ) (es : List Event) (s p : ℕ) (d : SpaceInfo)
    (have : HaveHomes header.spaces ss os) (rest : ReadsAtRest header ss os next sequence es) (has : has_page header.spaces s p ≡ true) where
  told_salt : (c : List SpaceContents) (n : ℕ) → IsAtRest es keys c n → salts_of c s ≡ salt_in ss s
  told_salt c n at_rest =
      let by = rest_by es keys c n header at_rest rest.is_header in
      let first : has_page header.spaces s 0 ≡ true = has_head_page header.spaces s p has in
      let found = space_found header.spaces ss os s 0 have first in
      let x : SpaceInfo = slice_index_or ss (place_in ss s) d in
      let read = space_reads ss os es (place_in ss s) d rest.spaces_read found.there found.listed in
      let long = long_place s 0 es (page_inside x _ es s 0 read (found.space d) (found.pages d)) in
      let head : head_of (shown (Space s) page_bytes 0 es) ≡ Ok (head_in_mode read.head.0 x) = ap (λ (n : ℕ). head_of (shown (Space n) page_bytes 0 es)) (sym (found.space d)) ∙ read.head.1 in
      salt_told header keys c s x read.head.0 (shown (Space s) page_bytes 0 es) long (home_tells es keys c header by s 0 first) head ∙ found.salt d

  pub page_given : (c : List SpaceContents) (n : ℕ) → IsAtRest es keys c n → (bytes left : List ℕ) (result : Result Home RestFault) → length bytes ≡ 16384 → bytes ≡ shown (Space s) page_bytes p es
      → IsHomeOpened s p (key_id_of header.spaces s) (key_at header keys (salt_in ss) s (be32_at bytes 0)) bytes left result → TakesTexts s p (key_at header keys (salt_in ss) s (be32_at bytes 0)) bytes left result
      → IsReadOfPage (pages_of c s p) left result
  page_given c n at_rest bytes left result long is opened takes =
      let by = rest_by es keys c n header at_rest rest.is_header in
      let tells : HomeTells header keys (salts_of c) (pages_of c) s p bytes = subst (λ (b : List ℕ). HomeTells header keys (salts_of c) (pages_of c) s p b) (sym is) (home_tells es keys c header by s p has) in
      gives header keys (salts_of c) (salt_in ss) s p bytes left result long (told_salt c n at_rest) takes (pages_of c) opened tells

-- what the space that was found takes, the store's does
pub takes_found : (s p t q : ℕ) (key other : Option PageKey) (bytes left : List ℕ) (result : Result Home RestFault) → t ≡ s → q ≡ p → other ≡ key → TakesTexts t q other bytes left result → TakesTexts s p key bytes left result
takes_found s p t q key other bytes left result space page keyed is =
    subst (λ (n : ℕ). TakesTexts n p key bytes left result) space
    (subst (λ (n : ℕ). TakesTexts t n key bytes left result) page
    (subst (λ (k : Option PageKey). TakesTexts t q k bytes left result) keyed is))
