-- A page 0 is that of one head.
use Rattle.std.proofs.Common.{◌≡◌, ℕ, ◌+◌, ◌-◌, ◌≤◌, Bool, true, false, List, ◌++◌, length, take, drop, Ok, Result, if◌then◌else◌, refl, sym, ap, ◌∙◌, arith, inl, inr, length-drop}
use Rattle.std.proofs.lemmas.List.{take_all}
use Rattle.std.specs.Int.{to_be_bytes, w32}
use Rattle.std.proofs.lemmas.Option.{same_Some}
use Rattle.byte_list.specs.Bytes.{zeros, range, put}
use Rattle.page_text.specs.Parts.{body}
use Rattle.byte_list.proofs.PartLaws.{cut_at}
use Rattle.space_head.specs.Head.{IsAccepted, IsTyped, head_of, with_head}
use Rattle.space_head.specs.Record.{crypt_bytes}
use Rattle.space_head.specs.Sizes.{IsPageSize, page_size, record_place, size_of_code}
use Rattle.space_head.specs.declared.fault.HeadFault.{HeadFault}
use Rattle.space_head.specs.declared.head.SpaceHead.{SpaceHead}
use Rattle.space_head.specs.declared.space.SpaceInfo.{SpaceInfo}
use Rattle.space_head.proofs.Heads.{head_back, crypt_long}
use Rattle.byte_list.proofs.PutLaws.{length-put, range-put_after, range-put_before}
use Rattle.space_head.proofs.Places.{place_inside, place_16384}
use Rattle.store_files.specs.Pages.{IsTypedInfo, head_of_space, head_page}
use Rattle.byte_list.proofs.RangeLaws.{length-zeros}

-- a page with a head is as before it in the first 38 bytes and behind the record
module _ (head : SpaceHead) (page : List ℕ) (sized : IsPageSize (length page)) (fits : IsTyped head) where
  abbrev place : ℕ
  place = record_place (length page)

  abbrev crypt : List ℕ
  crypt = crypt_bytes head.crypt

  abbrev p1 : List ℕ
  p1 = put 38 (to_be_bytes w32 head.space) page

  abbrev p2 : List ℕ
  p2 = put 46 (to_be_bytes w32 head.pages) p1

  abbrev p3 : List ℕ
  p3 = put 54 (to_be_bytes w32 head.flags) p2

  record Facts : Type 0 where
    inside : (58 ≤ place) × (place + 33 ≤ length page)
    record_long : length crypt ≡ 33
    l1 : length p1 ≡ length page
    l2 : length p2 ≡ length page
    l3 : length p3 ≡ length page

  facts : Facts
  facts =
      let inside = place_inside (length page) sized in
      let l1 : length p1 ≡ length page = length-put 38 (to_be_bytes w32 head.space) page (omega arith) in
      let l2 : length p2 ≡ length page = length-put 46 (to_be_bytes w32 head.pages) p1 (omega arith) ∙ l1 in
      record {
        inside = inside;
        record_long = crypt_long head.crypt fits.crypt_fits;
        l1 = l1;
        l2 = l2;
        l3 = length-put 54 (to_be_bytes w32 head.flags) p2 (omega arith) ∙ l2;
      }

  pub long : length (with_head head page) ≡ length page
  long = let f = facts in length-put place crypt p3 (omega arith) ∙ f.l3

  pub first_part : range 0 38 (with_head head page) ≡ range 0 38 page
  first_part =
      let f = facts in
      range-put_before place crypt p3 (omega arith) 0 38 (omega arith)
      ∙ range-put_before 54 (to_be_bytes w32 head.flags) p2 (omega arith) 0 38 (omega arith)
      ∙ range-put_before 46 (to_be_bytes w32 head.pages) p1 (omega arith) 0 38 (omega arith)
      ∙ range-put_before 38 (to_be_bytes w32 head.space) page (omega arith) 0 38 (omega arith)

  pub last_part : (at n : ℕ) → place + 33 ≤ at → range at n (with_head head page) ≡ range at n page
  last_part at n behind =
      let f = facts in
      range-put_after place crypt p3 (omega arith) at n (omega arith)
      ∙ range-put_after 54 (to_be_bytes w32 head.flags) p2 (omega arith) at n (omega arith)
      ∙ range-put_after 46 (to_be_bytes w32 head.pages) p1 (omega arith) at n (omega arith)
      ∙ range-put_after 38 (to_be_bytes w32 head.space) page (omega arith) at n (omega arith)

-- the page, of its first bytes, its body and its last bytes
joined : (page : List ℕ) → 46 ≤ length page → take 38 page ++ (body page ++ drop (length page - 8) page) ≡ page
joined page room = cut_at page 38 (length page - 8) (omega arith)

module _ (a b : SpaceHead) (page : List ℕ) (sized : IsPageSize (length page)) (fa : IsTyped a) (fb : IsTyped b) (oa : IsAccepted a (length page)) (ob : IsAccepted b (length page)) where
  end_same : (inside : record_place (length page) + 41 ≤ length page) → drop (length (with_head a page) - 8) (with_head a page) ≡ drop (length (with_head b page) - 8) (with_head b page)
  end_same inside =
      let la = long a page sized fa in
      let lb = long b page sized fb in
      let n : ℕ = length page - 8 in
      ap (λ (k : ℕ). drop (k - 8) (with_head a page)) la
      ∙ sym (take_all 8 (drop n (with_head a page)) (omega (arith, length-drop n (with_head a page), la)))
      ∙ last_part a page sized fa n 8 (omega arith)
      ∙ sym (last_part b page sized fb n 8 (omega arith))
      ∙ take_all 8 (drop n (with_head b page)) (omega (arith, length-drop n (with_head b page), lb))
      ∙ sym (ap (λ (k : ℕ). drop (k - 8) (with_head b page)) lb)

  pub heads_same : record_place (length page) + 41 ≤ length page → body (with_head a page) ≡ body (with_head b page) → a ≡ b
  heads_same inside same =
      let la = long a page sized fa in
      let lb = long b page sized fb in
      let first : take 38 (with_head a page) ≡ take 38 (with_head b page) = first_part a page sized fa ∙ sym (first_part b page sized fb) in
      let whole : with_head a page ≡ with_head b page =
      sym (joined (with_head a page) (omega arith))
      ∙ (λ i. first i ++ (same i ++ end_same inside i))
      ∙ joined (with_head b page) (omega arith) in
      one_ok a b (sym (head_back a page sized fa oa) ∙ ap head_of whole ∙ head_back b page sized fb ob)
    where
      one_ok : (x y : SpaceHead) → ◌≡◌ {A = Result SpaceHead HeadFault} (Ok x) (Ok y) → x ≡ y
      one_ok x y e = cc

-- ---- spaces

pub head_accepted : (info : SpaceInfo) → IsAccepted (head_of_space info) 16384
unfolding page_size size_of_code
head_accepted info = record { flags_name = refl; mode_known = by info.ciphered }
  where
    by : (b : Bool) → (if b then 1 else 2) ≤ 2
    by true = omega arith
    by false = omega arith

pub head_typed : (info : SpaceInfo) → IsTypedInfo info → IsTyped (head_of_space info)
head_typed info t = record {
  space_fits = t.space_fits;
  pages_fits = t.pages_fit;
  flags_fits = omega arith;
  crypt_fits = record { salt_long = t.salt_long; minimum_fits = t.floor_fits; key_id_fits = t.key_id_fits };
}

info_one : (a b : SpaceInfo) → head_of_space a ≡ head_of_space b → a ≡ b
info_one a b same =
    let crypts : record { ciphered = a.ciphered; salt = a.salt; minimum = a.floor; key_id = a.key_id; mode = if a.ciphered then 1 else 2 } ≡ record { ciphered = b.ciphered; salt = b.salt; minimum = b.floor; key_id = b.key_id; mode = if b.ciphered then 1 else 2 } =
    same_Some _ _ (ap (λ (h : SpaceHead). h.crypt) same) in
    (λ i. record { space = (same i).space; pages = (same i).pages; key_id = (crypts i).key_id; salt = (crypts i).salt; ciphered = (crypts i).ciphered; floor = (crypts i).minimum })

-- the zero page stands behind a name, so that its bytes are never counted
by_page : (a b : SpaceInfo) (page : List ℕ) → length page ≡ 16384 → IsTypedInfo a → IsTypedInfo b → body (with_head (head_of_space a) page) ≡ body (with_head (head_of_space b) page) → a ≡ b
by_page a b page long ta tb same =
    let sized : IsPageSize (length page) = inr (inr (inl long)) in
    let place : record_place (length page) ≡ 10428 = ap record_place long ∙ place_16384 in
    info_one a b (heads_same (head_of_space a) (head_of_space b) page sized (head_typed a ta) (head_typed b tb) (rw long (head_accepted a)) (rw long (head_accepted b)) (omega arith) same)

pub head_one : (a b : SpaceInfo) → IsTypedInfo a → IsTypedInfo b → head_page a ≡ head_page b → a ≡ b
head_one a b ta tb same = by_page a b (zeros 16384) (length-zeros 16384) ta tb (λ i. (same i).bytes)
