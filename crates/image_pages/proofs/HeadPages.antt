-- A body as that of a page 0, within a page of zero bytes.
use Rattle.std.proofs.Common.{◌≡◌, ℕ, ◌+◌, ◌-◌, List, ◌++◌, length, take, drop, sym, ap, ◌∙◌, arith, inl, inr, length-drop, append_assoc}
use Rattle.std.specs.Prelude.{Result, Ok, Err}
use Rattle.std.proofs.lemmas.List.{take_all}
use Rattle.byte_list.specs.Bytes.{put}
use Rattle.byte_list.proofs.PartLaws.{cut_at}
use Rattle.byte_list.proofs.PutLaws.{length-put, range-put_same}
use Rattle.byte_list.proofs.RangeLaws.{length-range}
use Rattle.page_text.specs.Parts.{body}
use Rattle.space_head.specs.Head.{head_of, with_head}
use Rattle.space_head.specs.Sizes.{IsPageSize, record_place}
use Rattle.space_head.specs.declared.fault.HeadFault.{HeadFault}
use Rattle.space_head.specs.declared.head.SpaceHead.{SpaceHead}
use Rattle.space_head.specs.declared.space.SpaceInfo.{SpaceInfo}
use Rattle.space_head.proofs.Heads.{head_back}
use Rattle.store_files.specs.Pages.{IsTypedInfo, head_of_space}
use Rattle.store_files.proofs.HeadsOnce.{long, first_part, last_part, head_typed, head_accepted}
use Rattle.space_head.proofs.Places.{place_16384}

-- a part in its place, where all else is the same
joined_put : (at : ℕ) (b z w : List ℕ) → take at z ≡ take at w → drop (at + length b) z ≡ drop (at + length b) w → take at w ++ (b ++ drop (at + length b) w) ≡ w → put at b z ≡ w
joined_put at b z w first last whole = append_assoc (take at z) b (drop (at + length b) z) ∙ (λ i. first i ++ (b ++ last i)) ∙ whole

-- the zero page stands behind a name, so that its bytes are never counted
module _ (z : List ℕ) (size : length z ≡ 16384) where
  pub sized : IsPageSize (length z)
  sized = inr (inr (inl size))

  pub long_put : (b : List ℕ) → length b + 46 ≡ length z → length (put 38 b z) ≡ length z
  long_put b fits = length-put 38 b z (omega (arith, fits))

  pub body_back : (b : List ℕ) → length b + 46 ≡ length z → body (put 38 b z) ≡ b
  body_back b fits =
      let l = long_put b fits in
      let n : length (put 38 b z) - 8 - 38 ≡ length b = omega (arith, l, fits) in
      range-put_same 38 b z (omega (arith, fits)) (length (put 38 b z) - 8 - 38) n

  abbrev written : SpaceInfo → List ℕ
  written info = with_head (head_of_space info) z

  pub long_written : (info : SpaceInfo) → IsTypedInfo info → length (written info) ≡ length z
  long_written info t = long (head_of_space info) z sized (head_typed info t)

  -- all but the body of a page 0 is zero bytes
  full : (info : SpaceInfo) → IsTypedInfo info → put 38 (body (written info)) z ≡ written info
  full info t =
      let w = written info in
      let lw : length w ≡ length z = long_written info t in
      let place : record_place (length z) ≡ 10428 = ap record_place size ∙ place_16384 in
      let lb : length (body w) ≡ length w - 8 - 38 = length-range 38 (length w - 8 - 38) w (omega (arith, lw, size)) in
      let at : 38 + length (body w) ≡ length w - 8 = omega (arith, lb, lw, size) in
      let first : take 38 z ≡ take 38 w = sym (first_part (head_of_space info) z sized (head_typed info t)) in
      let last : drop (length w - 8) z ≡ drop (length w - 8) w =
      sym (take_all 8 (drop (length w - 8) z) (omega (arith, length-drop (length w - 8) z, lw, size)))
      ∙ sym (last_part (head_of_space info) z sized (head_typed info t) (length w - 8) 8 (omega (arith, place, lw, size)))
      ∙ take_all 8 (drop (length w - 8) w) (omega (arith, length-drop (length w - 8) w, lw, size)) in
      let moved : drop (38 + length (body w)) z ≡ drop (38 + length (body w)) w = ap (λ (n : ℕ). drop n z) at ∙ last ∙ ap (λ (n : ℕ). drop n w) (sym at) in
      joined_put 38 (body w) z w first moved (ap (λ (n : ℕ). take 38 w ++ (body w ++ drop n w)) at ∙ cut_at w 38 (length w - 8) (omega (arith, lw, size)))

  pub page_is : (b : List ℕ) (info : SpaceInfo) → IsTypedInfo info → b ≡ body (written info) → put 38 b z ≡ written info
  page_is b info t is = ap (λ (l : List ℕ). put 38 l z) is ∙ full info t

  -- its head reads back
  pub head_read : (b : List ℕ) (info : SpaceInfo) → IsTypedInfo info → b ≡ body (written info) → head_of (put 38 b z) ≡ Ok (head_of_space info)
  head_read b info t is = ap head_of (page_is b info t is) ∙ head_back (head_of_space info) z sized (head_typed info t) (rw size (head_accepted info))

  none_read : (h : SpaceHead) (fault : HeadFault) → ◌≡◌ {A = Result SpaceHead HeadFault} (Err fault) (Ok h) → ⊥
  none_read h fault e = cc

  one_read : (h g : SpaceHead) → ◌≡◌ {A = Result SpaceHead HeadFault} (Ok h) (Ok g) → h ≡ g
  one_read h g e = cc

  -- why a body is that of none
  pub no_head : (b page : List ℕ) (fault : HeadFault) → page ≡ put 38 b z → head_of page ≡ Err fault → (info : SpaceInfo) → IsTypedInfo info → b ≡ body (written info) → ⊥
  no_head b page fault same read info t is = none_read (head_of_space info) fault (sym read ∙ ap head_of same ∙ head_read b info t is)

  pub head_is : (b page : List ℕ) (h : SpaceHead) → page ≡ put 38 b z → head_of page ≡ Ok h → (info : SpaceInfo) → IsTypedInfo info → b ≡ body (written info) → h ≡ head_of_space info
  head_is b page h same read info t is = one_read h (head_of_space info) (sym read ∙ ap head_of same ∙ head_read b info t is)
