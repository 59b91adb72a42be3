-- The head of a space is read from the text of its page 0.
use Rattle.std.proofs.Common.{◌≡◌, ℕ, ◌+◌, ◌-◌, ◌%◌, ◌^◌, ◌≤◌, ◌==◌, not, Bool, true, false, List, [], ◌∷◌, length, Option, None, refl, sym, ap, ◌∙◌, arith, inl, inr, lit<}
use Rattle.std.specs.Prelude.{Result, Ok, Err, if◌then◌else◌}
use Rattle.std.specs.Int.{to_be_bytes, w32}
use Rattle.std.proofs.lemmas.List.{take_at}
use Rattle.byte_list.specs.Bytes.{range, put, zeros}
use Rattle.byte_list.proofs.PutLaws.{length-put, range-put_after, range-put_same}
use Rattle.byte_list.specs.Fields.{be16_at, be32_at}
use Rattle.byte_list.proofs.FieldLaws.{be16_at-written, be32_at-same}
use Rattle.byte_list.proofs.RangeLaws.{range-range, length-zeros}
use Rattle.page_text.specs.Parts.{body}
use Rattle.page_text.specs.Text.{IsText, Plain, plain_of}
use Rattle.space_head.specs.Head.{IsAccepted, IsTyped, head_of, head_of_size, head_with, with_head}
use Rattle.space_head.specs.Record.{crypt_of}
use Rattle.space_head.specs.Sizes.{IsPageSize, page_size, record_place, pages_per_extent, size_of_code}
use Rattle.space_head.specs.declared.record.CryptRecord.{CryptRecord}
use Rattle.space_head.specs.declared.fault.HeadFault.TheVariants.{Length}
use Rattle.std.proofs.lemmas.Bool.{eqb-true}
use Rattle.space_head.specs.declared.fault.HeadFault.{HeadFault}
use Rattle.space_head.specs.declared.space.SpaceInfo.{SpaceInfo}
use Rattle.space_head.proofs.Heads.{head_back}
use Rattle.store_files.specs.Pages.{IsTypedInfo, head_of_space, head_page}
use Rattle.store_files.proofs.HeadsOnce.{long}
use Rattle.store_files.proofs.TextsOnce.{cipher_read}

-- a part within the body of a page
in_body : (at n : ℕ) (a b : List ℕ) → 38 ≤ at → at + n + 8 ≤ length a → length a ≡ length b → body a ≡ body b → range at n a ≡ range at n b
in_body at n a b low high long same =
    let from : 38 + (at - 38) ≡ at = omega (arith, low) in
    let ra : range (at - 38) n (body a) ≡ range (38 + (at - 38)) n a = range-range (at - 38) n 38 (length a - 8 - 38) a (omega (arith, low, high)) in
    let rb : range (at - 38) n (body b) ≡ range (38 + (at - 38)) n b = range-range (at - 38) n 38 (length b - 8 - 38) b (omega (arith, low, high, long)) in
    ap (λ (k : ℕ). range k n a) (sym from) ∙ sym ra ∙ ap (λ (l : List ℕ). range (at - 38) n l) same ∙ rb ∙ ap (λ (k : ℕ). range k n b) from

place_16384 : record_place 16384 ≡ 10428
unfolding record_place pages_per_extent
place_16384 = refl

if_same : {X : Type 0} (t u : Bool) (x y p q : X) → t ≡ u → x ≡ y → (u ≡ true → p ≡ q) → (if not t then x else p) ≡ (if not u then y else q)
if_same {X} t u x y p q is first second = by u refl ∙ ap (λ (b : Bool). if not b then y else q) refl
  where
    by : (b : Bool) → u ≡ b → (if not t then x else p) ≡ (if not u then y else q)
    by true at = ap (λ (b : Bool). if not b then x else p) (is ∙ at) ∙ second at ∙ ap (λ (b : Bool). if not b then y else q) (sym at)
    by false at = ap (λ (b : Bool). if not b then x else p) (is ∙ at) ∙ first ∙ ap (λ (b : Bool). if not b then y else q) (sym at)

-- what page 0 says stands in its body
module _ (a b : List ℕ) (la : length a ≡ 16384) (lb : length b ≡ 16384) (same : body a ≡ body b) where
  field_same : (at : ℕ) → 38 ≤ at → at + 12 ≤ length a → be32_at a at ≡ be32_at b at
  field_same at low high = be32_at-same a b at at (in_body at 4 a b low (omega (arith, high)) (la ∙ sym lb) same)

  with_same : (x : Result (Option CryptRecord) HeadFault) → head_with a x ≡ head_with b x
  unfolding head_with
  with_same (Err fault) = refl
  with_same (Ok crypt) =
      let space = field_same 38 (omega arith) (omega (arith, la)) in
      let pages = field_same 46 (omega arith) (omega (arith, la)) in
      let flags = field_same 54 (omega arith) (omega (arith, la)) in
      (λ i. Ok (record { space = space i; pages = pages i; flags = flags i; crypt = crypt }))

  crypt_same : (size : ℕ) → size ≡ length b → range (record_place size) 33 a ≡ range (record_place size) 33 b
  crypt_same size is =
      let place : record_place size ≡ 10428 = ap record_place (is ∙ lb) ∙ place_16384 in
      in_body (record_place size) 33 a b (omega (arith, place)) (omega (arith, place, la)) (la ∙ sym lb) same

  size_same : (r : Result ℕ HeadFault) → head_of_size a r ≡ head_of_size b r
  unfolding head_of_size
  size_same (Err fault) = refl
  size_same (Ok size) =
      if_same (size == length a) (size == length b) (Err (Length size (length a))) (Err (Length size (length b))) (head_with a (crypt_of (range (record_place size) 33 a))) (head_with b (crypt_of (range (record_place size) 33 b)))
      (ap (λ (n : ℕ). size == n) (la ∙ sym lb)) (ap (λ (n : ℕ). Err (Length size n)) (la ∙ sym lb))
      (λ is. with_same (crypt_of (range (record_place size) 33 a)) ∙ ap (λ (l : List ℕ). head_with b (crypt_of l)) (crypt_same size (eqb-true size (length b) is)))

  head_same : head_of a ≡ head_of b
  unfolding head_of
  head_same = ap (λ (n : ℕ). head_of_size a (page_size n)) (field_same 54 (omega arith) (omega (arith, la))) ∙ size_same (page_size (be32_at b 54))

-- the body of a text in clear
body_of : (s p lsn : ℕ) (plain : Plain) (bytes : List ℕ) → length bytes ≡ 16384 → IsText 16384 s p lsn 0 None plain bytes → body bytes ≡ plain.bytes
body_of s p lsn plain bytes long t =
    let low : List ℕ = to_be_bytes w32 (lsn % 2 ^ 32) in
    let n : ℕ = length bytes - 8 - 38 in
    let read = cipher_read 16384 s p lsn 0 None plain bytes t in
    let size : length plain.bytes ≡ n = omega (arith, t.body_long, long) in
    sym (range-range 12 n 26 (length bytes - 30) bytes (omega (arith, long))) ∙ ap (λ (l : List ℕ). range 12 n l) read ∙ take_at plain.bytes low n size

accepted : (info : SpaceInfo) → IsAccepted (head_of_space info) 16384
unfolding page_size size_of_code
accepted info = record { flags_name = refl; mode_known = by info.ciphered }
  where
    by : (b : Bool) → (if b then 1 else 2) ≤ 2
    by true = omega arith
    by false = omega arith

pub typed : (info : SpaceInfo) → IsTypedInfo info → IsTyped (head_of_space info)
typed info t = record {
  space_fits = t.space_fits;
  pages_fits = t.pages_fit;
  flags_fits = omega arith;
  crypt_fits = record { salt_long = t.salt_long; minimum_fits = t.floor_fits; key_id_fits = t.key_id_fits };
}

-- the zero page stands behind a name, so that its bytes are never counted
head_in : (info : SpaceInfo) (z bytes : List ℕ) → length z ≡ 16384 → length bytes ≡ 16384 → IsTypedInfo info → body bytes ≡ body (with_head (head_of_space info) z) → head_of bytes ≡ Ok (head_of_space info)
head_in info z bytes lz lb t same =
    let sized : IsPageSize (length z) = inr (inr (inl lz)) in
    let w : List ℕ = with_head (head_of_space info) z in
    let lw : length w ≡ 16384 = long (head_of_space info) z sized (typed info t) ∙ lz in
    head_same bytes w lb lw same ∙ head_back (head_of_space info) z sized (typed info t) (rw lz (accepted info))

-- page 0 of a space says what its text is of
pub head_read : (s lsn : ℕ) (info : SpaceInfo) (bytes : List ℕ) → length bytes ≡ 16384 → IsTypedInfo info → IsText 16384 s 0 lsn 0 None (head_page info) bytes → head_of bytes ≡ Ok (head_of_space info)
head_read s lsn info bytes long t text = head_in info (zeros 16384) bytes (length-zeros 16384) long t (body_of s 0 lsn (head_page info) bytes long text)

-- ---- page 0 as it is created: a head in zero bytes, and the type of a page 0

abbrev pub first_page : SpaceInfo → List ℕ → List ℕ
first_page info z = put 24 (0 ∷ 8 ∷ []) (with_head (head_of_space info) z)

module _ (info : SpaceInfo) (z : List ℕ) (lz : length z ≡ 16384) (t : IsTypedInfo info) where
  head_long : length (with_head (head_of_space info) z) ≡ 16384
  head_long = let sized : IsPageSize (length z) = inr (inr (inl lz)) in long (head_of_space info) z sized (typed info t) ∙ lz

  first_long : length (first_page info z) ≡ length (with_head (head_of_space info) z)
  first_long = length-put 24 (0 ∷ 8 ∷ []) (with_head (head_of_space info) z) (omega (arith, head_long))

  first_kind : be16_at (first_page info z) 24 ≡ 8
  first_kind = be16_at-written (first_page info z) 24 8 (range-put_same 24 (0 ∷ 8 ∷ []) (with_head (head_of_space info) z) (omega (arith, head_long)) 2 refl) (lit< tt)

  first_body : body (first_page info z) ≡ body (with_head (head_of_space info) z)
  first_body =
      let w : List ℕ = with_head (head_of_space info) z in
      ap (λ (n : ℕ). range 38 (n - 8 - 38) (first_page info z)) first_long ∙ range-put_after 24 (0 ∷ 8 ∷ []) w (omega (arith, head_long)) 38 (length w - 8 - 38) (omega arith)

  first_plain : plain_of (first_page info z) ≡ record { kind = 8; bytes = body (with_head (head_of_space info) z) }
  first_plain = (λ i. record { kind = first_kind i; bytes = first_body i })

-- its type, and what its text is of
pub created_kind : (info : SpaceInfo) → IsTypedInfo info → be16_at (first_page info (zeros 16384)) 24 ≡ 8
created_kind info t = first_kind info (zeros 16384) (length-zeros 16384) t

pub created_plain : (info : SpaceInfo) → IsTypedInfo info → plain_of (first_page info (zeros 16384)) ≡ head_page info
created_plain info t = first_plain info (zeros 16384) (length-zeros 16384) t
