-- What is taken is a page text, and each page text is taken.
use Rattle.std.proofs.Common.{◌≡◌, ◌≢◌, ℕ, ◌+◌, ◌-◌, ◌%◌, ◌^◌, ◌==◌, ◌<◌, ◌≤◌, Bool, true, false, not, List, [], ◌∷◌, ◌++◌, length, take, drop, Ok, Err, refl, sym, ap, ap₂, ◌∙◌, arith, inl, inr, length-append, length-drop, append_assoc, lit<, eq-eqb, ne_eqb}
use Rattle.std.specs.Prelude.{Option, IsSome, Result, if◌then◌else◌, replicate}
use Rattle.std.specs.Int.{to_be_bytes, w16, w32, w64}
use Rattle.std.proofs.lemmas.Bool.{eqb-true}
use Rattle.std.proofs.lemmas.List.{append-nil, take_all, take_at}
use Rattle.bytes_core.specs.Crc.{crc32c}
use Rattle.byte_list.specs.Fields.{be16_at, be32_at, be64_at}
use Rattle.byte_list.specs.Bytes.{range, put, AreBytes}
use Rattle.space_head.specs.Sizes.{IsPageSize}
use Rattle.byte_list.proofs.FieldLaws.{be16_at-same, be16_at-written, be32_at-same, be32_at-written, be64_at-same, be64_at-written, be32_bytes, be16_bytes, be64_bytes}
use Rattle.byte_list.proofs.PutLaws.{length-put, put_at, range-put_before, range-put_same}
use Rattle.byte_list.proofs.RangeLaws.{range-add, range_at, length-range, split_off}
use Rattle.byte_list.proofs.ByteLaws.{bytes_append, bytes_four, bytes_range}
use Rattle.page_text.specs.Opening.{Undoes, clear_check, fits_page, in_clear, inner_check, left_after, unciphered}
use Rattle.page_text.specs.Parts.{body, cipher_part}
use Rattle.page_text.specs.State.{computed_sum, stored_sum}
use Rattle.page_text.specs.Text.{FitsPage, IsText, Plain, before_sum, enciphered, inner, inner_start, page_key, page_iv, plain_of, start}
use Rattle.page_text.specs.declared.fault.OpenFault.{OpenFault}
use Rattle.page_text.specs.declared.fault.OpenFault.TheVariants.{Checksum, WrongEnd, WrongFill, WrongKind, WrongPage, WrongSpace}
use Rattle.page_text.specs.declared.key.PageKey.{PageKey}
use Rattle.page_text.proofs.Writes.{body_long}

-- ---- the type and key version at a page number

pub fits_page-true : (page kind version : ℕ) → fits_page page kind version ≡ true → FitsPage page kind version
unfolding fits_page
fits_page-true page kind version h = grind (arith)

pub FitsPage-true : (page kind version : ℕ) → FitsPage page kind version → fits_page page kind version ≡ true
unfolding fits_page
FitsPage-true page kind version (inl h) = rw (eq-eqb page 0 h.0, eq-eqb kind 8 h.1, eq-eqb version 0 h.2) refl
FitsPage-true page kind version (inr h) = rw (ne_eqb page 0 h.0, ne_eqb kind 8 h.1, ne_eqb kind 9 h.2) refl

-- ---- a check that was passed

passed : (t : Bool) (e : OpenFault) (rest : Result (Unit {0}) OpenFault) → (if not t then Err e else rest) ≡ Ok tt → (t ≡ true) × (rest ≡ Ok tt)
passed true e rest h = (refl, h)
passed false e rest h = absurd (cc)

pub record IsClear (page : List ℕ) (number : ℕ) : Type 0 where
  pub sum : stored_sum page ≡ computed_sum page
  pub number_is : be32_at page 4 ≡ number
  pub fits : FitsPage number (be16_at page 24) (be32_at page 0)

pub clear_ok : (page : List ℕ) (number : ℕ) → clear_check page number ≡ Ok tt → IsClear page number
unfolding clear_check
clear_ok page number h =
    let one = passed (stored_sum page == computed_sum page) _ _ h in
    let two = passed (be32_at page 4 == number) _ _ one.1 in
    let three = passed (fits_page number (be16_at page 24) (be32_at page 0)) _ _ two.1 in
    record { sum = eqb-true _ _ one.0; number_is = eqb-true _ _ two.0; fits = fits_page-true _ _ _ three.0 }

pub record IsInner (page : List ℕ) (space : ℕ) : Type 0 where
  pub space_is : be32_at page 34 ≡ space
  pub end_is : be32_at page (length page - 8) ≡ be64_at page 16 % 2 ^ 32
  pub prev_is : be32_at page 8 ≡ 0xFFFFFFFF
  pub next_is : be32_at page 12 ≡ 0xFFFFFFFF
  pub flush_is : be64_at page 26 ≡ 0

pub inner_ok : (page : List ℕ) (space : ℕ) → inner_check page space ≡ Ok tt → IsInner page space
unfolding inner_check
inner_ok page space h =
    let one = passed (be32_at page 34 == space) _ _ h in
    let two = passed (be32_at page (length page - 8) == be64_at page 16 % 2 ^ 32) _ _ one.1 in
    let three = passed (be32_at page 8 == 0xFFFFFFFF) _ _ two.1 in
    let four = passed (be32_at page 12 == 0xFFFFFFFF) _ _ three.1 in
    let five = passed (be64_at page 26 == 0) _ _ four.1 in
    record { space_is = eqb-true _ _ one.0; end_is = eqb-true _ _ two.0; prev_is = eqb-true _ _ three.0; next_is = eqb-true _ _ four.0; flush_is = eqb-true _ _ five.0 }

-- ---- what is left

module _ (page clear : List ℕ) where
  kept : (t : Bool) (f e : OpenFault) (rest : Result (Unit {0}) OpenFault) → left_after (Err f) page clear ≡ page
      → (rest ≡ Err e → left_after (Err e) page clear ≡ page) → (if not t then Err f else rest) ≡ Err e → left_after (Err e) page clear ≡ page
  kept true f e rest here there h = there h
  kept false f e rest here there h =
      let same : f ≡ e = cc in
      ap (λ (g : OpenFault). left_after (Err g) page clear) (sym same) ∙ here

  pub left_as_it_was : (number : ℕ) (e : OpenFault) → clear_check page number ≡ Err e → left_after (Err e) page clear ≡ page
  unfolding clear_check
  left_as_it_was number e =
      kept (stored_sum page == computed_sum page) (Checksum (stored_sum page) (computed_sum page)) e _ refl
      (kept (be32_at page 4 == number) (WrongPage number (be32_at page 4)) e _ refl
      (kept (fits_page number (be16_at page 24) (be32_at page 0)) (WrongKind (be16_at page 24) (be32_at page 0)) e _ refl (λ h. absurd (cc))))

  turned : (t : Bool) (f : OpenFault) (rest : Result (Unit {0}) OpenFault) → left_after (Err f) page clear ≡ clear
      → left_after rest page clear ≡ clear → left_after (if not t then Err f else rest) page clear ≡ clear
  turned true f rest here there = there
  turned false f rest here there = here

  pub left_in_clear : (p : List ℕ) (space : ℕ) → left_after (inner_check p space) page clear ≡ clear
  unfolding inner_check
  left_in_clear p space =
      turned (be32_at p 34 == space) (WrongSpace space (be32_at p 34)) _ refl
      (turned (be32_at p (length p - 8) == be64_at p 16 % 2 ^ 32) (WrongEnd (be64_at p 16 % 2 ^ 32) (be32_at p (length p - 8))) _ refl
      (turned (be32_at p 8 == 0xFFFFFFFF) (WrongFill 8 (be32_at p 8)) _ refl
      (turned (be32_at p 12 == 0xFFFFFFFF) (WrongFill 12 (be32_at p 12)) _ refl
      (turned (be64_at p 26 == 0) (WrongFill 26 (be64_at p 26)) (Ok tt) refl refl))))

-- ---- a page by its fields

start_is : (o : List ℕ) (number : ℕ) → AreBytes o → 46 ≤ length o → be32_at o 4 ≡ number → be32_at o 8 ≡ 0xFFFFFFFF → be32_at o 12 ≡ 0xFFFFFFFF
    → range 0 24 o ≡ start number (be64_at o 16) (be32_at o 0)
start_is o number are room e4 e8 e12 =
    let a : range 0 4 o ≡ to_be_bytes w32 (be32_at o 0) = sym (be32_bytes o 0 are (omega arith)) in
    let b : range 4 4 o ≡ to_be_bytes w32 number = sym (be32_bytes o 4 are (omega arith)) ∙ ap (to_be_bytes w32) e4 in
    let c : range 8 4 o ≡ to_be_bytes w32 0xFFFFFFFF = sym (be32_bytes o 8 are (omega arith)) ∙ ap (to_be_bytes w32) e8 in
    let d : range 12 4 o ≡ to_be_bytes w32 0xFFFFFFFF = sym (be32_bytes o 12 are (omega arith)) ∙ ap (to_be_bytes w32) e12 in
    let e : range 16 8 o ≡ to_be_bytes w64 (be64_at o 16) = sym (be64_bytes o 16 are (omega arith)) in
    range-add 0 4 20 o
    ∙ ap₂ (λ (x y : List ℕ). x ++ y) a
    (range-add 4 4 16 o ∙ ap₂ (λ (x y : List ℕ). x ++ y) b
    (range-add 8 4 12 o ∙ ap₂ (λ (x y : List ℕ). x ++ y) c
    (range-add 12 4 8 o ∙ ap₂ (λ (x y : List ℕ). x ++ y) d e)))

inner_is : (p : List ℕ) (space lsn : ℕ) → AreBytes p → 46 ≤ length p → IsInner p space → be64_at p 16 ≡ lsn → cipher_part p ≡ inner space lsn (body p)
inner_is p space lsn are room h same =
    let n : ℕ = length p in
    let a : range 26 8 p ≡ to_be_bytes w64 0 = sym (be64_bytes p 26 are (omega arith)) ∙ ap (to_be_bytes w64) h.flush_is in
    let b : range 34 4 p ≡ to_be_bytes w32 space = sym (be32_bytes p 34 are (omega arith)) ∙ ap (to_be_bytes w32) h.space_is in
    let d : range (n - 8) 4 p ≡ to_be_bytes w32 (lsn % 2 ^ 32) =
    sym (be32_bytes p (n - 8) are (omega arith)) ∙ ap (to_be_bytes w32) (h.end_is ∙ ap (λ (m : ℕ). m % 2 ^ 32) same) in
    let all : n - 4 - 26 ≡ 8 + (4 + ((n - 8 - 38) + 4)) = omega arith in
    let past : 38 + (n - 8 - 38) ≡ n - 8 = omega arith in
    ap (λ (size : ℕ). range 26 size p) all
    ∙ range-add 26 8 (4 + ((n - 8 - 38) + 4)) p
    ∙ ap₂ (λ (x y : List ℕ). x ++ y) a
    (range-add 34 4 ((n - 8 - 38) + 4) p ∙ ap₂ (λ (x y : List ℕ). x ++ y) b
    (range-add 38 (n - 8 - 38) 4 p ∙ ap (λ (x : List ℕ). body p ++ x) (ap (λ (m : ℕ). range m 4 p) past ∙ d)))

whole_is : (o : List ℕ) → 46 ≤ length o → o ≡ (range 0 24 o ++ (range 24 2 o ++ cipher_part o)) ++ drop (length o - 4) o
whole_is o room =
    let z : List ℕ = drop (length o - 4) o in
    let past : 26 + (length o - 4 - 26) ≡ length o - 4 = omega arith in
    split_off 0 24 o
    ∙ ap (λ (x : List ℕ). range 0 24 o ++ x)
    (split_off 24 2 o
    ∙ ap (λ (x : List ℕ). range 24 2 o ++ x) (split_off 26 (length o - 4 - 26) o ∙ ap (λ (m : ℕ). cipher_part o ++ drop m o) past)
    ∙ sym (append_assoc (range 24 2 o) (cipher_part o) z))
    ∙ sym (append_assoc (range 0 24 o) (range 24 2 o ++ cipher_part o) z)

-- what the first bytes' types say
pub record FieldsFit (o : List ℕ) : Type 0 where
  pub version : be32_at o 0 < 2 ^ 32
  pub lsn : be64_at o 16 < 2 ^ 64
  pub kind : be16_at o 24 < 2 ^ 16

pub opened_is : (o : List ℕ) (space number : ℕ) (key : Option PageKey) → IsPageSize (length o) → 46 ≤ length o → AreBytes o → FieldsFit o
    → (be32_at o 0 ≢ 0 → IsSome key) → IsClear o number
    → Undoes (page_key (be32_at o 0) key) (page_iv space number (be64_at o 16)) (cipher_part o)
    → AreBytes (in_clear space number key o) → IsInner (in_clear space number key o) space
    → IsText (length o) space number (be64_at o 16) (be32_at o 0) key (plain_of (in_clear space number key o)) o
opened_is o space number key sized room are fit keyed clear undo are_clear held =
    let n : ℕ = length o in
    let lsn : ℕ = be64_at o 16 in
    let version : ℕ = be32_at o 0 in
    let k : Option PageKey = page_key version key in
    let iv : List ℕ = page_iv space number lsn in
    let d : List ℕ = unciphered k iv (cipher_part o) in
    let p : List ℕ = put 26 d o in
    let z : List ℕ = drop (n - 4) o in
    let ld : length d ≡ n - 4 - 26 = undo.long ∙ length-range 26 (n - 4 - 26) o (omega arith) in
    let inside : 26 + length d ≤ n = omega arith in
    let lp : length p ≡ n = length-put 26 d o inside in
    let lsn_is : be64_at p 16 ≡ lsn = be64_at-same p o 16 16 (range-put_before 26 d o inside 16 8 (omega arith)) in
    let kind_is : be16_at p 24 ≡ be16_at o 24 = be16_at-same p o 24 24 (range-put_before 26 d o inside 24 2 (omega arith)) in
    let prev_is : be32_at o 8 ≡ 0xFFFFFFFF = sym (be32_at-same p o 8 8 (range-put_before 26 d o inside 8 4 (omega arith))) ∙ held.prev_is in
    let next_is : be32_at o 12 ≡ 0xFFFFFFFF = sym (be32_at-same p o 12 12 (range-put_before 26 d o inside 12 4 (omega arith))) ∙ held.next_is in
    let d_is : d ≡ inner space lsn (body p) =
    sym (range-put_same 26 d o inside (length d) refl) ∙ ap (λ (size : ℕ). range 26 size p) (ld ∙ ap (λ (m : ℕ). m - 4 - 26) (sym lp)) ∙ inner_is p space lsn are_clear (omega arith) held lsn_is in
    let x_is : cipher_part o ≡ enciphered k iv (inner space lsn (body p)) = sym undo.inverse ∙ ap (enciphered k iv) d_is in
    let s_is = start_is o number are room clear.number_is prev_is next_is in
    let k_is : range 24 2 o ≡ to_be_bytes w16 (be16_at p 24) = sym (be16_bytes o 24 are (omega arith)) ∙ ap (to_be_bytes w16) (sym kind_is) in
    let front : List ℕ = before_sum space number lsn version key (plain_of p) in
    let front_is : range 0 24 o ++ (range 24 2 o ++ cipher_part o) ≡ front = (λ i. s_is i ++ (k_is i ++ x_is i)) in
    let whole : o ≡ front ++ z = whole_is o room ∙ ap (λ (x : List ℕ). x ++ z) front_is in
    let lf : length front ≡ n - 4 = omega (arith, ap length whole, length-append front z, length-drop (n - 4) o) in
    let taken : take (n - 4) o ≡ front = ap (take (n - 4)) whole ∙ take_at front z (n - 4) lf in
    let z_is : z ≡ to_be_bytes w32 (crc32c front) =
    sym (take_all 4 z (omega (arith, length-drop (n - 4) o))) ∙ sym (be32_bytes o (n - 4) are (omega arith)) ∙ ap (to_be_bytes w32) (clear.sum ∙ ap crc32c taken) in
    record {
      sized = sized;
      fits = rw kind_is clear.fits;
      keyed = keyed;
      body_long = body_long p (omega arith) ∙ lp;
      body_bytes = bytes_range 38 (length p - 8 - 38) p are_clear;
      kind_fits = omega (arith, kind_is, fit.kind);
      lsn_fits = fit.lsn;
      version_fits = fit.version;
      written = whole ∙ ap (λ (x : List ℕ). front ++ x) z_is;
    }

-- ---- a text is taken

pass_on : (a b : ℕ) (e : OpenFault) (rest : Result (Unit {0}) OpenFault) → a ≡ b → (if not (a == b) then Err e else rest) ≡ rest
pass_on a b e rest h = rw (eq-eqb a b h) refl

pass_true : (t : Bool) (e : OpenFault) (rest : Result (Unit {0}) OpenFault) → t ≡ true → (if not t then Err e else rest) ≡ rest
pass_true t e rest h = rw h refl

pub bytes_of_inner : (space lsn : ℕ) (b : List ℕ) → AreBytes b → AreBytes (inner space lsn b)
bytes_of_inner space lsn b h =
    bytes_append (inner_start space) (b ++ to_be_bytes w32 (lsn % 2 ^ 32))
    (bytes_append (replicate 8 0) (to_be_bytes w32 space) (bytes_append (0 ∷ 0 ∷ 0 ∷ 0 ∷ []) (0 ∷ 0 ∷ 0 ∷ 0 ∷ []) zeros zeros) (bytes_four _ _ _ _ (omega arith) (omega arith) (omega arith) (omega arith)))
    (bytes_append b (to_be_bytes w32 (lsn % 2 ^ 32)) h (bytes_four _ _ _ _ (omega arith) (omega arith) (omega arith) (omega arith)))
  where
    zeros : AreBytes (0 ∷ 0 ∷ 0 ∷ 0 ∷ [])
    zeros = bytes_four 0 0 0 0 (omega arith) (omega arith) (omega arith) (omega arith)

module _ (o : List ℕ) (space number lsn version : ℕ) (key : Option PageKey) (plain : Plain) (space_fits : space < 2 ^ 32) (number_fits : number < 2 ^ 32) (sum_fits : computed_sum o < 2 ^ 32) (t : IsText (length o) space number lsn version key plain o) where
  abbrev s : List ℕ
  s = start number lsn version

  abbrev k : List ℕ
  k = to_be_bytes w16 plain.kind

  abbrev clear_inner : List ℕ
  clear_inner = inner space lsn plain.bytes

  abbrev x : List ℕ
  x = enciphered (page_key version key) (page_iv space number lsn) clear_inner

  abbrev front : List ℕ
  front = before_sum space number lsn version key plain

  abbrev sum : List ℕ
  sum = to_be_bytes w32 (crc32c front)

  front_long : length front ≡ length o - 4
  front_long = omega (arith, ap length t.written, length-append front sum)

  version_reads : be32_at o 0 ≡ version
  version_reads = be32_at-written o 0 version (ap (λ (l : List ℕ). range 0 4 l) t.written) t.version_fits

  number_reads : be32_at o 4 ≡ number
  number_reads = be32_at-written o 4 number (ap (λ (l : List ℕ). range 4 4 l) t.written) number_fits

  lsn_reads : be64_at o 16 ≡ lsn
  lsn_reads = be64_at-written o 16 lsn (ap (λ (l : List ℕ). range 16 8 l) t.written) t.lsn_fits

  kind_reads : be16_at o 24 ≡ plain.kind
  kind_reads = be16_at-written o 24 plain.kind (ap (λ (l : List ℕ). range 24 2 l) t.written) t.kind_fits

  front_reads : take (length o - 4) o ≡ front
  front_reads = ap (take (length o - 4)) t.written ∙ take_at front sum (length o - 4) front_long

  sum_reads : stored_sum o ≡ computed_sum o
  sum_reads =
      be32_at-written o (length o - 4) (crc32c front)
      (ap (λ (l : List ℕ). range (length o - 4) 4 l) (t.written ∙ ap (λ (l : List ℕ). front ++ l) (sym (append-nil sum))) ∙ range_at front sum [] (length o - 4) 4 front_long refl)
      (rw (ap crc32c front_reads) at sum_fits)
      ∙ ap crc32c (sym front_reads)

  pub clear_taken : clear_check o number ≡ Ok tt
  unfolding clear_check
  clear_taken =
      pass_on (stored_sum o) (computed_sum o) _ _ sum_reads
      ∙ pass_on (be32_at o 4) number _ _ number_reads
      ∙ pass_true (fits_page number (be16_at o 24) (be32_at o 0)) _ _
      (ap₂ (λ (a v : ℕ). fits_page number a v) kind_reads version_reads ∙ FitsPage-true number plain.kind version t.fits)

  x_long : length x ≡ length o - 4 - 26
  x_long = omega (arith, ap length t.written, length-append x sum)

  cipher_reads : cipher_part o ≡ x
  cipher_reads = ap (λ (l : List ℕ). take (length o - 4 - 26) (drop 26 l)) t.written ∙ take_at x sum (length o - 4 - 26) x_long

  abbrev clear : List ℕ
  clear = s ++ (k ++ (clear_inner ++ sum))

  inner_long : length clear_inner ≡ length o - 4 - 26
  inner_long = omega (arith, t.body_long, length-append plain.bytes (to_be_bytes w32 (lsn % 2 ^ 32)))

  clear_long : length clear ≡ length o
  clear_long = omega (arith, inner_long, front_long, length-append clear_inner sum, x_long)

  abbrev before_end : List ℕ
  before_end = s ++ (k ++ (inner_start space ++ plain.bytes))

  end_reads : range (length clear - 8) 4 clear ≡ to_be_bytes w32 (lsn % 2 ^ 32)
  end_reads =
      let low : List ℕ = to_be_bytes w32 (lsn % 2 ^ 32) in
      let long : length before_end ≡ length o - 8 = omega (arith, t.body_long) in
      let regrouped : clear ≡ before_end ++ (low ++ sum) =
      ap (λ (l : List ℕ). s ++ (k ++ (inner_start space ++ l))) (append_assoc plain.bytes low sum)
      ∙ ap (λ (l : List ℕ). s ++ (k ++ l)) (sym (append_assoc (inner_start space) plain.bytes (low ++ sum)))
      ∙ ap (λ (l : List ℕ). s ++ l) (sym (append_assoc k (inner_start space ++ plain.bytes) (low ++ sum)))
      ∙ sym (append_assoc s (k ++ (inner_start space ++ plain.bytes)) (low ++ sum)) in
      ap (λ (n : ℕ). range (n - 8) 4 clear) clear_long
      ∙ ap (λ (l : List ℕ). range (length o - 8) 4 l) regrouped
      ∙ range_at before_end low sum (length o - 8) 4 long refl

  inner_taken : inner_check clear space ≡ Ok tt
  unfolding inner_check
  inner_taken =
      let lsn_kept : be64_at clear 16 ≡ lsn = be64_at-written clear 16 lsn refl t.lsn_fits in
      pass_on (be32_at clear 34) space _ _ (be32_at-written clear 34 space refl space_fits)
      ∙ pass_on (be32_at clear (length clear - 8)) (be64_at clear 16 % 2 ^ 32) _ _
      (be32_at-written clear (length clear - 8) (lsn % 2 ^ 32) end_reads (omega arith) ∙ ap (λ (n : ℕ). n % 2 ^ 32) (sym lsn_kept))
      ∙ pass_on (be32_at clear 8) 0xFFFFFFFF _ _ (be32_at-written clear 8 0xFFFFFFFF refl (lit< tt))
      ∙ pass_on (be32_at clear 12) 0xFFFFFFFF _ _ (be32_at-written clear 12 0xFFFFFFFF refl (lit< tt))
      ∙ pass_on (be64_at clear 26) 0 _ _ (be64_at-written clear 26 0 refl (lit< tt))

  plain_back : plain_of clear ≡ plain
  plain_back =
      let low : List ℕ = to_be_bytes w32 (lsn % 2 ^ 32) in
      let long : length plain.bytes ≡ length o - 8 - 38 = omega (arith, t.body_long) in
      let kind_kept : be16_at clear 24 ≡ plain.kind = be16_at-written clear 24 plain.kind refl t.kind_fits in
      let body_kept : body clear ≡ plain.bytes =
      ap (λ (n : ℕ). take (n - 8 - 38) (drop 38 clear)) clear_long
      ∙ ap (take (length o - 8 - 38)) (append_assoc plain.bytes low sum)
      ∙ take_at plain.bytes (low ++ sum) (length o - 8 - 38) long in
      (λ i. record { kind = kind_kept i; bytes = body_kept i })

  pub record IsTaken : Type 0 where
    pub inside : inner_check (in_clear space number key o) space ≡ Ok tt
    pub back : plain_of (in_clear space number key o) ≡ plain

  pub inside_taken : Undoes (page_key (be32_at o 0) key) (page_iv space number (be64_at o 16)) (cipher_part o) → IsTaken
  inside_taken undo =
      let d : List ℕ = unciphered (page_key (be32_at o 0) key) (page_iv space number (be64_at o 16)) (cipher_part o) in
      let made : cipher_part o ≡ enciphered (page_key (be32_at o 0) key) (page_iv space number (be64_at o 16)) clear_inner =
      cipher_reads ∙ (λ i. enciphered (page_key (sym version_reads i) key) (page_iv space number (sym lsn_reads i)) clear_inner) in
      let d_is : d ≡ clear_inner = undo.undoes clear_inner (bytes_of_inner space lsn plain.bytes t.body_bytes) made in
      let same : length x ≡ length clear_inner = x_long ∙ sym inner_long in
      let clear_is : in_clear space number key o ≡ clear =
      (λ i. put 26 (d_is i) (t.written i)) ∙ put_at (s ++ k) x sum clear_inner 26 refl same in
      record {
        inside = ap (λ (l : List ℕ). inner_check l space) clear_is ∙ inner_taken;
        back = ap plain_of clear_is ∙ plain_back;
      }
