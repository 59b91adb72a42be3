-- The plain page in a page's bytes, once some of them were written over.
use Rattle.std.proofs.Common.{◌≡◌, ℕ, ◌+◌, ◌-◌, ◌^◌, ◌<◌, ◌≤◌, List, ◌++◌, length, take, drop, refl, sym, ◌∙◌, ap, arith}
use Rattle.std.proofs.lemmas.List.{drop-drop, drop-take, take-take}
use Rattle.std.specs.Int.{to_be_bytes, w16}
use Rattle.byte_list.specs.Bytes.{put, range, zeros}
use Rattle.byte_list.proofs.FieldLaws.{be16_at-put, be16_at-same, be16_at-written}
use Rattle.byte_list.proofs.PutLaws.{put_parts, range-put_same, range-put_before, range-put_after}
use Rattle.byte_list.proofs.RangeLaws.{range-add, range-zeros}
use Rattle.store_model.specs.declared.contents.PlainPage.{PlainPage}
use Rattle.page_pool.specs.Pages.{plain_page}
use Rattle.page_pool.specs.Changes.{body_written, kind_set}

-- a range of bytes, some of whose bytes were written over
range_put : (from n at x rest : ℕ) (new b : List ℕ) → at ≡ from + x → n ≡ x + (length new + rest) → from + n ≤ length b → range from n (put at new b) ≡ put x new (range from n b)
range_put from n at x rest new b place long fits =
    let inside : at + length new ≤ length b = omega arith in
    let written : List ℕ = put at new b in
    let cut : range from n written ≡ range from x written ++ (range (from + x) (length new) written ++ range (from + x + length new) rest written) =
    ap (λ (m : ℕ). range from m written) long ∙ range-add from x (length new + rest) written ∙ ap (λ (l : List ℕ). range from x written ++ l) (range-add (from + x) (length new) rest written) in
    let before : range from x written ≡ range from x b = range-put_before at new b inside from x (omega arith) in
    let here : range (from + x) (length new) written ≡ new = ap (λ (p : ℕ). range p (length new) written) (sym place) ∙ range-put_same at new b inside (length new) refl in
    let behind : range (from + x + length new) rest written ≡ range (from + x + length new) rest b = range-put_after at new b inside (from + x + length new) rest (omega arith) in
    let front : take x (range from n b) ≡ range from x b = take-take x n (drop from b) (omega arith) in
    let whole : n ≡ (x + length new) + rest = omega arith in
    let places : from + (x + length new) ≡ from + x + length new = omega arith in
    let back : drop (x + length new) (range from n b) ≡ range (from + x + length new) rest b =
    ap (λ (m : ℕ). drop (x + length new) (take m (drop from b))) whole
    ∙ drop-take (x + length new) rest (drop from b)
    ∙ ap (λ (l : List ℕ). take rest l) (drop-drop (x + length new) from b)
    ∙ ap (λ (p : ℕ). range p rest b) places in
    cut
    ∙ ap (λ (l : List ℕ). l ++ (range (from + x) (length new) written ++ range (from + x + length new) rest written)) before
    ∙ ap (λ (l : List ℕ). range from x b ++ (l ++ range (from + x + length new) rest written)) here
    ∙ ap (λ (l : List ℕ). range from x b ++ (new ++ l)) behind
    ∙ sym (put_parts x new (range from n b)
    ∙ ap (λ (l : List ℕ). l ++ (new ++ drop (x + length new) (range from n b))) front
    ∙ ap (λ (l : List ℕ). range from x b ++ (new ++ l)) back)

same_page : (x y : PlainPage) → x.kind ≡ y.kind → x.body ≡ y.body → x ≡ y
same_page x y kinds bodies = λ i. record { kind = kinds i; body = bodies i }

-- bytes written over the body
pub plain_written : (at : ℕ) (new b : List ℕ) → length b ≡ 16384 → 38 ≤ at → at + length new ≤ 16376 → plain_page (put at new b) ≡ body_written at new (plain_page b)
unfolding plain_page
plain_written at new b long from to =
    let place : at ≡ 38 + (at - 38) = omega arith in
    let size : 16338 ≡ (at - 38) + (length new + (16338 - (at - 38) - length new)) = omega arith in
    same_page (plain_page (put at new b)) (body_written at new (plain_page b))
    (be16_at-same (put at new b) b 24 24 (range-put_before at new b (omega arith) 24 2 (omega arith)))
    (range_put 38 16338 at (at - 38) (16338 - (at - 38) - length new) new b place size (omega arith))

-- a type written over the type
pub plain_kind : (kind : ℕ) (b : List ℕ) → length b ≡ 16384 → kind < 2 ^ 16 → length (to_be_bytes w16 kind) ≡ 2 → plain_page (put 24 (to_be_bytes w16 kind) b) ≡ kind_set kind (plain_page b)
unfolding plain_page
plain_kind kind b long fits two =
    same_page (plain_page (put 24 (to_be_bytes w16 kind) b)) (kind_set kind (plain_page b))
    (be16_at-put b 24 kind (omega arith) fits)
    (range-put_after 24 (to_be_bytes w16 kind) b (omega (arith, two)) 38 16338 (omega (arith, two)))

-- a page of zero bytes
pub plain_zeros : plain_page (zeros 16384) ≡ record { kind = 0; body = zeros 16338 }
unfolding zeros plain_page
plain_zeros =
    same_page (plain_page (zeros 16384)) (record { kind = 0; body = zeros 16338 })
    (be16_at-written (zeros 16384) 24 0 (range-zeros 24 2 16384 (omega arith)) (omega arith))
    (range-zeros 38 16338 16384 (omega arith))
