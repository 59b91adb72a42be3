-- The text in a home, taken apart.
use Rattle.std.proofs.Common.{◌≡◌, ◌≢◌, ℕ, ◌-◌, ◌%◌, ◌^◌, Bool, true, false, if◌then◌else◌, not, ◌==◌, List, length, Option, Result, Ok, Err, refl, sym, ap, subst, ◌∙◌, ◌⊎◌, inl, inr, arith}
use Rattle.std.specs.Prelude.{IfErr}
use Rattle.aes_core.specs.declared.algorithm.Algorithm.{Algorithm}
use Rattle.byte_list.specs.Bytes.{range}
use Rattle.byte_list.specs.Fields.{be16_at, be32_at, be64_at}
use Rattle.key_ring.specs.Ring.{RingEntry}
use Rattle.page_pool.specs.Pages.{plain_page}
use Rattle.page_text.specs.Opening.{and_then, clear_check, fits_page, in_clear, inner_check, opening}
use Rattle.page_text.specs.Parts.{body}
use Rattle.page_text.specs.State.{computed_sum, stored_sum}
use Rattle.page_text.specs.Text.{IsText, Plain, plain_of}
use Rattle.page_text.specs.declared.fault.OpenFault.{OpenFault}
use Rattle.page_text.specs.declared.fault.OpenFault.TheVariants.{Checksum, WrongEnd, WrongFill, WrongKind, WrongPage, WrongSpace}
use Rattle.page_text.specs.declared.key.PageKey.{PageKey}
use Rattle.space_head.specs.declared.space.SpaceInfo.{SpaceInfo}
use Rattle.recovery.specs.Loading.{HasPlace, IsHomeText, MayHaveType, page_key_in}

pub sized : (s p lsn version : ℕ) (key : Option PageKey) (plain : Plain) (old bytes : List ℕ) → length old ≡ 16384 → bytes ≡ old → IsText 16384 s p lsn version key plain old → IsText (length bytes) s p lsn version key plain bytes
sized s p lsn version key plain old bytes long same is =
    subst (λ (b : List ℕ). IsText (length b) s p lsn version key plain b) (sym same) (subst (λ (n : ℕ). IsText n s p lsn version key plain old) (sym long) is)

pub keyed : (s p lsn version : ℕ) (key other : Option PageKey) (plain : Plain) (bytes : List ℕ) → other ≡ key → IsText 16384 s p lsn version key plain bytes → IsText 16384 s p lsn version other plain bytes
keyed s p lsn version key other plain bytes same is = subst (λ (k : Option PageKey). IsText 16384 s p lsn version k plain bytes) (sym same) is

-- ---- the plain page

pub plain_same : (page : List ℕ) → length page ≡ 16384 → plain_of page ≡ record { kind = (plain_page page).kind; bytes = (plain_page page).body }
unfolding plain_page
plain_same page long = let bodies : body page ≡ range 38 16338 page = ap (λ (n : ℕ). range 38 (n - 8 - 38) page) long in λ i. record { kind = be16_at page 24; bytes = bodies i }

pub kind_at : (page : List ℕ) → (plain_page page).kind ≡ be16_at page 24
unfolding plain_page
kind_at page = refl

pub home_text : (ring : List RingEntry) (algorithm : Algorithm) (info : SpaceInfo) (p : ℕ) (key : Option PageKey) (home new : List ℕ) → length new ≡ 16384 → key ≡ page_key_in ring algorithm info (be32_at home 0)
    → IsText 16384 info.space p (be64_at home 16) (be32_at home 0) key (plain_of new) home → IsHomeText ring algorithm info p home (plain_page new)
home_text ring algorithm info p key home new long same is =
    subst (λ (k : Option PageKey). IsText 16384 info.space p (be64_at home 16) (be32_at home 0) k (record { kind = (plain_page new).kind; bytes = (plain_page new).body }) home) same
    (subst (λ (x : Plain). IsText 16384 info.space p (be64_at home 16) (be32_at home 0) key x home) (plain_same new long) is)

-- its type is one that it may have
pub home_typed : (s p lsn version : ℕ) (key : Option PageKey) (home new : List ℕ) → IsText 16384 s p lsn version key (plain_of new) home → MayHaveType p (plain_page new).kind
unfolding plain_page
home_typed s p lsn version key home new is = by is.fits
  where
    by : ((p ≡ 0) × (be16_at new 24 ≡ 8) × (version ≡ 0)) ⊎ ((p ≢ 0) × (be16_at new 24 ≢ 8) × (be16_at new 24 ≢ 9)) → MayHaveType p (be16_at new 24)
    by (inl (zero_is, kind, clear)) = inl (zero_is, kind, refl)
    by (inr other) = inr other

-- ---- a fault's place

abbrev Placed : Result (Unit {0}) OpenFault → Type 0
Placed r = IfErr r HasPlace

one_of : (b : Bool) (x y : Result (Unit {0}) OpenFault) → Placed x → Placed y → Placed (if b then x else y)
one_of true x y first second = first
one_of false x y first second = second

in_clear_check : (page : List ℕ) (number : ℕ) → Placed (clear_check page number)
unfolding clear_check
in_clear_check page number =
    one_of (not (stored_sum page == computed_sum page)) (Err (Checksum (stored_sum page) (computed_sum page)))
    (if not (be32_at page 4 == number) then Err (WrongPage number (be32_at page 4)) else if not (fits_page number (be16_at page 24) (be32_at page 0)) then Err (WrongKind (be16_at page 24) (be32_at page 0)) else Ok tt) tt
    (one_of (not (be32_at page 4 == number)) (Err (WrongPage number (be32_at page 4))) (if not (fits_page number (be16_at page 24) (be32_at page 0)) then Err (WrongKind (be16_at page 24) (be32_at page 0)) else Ok tt) tt
    (one_of (not (fits_page number (be16_at page 24) (be32_at page 0))) (Err (WrongKind (be16_at page 24) (be32_at page 0))) (Ok tt) tt tt))

abbrev last_fill : List ℕ → Result (Unit {0}) OpenFault
last_fill page = if not (be64_at page 26 == 0) then Err (WrongFill 26 (be64_at page 26)) else Ok tt

abbrev next_fills : List ℕ → Result (Unit {0}) OpenFault
next_fills page = if not (be32_at page 12 == 0xFFFFFFFF) then Err (WrongFill 12 (be32_at page 12)) else last_fill page

abbrev fills : List ℕ → Result (Unit {0}) OpenFault
fills page = if not (be32_at page 8 == 0xFFFFFFFF) then Err (WrongFill 8 (be32_at page 8)) else next_fills page

abbrev behind_space : List ℕ → Result (Unit {0}) OpenFault
behind_space page = if not (be32_at page (length page - 8) == be64_at page 16 % 2 ^ 32) then Err (WrongEnd (be64_at page 16 % 2 ^ 32) (be32_at page (length page - 8))) else fills page

in_inner_check : (page : List ℕ) (space : ℕ) → Placed (inner_check page space)
unfolding inner_check
in_inner_check page space =
    one_of (not (be32_at page 34 == space)) (Err (WrongSpace space (be32_at page 34))) (behind_space page) tt
    (one_of (not (be32_at page (length page - 8) == be64_at page 16 % 2 ^ 32)) (Err (WrongEnd (be64_at page 16 % 2 ^ 32) (be32_at page (length page - 8)))) (fills page) tt
    (one_of (not (be32_at page 8 == 0xFFFFFFFF)) (Err (WrongFill 8 (be32_at page 8))) (next_fills page) (omega arith)
    (one_of (not (be32_at page 12 == 0xFFFFFFFF)) (Err (WrongFill 12 (be32_at page 12))) (last_fill page) (omega arith) (one_of (not (be64_at page 26 == 0)) (Err (WrongFill 26 (be64_at page 26))) (Ok tt) (omega arith) tt))))

in_both : (x y : Result (Unit {0}) OpenFault) → Placed x → Placed y → Placed (and_then x y)
in_both (Err fault) y first second = first
in_both (Ok u) y first second = second

-- it lies in the page
pub fault_placed : (s p : ℕ) (key : Option PageKey) (home : List ℕ) → IfErr (opening s p key home) HasPlace
fault_placed s p key home = in_both (clear_check home p) (inner_check (in_clear s p key home) s) (in_clear_check home p) (in_inner_check (in_clear s p key home) s)
