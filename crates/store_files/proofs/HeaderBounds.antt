-- The limits of a header that is read.
use Rattle.std.proofs.Common.{◌≡◌, ℕ, ◌≤◌, ◌||◌, Bool, true, false, nat_eq, nat_le, if◌then◌else◌, List, length, Some, None, refl, subst, arith}
use Rattle.std.specs.Prelude.{codes}
use Rattle.std.specs.Str.{bytes_eq}
use Rattle.std.proofs.lemmas.Bool.Decides.{nat_tests}
use Rattle.std.proofs.lemmas.Option.{same_Some}
use Rattle.byte_list.specs.Bytes.{range}
use Rattle.byte_list.specs.Fields.{be32_at}
use Rattle.page_places.specs.Texts.{ends_in_sum}
use Rattle.page_places.proofs.Sums.{and_left, and_right}
use Rattle.store_files.specs.Header.{HeldHeader, header_in, header_fields, is_header, are_allowed, are_in_order, pages_together}

fields_allowed : (b : List ℕ) → is_header b ≡ true → are_allowed (header_fields b) ≡ true
unfolding is_header
fields_allowed b valid =
    and_right (nat_eq (be32_at b 240) 1 || nat_eq (be32_at b 240) 2) _ (and_right (nat_eq (be32_at b 12) 16384) _ (and_right (nat_eq (be32_at b 8) 2) _ (and_right (bytes_eq (range 0 8 b) (codes "KEYSTOR1")) _ (and_right (ends_in_sum b) _ valid))))

-- a header that is read is within the limits
pub header_allowed : (b : List ℕ) (h : HeldHeader) → header_in b ≡ Some h → are_allowed h ≡ true
unfolding header_in
header_allowed b h is = by (is_header b) refl is
  where
    by : (v : Bool) → is_header b ≡ v → (if v then Some (header_fields b) else None) ≡ Some h → are_allowed h ≡ true
    by true valid e = subst (λ (x : HeldHeader). are_allowed x ≡ true) (same_Some _ _ e) (fields_allowed b valid)
    by false valid e = absurd (cc)

pub record Limits (h : HeldHeader) : Type 0 where
  pub least : 32 ≤ h.blocks
  pub most : h.blocks ≤ 4096
  pub order : are_in_order 0 h.spaces ≡ true
  pub pages : pages_together h.spaces ≤ 16384

pub limits : (h : HeldHeader) → are_allowed h ≡ true → Limits h
unfolding are_allowed
limits h is =
    let a : nat_le 32 h.blocks ≡ true = and_left _ _ is in
    let rest = and_right (nat_le 32 h.blocks) _ is in
    let b : nat_le h.blocks 4096 ≡ true = and_left _ _ rest in
    let rest2 = and_right (nat_le h.blocks 4096) _ rest in
    let rest3 = and_right (nat_le 1 (length h.spaces)) _ rest2 in
    let rest4 = and_right (nat_le (length h.spaces) 16) _ rest3 in
    let order : are_in_order 0 h.spaces ≡ true = and_left _ _ rest4 in
    let few : nat_le (pages_together h.spaces) 16384 ≡ true = and_right (are_in_order 0 h.spaces) _ rest4 in
    record { least = grind (arith, nat_tests); most = grind (arith, nat_tests); order = order; pages = grind (arith, nat_tests) }

pub header_blocks : (b : List ℕ) (h : HeldHeader) → header_in b ≡ Some h → (32 ≤ h.blocks) × (h.blocks ≤ 4096)
header_blocks b h is = let l = limits h (header_allowed b h is) in (l.least, l.most)
